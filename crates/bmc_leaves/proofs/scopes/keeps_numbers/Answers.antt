use Rattle.std.proofs.Common.{◌≡◌, ◌∙◌, ◌&&◌, Bool, sym, ap, arith}
use Rattle.gate_trait.proofs.KeptLemmas.{keeps_refl, keeps_trans}
use Rattle.bmc_leaves.proofs.ScopeLaws.{numbers_more}
use Rattle.bmc_leaves.proofs.scopes.keeps_numbers.Goals as goal

pub loop-sig-init : goal.loop-sig-init
loop-sig-init g c =
    let value = g.G.Gates.node_value in
    let belongs = g.G.Gates.belongs in
    record {
      keeps = keeps_refl belongs value c.args.gates.now;
      there = c.constant-all.ensures.there;
      kept = λ x w d. ((λ e s q lt. absurd (omega (arith, lt))), (λ h. c.constant-all.ensures.gives x));
    }

pub loop-sig-preserved : goal.loop-sig-preserved
loop-sig-preserved g c =
    let value = g.G.Gates.node_value in
    let belongs = g.G.Gates.belongs in
    let before = c.loop-sig.invariant in
    let first = c.args.gates.now in
    let now = c.loop-sig.gates in
    let middle = c.sig_keeps.new.gates in
    let later = c.and.new.self in
    let s = c.in_ok-all.ensures.ok in
    let all = c.loop-sig.all in
    let kept = c.in_ok-kept.kept in
    let numbers = c.as_slice-numbers.result.now in
    let scope = c.scope_of-scope.result in
    let at = c.scope_of-scope.ensures in
    record {
      keeps = keeps_trans belongs value first middle later (keeps_trans belongs value first now middle before.keeps c.sig_keeps.ensures.keeps) c.and.ensures.keeps;
      there = s.there;
      kept = λ x w d.
          let said = numbers_more c.args.bounds.now c.args.layout.now x w d numbers c.loop-sig.sig scope (value now x all) (value middle x kept) at (before.kept x w d) (c.in_ok-kept.ensures.kept x w d) in
          let same : value later x c.in_ok-all.all ≡ (value now x all && value middle x kept) = s.gives x ∙ ap (λ (b : Bool). b && value middle x kept) (c.sig_keeps.ensures.keeps.values all before.there x) in
          ((λ e. said.0 (sym same ∙ e)), (λ k. same ∙ said.1 k));
    }
