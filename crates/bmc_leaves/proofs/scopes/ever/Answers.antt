use Rattle.std.proofs.Common.{◌≡◌, ◌∙◌, ◌||◌, Bool, sym, ap, arith}
use Rattle.std.proofs.lemmas.Bool.{false≢true}
use Rattle.gate_trait.proofs.KeptLemmas.{keeps_refl, keeps_trans}
use Rattle.bmc_leaves.proofs.ScopeLaws.{ever_more}
use Rattle.bmc_leaves.proofs.scopes.ever.Goals as goal

pub loop-state-init : goal.loop-state-init
loop-state-init g c =
    let value = g.G.Gates.node_value in
    let belongs = g.G.Gates.belongs in
    record {
      keeps = keeps_refl belongs value c.args.gates.now;
      there = c.constant-any.ensures.there;
      ever = λ x. ((λ e. absurd (false≢true (sym (c.constant-any.ensures.gives x) ∙ e))), (λ k. absurd (omega (arith, k.1))));
    }

pub loop-state-preserved : goal.loop-state-preserved
loop-state-preserved g c =
    let value = g.G.Gates.node_value in
    let belongs = g.G.Gates.belongs in
    let before = c.loop-state.invariant in
    let first = c.args.gates.now in
    let now = c.loop-state.gates in
    let middle = c.in_state.new.gates in
    let later = c.or.new.self in
    let next = c.in_ok-next.ensures.is in
    let s = c.in_ok-any.ensures.ok in
    let any = c.loop-state.any in
    record {
      keeps = keeps_trans belongs value first middle later (keeps_trans belongs value first now middle before.keeps c.in_state.ensures.keeps) c.or.ensures.keeps;
      there = s.there;
      ever = λ x.
          let said = ever_more x c.args.fixed c.args.cells c.loop-state.state c.args.place (value now x any) (value middle x c.in_ok-next.next) (before.ever x) (next.gives x) in
          let same : value later x c.in_ok-any.any ≡ (value now x any || value middle x c.in_ok-next.next) = s.gives x ∙ ap (λ (b : Bool). b || value middle x c.in_ok-next.next) (c.in_state.ensures.keeps.values any before.there x) in
          ((λ e. said.0 (sym same ∙ e)), (λ k. same ∙ said.1 k));
    }
