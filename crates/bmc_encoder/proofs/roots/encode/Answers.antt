use Rattle.std.proofs.Common.{◌≡◌, ◌∙◌, ◌↔◌, ◌+◌, ◌++◌, ◌∷◌, [], ℕ, true, List, Some, length, slice_get, sym, ap, subst, arith}
use Rattle.gate_trait.specs.declared.node.Node.{Node}
use Rattle.gate_trait.proofs.KeptLemmas.{keeps_trans}
use Rattle.core_meaning.specs.Kept.{world_of, KeepsNumbers}
use Rattle.bmc_encoder.proofs.DecodedLaws.{decoded}
use Rattle.bmc_leaves.proofs.LoopLaws.{choices_kept}
use Rattle.bmc_encoder.proofs.RootLaws.{says_kept}
use Rattle.bmc_encoder.proofs.roots.encode.Goals as goal

pub returns-clause-says : goal.returns-clause-says
returns-clause-says g c =
    let belongs = g.G.Gates.belongs in
    let value = g.G.Gates.node_value in
    let before = c.loop_choices.new.gates in
    let numbered = c.keeps_numbers.new.gates in
    let rooted = c.add_roots.new.gates in
    let last = c.only_one.new.gates in
    let first = c.in_ok-first.first in
    let there = c.in_ok-first.ensures.belongs in
    let said = c.in_ok-sure.ensures.truth in
    let row = c.in_ok-choices.choices in
    let keeps = keeps_trans belongs value before numbered rooted c.keeps_numbers.ensures.keeps c.add_roots.ensures.keeps in
    let loops = choices_kept belongs value before rooted keeps row c.in_ok-choices.ensures.belongs c.args.bounds.now.states c.args.table.now.loops c.in_ok-choices.ensures.choices in
    record {
      lassos = λ x. (
        (λ t. let k = (said x).0 t in decoded c.args.bounds.now c.args.table.now x k.0 ((loops.only x k.0).0 k.1)),
        (λ l. (said x).1 (l.0.loop_start, (loops.only x l.0.loop_start).1 l.1.loop)),
      );
      numbers = λ n at x lasso d.
          let pushed = c.in_ok-push.ensures.ok ∙ ap (λ (row : List Node). row ++ first ∷ []) c.new-roots.ensures in
          let at_first = c.in_ok-add_roots.ensures.kept 0 first (ap (λ (row : List Node). slice_get row 0) pushed) in
          let one : first ≡ n = (let e : Some first ≡ Some n = sym at_first ∙ at in cc) in
          let keeps = c.in_ok-first.ensures.kept x (world_of c.args.target.now.scopes lasso) d in
          let same = c.only_one.ensures.keeps.values first (c.add_roots.ensures.keeps.belong first there) x ∙ c.add_roots.ensures.keeps.values first there x in
          subst (λ (m : Node). (value last x m ≡ true) ↔ KeepsNumbers c.args.target.now.scopes lasso) one ((λ t. keeps.0 (sym same ∙ t)), (λ k. same ∙ keeps.1 k));
      holds = λ k f n at there.
          let pushed = c.in_ok-push.ensures.ok ∙ ap (λ (row : List Node). row ++ first ∷ []) c.new-roots.ensures in
          let one : length c.push.new.self ≡ 1 = ap (λ (row : List Node). length row) pushed in
          let place : length c.push.new.self + k ≡ k + 1 = omega (arith, one) in
          let choices = choices_kept belongs value before numbered c.keeps_numbers.ensures.keeps row c.in_ok-choices.ensures.belongs c.args.bounds.now.states c.args.table.now.loops c.in_ok-choices.ensures.choices in
          let says = c.in_ok-add_roots.ensures.says choices k f n at (ap (λ (j : ℕ). slice_get c.add_roots.new.roots j) place ∙ there) in
          says_kept belongs value rooted last c.only_one.ensures.keeps c.args.bounds.now c.args.table.now c.args.target.now.scopes f c.add_roots.new.roots (k + 1) n c.add_roots.ensures.belongs there says;
    }
