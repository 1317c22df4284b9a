use Rattle.std.proofs.Common.{◌≡◌, ◌∷◌, [], List, Some, length, slice_get, refl, ap, ◌∙◌, subst, arith, length-append}
use Rattle.std.proofs.lemmas.Option.{slice_get_within, slice_get_read}
use Rattle.gate_trait.specs.declared.node.Node.{Node}
use Rattle.gate_trait.proofs.KeptLemmas.{keeps_trans, all_more}
use Rattle.core_tree.specs.declared.tree.Formula.{Formula}
use Rattle.bmc_windows.proofs.PushLemmas.{push_kept}
use Rattle.bmc_leaves.proofs.LoopLaws.{choices_kept}
use Rattle.bmc_encoder.proofs.RootLaws.{roots_more}
use Rattle.bmc_encoder.proofs.roots.add_roots.Goals as goal

pub loop-place-preserved : goal.loop-place-preserved
loop-place-preserved g c =
    let value = g.G.Gates.node_value in
    let belongs = g.G.Gates.belongs in
    let before = c.loop-place.invariant in
    let first = c.args.gates.now in
    let now = c.loop-place.gates in
    let later = c.root_of.new.gates in
    let more = c.root_of.ensures.keeps in
    let root = c.in_ok-root.root in
    let place = c.loop-place.place in
    let is = c.in_ok-push.ensures.ok in
    let list = c.as_slice-formulas.result.now in
    let formula = c.index-formulas-place.result in
    let same : list ≡ c.args.target.now.formulas = cc in
    let at : slice_get c.args.target.now.formulas place ≡ Some formula = subst (λ (fs : List Formula). slice_get fs place ≡ Some formula) same (slice_get_read list (length list) place formula refl (omega arith) c.index-formulas-place.is) in
    let row = c.args.choices.now in
    let bounds = c.args.bounds.now in
    let table = c.args.table.now in
    record {
      keeps = keeps_trans belongs value first now later before.keeps more;
      belong = all_more belongs value now later more c.loop-place.roots c.push.new.self root is before.belong c.in_ok-root.ensures.belongs;
      count = ap (λ (row : List Node). length row) is ∙ length-append c.loop-place.roots (root ∷ []) ∙ (let e = before.count in omega (arith, e));
      kept = λ k n at. ap (λ (row : List Node). slice_get row k) is ∙ push_kept c.loop-place.roots root k n (before.kept k n at);
      says = λ are.
          let choices = choices_kept belongs value first now before.keeps row c.requires.choices bounds.states table.loops are in
          roots_more belongs value now later more bounds table c.args.target.now.scopes c.args.target.now.formulas (length c.args.roots.now) place c.loop-place.roots c.push.new.self root formula before.belong before.count is at (c.in_ok-root.ensures.says choices) (before.says are);
    }

pub returns-clause-says : goal.returns-clause-says
returns-clause-says g c = λ are k f n at there.
    let inside = slice_get_within c.args.target.now.formulas k f at in
    let same : c.as_slice-formulas.result.now ≡ c.args.target.now.formulas = cc in
    let long = ap (λ (fs : List Formula). length fs) same in
    c.loop-place.invariant.says are k f n (omega (arith, inside, long, c.loop-place-test.false)) at there
