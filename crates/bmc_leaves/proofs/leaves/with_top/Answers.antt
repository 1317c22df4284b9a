use Rattle.std.proofs.Common.{◌≡◌, ◌∙◌, ℕ, false, List, Some, map, slice_get, ap, sym, subst}
use Rattle.core_meaning.specs.declared.scopes.SigScope.{SigScope}
use Rattle.core_meaning.specs.Kept.{world_of}
use Rattle.bmc_leaves.specs.Shown.{HaveTuples}
use Rattle.bmc_leaves.specs.Relations.{univ_below, reading_of}
use Rattle.bmc_leaves.proofs.LeafLaws.{pass_sig}
use Rattle.bmc_leaves.proofs.leaves.with_top.Goals as goal

pub returns-then-not-is_top-clause-more : goal.returns-then-not-is_top-clause-more
returns-then-not-is_top-clause-more g c = λ depth ok have.
    let value = g.G.Gates.node_value in
    let numbers = c.args.setting.now.scopes.now.numbers in
    let same : c.as_slice-numbers.result.now ≡ numbers = cc in
    let here : slice_get (map (λ (s : SigScope). s.top) c.as_slice-numbers.result.now) c.args.number ≡ Some c.is_top.result = c.is_top.ensures in
    let other : slice_get (map (λ (s : SigScope). s.top) numbers) c.args.number ≡ Some false = ap (λ (ns : List SigScope). slice_get (map (λ (s : SigScope). s.top) ns) c.args.number) (sym same) ∙ here ∙ ap Some c.if-not-is_top.true in
    pass_sig (reading_of c.args.setting.now depth) (value c.args.gates.now) c.args.store.now.matrices.items c.args.all.items c.args.number other have

pub returns-clause-more : goal.returns-clause-more
returns-clause-more g c = λ depth ok have.
    let value = g.G.Gates.node_value in
    let r = reading_of c.args.setting.now depth in
    let same : c.as_slice.result.now ≡ c.args.all.items = cc in
    let given = subst (λ (ns : List ℕ). HaveTuples r (value c.args.gates.now) c.args.store.now.matrices.items (λ lasso k. univ_below (world_of c.args.setting.now.scopes.now lasso) c.args.number k) ns) (sym same) have in
    c.in_ok-row.ensures.more depth ok given
