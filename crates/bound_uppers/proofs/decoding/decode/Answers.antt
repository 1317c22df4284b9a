use Rattle.std.proofs.Common.{◌≡◌, ◌∙◌, ℕ, List, Some, slice_get, subst}
use Rattle.std.proofs.lemmas.Result.{IfOk-weaker}
use Rattle.core_tuples.specs.Sets.{IsTupleSet}
use Rattle.core_meaning.specs.Sequence.{LassoValue}
use Rattle.bound_uppers.specs.declared.table.Bound.{Bound}
use Rattle.bound_uppers.specs.Table.{decoded}
use Rattle.bound_uppers.specs.Candidates.{IsCandidate, Agrees}
use Rattle.bound_uppers.proofs.Sizes.{lasso_by, decoded_is}
use Rattle.bound_uppers.proofs.Decoded.{candidate_by, agrees_by}
use Rattle.bound_uppers.proofs.decoding.decode.Goals as goal

pub returns-clause-exact : goal.returns-clause-exact
returns-clause-exact c = λ laid.
    let bounds = c.args.bounds.now in
    let values = c.args.assignment.now in
    let states = c.in_ok-states.states.items in
    let is = decoded_is bounds c.args.table.now values states c.loop_of-start.result laid c.in_ok-states.ensures.exact c.loop_of-start.ensures.first in
    IfOk-weaker c.lasso_of.result (λ (l : LassoValue). l ≡ lasso_by states c.loop_of-start.result) (λ (l : LassoValue). l ≡ decoded bounds values) (λ l e. e ∙ is) c.lasso_of.ensures

pub returns-clause-candidate : goal.returns-clause-candidate
returns-clause-candidate c = λ laid.
    let bounds = c.args.bounds.now in
    let values = c.args.assignment.now in
    let sets = subst (λ (bs : List Bound). (r : ℕ) (b : Bound) → slice_get bs r ≡ Some b → IsTupleSet b.upper) c.as_slice.ensures c.upper_sets.ensures in
    IfOk-weaker c.lasso_of.result (λ (l : LassoValue). l ≡ decoded bounds values) (IsCandidate bounds) (λ l e. candidate_by bounds values l c.requires sets e) (returns-clause-exact c laid)

pub returns-clause-agrees : goal.returns-clause-agrees
returns-clause-agrees c = λ laid one.
    let bounds = c.args.bounds.now in
    let values = c.args.assignment.now in
    let sets = subst (λ (bs : List Bound). (r : ℕ) (b : Bound) → slice_get bs r ≡ Some b → IsTupleSet b.upper) c.as_slice.ensures c.upper_sets.ensures in
    IfOk-weaker c.lasso_of.result (λ (l : LassoValue). l ≡ decoded bounds values) (Agrees bounds values) (λ l e. agrees_by bounds values l sets one e) (returns-clause-exact c laid)
