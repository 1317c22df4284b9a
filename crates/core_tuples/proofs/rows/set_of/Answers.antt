use Rattle.std.proofs.Common.{rules, ◌≡◌, ℕ, List, All, length, sym, ap, ◌∙◌}
use Rattle.std.proofs.lemmas.List.Sorted.{All-permutation, IsNonDecreasingBy-from_sort_by_key, list_any-IsPermutation}
use Rattle.core_tuples.specs.Index.{IsNumber, index_of}
use Rattle.core_tuples.specs.Sets.{is_same}
use Rattle.core_tuples.specs.Merged.{has}
use Rattle.core_tuples.proofs.JustLaw.{truth_as}
use Rattle.core_tuples.proofs.rows.set_of.Goals as goal

pub distinct-requires-clause-columns : goal.distinct-requires-clause-columns
distinct-requires-clause-columns c = rw c.deref.ensures.value (All-permutation (λ (t : List ℕ). length t ≡ c.args.arity) _ _ c.in_ok-sort_by_key.ensures.permutation c.requires.columns)

pub distinct-requires-clause-numbers : goal.distinct-requires-clause-numbers
distinct-requires-clause-numbers c = rw c.deref.ensures.value (All-permutation (λ (t : List ℕ). All IsNumber t) _ _ c.in_ok-sort_by_key.ensures.permutation c.requires.numbers)

pub distinct-requires-clause-order : goal.distinct-requires-clause-order
distinct-requires-clause-order c = rw c.deref.ensures.value (IsNonDecreasingBy-from_sort_by_key index_of _ c.in_ok-sort_by_key.ensures.sorted (λ a r q k. search rules))

pub returns-clause-truth : goal.returns-clause-truth
returns-clause-truth c =
    truth_as c.distinct.result (λ t. has c.deref.result.now t) (λ t. has c.args.tuples.items t) c.distinct.ensures.truth
    (λ t. ap (λ (ts : List (List ℕ)). has ts t) c.deref.ensures.value ∙ sym (list_any-IsPermutation (λ y. is_same y t) c.args.tuples.items c.sort_by_key.new.self.items c.in_ok-sort_by_key.ensures.permutation))
