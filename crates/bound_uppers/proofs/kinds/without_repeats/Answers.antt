use Rattle.std.proofs.Common.{ℕ, List, Contains, sym, subst}
use Rattle.std.specs.Cmp.{nat_eq_equiv, unsigned_ties}
use Rattle.std.specs.Ordering.{nat_cmp}
use Rattle.std.specs.List.Sorted.{IsStrictlySortedBy}
use Rattle.std.specs.Cmp.Lexicographic.{lists_equiv, nat_list_cmp_total, lists_ties}
use Rattle.std.proofs.lemmas.List.Filters.{dedup_is}
use Rattle.std.proofs.lemmas.List.Kept.{Contains-dedup, Contains-from_dedup, IsStrictlySortedBy-dedup}
use Rattle.std.proofs.lemmas.List.Sorted.{Contains-permutation, IsPermutation-sym}
use Rattle.core_tuples.specs.Sets.{is_same, tuple_cmp}
use Rattle.core_tuples.proofs.OrderedLemmas.{same_exact}
use Rattle.bound_uppers.proofs.kinds.without_repeats.Goals as goal

pub returns-clause-rows : goal.returns-clause-rows
returns-clause-rows c = λ t.
    let old = c.args.rows.items in
    let sorted = c.sort.new.self.items in
    let all = c.dedup.new.self.items in
    let is = dedup_is is_same sorted all c.dedup.ensures.filtered in (
      (λ h. Contains-permutation sorted old t (IsPermutation-sym old sorted c.in_ok-sort.ensures.permutation) (Contains-from_dedup is_same sorted t (subst (λ (ts : List (List ℕ)). Contains ts t) is h))),
      (λ h. subst (λ (ts : List (List ℕ)). Contains ts t) (sym is) (Contains-dedup (lists_equiv nat_eq_equiv) same_exact sorted t (Contains-permutation old sorted t c.in_ok-sort.ensures.permutation h))),
    )

pub returns-clause-sorted : goal.returns-clause-sorted
returns-clause-sorted c =
    let sorted = c.sort.new.self.items in
    let all = c.dedup.new.self.items in
    let is = dedup_is is_same sorted all c.dedup.ensures.filtered in
    subst (λ (ts : List (List ℕ)). IsStrictlySortedBy tuple_cmp ts) (sym is) (IsStrictlySortedBy-dedup nat_list_cmp_total (lists_ties nat_cmp unsigned_ties) sorted c.in_ok-sort.ensures.sorted)
