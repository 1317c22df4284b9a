use Rattle.std.proofs.Common.{ℕ, List, Contains, eqb, sym, subst}
use Rattle.std.proofs.lemmas.List.Filters.{dedup_is}
use Rattle.std.proofs.lemmas.List.Kept.{Contains-dedup_nat, Contains-from_dedup}
use Rattle.std.proofs.lemmas.List.Sorted.{Contains-permutation, IsPermutation-sym}
use Rattle.resolve_type_check.proofs.levels.once.Goals as goal

pub returns : goal.returns
returns c = λ t.
    let old = c.args.waiting.items in
    let sorted = c.sort.new.self.items in
    let all = c.dedup.new.self.items in
    let is = dedup_is eqb sorted all c.dedup.ensures.filtered in (
      (λ h. Contains-permutation sorted old t (IsPermutation-sym old sorted c.in_ok-sort.ensures.permutation) (Contains-from_dedup eqb sorted t (subst (λ (ts : List ℕ). Contains ts t) is h))),
      (λ h. subst (λ (ts : List ℕ). Contains ts t) (sym is) (Contains-dedup_nat sorted t (Contains-permutation old sorted t c.in_ok-sort.ensures.permutation h))),
    )
