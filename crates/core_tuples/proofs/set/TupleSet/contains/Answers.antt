use Rattle.std.proofs.Common.{◌≡◌, subst, sym, ap, ◌∙◌, Contains, List, ℕ}
use Rattle.core_tuples.specs.Sets.{TupleList}
use Rattle.core_tuples.proofs.OrderLemmas.{found_means}
use Rattle.core_tuples.proofs.set.TupleSet.contains.Goals as goal

pub returns-then-is_row : goal.returns-then-is_row
returns-then-is_row c =
    let same : c.deref.result.now ≡ c.args.self.now.tuples = c.deref.ensures.value ∙ ap (λ (v : TupleList). v.tuples) c.self.view_is in
    let means = found_means c.place_of.result c.deref.result.now c.args.tuple.now c.place_of.ensures.found c.place_of.ensures.gap in (
      (λ h. subst (λ (ts : List (List ℕ)). Contains ts c.args.tuple.now) same (means.0 (sym c.is_ok.ensures.value ∙ h))),
      (λ there. c.is_ok.ensures.value ∙ means.1 (subst (λ (ts : List (List ℕ)). Contains ts c.args.tuple.now) (sym same) there)),
    )
