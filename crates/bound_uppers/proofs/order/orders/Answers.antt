use Rattle.std.proofs.Common.{◌≡◌, ◌<◌, ◌∙◌, ℕ, List, length, slice_index, sym, subst, arith}
use Rattle.bound_uppers.specs.Order.{standings}
use Rattle.bound_uppers.proofs.Ranks.{standings_below}
use Rattle.bound_uppers.proofs.order.orders.Goals as goal

pub ranks-requires : goal.ranks-requires
ranks-requires c = λ r lt.
    let e : c.deref.result.now ≡ standings c.args.sigs c.args.fields.now = c.deref.ensures.value ∙ c.in_ok-standing.ensures in
    let number = c.in_ok-count.ensures.sum in
    let below = standings_below c.args.sigs c.args.fields.now r (subst (λ (xs : List ℕ). r < length xs) e lt) in
    subst (λ (xs : List ℕ). slice_index xs r < c.in_ok-count.count) (sym e) (omega (arith, number, below))
