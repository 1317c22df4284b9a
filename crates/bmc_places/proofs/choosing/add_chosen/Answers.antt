use Rattle.std.proofs.Common.{◌≡◌, ℕ, List, Some, slice_get, subst, inl, inr}
use Rattle.bmc_places.proofs.StoreLaws.{extends_refl}
use Rattle.bmc_places.proofs.choosing.add_chosen.Goals as goal

pub returns-in_ok-push-in-Some-clause-extends : goal.returns-in_ok-push-in-Some-clause-extends
returns-in_ok-push-in-Some-clause-extends g c = extends_refl c.args.store.now

pub returns-in_ok-push-in-Some-clause-adds : goal.returns-in_ok-push-in-Some-clause-adds
returns-in_ok-push-in-Some-clause-adds g c =
    let like = c.in-Some.ensures in
    let found = subst (λ (ns : List ℕ). (n : ℕ) → slice_get ns c.in-Some.other ≡ Some n → c.found_at-number.result ≡ n) c.deref.ensures.value c.found_at-number.ensures in
    (c.found_at-number.result, c.in_ok-push-in-Some.ensures.items, inl (c.in-Some.other, like.0, found, like.1))

pub returns-in_ok-push-in-None-clause-adds : goal.returns-in_ok-push-in-None-clause-adds
returns-in_ok-push-in-None-clause-adds g c = (c.in_ok-new-in-None.new, c.in_ok-push-in-None.ensures.items, inr c.in_ok-new-in-None.ensures.chooses)
