-- The places of owners, and which sigs have an origin.
use Rattle.std.proofs.Common.{◌≡◌, ℕ, zero, suc, ◌+◌, ◌<◌, ◌≤◌, eqb, Bool, true, false, cond, if◌then◌else◌, List, [], ◌∷◌, length, filter, Some, is_some, slice_get, refl, sym, ap, ◌∙◌, arith}
use Rattle.std.specs.List.{range_with_len}
use Rattle.std.proofs.lemmas.Bool.{eqb-true, leb-true, and_parts, and_from}
use Rattle.std.proofs.lemmas.Option.{slice_get_within}
use Rattle.core_tree.specs.declared.model.Model.{Model}
use Rattle.core_tree.specs.declared.model.Sig.{Sig}
use Rattle.core_meaning.specs.declared.scopes.Scopes.{Scopes}
use Rattle.core_meaning.specs.Kept.{or_zero_number}
use Rattle.core_laws.proofs.Climbs.{Climb, Extending}
use Rattle.bound_owners.specs.Own.{HasOrigins, is_constant, is_constant_of, constants, fits, top_of, owner_at, does_own}
use Rattle.bound_owners.proofs.Owning.{listed_constant}
use Rattle.bound_laws.proofs.Owning.{owner_is, listed_owner}

-- ---- the numbers of a range that pass

from_first : (p : ℕ → Bool) (a n j x : ℕ) → slice_get (filter p (range_with_len a n)) j ≡ Some x → a ≤ x
from_first p a zero j x e = cc
from_first p a (suc n) j x e = by_test (λ k f. from_first p (a + 1) n k x f) (p a) j e
  where
    rest : List ℕ
    rest = filter p (range_with_len (a + 1) n)

    by_test : ((k : ℕ) → slice_get rest k ≡ Some x → a + 1 ≤ x) → (b : Bool) (k : ℕ) → slice_get (cond b (a ∷ rest) rest) k ≡ Some x → a ≤ x
    by_test later true zero f = let is : a ≡ x = cc in omega (arith, is)
    by_test later true (suc k) f = let low = later k f in omega (arith, low)
    by_test later false k f = let low = later k f in omega (arith, low)

-- each of them stands at one place
once : (p : ℕ → Bool) (a n j k x : ℕ) → slice_get (filter p (range_with_len a n)) j ≡ Some x → slice_get (filter p (range_with_len a n)) k ≡ Some x → j ≡ k
once p a zero j k x e f = cc
once p a (suc n) j k x e f = by_test (λ i h. from_first p (a + 1) n i x h) (λ i l g h. once p (a + 1) n i l x g h) (p a) j k e f
  where
    rest : List ℕ
    rest = filter p (range_with_len (a + 1) n)

    by_test : ((i : ℕ) → slice_get rest i ≡ Some x → a + 1 ≤ x) → ((i l : ℕ) → slice_get rest i ≡ Some x → slice_get rest l ≡ Some x → i ≡ l) → (b : Bool) (i l : ℕ) → slice_get (cond b (a ∷ rest) rest) i ≡ Some x → slice_get (cond b (a ∷ rest) rest) l ≡ Some x → i ≡ l
    by_test later same true zero zero g h = refl
    by_test later same true zero (suc l) g h =
        let is : a ≡ x = cc in
        let low = later l h in
        absurd (omega (arith, is, low))
    by_test later same true (suc i) zero g h =
        let is : a ≡ x = cc in
        let low = later i g in
        absurd (omega (arith, is, low))
    by_test later same true (suc i) (suc l) g h = ap suc (same i l g h)
    by_test later same false i l g h = same i l g h

-- ---- owners

module _ (model : Model) (scopes : Scopes) where
  owner_fits : (top k c : ℕ) (b : Bool) → slice_get (if b then constants model.sigs top else []) k ≡ Some c → b ≡ true
  owner_fits top k c true at = refl
  owner_fits top k c false at = cc

  -- the place of an owner is below the number of its top-level sig
  pub owner_low : (top k c : ℕ) → owner_at model.sigs scopes.numbers top k ≡ Some c → k < or_zero_number (slice_get scopes.numbers top)
  owner_low top k c at = by_test (fits model.sigs scopes.numbers top) refl at
    where
      by_test : (b : Bool) → fits model.sigs scopes.numbers top ≡ b → slice_get (if b then constants model.sigs top else []) k ≡ Some c → k < or_zero_number (slice_get scopes.numbers top)
      by_test true e h =
          let lt = slice_get_within (constants model.sigs top) k c h in
          let most = leb-true (length (constants model.sigs top)) (or_zero_number (slice_get scopes.numbers top)) e in
          omega (arith, lt, most)
      by_test false e h = cc

  -- an owner stands at one place
  pub owner_once : (top j k c : ℕ) → owner_at model.sigs scopes.numbers top j ≡ Some c → owner_at model.sigs scopes.numbers top k ≡ Some c → j ≡ k
  owner_once top j k c one two = by_test (fits model.sigs scopes.numbers top) one two
    where
      by_test : (b : Bool) → slice_get (if b then constants model.sigs top else []) j ≡ Some c → slice_get (if b then constants model.sigs top else []) k ≡ Some c → j ≡ k
      by_test true e f = once (is_constant_of model.sigs top) 0 (length model.sigs) j k c e f
      by_test false e f = cc

  -- an owner is a sig of the model, owns an atom, and lies under this top-level sig
  pub owner_owns : (top k c : ℕ) → owner_at model.sigs scopes.numbers top k ≡ Some c → (does_own model.sigs scopes.numbers c ≡ true) × (c < length model.sigs) × (top_of model.sigs c ≡ top)
  owner_owns top k c at =
      let (d, owner) = owner_is model scopes top k c at in
      let listed = listed_owner model scopes top k c (fits model.sigs scopes.numbers top) refl at in
      let (constant, same) = and_parts (is_constant model.sigs c) (eqb (top_of model.sigs c) top) (listed_constant model.sigs top c listed) in
      let below : top_of model.sigs c ≡ top = eqb-true (top_of model.sigs c) top same in
      let fit : fits model.sigs scopes.numbers top ≡ true = owner_fits top k c (fits model.sigs scopes.numbers top) at in (
        and_from (is_constant model.sigs c) (fits model.sigs scopes.numbers (top_of model.sigs c)) constant (ap (fits model.sigs scopes.numbers) below ∙ fit),
        slice_get_within model.sigs c d owner.there,
        below,
      )

-- ---- origins

first_there : (sigs : List Sig) (a t : ℕ) (ps : List ℕ) (e : Sig) → Climb (Extending sigs) a ps t → slice_get sigs t ≡ Some e → (d : Sig) × (slice_get sigs a ≡ Some d)
first_there sigs a t [] e same get = (e, ap (slice_get sigs) same ∙ get)
first_there sigs a t (p ∷ ps) e ((d, there, kind), climb) get = (d, there)

-- a sig has an origin just where one that is reached by going up has one
pub origin_up : (sigs : List Sig) → HasOrigins sigs → (a t : ℕ) (ps : List ℕ) (d e : Sig) → Climb (Extending sigs) a ps t → slice_get sigs a ≡ Some d → slice_get sigs t ≡ Some e → is_some d.origin ≡ is_some e.origin
origin_up sigs origins a t [] d e same get_d get_e =
    let both : Some d ≡ Some e = sym get_d ∙ (ap (slice_get sigs) same ∙ get_e) in
    let is : d ≡ e = cc in
    ap (λ (x : Sig). is_some x.origin) is
origin_up sigs origins a t (p ∷ ps) d e ((c, there, kind), climb) get_d get_e =
    let (f, above) = first_there sigs p t ps e climb get_e in
    let is : c ≡ d = cc in
    ap (λ (x : Sig). is_some x.origin) (sym is) ∙ (origins a p c f there kind above ∙ origin_up sigs origins p t ps f e climb above get_e)
