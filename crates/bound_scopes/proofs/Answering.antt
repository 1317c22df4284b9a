-- A rule that is asked: what the answer says of the places at which it is broken.
use Rattle.std.proofs.Common.{◌≡◌, List, [], ◌∷◌, Contains, Option, Some, None, Result, IfOk, IfErr, refl, sym, subst}
use Rattle.std.specs.Result.{IsErrAnd}
use Rattle.std.proofs.lemmas.Result.{err_from_is_err_and}
use Rattle.base_types.specs.declared.fault.Fault.{Fault}
use Rattle.base_types.specs.declared.fault.Fault.TheVariants.{Refused, Memory}
use Rattle.base_types.specs.declared.place.Rule.{Rule}
use Rattle.base_types.specs.declared.place.Refusal.{Refusal}
use Rattle.core_tree.specs.declared.model.Origin.{Origin}
use Rattle.bound_definitions.specs.Places.{IsFirst, IsKept, Finds, first_from}
use Rattle.bound_definitions.proofs.Order.{first_found}
use Rattle.bound_scopes.specs.Limits.{asked, IsAt, IsFaultOf}

module _ (Broken : Origin → Type 0) where
  kept_by : (rule : Rule) (found : Option Origin) → Finds Broken found → IfOk (asked rule found) (λ _. IsKept Broken)
  kept_by rule None is = is
  kept_by rule (Some at) is = tt

  refused_by : (rule : Rule) (found : Option Origin) → Finds Broken found → IfErr (asked rule found) (IsFaultOf (IsAt rule Broken))
  refused_by rule None is = tt
  refused_by rule (Some at) is = (at, is, refl)

  pub asked_kept : (rule : Rule) (found : Option Origin) (r : Result (Unit {0}) Fault) → Finds Broken found → r ≡ asked rule found → IfOk r (λ _. IsKept Broken)
  asked_kept rule found r is e = subst (λ (x : Result (Unit {0}) Fault). IfOk x (λ _. IsKept Broken)) (sym e) (kept_by rule found is)

  pub asked_refused : (rule : Rule) (found : Option Origin) (r : Result (Unit {0}) Fault) → Finds Broken found → r ≡ asked rule found → IfErr r (IsFaultOf (IsAt rule Broken))
  asked_refused rule found r is e = subst (λ (x : Result (Unit {0}) Fault). IfErr x (IsFaultOf (IsAt rule Broken))) (sym e) (refused_by rule found is)

-- the same of a list of places, the first of which was found
pub places_kept : (places : List Origin) (rule : Rule) (found : Option Origin) (r : Result (Unit {0}) Fault) → found ≡ first_from None places → r ≡ asked rule found → IfOk r (λ _. IsKept (Contains places))
places_kept places rule found r is e = asked_kept (Contains places) rule found r (first_found places found is) e

pub places_refused : (places : List Origin) (rule : Rule) (found : Option Origin) (r : Result (Unit {0}) Fault) → found ≡ first_from None places → r ≡ asked rule found → IfErr r (IsFaultOf (IsAt rule (Contains places)))
places_refused places rule found r is e = asked_refused (Contains places) rule found r (first_found places found is) e

-- no places, and one place
pub none_kept : (places : List Origin) → places ≡ [] → IsKept (Contains places)
none_kept places e = subst (λ (l : List Origin). IsKept (Contains l)) (sym e) (first_found [] None refl)

pub one_first : (places : List Origin) (at : Origin) → places ≡ at ∷ [] → IsFirst (Contains places) at
one_first places at e = subst (λ (l : List Origin). IsFirst (Contains l) at) (sym e) (first_found (at ∷ []) (Some at) refl)

-- a refusal goes on as another says it
pub goes_as : (Is As : Refusal → Type 0) (e : Fault) → ((r : Refusal) → Is r → As r) → IsFaultOf Is e → IsFaultOf As e
goes_as Is As Memory to is = tt
goes_as Is As (Refused r) to is = to r is

-- what is so of a fault is so of the answer that hands it on
pub handed : {X : Type 0} (Is : Fault → Type 0) (r : Result X Fault) (e : Fault) → IsErrAnd r (λ f. f ≡ e) → Is e → IfErr r Is
handed Is r e on is = let p = err_from_is_err_and r on in subst (λ x. IfErr x Is) (sym p.1) (subst Is (sym p.2) is)
