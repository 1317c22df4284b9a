-- What a command asks holds just where its predicate runs.
use Rattle.std.proofs.Common.{◌≡◌, ◌↔◌, ℕ, suc, ◌+◌, ◌-◌, eqb, List, [], ◌∷◌, ◌++◌, take, length, Option, Some, None, refl, ap, sym, subst}
use Rattle.core_tree.specs.declared.model.Parameter.{Parameter}
use Rattle.core_tree.specs.Trees.{Term, Terms, Claim, Binder, field, let_claim, term_of, term_list, claim_list, variable_list}
use Rattle.core_meaning.specs.World.{World, InRelation}
use Rattle.core_meaning.specs.Operators.{Tuples}
use Rattle.core_meaning.specs.Meaning.{Names, Bodies, no_names, one_of, with_name, atom, IsApart, InTerm, passed, ForEach, Fits, Holds, HoldEach}
use Rattle.core_meaning.specs.Called.{called}
use Rattle.form_skolem.specs.Claims.{argument, arguments, binder, some_of, lies_in, are_apart, apart_from, field_claim, call, claim_from, run_claim}
use Rattle.form_skolem.specs.Runs.{relation, ShareNone, SharesNone, given, LiesIn, IsAtomFor, RunsFrom, Runs, AsksForRun}

module _ (w : World) (bodies : Bodies) where
  -- the arguments stand for what the body is given
  given_is : (k : ℕ) (fs : List (Option ℕ)) (names : Names) → given w k fs names ≡ passed w bodies (term_list (arguments k fs)) names
  given_is k [] names = refl
  given_is k (None ∷ fs) names = ap (λ (R : Names). λ x i t. one_of (eqb x 0) (names k i) (R (x - 1) i) t) (given_is (suc k) fs names)
  given_is k (Some f ∷ fs) names = ap (λ (R : Names). λ x i t. one_of (eqb x 0) (relation w f i) (R (x - 1) i) t) (given_is (suc k) fs names)

  -- for all atoms of some variables, with the atoms that were chosen, the latest first
  abbrev Each : List Binder → (Names → List ℕ → Type 0) → Names → List ℕ → Type 0
  Each [] P names earlier = P names earlier
  Each (v ∷ vs) P names earlier = (a : ℕ) → InTerm w bodies v.bound names 0 (a ∷ []) → IsApart v.apart a earlier → Each vs P (with_name names v.name (atom a)) (a ∷ earlier)

  each_to : (vs : List Binder) (P Q : Names → List ℕ → Type 0) → ((n : Names) (e : List ℕ) → P n e → Q n e) → (names : Names) (earlier : List ℕ) → Each vs P names earlier → Each vs Q names earlier
  each_to [] P Q f names earlier h = f names earlier h
  each_to (v ∷ vs) P Q f names earlier h = λ a inside apart. each_to vs P Q f (with_name names v.name (atom a)) (a ∷ earlier) (h a inside apart)

  each_both : (vs us : List Binder) (P : Names → List ℕ → Type 0) (names : Names) (earlier : List ℕ) → Each (vs ++ us) P names earlier ↔ Each vs (λ n e. Each us P n e) names earlier
  each_both [] us P names earlier = ((λ h. h), (λ h. h))
  each_both (v ∷ vs) us P names earlier = (
    (λ h. λ a inside apart. (each_both vs us P (with_name names v.name (atom a)) (a ∷ earlier)).0 (h a inside apart)),
    (λ h. λ a inside apart. (each_both vs us P (with_name names v.name (atom a)) (a ∷ earlier)).1 (h a inside apart)),
  )

  for_each : (vs : List Binder) (P : Names → Type 0) (names : Names) (earlier : List ℕ) → ForEach w bodies (variable_list vs) P names 0 earlier ↔ Each vs (λ n e. P n) names earlier
  for_each [] P names earlier = ((λ h. h), (λ h. h))
  for_each (v ∷ vs) P names earlier = (
    (λ h. λ a inside apart. (for_each vs P (with_name names v.name (atom a)) (a ∷ earlier)).0 (h a inside apart)),
    (λ h. λ a inside apart. (for_each vs P (with_name names v.name (atom a)) (a ∷ earlier)).1 (h a inside apart)),
  )

  -- there are atoms for some variables, if any, for which something holds
  abbrev Some_of : List Binder → (Names → List ℕ → Type 0) → Names → Type 0
  Some_of [] R names = R names []
  Some_of (v ∷ vs) R names = ¬ Each (v ∷ vs) (λ n e. ¬ R n e) names []

  some_is : (vs : List Binder) (c : Claim) (R : Names → List ℕ → Type 0) → ((n : Names) (e : List ℕ) → Holds w bodies c n 0 ↔ R n e) → (names : Names) → Holds w bodies (some_of vs c) names 0 ↔ Some_of vs R names
  some_is [] c R same names = same names []
  some_is (v ∷ vs) c R same names = (
    (λ h. λ each. h ((for_each (v ∷ vs) (λ n. ¬ Holds w bodies c n 0) names []).1 (each_to (v ∷ vs) (λ n e. ¬ R n e) (λ n e. ¬ Holds w bodies c n 0) (λ n e fails holds. fails ((same n e).0 holds)) names [] each))),
    (λ h. λ each. h (each_to (v ∷ vs) (λ n e. ¬ Holds w bodies c n 0) (λ n e. ¬ R n e) (λ n e fails runs. fails ((same n e).1 runs)) names [] ((for_each (v ∷ vs) (λ n. ¬ Holds w bodies c n 0) names []).0 each))),
  )

  -- a variable more, behind the others
  some_more : (vs : List Binder) (b : Binder) (R : Names → List ℕ → Type 0) (names : Names) → Some_of (vs ++ b ∷ []) R names ↔ Some_of vs (λ n e. ¬ Each (b ∷ []) (λ m d. ¬ R m d) n e) names
  some_more [] b R names = ((λ h. h), (λ h. h))
  some_more (v ∷ vs) b R names = (
    (λ h. λ each. h ((each_both (v ∷ vs) (b ∷ []) (λ m d. ¬ R m d) names []).1 (each_to (v ∷ vs) (λ n e. ¬ ¬ Each (b ∷ []) (λ m d. ¬ R m d) n e) (λ n e. Each (b ∷ []) (λ m d. ¬ R m d) n e) (λ n e twice. λ a inside apart. λ runs. twice (λ fails. fails a inside apart runs)) names [] each))),
    (λ h. λ each. h (each_to (v ∷ vs) (λ n e. Each (b ∷ []) (λ m d. ¬ R m d) n e) (λ n e. ¬ ¬ Each (b ∷ []) (λ m d. ¬ R m d) n e) (λ n e fails some. some fails) names [] ((each_both (v ∷ vs) (b ∷ []) (λ m d. ¬ R m d) names []).0 each))),
  )

  some_to : (vs : List Binder) (P Q : Names → List ℕ → Type 0) → ((n : Names) (e : List ℕ) → P n e ↔ Q n e) → (names : Names) → Some_of vs P names ↔ Some_of vs Q names
  some_to [] P Q same names = same names []
  some_to (v ∷ vs) P Q same names = (
    (λ h. λ each. h (each_to (v ∷ vs) (λ n e. ¬ Q n e) (λ n e. ¬ P n e) (λ n e fails p. fails ((same n e).0 p)) names [] each)),
    (λ h. λ each. h (each_to (v ∷ vs) (λ n e. ¬ P n e) (λ n e. ¬ Q n e) (λ n e fails q. fails ((same n e).1 q)) names [] each)),
  )

  -- a field's relation shares no tuple with the others, and the last claim holds
  apart_is : (f : ℕ) (gs : List (Option ℕ)) (c : Claim) (names : Names) → HoldEach w bodies (claim_list (apart_from f gs ++ c ∷ [])) names 0 ↔ (SharesNone w f gs × Holds w bodies c names 0)
  apart_is f [] c names = ((λ (h, u). (tt, h)), (λ (u, h). (h, tt)))
  apart_is f (None ∷ gs) c names = apart_is f gs c names
  apart_is f (Some g ∷ gs) c names = (
    (λ (none, rest). ((none, ((apart_is f gs c names).0 rest).0), ((apart_is f gs c names).0 rest).1)),
    (λ ((none, rest), h). (none, (apart_is f gs c names).1 (rest, h))),
  )

  module _ (body : ℕ) (all : List (Option ℕ)) where
    call_is : (names : Names) → Holds w bodies (call body all) names 0 ↔ bodies.claim body (given w 0 all names) 0
    call_is names = (
      (λ h. subst (λ (n : Names). bodies.claim body n 0) (sym (given_is 0 all names)) h),
      (λ h. subst (λ (n : Names). bodies.claim body n 0) (given_is 0 all names) h),
    )

    field_is : (k f : ℕ) (p : Parameter) (earlier : List (Option ℕ)) (rest : Claim) (R : Names → Type 0) → ((n : Names) → Holds w bodies rest n 0 ↔ R n) → (names : Names) →
        Holds w bodies (field_claim k f p earlier rest) names 0 ↔ (LiesIn w bodies p names (relation w f 0) × SharesNone w f (take p.apart earlier) × R (with_name names k (relation w f)))
    field_is k f p earlier rest R same names =
        let parts = apart_is f (take p.apart earlier) (let_claim k (field f) rest) names in (
          (λ ((inside, many, arrows), others). (record { inside = inside; multiplicity = many; arrows = arrows }, (parts.0 others).0, (same (with_name names k (relation w f))).0 (parts.0 others).1)),
          (λ (lies, none, h). ((lies.inside, lies.multiplicity, lies.arrows), parts.1 (none, (same (with_name names k (relation w f))).1 h))),
        )

    from_is : (k : ℕ) (ps : List Parameter) (fs earlier : List (Option ℕ)) (picked : List Binder) (names : Names) →
        Holds w bodies (claim_from body all k ps fs earlier picked) names 0 ↔ Some_of picked (λ n e. RunsFrom w bodies body all k ps fs earlier e n) names
    from_is k [] fs earlier picked names = some_is picked (call body all) (λ n e. bodies.claim body (given w 0 all n) 0) (λ n e. call_is n) names
    from_is k (p ∷ ps) [] earlier picked names = some_is picked (call body all) (λ n e. bodies.claim body (given w 0 all n) 0) (λ n e. call_is n) names
    from_is k (p ∷ ps) (None ∷ fs) earlier picked names =
        let step = from_is (suc k) ps fs (None ∷ earlier) (picked ++ binder k p ∷ []) names in
        let more = some_more picked (binder k p) (λ n e. RunsFrom w bodies body all (suc k) ps fs (None ∷ earlier) e n) names in
        let last = some_to picked (λ n e. ¬ Each (binder k p ∷ []) (λ m d. ¬ RunsFrom w bodies body all (suc k) ps fs (None ∷ earlier) d m) n e) (λ n e. RunsFrom w bodies body all k (p ∷ ps) (None ∷ fs) earlier e n) (λ n e. (
          (λ h. λ each. h (λ a inside apart. each a (record { inside = inside; apart = apart }))),
          (λ h. λ each. h (λ a is. each a is.inside is.apart)),
        )) names in
        ((λ h. last.0 (more.0 (step.0 h))), (λ h. step.1 (more.1 (last.1 h))))
    from_is k (p ∷ ps) (Some f ∷ fs) earlier picked names =
        some_is picked (field_claim k f p earlier (claim_from body all (suc k) ps fs (Some f ∷ earlier) [])) (λ n e. RunsFrom w bodies body all k (p ∷ ps) (Some f ∷ fs) earlier e n)
        (λ n e. field_is k f p earlier (claim_from body all (suc k) ps fs (Some f ∷ earlier) []) (λ m. RunsFrom w bodies body all (suc k) ps fs (Some f ∷ earlier) [] m) (λ m. from_is (suc k) ps fs (Some f ∷ earlier) [] m) n) names

pub asks_for_run : AsksForRun
asks_for_run w list depth body ps fs = from_is w (called w list depth) body fs 0 ps fs [] [] no_names
