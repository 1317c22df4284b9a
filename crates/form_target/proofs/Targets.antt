-- Formulas that are written out, and targets made of them.
use Rattle.std.proofs.Common.{◌≡◌, ◌↔◌, ◌+◌, ◌<◌, ◌≤◌, ℕ, suc, List, [], ◌∷◌, ◌++◌, map, take, length, get_or, All, refl, sym, ap, subst, ◌∙◌, arith, Option, Some, None, Result, Ok, Err, IfOk, length-append}
use Rattle.std.proofs.Math.Seq.{take-suc}
use Rattle.std.proofs.lemmas.List.{take-append-le, take_all, map-append}
use Rattle.std.proofs.lemmas.List.Elements.{All-nil, All-push, All-pop, All-map, All-weaker, All-head, All-tail, All-cons}
use Rattle.core_tree.specs.declared.model.Model.{Model}
use Rattle.core_tree.specs.declared.model.Fact.{Fact}
use Rattle.core_tree.specs.declared.model.Body.{Body}
use Rattle.core_tree.specs.declared.tree.Formula.{Formula}
use Rattle.core_tree.specs.declared.operators.TemporalUnary.TheVariants.{Always}
use Rattle.core_tree.specs.Trees.{Claim, claim_of, temporal}
use Rattle.core_meaning.specs.declared.scopes.Scopes.{Scopes}
use Rattle.core_meaning.specs.declared.target.Target.{Target}
use Rattle.core_meaning.specs.Sequence.{LassoValue}
use Rattle.core_meaning.specs.World.{World}
use Rattle.core_meaning.specs.Meaning.{no_names, Holds}
use Rattle.core_meaning.specs.Called.{no_bodies, bodies_of}
use Rattle.core_meaning.specs.Kept.{world_of}
use Rattle.core_meaning.specs.Satisfied.{SatisfiesTarget}
use Rattle.core_window.proofs.SameLemmas.{same_trans, not_same}
use Rattle.form_inline.specs.CallFree.{IsCallFree}
use Rattle.form_inline.specs.Written.{atoms}
use Rattle.form_kernel.specs.Left.{IsLeft}
use Rattle.form_target.specs.Targets.{IsWrittenOut, Adds, none_added, one_added, fact_claims, always_claims, HoldsWith, SayDeclared, IsTargetOf}

-- where a formula without calls holds, so does its kernel
pub written : {E : Type 0} (bodies : List Body) (old flat : Claim) (r : Result Formula E) → IsCallFree flat → ((w : World) (i : ℕ) → Holds w no_bodies flat no_names i ↔ Holds w (bodies_of w bodies) old no_names i) → IfOk r (λ f. IsLeft (claim_of f)) →
    (IsCallFree flat → IfOk r (λ f. (w : World) (m : ℕ → Option ℕ) (i : ℕ) → Holds w no_bodies (claim_of f) (atoms m) i ↔ Holds w no_bodies flat (atoms m) i)) → IfOk r (λ f. IsWrittenOut bodies (claim_of f) old)
written bodies old flat (Ok f) free inlined forms same = record { forms = forms; same = λ w i. same_trans (same free w (λ x. None) i) (inlined w i) }
written bodies old flat (Err e) free inlined forms same = tt

-- a formula fails at the same positions, so `always` says the same of it
pub always_same : (bodies : List Body) (old flat : Claim) → ((w : World) (i : ℕ) → Holds w no_bodies flat no_names i ↔ Holds w (bodies_of w bodies) old no_names i) → (w : World) (i : ℕ) → Holds w no_bodies (temporal Always flat) no_names i ↔ Holds w (bodies_of w bodies) (temporal Always old) no_names i
always_same bodies old flat same w i = not_same ((λ (j, low, fails). (j, low, λ x. fails ((same w j).1 x))), (λ (j, low, fails). (j, low, λ x. fails ((same w j).0 x))))

pub written_always : {E : Type 0} (bodies : List Body) (old flat always : Claim) (r : Result Formula E) → always ≡ temporal Always flat → IsCallFree flat → ((w : World) (i : ℕ) → Holds w no_bodies flat no_names i ↔ Holds w (bodies_of w bodies) old no_names i) → IfOk r (λ f. IsLeft (claim_of f)) →
    (IsCallFree always → IfOk r (λ f. (w : World) (m : ℕ → Option ℕ) (i : ℕ) → Holds w no_bodies (claim_of f) (atoms m) i ↔ Holds w no_bodies always (atoms m) i)) → IfOk r (λ f. IsWrittenOut bodies (claim_of f) (temporal Always old))
written_always bodies old flat always r is free inlined forms same = written bodies (temporal Always old) (temporal Always flat) r free (always_same bodies old flat inlined) forms
    (subst (λ c. IsCallFree c → IfOk r (λ f. (w : World) (m : ℕ → Option ℕ) (i : ℕ) → Holds w no_bodies (claim_of f) (atoms m) i ↔ Holds w no_bodies c (atoms m) i)) is same)

-- what all items of a list have, and what the last has
split : {X : Type 0} (P : X → Type 0) (xs : List X) (x : X) → All P (xs ++ x ∷ []) ↔ (All P xs × P x)
split P xs x = (All-pop P (xs ++ x ∷ []) xs (Some x) refl, λ h. All-push P xs x h.0 h.1)

added_hold : (bodies : List Body) (before now : List Formula) (olds : List Claim) → Adds bodies before now olds → (w : World) → All (λ f. Holds w no_bodies (claim_of f) no_names 0) now ↔ (All (λ f. Holds w no_bodies (claim_of f) no_names 0) before × All (λ c. Holds w (bodies_of w bodies) c no_names 0) olds)
added_hold bodies before _ _ none_added w = ((λ h. (h, All-nil (λ c. Holds w (bodies_of w bodies) c no_names 0))), (λ h. h.0))
added_hold bodies before _ _ (one_added {now} {olds} {old} f rest is) w =
    let New : Formula → Type 0 = λ f. Holds w no_bodies (claim_of f) no_names 0 in
    let Old : Claim → Type 0 = λ c. Holds w (bodies_of w bodies) c no_names 0 in
    let earlier = added_hold bodies before now olds rest w in
    let last = is.same w 0 in (
      (λ h. let both = (split New now f).0 h in ((earlier.0 both.0).0, (split Old olds old).1 ((earlier.0 both.0).1, last.0 both.1))),
      (λ h. let both = (split Old olds old).0 h.1 in (split New now f).1 (earlier.1 (h.0, both.0), last.1 both.1)),
    )

added_left : (bodies : List Body) (before now : List Formula) (olds : List Claim) → Adds bodies before now olds → All (λ f. IsLeft (claim_of f)) before → All (λ f. IsLeft (claim_of f)) now
added_left bodies before _ _ none_added h = h
added_left bodies before _ _ (one_added {now} {olds} {old} f rest is) h = All-push (λ f. IsLeft (claim_of f)) now f (added_left bodies before now olds rest h) is.forms

-- those before are the first
added_length : (bodies : List Body) (before now : List Formula) (olds : List Claim) → Adds bodies before now olds → length before ≤ length now
added_length bodies before _ _ none_added = omega arith
added_length bodies before _ _ (one_added {now} {olds} {old} f rest is) = omega (arith, length-append now (f ∷ []), added_length bodies before now olds rest)

all_taken : {X : Type 0} (xs : List X) → take (length xs) xs ≡ xs
all_taken [] = refl
all_taken (x ∷ xs) = ap (λ r. x ∷ r) (all_taken xs)

added_first : (bodies : List Body) (before now : List Formula) (olds : List Claim) → Adds bodies before now olds → take (length before) now ≡ before
added_first bodies before _ _ none_added = all_taken before
added_first bodies before _ _ (one_added {now} {olds} {old} f rest is) = take-append-le (length before) now (f ∷ []) (added_length bodies before now olds rest) ∙ added_first bodies before now olds rest

-- the same said of the first formulas, by their number
added_from : (bodies : List Body) (before now : List Formula) (olds : List Claim) (first : ℕ) → first ≡ length before → Adds bodies before now olds → Adds bodies (take first now) now olds
added_from bodies before now olds first is adds = subst (λ l. Adds bodies l now olds) (sym (ap (λ n. take n now) is ∙ added_first bodies before now olds adds)) adds

-- one more
pub added_last : (bodies : List Body) (before now new : List Formula) (olds : List Claim) (f : Formula) (old : Claim) → new ≡ now ++ f ∷ [] → Adds bodies before now olds → IsWrittenOut bodies (claim_of f) old → Adds bodies before new (olds ++ old ∷ [])
added_last bodies before now new olds f old one adds is = subst (λ z. Adds bodies before z (olds ++ old ∷ [])) (sym one) (one_added f adds is)

listed : {X : Type 0} (claim : X → Claim) (l : List X) (k next : ℕ) (x : X) → next ≡ k + 1 → k < length l → x ≡ get_or l k x → map claim (take next l) ≡ map claim (take k l) ++ claim x ∷ []
listed claim l k next x two low is =
    let step : next ≡ suc k = omega (arith, two) in
    ap (λ j. map claim (take j l)) step ∙ ap (map claim) (take-suc l k x low) ∙ ap (λ z. map claim (take k l ++ z ∷ [])) (sym is) ∙ map-append claim (take k l) (x ∷ [])

pub added_next : {X : Type 0} (claim : X → Claim) (bodies : List Body) (before now new : List Formula) (l : List X) (k next : ℕ) (x : X) (f : Formula) → new ≡ now ++ f ∷ [] → next ≡ k + 1 → k < length l → x ≡ get_or l k x → Adds bodies before now (map claim (take k l)) → IsWrittenOut bodies (claim_of f) (claim x) → Adds bodies before new (map claim (take next l))
added_next claim bodies before now new l k next x f one two low is adds written = subst (Adds bodies before new) (sym (listed claim l k next x two low is)) (added_last bodies before now new (map claim (take k l)) f (claim x) one adds written)

pub added_whole : {X : Type 0} (claim : X → Claim) (bodies : List Body) (before now : List Formula) (l : List X) (k : ℕ) → length l ≤ k → Adds bodies before now (map claim (take k l)) → Adds bodies before now (map claim l)
added_whole claim bodies before now l k low adds = subst (λ z. Adds bodies before now (map claim z)) (take_all k l low) adds

none_taken : {X : Type 0} (l : List X) → take 0 l ≡ []
none_taken [] = refl
none_taken (x ∷ l) = refl

pub added_nothing : {X : Type 0} (claim : X → Claim) (bodies : List Body) (before : List Formula) (l : List X) → Adds bodies before before (map claim (take 0 l))
added_nothing claim bodies before l = subst (λ z. Adds bodies before before (map claim z)) (sym (none_taken l)) none_added

-- what holds of each formula of a list
each_claim : {X : Type 0} (P : Claim → Type 0) (claim : X → Claim) (l : List X) → All P (map claim l) ↔ All (λ x. P (claim x)) l
each_claim {X} P claim l = (at_each l, All-map P claim l)
  where
    at_each : (l : List X) → All P (map claim l) → All (λ x. P (claim x)) l
    at_each [] h = All-nil (λ x. P (claim x))
    at_each (x ∷ l) h = All-cons (λ x. P (claim x)) x l (All-head P (claim x) (map claim l) h) (at_each l (All-tail P (claim x) (map claim l) h))

-- `always` says that a formula never fails
never_fails : (bodies : List Body) (w : World) (c : Claim) → Holds w (bodies_of w bodies) (temporal Always c) no_names 0 ↔ ((i : ℕ) → ¬ ¬ Holds w (bodies_of w bodies) c no_names i)
never_fails bodies w c = ((λ h i fails. h (i, omega arith, fails)), (λ h (j, low, fails). h j fails))

asked_hold : (bodies : List Body) (declared asked : List Formula) → Adds bodies [] declared (always_claims asked) → (w : World) → All (λ f. Holds w no_bodies (claim_of f) no_names 0) declared ↔ All (λ f. (i : ℕ) → ¬ ¬ Holds w (bodies_of w bodies) (claim_of f) no_names i) asked
asked_hold bodies declared asked adds w =
    let Now : Formula → Type 0 = λ f. Holds w no_bodies (claim_of f) no_names 0 in
    let Old : Claim → Type 0 = λ c. Holds w (bodies_of w bodies) c no_names 0 in
    let each = added_hold bodies [] declared (always_claims asked) adds w in
    let listed = each_claim Old (λ f. temporal Always (claim_of f)) asked in
    let Never : Formula → Type 0 = λ f. (i : ℕ) → ¬ ¬ Holds w (bodies_of w bodies) (claim_of f) no_names i in (
      (λ h. All-weaker (λ f. Old (temporal Always (claim_of f))) Never (λ f. (never_fails bodies w (claim_of f)).0) asked (listed.0 (each.0 h).1)),
      (λ h. each.1 (All-nil Now, listed.1 (All-weaker Never (λ f. Old (temporal Always (claim_of f))) (λ f. (never_fails bodies w (claim_of f)).1) asked h))),
    )

its_scopes_hold : (model : Model) (command : Claim) (declared asked : List Formula) (target : Target) → Adds model.bodies [] declared (always_claims asked) → Adds model.bodies declared target.formulas (fact_claims model.facts ++ command ∷ []) → (lasso : LassoValue) → SatisfiesTarget target lasso ↔ HoldsWith model target.scopes command asked lasso
its_scopes_hold model command declared asked target first adds lasso =
    let w : World = world_of target.scopes lasso in
    let P : Claim → Type 0 = λ c. Holds w (bodies_of w model.bodies) c no_names 0 in
    let each = added_hold model.bodies declared target.formulas (fact_claims model.facts ++ command ∷ []) adds w in
    let ends = split P (fact_claims model.facts) command in
    let facts = each_claim P (λ (f : Fact). claim_of f.formula) model.facts in
    let declarations = asked_hold model.bodies declared asked first w in (
      (λ h. let all = each.0 h.formulas in record { numbers = h.numbers; declared = declarations.0 all.0; facts_hold = facts.0 (ends.0 all.1).0; command_holds = (ends.0 all.1).1 }),
      (λ h. record { numbers = h.numbers; formulas = each.1 (declarations.1 h.declared, ends.1 (facts.1 h.facts_hold, h.command_holds)) }),
    )

target_holds : (model : Model) (scopes : Scopes) (command : Claim) (declared asked : List Formula) (target : Target) → target.scopes ≡ scopes → Adds model.bodies [] declared (always_claims asked) → Adds model.bodies declared target.formulas (fact_claims model.facts ++ command ∷ []) → (lasso : LassoValue) → SatisfiesTarget target lasso ↔ HoldsWith model scopes command asked lasso
target_holds model scopes command declared asked target same first adds lasso = subst (λ s. SatisfiesTarget target lasso ↔ HoldsWith model s command asked lasso) same (its_scopes_hold model command declared asked target first adds lasso)

-- there is a list of what the declarations ask
pub asked_of : {E : Type 0} (model : Model) (asked : List Formula) (r : Result (List Formula) E) → SayDeclared model asked → IfOk r (λ all. Adds model.bodies [] all (always_claims asked)) → IfOk r (λ all. (list : List Formula) × Adds model.bodies [] all (always_claims list) × SayDeclared model list)
asked_of model asked (Ok all) says h = (asked, h, says)
asked_of model asked (Err e) says h = tt

pub target_is : (model : Model) (scopes : Scopes) (command : Claim) (declared : List Formula) (target : Target) (first : ℕ) → target.scopes ≡ scopes → first ≡ length declared → ((asked : List Formula) × Adds model.bodies [] declared (always_claims asked) × SayDeclared model asked) → Adds model.bodies declared target.formulas (fact_claims model.facts ++ command ∷ []) → IsTargetOf model scopes command target first
target_is model scopes command declared target first same count early adds = record {
  asked = early.0;
  says = early.2;
  declared = subst (λ l. Adds model.bodies [] l (always_claims early.0)) (sym (ap (λ n. take n target.formulas) count ∙ added_first model.bodies declared target.formulas (fact_claims model.facts ++ command ∷ []) adds)) early.1;
  parts = added_from model.bodies declared target.formulas (fact_claims model.facts ++ command ∷ []) first count adds;
  same = target_holds model scopes command declared early.0 target same early.1 adds;
}

pub target_left : (model : Model) (declared now : List Formula) (olds : List Claim) → ((asked : List Formula) × Adds model.bodies [] declared (always_claims asked) × SayDeclared model asked) → Adds model.bodies declared now olds → All (λ f. IsLeft (claim_of f)) now
target_left model declared now olds early adds = added_left model.bodies declared now olds adds (added_left model.bodies [] declared (always_claims early.0) early.1 (All-nil (λ f. IsLeft (claim_of f))))
