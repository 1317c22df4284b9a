-- A walk asks for nothing but the literals of clauses that have marks.
use Rattle.std.proofs.Common.{◌≡◌, ℕ, ◌<◌, ℤ, pos, negsuc, neg_ℤ, Bool, true, false, cond, ◌||◌, List, [], ◌∷◌, Option, Some, None, IfSome, refl, ap, ◌∙◌, arith}
use Rattle.std.specs.Ordering.{int_eq}
use Rattle.std.specs.List.{AllByRecursion}
use Rattle.std.proofs.lemmas.List.Elements.{recursion_from_All}
use Rattle.sat_lrat.specs.declared.line.Rest.{Rest}
use Rattle.sat_lrat.specs.declared.line.Rest.TheVariants.{Nothing, One, Several}
use Rattle.sat_lrat.specs.Step.{beside, rest_of, with_literal, at_rest, at_hint, walk}
use Rattle.sat_checker.specs.Answers.{IfOne}
use Rattle.sat_checker.specs.Marks.{slot_of, HasMarks, IsCovered, AreCovered}
use Rattle.sat_checker.proofs.Marking.{negated}

pub slot_below : (n : ℕ) (literal : ℤ) → HasMarks n literal → slot_of literal < n
slot_below n (pos k) h = omega (arith, h.room)
slot_below n (negsuc k) h = omega (arith, h.room)

-- two tests agree on the literals that have marks
abbrev Agree : ℕ → (ℤ → Bool) → (ℤ → Bool) → Type 0
Agree n fails others = (x : ℤ) → slot_of x < n → fails x ≡ others x

rest_of-agree : (n : ℕ) (fails others : ℤ → Bool) → Agree n fails others → (clause : List ℤ) → AllByRecursion (HasMarks n) clause → rest_of fails clause ≡ rest_of others clause
rest_of-agree n fails others same [] h = refl
rest_of-agree n fails others same (x ∷ xs) h =
    ap (λ b. cond b (rest_of fails xs) (beside x (rest_of fails xs))) (same x (slot_below n x h.0))
    ∙ ap (λ r. cond (others x) r (beside x r)) (rest_of-agree n fails others same xs h.1)

beside-one : (P : ℤ → Type 0) (x : ℤ) (rest : Rest) → P x → IfOne (beside x rest) P
beside-one P x Nothing p = p
beside-one P x (One other) p = elim (int_eq x other) as (λ b. IfOne (cond b (One x) Several) P) [ true ↦ p | false ↦ tt ]
beside-one P x Several p = tt

rest_of-one : (P : ℤ → Type 0) (fails : ℤ → Bool) (clause : List ℤ) → AllByRecursion P clause → IfOne (rest_of fails clause) P
rest_of-one P fails [] h = tt
rest_of-one P fails (x ∷ xs) h =
    elim (fails x) as (λ b. IfOne (cond b (rest_of fails xs) (beside x (rest_of fails xs))) P) [
      | true ↦ rest_of-one P fails xs h.1
      | false ↦ beside-one P x (rest_of fails xs) h.0
    ]

at_rest-agree : (n : ℕ) (fails others : ℤ → Bool) → Agree n fails others → (next later : ℤ → Option ℕ) → ((x : ℤ) → HasMarks n x → next x ≡ later x)
    → (rest : Rest) → IfOne rest (HasMarks n) → at_rest fails next rest ≡ at_rest others later rest
at_rest-agree n fails others same next later on Nothing h = refl
at_rest-agree n fails others same next later on (One x) h =
    ap (λ b. cond b (Some 3) (next x)) (same (neg_ℤ x) (slot_below n (neg_ℤ x) (negated n x h))) ∙ ap (λ r. cond (others (neg_ℤ x)) (Some 3) r) (on x h)
at_rest-agree n fails others same next later on Several h = refl

at_hint-agree : (n : ℕ) (fails others : ℤ → Bool) → Agree n fails others → (next later : ℤ → Option ℕ) → ((x : ℤ) → HasMarks n x → next x ≡ later x)
    → (found : Option (List ℤ)) → IfSome found (IsCovered n) → at_hint fails next found ≡ at_hint others later found
at_hint-agree n fails others same next later on None h = refl
at_hint-agree n fails others same next later on (Some clause) h =
    let each = recursion_from_All (HasMarks n) clause h in
    ap (at_rest fails next) (rest_of-agree n fails others same clause each)
    ∙ at_rest-agree n fails others same next later on (rest_of others clause) (rest_of-one (HasMarks n) others clause each)

pub walk_agree : (n : ℕ) (clause_of : ℕ → Option (List ℤ)) (fails others : ℤ → Bool) (hints : List ℕ) → AreCovered n clause_of → ((x : ℤ) → slot_of x < n → fails x ≡ others x)
    → walk clause_of fails hints ≡ walk clause_of others hints
walk_agree n clause_of fails others [] covered same = refl
walk_agree n clause_of fails others (hint ∷ hints) covered same =
    at_hint-agree n fails others same _ _
    (λ x h. walk_agree n clause_of (with_literal (neg_ℤ x) fails) (with_literal (neg_ℤ x) others) hints covered (λ y below. ap (λ b. int_eq (neg_ℤ x) y || b) (same y below)))
    (clause_of hint) (covered hint)
