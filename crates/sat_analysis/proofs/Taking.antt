-- Steps of the analysis, in the words of what it calls.
use Rattle.std.proofs.Common.{ℕ, ◌+◌, ◌-◌, ◌<◌, ◌≤◌, ◌≡◌, ℤ, pos, neg_ℤ, Bool, true, false, List, [], ◌∷◌, ◌++◌, Option, Some, length, take, slice_get, refl, sym, ap, subst, ◌∙◌, ⊎_elim, ◌↔◌, arith, append-nil}
use Rattle.std.specs.List.{All, Contains}
use Rattle.std.proofs.lemmas.List.{take_all, take-append-le}
use Rattle.std.proofs.lemmas.List.Elements.{All-from_get_or, Contains-get_or}
use Rattle.std.proofs.lemmas.Bool.{cases_lt, false≢true}
use Rattle.sat_trail.specs.Literal.{index, IsLiteral}
use Rattle.sat_trail.specs.Assignment.{value_at}
use Rattle.sat_trail.specs.State.{Search, clause_at}
use Rattle.sat_trail.specs.Reasons.{reason_of, AreApart, AreReasoned}
use Rattle.sat_analysis.specs.Noted.{HasVariable}
use Rattle.sat_analysis.specs.Resolved.{Stands, Fails, level, base, IsTaken, AllFail, IsMet, IsMetIn, IsBack, IsFound, IsLow, IsSpread, IsParted, IsClosed}
use Rattle.sat_analysis.specs.Hints.{reasons_from, IsPlaced, IsAnalysed}
use Rattle.sat_analysis.proofs.Noting.{longer_length}
use Rattle.sat_analysis.proofs.Trailing.{slice_got, not_opened, low_place, place_fails, fails_literal}
use Rattle.sat_analysis.proofs.Stepping.{SaysTaken, back_skip, back_resolve, found_point}
use Rattle.sat_analysis.proofs.Parting.{placed_more, parted_high, parted_kept, parted_lost, analysed}

-- ---- the last level

-- one place more at which nothing was noted
pub none_more : (literals noted : List ℤ) (place to : ℕ) (r : Bool) → 0 < place → (r ≡ true) ↔ IsMetIn literals noted (place - 1) → r ≡ false → ((j : ℕ) → place ≤ j → j < to → IsMetIn literals noted j → ⊥)
    → (j : ℕ) → place - 1 ≤ j → j < to → IsMetIn literals noted j → ⊥
none_more literals noted place to r some tied not h j a b m = ⊎_elim
    (λ (here : j < place). let is : j ≡ place - 1 = omega (arith, here, a, some) in false≢true (sym not ∙ tied.1 (subst (IsMetIn literals noted) is m)))
    (λ (above : place ≤ j). h j above b m)
    (cases_lt j place)

-- what is known of a literal's reason
abbrev pub SaysReason : Search → ℕ → ℤ → Type 0
SaysReason s n l = (j : ℕ) → j < length s.assignment.trail → index (value_at s.assignment.trail j) ≡ index l → (n ≡ reason_of s.assignment j) × (Contains s.limits j → ⊥)

pub said_taken : (s : Search) (n : ℕ) (l : ℤ) (old new : List ℤ) → SaysReason s n l → IsTaken (clause_at s (n - 1)) old new → SaysTaken s old new l
said_taken s n l old new says taken j h e = let r = says j h e in (r.1, subst (λ (m : ℕ). IsTaken (clause_at s (m - 1)) old new) r.0 taken)

pub resolve_step : (s : Search) (clause old new : List ℤ) (steps steps' : List ℕ) (place n : ℕ) (l : ℤ) → Stands s → base s ≤ place → place < length s.assignment.trail → IsMet s old place
    → (0 < length s.limits → (j : ℕ) × (base s ≤ j) × (j < place) × IsMet s old j) → l ≡ value_at s.assignment.trail place → SaysReason s n l → IsTaken (clause_at s (n - 1)) old new → steps' ≡ steps ++ place ∷ []
    → IsBack s clause old steps (place + 1) → IsBack s clause new steps' place
resolve_step s clause old new steps steps' place n l t up within met below at says taken pushed h =
    let r = said_taken s n l old new says taken place within (ap index (sym at)) in
    back_resolve s clause old new steps steps' place t up within met r.0 below r.1 pushed h

pub resolve_chosen : (s : Search) (old : List ℤ) (place : ℕ) (l : ℤ) → Stands s → base s ≤ place → place < length s.assignment.trail
    → (0 < length s.limits → (j : ℕ) × (base s ≤ j) × (j < place) × IsMet s old j) → l ≡ value_at s.assignment.trail place
    → ((j : ℕ) → j < length s.assignment.trail → index (value_at s.assignment.trail j) ≡ index l → Contains s.limits j) → ⊥
resolve_chosen s old place l t up within below at chosen =
    not_opened s place t up (λ some. let j = below some in (j.0, j.1, j.2)) (chosen place within (ap index (sym at)))

pub literals_in : (s : Search) (n : ℕ) (xs : List ℤ) → Stands s → n ≡ s.variables → xs ≡ s.assignment.trail → All (IsLiteral n) xs
literals_in s n xs t e f = subst (λ (m : ℕ). All (IsLiteral m) xs) (sym e) (subst (All (IsLiteral s.variables)) (sym f) t.literal)

pub met_there : (s : Search) (xs noted : List ℤ) (j : ℕ) → xs ≡ s.assignment.trail → IsMetIn xs noted j → IsMet s noted j
met_there s xs noted j e m = subst (λ (ys : List ℤ). IsMetIn ys noted j) e m

pub met_here : (s : Search) (xs noted : List ℤ) (j : ℕ) → xs ≡ s.assignment.trail → IsMet s noted j → IsMetIn xs noted j
met_here s xs noted j e m = subst (λ (ys : List ℤ). IsMetIn ys noted j) (sym e) m

pub skip_step : (s : Search) (clause xs noted : List ℤ) (steps : List ℕ) (place : ℕ) (r : Bool) → xs ≡ s.assignment.trail → (r ≡ true) ↔ IsMetIn xs noted place → r ≡ false → IsBack s clause noted steps (place + 1) → IsBack s clause noted steps place
skip_step s clause xs noted steps place r e tied not h = back_skip s clause noted steps place (λ m. false≢true (sym not ∙ tied.1 (met_here s xs noted place e m))) h

pub found_step : (s : Search) (clause old noted : List ℤ) (steps steps' : List ℕ) (at : ℕ) → base s < at → at ≤ length s.assignment.trail
    → (0 < length s.limits) × IsMet s old (at - 1) × ((j : ℕ) → base s ≤ j → j < at - 1 → IsMet s old j → ⊥) → (noted ≡ old) × (steps' ≡ steps) → IsBack s clause old steps at → IsFound s clause noted steps' (Some (at - 1))
found_step s clause old noted steps steps' at up within point same h =
    let last : at ≡ (at - 1) + 1 = omega (arith, up) in
    subst (λ (xs : List ℤ). IsFound s clause xs steps' (Some (at - 1))) (sym same.0) (subst (λ (js : List ℕ). IsFound s clause old js (Some (at - 1))) (sym same.1)
    (found_point s clause old steps (at - 1) (omega (arith, up)) (omega (arith, up, within)) point.0 point.1 point.2 (subst (IsBack s clause old steps) last h)))

pub back_step : (s : Search) (clause old : List ℤ) (steps : List ℕ) (at : ℕ) → 0 < at → IsBack s clause old steps at → IsBack s clause old steps ((at - 1) + 1)
back_step s clause old steps at some h = let last : at ≡ (at - 1) + 1 = omega (arith, some) in subst (IsBack s clause old steps) last h

-- ---- the places of what is resolved away

pub placed_step : (s : Search) (literals : List ℤ) (start at : ℕ) (l : ℤ) (place : ℕ) (old now new : List ℕ) → start ≤ at → at < length literals → l ≡ value_at literals at → AllFail s literals
    → (Contains s.assignment.trail (neg_ℤ l) → slice_get s.assignment.trail place ≡ Some (neg_ℤ l)) → new ≡ now ++ place ∷ [] → IsPlaced s literals start at old now → IsPlaced s literals start (at + 1) old new
placed_step s literals start at l place old now new from within is fails says pushed h =
    let there = slice_got s.assignment.trail place (neg_ℤ l) (says (subst (Fails s) (sym is) (fails at within))) in
    placed_more s literals start at place old now new from there.0 (there.1 ∙ ap neg_ℤ is) pushed h

-- ---- the parting

pub high_step : (s : Search) (first place : ℕ) (noted learnt dropped : List ℤ) (l : ℤ) (n : ℕ) → l ≡ value_at noted place → n ≡ level s l → length s.limits ≤ n → IsParted s first place noted learnt dropped → IsParted s first (place + 1) noted learnt dropped
high_step s first place noted learnt dropped l n at is high h = parted_high s first place noted learnt dropped (omega (arith, is, high, ap (level s) at)) h

pub kept_step : (s : Search) (first place : ℕ) (old noted learnt learnt' dropped : List ℤ) (l : ℤ) (n : ℕ) → AreApart old → place < length old → l ≡ value_at old place → n ≡ level s l → n < length s.limits → noted ≡ old → learnt' ≡ learnt ++ l ∷ []
    → IsParted s first place old learnt dropped → IsParted s first (place + 1) noted learnt' dropped
kept_step s first place old noted learnt learnt' dropped l n apart within at is low same pushed h =
    subst (λ (xs : List ℤ). IsParted s first (place + 1) xs learnt' dropped) (sym same)
    (parted_kept s first place old learnt learnt' dropped apart within (omega (arith, is, low, ap (level s) at)) (pushed ∙ ap (λ (x : ℤ). learnt ++ x ∷ []) at) h)

pub lost_step : (s : Search) (first place : ℕ) (old new learnt dropped dropped' : List ℤ) (l : ℤ) → AreApart old → place < first → first ≤ length old → l ≡ value_at old place → IsSpread s old new l → dropped' ≡ dropped ++ l ∷ []
    → IsParted s first place old learnt dropped → IsParted s first (place + 1) new learnt dropped'
lost_step s first place old new learnt dropped dropped' l apart before all at spread pushed h =
    parted_lost s first place old new learnt dropped dropped' apart before all (subst (IsSpread s old new) at spread) (pushed ∙ ap (λ (x : ℤ). dropped ++ x ∷ []) at) h

pub low_step : (s : Search) (noted : List ℤ) (place : ℕ) (l : ℤ) (n : ℕ) → Stands s → AllFail s noted → place < length noted → l ≡ value_at noted place → n ≡ level s l → n < length s.limits → IsLow s l
low_step s noted place l n t fails within at is low = low_place s l t (subst (Fails s) (sym at) (fails place within)) (omega (arith, is, low))

pub has_step : (noted : List ℤ) (place : ℕ) (l : ℤ) → place < length noted → l ≡ value_at noted place → HasVariable noted (index l)
has_step noted place l within at = (place, within, ap index (sym at))

-- ---- lists

pub cut_front : (xs ys : List ℤ) (n : ℕ) → n ≡ length xs → (ts : List ℤ) × (ys ≡ xs ++ ts) → take n ys ≡ xs
cut_front xs ys n e l = ap (take n) l.1 ∙ (take-append-le n xs l.0 (omega (arith, e)) ∙ take_all n xs (omega (arith, e)))

pub cut_within : (xs ys : List ℤ) (n : ℕ) → n ≡ length xs → (ts : List ℤ) × (ys ≡ xs ++ ts) → n ≤ length ys
cut_within xs ys n e l = omega (arith, e, longer_length xs ys l)

pub same_longer : (xs ys : List ℤ) → ys ≡ xs → (ts : List ℤ) × (ys ≡ xs ++ ts)
same_longer xs ys e = ([], e ∙ sym (append-nil xs))

-- ---- all together

pub stands_by : (s : Search) (xs : List ℤ) → xs ≡ s.assignment.trail → All (IsLiteral s.variables) xs → AreApart xs → AreReasoned s → Stands s
stands_by s xs e literals apart reasoned = record { reasoned = reasoned; apart = subst AreApart e apart; literal = subst (All (IsLiteral s.variables)) e literals }

pub all_fail_literals : (s : Search) (xs : List ℤ) → Stands s → AllFail s xs → All (IsLiteral s.variables) xs
all_fail_literals s xs t h = All-from_get_or (IsLiteral s.variables) xs (pos 0) (λ q b. fails_literal s (value_at xs q) t (h q b))

pub dropped_fail : (s : Search) (first p : ℕ) (noted learnt dropped : List ℤ) → IsParted s first p noted learnt dropped → AllFail s dropped
dropped_fail s first p noted learnt dropped h q b =
    let g = (h.lost (value_at dropped q) (Contains-get_or dropped q (pos 0) b)).1 in
    place_fails s (value_at dropped q) g.place g.explained.within g.at

pub analysed_step : (s : Search) (clause old noted learnt dropped xs ys literals : List ℤ) (steps some places : List ℕ) (point : Option ℕ) (met : ℕ) → Stands s → AreApart ys → met ≡ length old → (ts : List ℤ) × (noted ≡ old ++ ts)
    → IsFound s clause old steps point → IsParted s (length old) (length old) noted learnt dropped → xs ≡ dropped → IsPlaced s xs 0 (length xs) steps some → ys ≡ noted → IsPlaced s ys met (length ys) some places → IsClosed s point learnt literals
    → ((l : ℤ) → Contains clause l → Fails s l) → IsAnalysed s clause noted literals places
analysed_step s clause old noted learnt dropped xs ys literals steps some places point met t apart met_is longer found parted xs_is one ys_is two closed false_clause =
    analysed s clause old noted learnt dropped literals steps some places point (length old) t (subst AreApart ys_is apart) refl longer found parted
    (subst (λ (zs : List ℤ). IsPlaced s zs 0 (length zs) steps some) xs_is one)
    (subst (λ (zs : List ℤ). IsPlaced s zs (length old) (length zs) some places) ys_is (subst (λ (n : ℕ). IsPlaced s ys n (length ys) some places) met_is two))
    closed false_clause

pub analysed_places : (s : Search) (clause noted literals : List ℤ) (places : List ℕ) → IsAnalysed s clause noted literals places → (j : ℕ) → Contains places j → (j < length s.assignment.trail) × (Contains s.limits j → ⊥)
analysed_places s clause noted literals places h j c = let e = (h.resolved j c).0 in (e.within, e.forced)

pub hints_are : (s : Search) (old gathered pushed xs sorted : List ℕ) (conflict : ℕ) → 0 < conflict → old ≡ [] → xs ≡ sorted → gathered ≡ old ++ reasons_from s 0 xs → pushed ≡ gathered ++ conflict ∷ []
    → pushed ≡ reasons_from s 0 sorted ++ ((conflict - 1) + 1) ∷ []
hints_are s old gathered pushed xs sorted conflict some none same gathered_is pushed_is =
    let number : conflict ≡ (conflict - 1) + 1 = omega (arith, some) in
    pushed_is
    ∙ (ap (λ (g : List ℕ). g ++ conflict ∷ []) (gathered_is ∙ (ap (λ (hs : List ℕ). hs ++ reasons_from s 0 xs) none ∙ ap (reasons_from s 0) same))
    ∙ ap (λ (n : ℕ). reasons_from s 0 sorted ++ n ∷ []) number)
