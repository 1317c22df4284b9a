-- A false clause is resolved back over the last level, and a noted literal below it with all that shows it.
use Rattle.std.proofs.Common.{ℕ, ◌+◌, ◌<◌, ◌≤◌, ◌≡◌, ℤ, List, [], ◌∷◌, ◌++◌, Some, None, length, refl, sym, ap, subst, ◌∙◌, inl, inr, ⊎_elim, arith}
use Rattle.std.specs.List.{Contains}
use Rattle.std.proofs.lemmas.List.Elements.{Contains-append_left, Contains-push, Contains-push_cases}
use Rattle.std.proofs.lemmas.Bool.{cases_lt}
use Rattle.sat_trail.specs.Literal.{index}
use Rattle.sat_trail.specs.Assignment.{value_at}
use Rattle.sat_trail.specs.Watched.{IsFalseIn}
use Rattle.sat_trail.specs.State.{Search, clause_at, IsAttached}
use Rattle.sat_analysis.specs.Noted.{HasVariable}
use Rattle.sat_analysis.specs.Resolved.{Stands, Fails, base, reason_at, IsTaken, IsExplained, AllFail, IsMet, IsBack, IsFound, IsGone, IsLow, IsSpread, IsSpreadTo}
use Rattle.sat_analysis.proofs.Noting.{longer_trans, longer_at, has_longer, covered_longer}
use Rattle.sat_analysis.proofs.Trailing.{new_before, fails_longer, place_fails, false_member, index_at, left_first, base_within}

-- ---- the last level

pub explained_longer : (s : Search) (old new : List ℤ) (j : ℕ) → (ts : List ℤ) × (new ≡ old ++ ts) → IsExplained s old j → IsExplained s new j
explained_longer s old new j l h = record { within = h.within; forced = h.forced; covered = covered_longer old new (reason_at s j) l h.covered }

pub back_start : (s : Search) (i place : ℕ) (old new : List ℤ) (steps : List ℕ) → Stands s → i < length s.ends → IsAttached s i → IsFalseIn s.literals s.ends s.assignment.trail i → old ≡ [] → steps ≡ [] → place ≡ length s.assignment.trail → IsTaken (clause_at s i) old new
    → IsBack s (clause_at s i) new steps place
back_start s i place old new steps t within attached f none empty all taken = record {
  fails = λ q b. false_member s i (value_at new q) f (taken.from q (omega (arith, ap length none)) b).0;
  conflict = taken.covered;
  resolved = λ j c. absurd (omega (arith, c.1, ap length empty));
  done = λ j a b l m. absurd (omega (arith, all, b, l));
  left = λ whole some. let j = left_first s i new t within attached f taken.covered whole some in (j.0, j.1, omega (arith, all, j.2), j.3);
}

-- nothing is noted at the place
pub back_skip : (s : Search) (clause noted : List ℤ) (steps : List ℕ) (place : ℕ) → (IsMet s noted place → ⊥) → IsBack s clause noted steps (place + 1) → IsBack s clause noted steps place
back_skip s clause noted steps place not h = record {
  fails = h.fails;
  conflict = h.conflict;
  resolved = λ j c. let r = h.resolved j c in (r.0, r.1, omega (arith, r.2));
  done = λ j a b l m. ⊎_elim
      (λ (here : j < place + 1). let is : j ≡ place = omega (arith, here, b) in absurd (not (subst (IsMet s noted) is m)))
      (λ (above : place + 1 ≤ j). h.done j a above l m)
      (cases_lt j (place + 1));
  left = λ whole some. let j = h.left whole some in ⊎_elim
      (λ (below : j.0 < place). (j.0, j.1, below, j.3))
      (λ (here : place ≤ j.0). let is : j.0 ≡ place = omega (arith, here, j.2) in absurd (not (subst (IsMet s noted) is j.3)))
      (cases_lt j.0 place);
}

-- the reason of the literal at the place is noted
pub back_resolve : (s : Search) (clause old new : List ℤ) (steps steps' : List ℕ) (place : ℕ) → Stands s → base s ≤ place → place < length s.assignment.trail → IsMet s old place → (Contains s.limits place → ⊥)
    → (0 < length s.limits → (j : ℕ) × (base s ≤ j) × (j < place) × IsMet s old j) → IsTaken (reason_at s place) old new → steps' ≡ steps ++ place ∷ [] → IsBack s clause old steps (place + 1) → IsBack s clause new steps' place
back_resolve s clause old new steps steps' place t up within met forced below taken pushed h =
    let before = new_before s place old new t within forced met taken in
    record {
      fails = fails_longer s old new taken.longer h.fails (λ q a b. let k = before q a b in place_fails s (value_at new q) k.0 k.2 k.3);
      conflict = covered_longer old new clause taken.longer h.conflict;
      resolved = λ j c. ⊎_elim
          (λ (o : Contains steps j). let r = h.resolved j o in (explained_longer s old new j taken.longer r.0, r.1, omega (arith, r.2)))
          (λ (e : place ≡ j). subst (λ (n : ℕ). IsExplained s new n × (base s ≤ n) × (place ≤ n)) e (record { within = within; forced = forced; covered = taken.covered }, up, omega arith))
          (Contains-push_cases steps place j (subst (λ (xs : List ℕ). Contains xs j) pushed c));
      done = λ j a b l m. subst (λ (xs : List ℕ). Contains xs j) (sym pushed) (⊎_elim
          (λ (here : j < place + 1). let is : place ≡ j = omega (arith, here, b) in subst (Contains (steps ++ place ∷ [])) is (Contains-push steps place))
          (λ (above : place + 1 ≤ j). Contains-append_left steps (place ∷ []) j (h.done j a above l (⊎_elim
          (λ (o : m.0 < length old). (m.0, o, ap index (sym (longer_at old new m.0 taken.longer o)) ∙ m.2))
          (λ (n : length old ≤ m.0).
          let k = before m.0 n m.1 in
          let is : k.0 ≡ j = t.apart k.0 j k.2 l (index_at s (value_at new m.0) k.0 k.3 ∙ m.2) in
          absurd (omega (arith, is, k.1, above)))
          (cases_lt m.0 (length old)))))
          (cases_lt j (place + 1)));
      left = λ whole some. let j = below some in (j.0, j.1, j.2, has_longer old new (index (value_at s.assignment.trail j.0)) taken.longer j.3);
    }

pub found_none : (s : Search) (clause noted : List ℤ) (steps : List ℕ) (place : ℕ) → place ≤ base s → IsBack s clause noted steps place → IsFound s clause noted steps None
found_none s clause noted steps place low h = record {
  fails = h.fails;
  conflict = h.conflict;
  resolved = λ j c. let r = h.resolved j c in (r.0, r.1);
  done = λ j a l m. inr (h.done j a (omega (arith, low, a)) l m);
  point_is = tt;
  some = λ whole some. let j = h.left whole some in absurd (omega (arith, low, j.1, j.2));
}

pub found_point : (s : Search) (clause noted : List ℤ) (steps : List ℕ) (place : ℕ) → base s ≤ place → place < length s.assignment.trail → 0 < length s.limits → IsMet s noted place
    → ((j : ℕ) → base s ≤ j → j < place → IsMet s noted j → ⊥) → IsBack s clause noted steps (place + 1) → IsFound s clause noted steps (Some place)
found_point s clause noted steps place up within some met alone h = record {
  fails = h.fails;
  conflict = h.conflict;
  resolved = λ j c. let r = h.resolved j c in (r.0, r.1);
  done = λ j a l m. ⊎_elim
      (λ (below : j < place). absurd (alone j a below m))
      (λ (from : place ≤ j). ⊎_elim
      (λ (here : j < place + 1). let is : place ≡ j = omega (arith, here, from) in inl (ap Some is))
      (λ (above : place + 1 ≤ j). inr (h.done j a above l m))
      (cases_lt j (place + 1)))
      (cases_lt j place);
  point_is = record { within = (up, within); opened = some; met = met; unresolved = λ c. let r = h.resolved place c in omega (arith, r.2) };
  some = λ whole some. refl;
}

-- ---- below the last level

pub gone_longer : (s : Search) (old new : List ℤ) (l : ℤ) → (ts : List ℤ) × (new ≡ old ++ ts) → IsGone s old l → IsGone s new l
gone_longer s old new l longer h = record { place = h.place; low = h.low; at = h.at; explained = explained_longer s old new h.place longer h.explained }

-- a literal is resolved away by its reason
pub gone_by_reason : (s : Search) (old new : List ℤ) (l : ℤ) → (low : IsLow s l) → low.0 < length s.assignment.trail → (Contains s.limits low.0 → ⊥) × IsTaken (reason_at s low.0) old new → IsGone s new l
gone_by_reason s old new l low within h = record { place = low.0; low = low.1; at = low.2; explained = record { within = within; forced = h.0; covered = h.1.covered } }

low_within : (s : Search) (l : ℤ) → Stands s → (low : IsLow s l) → low.0 < length s.assignment.trail
low_within s l t low = omega (arith, base_within s t, low.1)

-- what is noted of the reason of a low literal is low
pub new_low : (s : Search) (old new : List ℤ) (l : ℤ) → Stands s → (low : IsLow s l) → HasVariable old (index l) → (Contains s.limits low.0 → ⊥) × IsTaken (reason_at s low.0) old new
    → (q : ℕ) → length old ≤ q → q < length new → IsLow s (value_at new q) × Fails s (value_at new q)
new_low s old new l t low has h q a b =
    let met : IsMet s old low.0 = subst (HasVariable old) (sym (index_at s l low.0 low.2)) has in
    let k = new_before s low.0 old new t (low_within s l t low) h.0 met h.1 q a b in
    ((k.0, omega (arith, k.1, low.1), k.3), place_fails s (value_at new q) k.0 k.2 k.3)

-- what a literal's reason says where it is asked by the variable
abbrev pub SaysTaken : Search → List ℤ → List ℤ → ℤ → Type 0
SaysTaken s old new l = (j : ℕ) → j < length s.assignment.trail → index (value_at s.assignment.trail j) ≡ index l → (Contains s.limits j → ⊥) × IsTaken (reason_at s j) old new

pub spread_start : (s : Search) (old new : List ℤ) (l : ℤ) → Stands s → IsLow s l → HasVariable old (index l) → AllFail s old → SaysTaken s old new l → IsSpreadTo s old new l (length old)
spread_start s old new l t low has fails says =
    let within = low_within s l t low in
    let h = says low.0 within (index_at s l low.0 low.2) in
    let fresh = new_low s old new l t low has h in
    record {
      longer = h.1.longer;
      fails = fails_longer s old new h.1.longer fails (λ q a b. (fresh q a b).1);
      gone = gone_by_reason s old new l low within h;
      low = λ q a b. (fresh q a b).0;
      rest = λ q a b c. absurd (omega (arith, a, b));
    }

pub spread_more : (s : Search) (old now new : List ℤ) (l : ℤ) (place : ℕ) → Stands s → length old ≤ place → place < length now → SaysTaken s now new (value_at now place) → IsSpreadTo s old now l place → IsSpreadTo s old new l (place + 1)
spread_more s old now new l place t from within says h =
    let x = value_at now place in
    let low = h.low place from within in
    let there = low_within s x t low in
    let taken = says low.0 there (index_at s x low.0 low.2) in
    let fresh = new_low s now new x t low (place, within, refl) taken in
    record {
      longer = longer_trans old now new h.longer taken.1.longer;
      fails = fails_longer s now new taken.1.longer h.fails (λ q a b. (fresh q a b).1);
      gone = gone_longer s now new l taken.1.longer h.gone;
      low = λ q a b. ⊎_elim
          (λ (o : q < length now). subst (IsLow s) (sym (longer_at now new q taken.1.longer o)) (h.low q a o))
          (λ (n : length now ≤ q). (fresh q n b).0)
          (cases_lt q (length now));
      rest = λ q a b c. ⊎_elim
          (λ (o : q < place). let below : q < length now = omega (arith, o, within) in subst (IsGone s new) (sym (longer_at now new q taken.1.longer below)) (gone_longer s now new (value_at now q) taken.1.longer (h.rest q a o below)))
          (λ (n : place ≤ q). let is : place ≡ q = omega (arith, n, b) in subst (λ (m : ℕ). IsGone s new (value_at new m)) is (subst (IsGone s new) (sym (longer_at now new place taken.1.longer within)) (gone_by_reason s now new x low there taken)))
          (cases_lt q place);
    }

pub spread_all : (s : Search) (old new : List ℤ) (l : ℤ) (place : ℕ) → length new ≤ place → IsSpreadTo s old new l place → IsSpread s old new l
spread_all s old new l place all h = record { longer = h.longer; fails = h.fails; gone = h.gone; rest = λ q a b. h.rest q a (omega (arith, b, all)) b }
