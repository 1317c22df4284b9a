-- A search goes on: literals are forced, levels are opened and taken back, and lemmas are added.
use Rattle.std.proofs.Common.{ℕ, zero, suc, ◌+◌, ◌-◌, ◌*◌, ◌<◌, ◌≤◌, ◌≡◌, ◌≢◌, ◌^◌, ℤ, pos, negsuc, neg_ℤ, Bool, true, false, not, ◌↔◌, List, [], ◌∷◌, ◌++◌, length, get_or, set, take, Option, Some, None, IfSome, IfNone, Result, Ok, Err, IsOk, refl, sym, ap, subst, ◌∙◌, inl, inr, ◌⊎◌, ⊎_elim, arith, mul_comm, length-append}
use Rattle.std.specs.List.{All, Contains}
use Rattle.std.proofs.lemmas.Bool.{cases_lt}
use Rattle.std.proofs.lemmas.List.{get_or_default}
use Rattle.std.proofs.lemmas.List.Elements.{All-from_get_or}
use Rattle.std.proofs.lemmas.List.Folds.{list_any_at}
use Rattle.std.proofs.lemmas.Nat.{mul-add-lt}
use Rattle.sat_lrat.specs.declared.line.Line.{Line}
use Rattle.sat_lrat.specs.declared.line.Line.TheVariants.{Lemma}
use Rattle.sat_lrat.specs.Step.{State, step, start, with_clause}
use Rattle.sat_lrat.specs.Spent.{IsNewClause, Spends}
use Rattle.sat_lemmas.specs.Outcome.{AreLemmas, IsTaken, Leaves}
use Rattle.sat_lemmas.specs.declared.log.Taken.{Taken}
use Rattle.sat_lemmas.specs.declared.log.Taken.TheVariants.{Added, Refuted, Failed}
use Rattle.sat_dimacs.specs.Literal.{literal_value, clause_value, value_of, IsSolution}
use Rattle.sat_trail.specs.Literal.{index, sign, IsLiteral}
use Rattle.sat_trail.specs.Assignment.{value_at, IsTold}
use Rattle.sat_trail.specs.Watched.{IsArena, IsTrueIn}
use Rattle.sat_trail.specs.Sound.{IsFree, IsOpen}
use Rattle.sat_trail.specs.State.{Search, clause_at, Keeps, Adds, IsAttached}
use Rattle.sat_trail.specs.Reasons.{AreReasoned}
use Rattle.sat_analysis.specs.Resolved.{AreWhole}
use Rattle.sat_analysis.specs.Learnt.{AreFilled, IsAsserting, IsLearnt}
use Rattle.sat_dropped.specs.Entries.{Entries, list_at, HasEntry, entry_count, AreFiled}
use Rattle.sat_solver.specs.Shared.{AreShared}
use Rattle.sat_solver.specs.News.{behind, AreNew, AreHeld, AreFirst}
use Rattle.sat_solver.specs.Covered.{AreCovered, IsIndexed, HasNoPart, Drops}
use Rattle.sat_solver.specs.Searched.{IsSearch, AreTrue, IsFull}
use Rattle.sat_solver.specs.Remaining.{remaining}
use Rattle.sat_solver.specs.Turn.{IsKept, AreWithin, GoesOn, left}
use Rattle.sat_solver.proofs.Sharing.{same_clause, shared_start, shared_kept, passes_step, lemma_passes, lemma_shared}
use Rattle.sat_solver.proofs.Wholeness.{clause_has, IsSettled, whole_flat, whole_longer, whole_opened, whole_undone, whole_added, whole_fewer, two_free_undone}
use Rattle.sat_solver.proofs.Covering.{indexed_moved, indexed_added, indexed_none, covered_same, covered_added, covered_back, covered_fewer, first_same, first_added, first_back, first_fewer, filled_settled, new_beside, covered_start, first_start}
use Rattle.sat_solver.proofs.News.{new_clause, behind_push, new_push, last_filled, filled_lemma, spends_by, further}
use Rattle.sat_solver.proofs.Counting.{fewer, within_powers, some_powers}

-- ---- clauses that the trail has

held_moved : (s t : Search) (cs : List (List ℤ)) → t.literals ≡ s.literals → t.ends ≡ s.ends → AreHeld s cs → AreHeld t cs
held_moved s t cs literals ends h k b = let i = h k b in (i.0, omega (arith, i.1, ap length ends), same_clause s t i.0 literals ends ∙ i.2)

held_more : (s t : Search) (cs : List (List ℤ)) (clause : List ℤ) → Adds s t clause → AreHeld s cs → AreHeld t cs
held_more s t cs clause added h k b = let i = h k b in (i.0, omega (arith, i.1, added.count), added.others i.0 i.1 ∙ i.2)

held_new : (s t : Search) (cs : List (List ℤ)) (clause : List ℤ) → Adds s t clause → AreHeld s cs → AreHeld t (clause ∷ cs)
held_new s t cs clause added h zero b = (length s.ends, omega (arith, added.count), added.last)
held_new s t cs clause added h (suc k) b = held_more s t cs clause added h k (omega (arith, b))

filled_moved : (s t : Search) → t.literals ≡ s.literals → t.ends ≡ s.ends → AreFilled s → AreFilled t
filled_moved s t literals ends h i b = subst (λ (xs : List ℤ). 0 < length xs) (sym (same_clause s t i literals ends)) (h i (omega (arith, b, ap length ends)))

filled_more : (s t : Search) (clause : List ℤ) → Adds s t clause → 0 < length clause → AreFilled s → AreFilled t
filled_more s t clause added some h i b = ⊎_elim
    (λ (old : i < length s.ends). subst (λ (xs : List ℤ). 0 < length xs) (sym (added.others i old)) (h i old))
    (λ (new : length s.ends ≤ i).
    let is : i ≡ length s.ends = omega (arith, new, b, added.count) in
    subst (λ (xs : List ℤ). 0 < length xs) (sym (ap (clause_at t) is ∙ added.last)) some)
    (cases_lt i (length s.ends))

-- a clause that is learnt above level 0 is learnt where none is empty
filled_above : (s : Search) (literals : List ℤ) (lines : List Line) → IsAsserting s literals → 0 < length literals → AreFilled s ⊎ ((length s.limits ≡ 0) × (length lines ≡ 0)) → AreFilled s
filled_above s literals lines asserting some h = ⊎_elim
    (λ (f : AreFilled s). f)
    (λ (flat : (length s.limits ≡ 0) × (length lines ≡ 0)). absurd (omega (arith, some, ap length (asserting.empty flat.0))))
    h

-- ---- steps

pub search_starts : (s : Search) (formula : List (List ℤ)) (lines : List Line) (state : State) (count : ℕ) (d : Entries) → Keeps s formula → s.limits ≡ [] → lines ≡ [] → state ≡ start formula → AreLemmas (start formula) lines state
    → count ≡ length formula → d.variables ≡ s.variables → ((c : ℕ) → (list_at d.signatures c ≡ []) × (list_at d.numbers c ≡ [])) → IsSearch formula lines state s count d
search_starts s formula lines state count d keeps flat none is lemmas first variables empty =
    let held : AreHeld s formula = λ k b. (k, omega (arith, b, keeps.count), keeps.each k b) in
    record {
      lemmas = lemmas;
      shared = subst (AreShared s) (sym is) (shared_start s formula keeps);
      first = first;
      held = first_start s formula keeps;
      earlier = subst (λ (ls : List Line). AreHeld s (behind formula ls)) (sym none) held;
      covered = covered_start s d formula keeps;
      indexed = indexed_none s d variables empty;
      whole = whole_flat s flat;
      filled = inr (ap length flat, ap length none);
      filled_too = λ all i b.
          let within : i < length formula = omega (arith, b, keeps.count) in
          subst (λ (xs : List ℤ). 0 < length xs) (sym (keeps.each i within)) (all i [] within);
      fresh = subst (AreNew formula) (sym none) tt;
      fewer = subst (λ (ls : List Line). length ls + remaining s.variables (behind formula ls) ≤ remaining s.variables formula) (sym none) (omega arith);
    }

-- no clause changes, but which are attached and have entries may
search_moved : (s t : Search) (formula : List (List ℤ)) (lines : List Line) (state : State) (count : ℕ) (d e : Entries) → t.literals ≡ s.literals → t.ends ≡ s.ends → t.variables ≡ s.variables → AreFirst t formula → AreCovered t e → IsIndexed t e → AreWhole t
    → AreFilled s ⊎ ((length t.limits ≡ 0) × (length lines ≡ 0)) → IsSearch formula lines state s count d → IsSearch formula lines state t count e
search_moved s t formula lines state count d e literals ends variables held covered indexed whole filled h = record {
  lemmas = h.lemmas;
  shared = shared_kept s t state literals ends h.shared;
  first = h.first;
  held = held;
  earlier = held_moved s t (behind formula lines) literals ends h.earlier;
  covered = covered;
  indexed = indexed;
  whole = whole;
  filled = ⊎_elim (λ (f : AreFilled s). inl (filled_moved s t literals ends f)) (λ (flat : (length t.limits ≡ 0) × (length lines ≡ 0)). inr flat) filled;
  filled_too = λ all. filled_moved s t literals ends (h.filled_too all);
  fresh = h.fresh;
  fewer = subst (λ (n : ℕ). length lines + remaining n (behind formula lines) ≤ remaining n formula) (sym variables) h.fewer;
}

-- nor does what is attached
search_same : (s t : Search) (formula : List (List ℤ)) (lines : List Line) (state : State) (count : ℕ) (d : Entries) → t.literals ≡ s.literals → t.ends ≡ s.ends → t.variables ≡ s.variables → t.attached ≡ s.attached → AreWhole t
    → AreFilled s ⊎ ((length t.limits ≡ 0) × (length lines ≡ 0)) → IsSearch formula lines state s count d → IsSearch formula lines state t count d
search_same s t formula lines state count d literals ends variables attached whole filled h =
    search_moved s t formula lines state count d d literals ends variables (first_same s t formula literals ends attached h.held) (covered_same s t d ends attached h.covered) (indexed_moved s t d literals ends variables h.indexed) whole filled h

-- no clause is empty, or none was met
filled_flat : (s t : Search) (lines : List Line) → (length s.limits ≡ 0 → length t.limits ≡ 0) → AreFilled s ⊎ ((length s.limits ≡ 0) × (length lines ≡ 0)) → AreFilled s ⊎ ((length t.limits ≡ 0) × (length lines ≡ 0))
filled_flat s t lines flat h = ⊎_elim (λ (f : AreFilled s). inl f) (λ (none : (length s.limits ≡ 0) × (length lines ≡ 0)). inr (flat none.0, none.1)) h

-- the trail goes back and has the learnt clause
pub kept_whole : (s u t : Search) (literals : List ℤ) (hints : List ℕ) (back : ℕ) → AreReasoned s → IsArena s.literals s.ends s.variables → length s.attached ≡ length s.ends → u.literals ≡ s.literals → u.ends ≡ s.ends → u.variables ≡ s.variables → u.attached ≡ s.attached
    → u.assignment.trail ≡ take (get_or s.limits back (length s.assignment.trail)) s.assignment.trail → u.limits ≡ take back s.limits → Adds u t literals → t.assignment ≡ u.assignment → t.limits ≡ u.limits → IsLearnt s literals hints back → AreWhole s → AreWhole t
kept_whole s u t literals hints back r arena flags same_literals same_ends same_variables attached trail limits added assignment same_limits learnt whole =
    let arena_u : IsArena u.literals u.ends u.variables =
    subst (λ (l : List ℤ). IsArena l u.ends u.variables) (sym same_literals) (subst (λ (e : List ℕ). IsArena s.literals e u.variables) (sym same_ends) (subst (λ (n : ℕ). IsArena s.literals s.ends n) (sym same_variables) arena)) in
    let flags_u : length u.attached ≡ length u.ends = omega (arith, flags, ap length attached, ap length same_ends) in
    whole_added u t literals arena_u flags_u added assignment same_limits (λ f a. two_free_undone s u back f literals r trail limits a (learnt.two_free whole)) (whole_undone s u back r same_literals same_ends attached trail limits whole)

-- a learnt clause is new
learnt_is_new : (s : Search) (formula : List (List ℤ)) (lines : List Line) (state : State) (count : ℕ) (d : Entries) (literals : List ℤ) (hints : List ℕ) (back : ℕ) → IsSearch formula lines state s count d → HasNoPart s d literals → IsLearnt s literals hints back → AreFilled s
    → IsNewClause (behind formula lines) literals
learnt_is_new s formula lines state count d literals hints back h none learnt filled = new_clause s (behind formula lines) literals h.earlier learnt.apart (new_beside s d literals h.covered (learnt.fresh h.whole filled) none)

-- a lemma that was kept leaves fewer clauses that can be new
fewer_behind : (s : Search) (formula : List (List ℤ)) (lines lines' : List Line) (state : State) (count : ℕ) (d : Entries) (id : ℕ) (literals : List ℤ) (hints : List ℕ) (back : ℕ) → IsSearch formula lines state s count d → HasNoPart s d literals → IsLearnt s literals hints back → All (IsLiteral s.variables) literals → AreFilled s
    → lines' ≡ lines ++ Lemma id literals hints ∷ [] → remaining s.variables (behind formula lines') < remaining s.variables (behind formula lines)
fewer_behind s formula lines lines' state count d id literals hints back h none learnt over filled pushed =
    let next : behind formula lines' ≡ literals ∷ behind formula lines = ap (behind formula) pushed ∙ behind_push formula lines id literals hints in
    subst (λ (cs : List (List ℤ)). remaining s.variables cs < remaining s.variables (behind formula lines)) (sym next)
    (fewer s.variables (behind formula lines) literals over learnt.apart (learnt_is_new s formula lines state count d literals hints back h none learnt filled).1)

pub kept_added : (s u t : Search) (formula : List (List ℤ)) (lines lines' : List Line) (state state' : State) (count : ℕ) (d : Entries) (id : ℕ) (literals : List ℤ) (hints : List ℕ) (back : ℕ) → IsSearch formula lines state s count d → HasNoPart s d literals → IsLearnt s literals hints back → All (IsLiteral s.variables) literals → t.variables ≡ s.variables
    → u.literals ≡ s.literals → u.ends ≡ s.ends → u.attached ≡ s.attached → length s.attached ≡ length s.ends → Adds u t literals → id ≡ length t.ends → AreWhole t → lines' ≡ lines ++ Lemma id literals hints ∷ [] → step state (Lemma id literals hints) ≡ Ok state' → AreLemmas (start formula) lines' state'
    → IsSearch formula lines' state' t count d
kept_added s u t formula lines lines' state state' count d id literals hints back h none learnt over variables same_literals same_ends attached flags added is whole pushed passes lemmas =
    let some : 0 < length literals = filled_lemma id literals hints (last_filled lines (start formula) state' id literals hints (subst (λ (ls : List Line). AreLemmas (start formula) ls state') pushed lemmas)) in
    let filled = filled_above s literals lines learnt.asserting some h.filled in
    let next : with_clause state id literals ≡ state' = let both : Ok (with_clause state id literals) ≡ Ok state' = sym (lemma_passes s u t state id literals hints h.shared same_literals same_ends added is learnt.passes) ∙ passes in cc in
    let filled_u = filled_moved s u same_literals same_ends filled in
    let flags_u : length u.attached ≡ length u.ends = omega (arith, flags, ap length attached, ap length same_ends) in
    record {
      lemmas = lemmas;
      shared = subst (AreShared t) next (lemma_shared s u t state id literals h.shared same_literals same_ends added is);
      first = h.first;
      held = first_added u t formula literals flags_u added (first_same s u formula same_literals same_ends attached h.held);
      earlier = subst (λ (ls : List Line). AreHeld t (behind formula ls)) (sym pushed) (subst (AreHeld t) (sym (behind_push formula lines id literals hints)) (held_new u t (behind formula lines) literals added (held_moved s u (behind formula lines) same_literals same_ends h.earlier)));
      covered = covered_added u t literals d flags_u added (covered_same s u d same_ends attached h.covered);
      indexed = indexed_added s u t literals d same_literals same_ends variables added h.indexed;
      whole = whole;
      filled = inl (filled_more u t literals added some filled_u);
      filled_too = λ all. filled_more u t literals added some filled_u;
      fresh = subst (AreNew formula) (sym pushed) (new_push formula lines id literals hints h.fresh (learnt_is_new s formula lines state count d literals hints back h none learnt filled));
      fewer = subst (λ (n : ℕ). length lines' + remaining n (behind formula lines') ≤ remaining n formula) (sym variables)
          (omega (arith, h.fewer, ap length pushed, length-append lines (Lemma id literals hints ∷ []), fewer_behind s formula lines lines' state count d id literals hints back h none learnt over filled pushed));
    }

pub kept : (s u t : Search) (formula : List (List ℤ)) (lines lines' : List Line) (state state' : State) (count : ℕ) (d : Entries) (id : ℕ) (literals : List ℤ) (hints : List ℕ) (back : ℕ) (taken : Taken) → IsSearch formula lines state s count d → HasNoPart s d literals → IsLearnt s literals hints back → All (IsLiteral s.variables) literals → t.variables ≡ s.variables
    → u.literals ≡ s.literals → u.ends ≡ s.ends → u.attached ≡ s.attached → length s.attached ≡ length s.ends → Adds u t literals → id ≡ length t.ends → AreWhole t → IsTaken (Lemma id literals hints) lines state taken lines' state' → Leaves formula taken lines' state' → IsKept formula taken lines' state' t count d
kept s u t formula lines lines' state state' count d id literals hints back Added h none learnt over variables same_literals same_ends attached flags added is whole taken leaves =
    kept_added s u t formula lines lines' state state' count d id literals hints back h none learnt over variables same_literals same_ends attached flags added is whole taken.0 taken.1 leaves
kept s u t formula lines lines' state state' count d id literals hints back Refuted h none learnt over variables same_literals same_ends attached flags added is whole taken leaves = (
  leaves,
  λ all. subst (AreNew formula) (sym taken.0) (new_push formula lines id literals hints h.fresh (learnt_is_new s formula lines state count d literals hints back h none learnt (h.filled_too all))),
)
kept s u t formula lines lines' state state' count d id literals hints back Failed h none learnt over variables same_literals same_ends attached flags added is whole taken leaves =
    let both : Ok (with_clause state id literals) ≡ Err taken.2 = sym (lemma_passes s u t state id literals hints h.shared same_literals same_ends added is learnt.passes) ∙ taken.3 in absurd (cc)

-- a lemma that was added leaves fewer clauses that can be new
pub kept_fewer : (s : Search) (formula : List (List ℤ)) (lines lines' : List Line) (state state' : State) (count : ℕ) (d : Entries) (id : ℕ) (literals : List ℤ) (hints : List ℕ) (back : ℕ) (taken : Taken) → IsSearch formula lines state s count d → HasNoPart s d literals → IsLearnt s literals hints back → All (IsLiteral s.variables) literals
    → IsTaken (Lemma id literals hints) lines state taken lines' state' → Leaves formula taken lines' state' → taken ≡ Added → remaining s.variables (behind formula lines') < remaining s.variables (behind formula lines)
kept_fewer s formula lines lines' state state' count d id literals hints back Added h none learnt over taken leaves is =
    let some : 0 < length literals = filled_lemma id literals hints (last_filled lines (start formula) state' id literals hints (subst (λ (ls : List Line). AreLemmas (start formula) ls state') taken.0 leaves)) in
    fewer_behind s formula lines lines' state count d id literals hints back h none learnt over (filled_above s literals lines learnt.asserting some h.filled) taken.0
kept_fewer s formula lines lines' state state' count d id literals hints back Refuted h none learnt over taken leaves is = absurd (cc)
kept_fewer s formula lines lines' state state' count d id literals hints back Failed h none learnt over taken leaves is = absurd (cc)

-- a budget is spent: what is learnt now would be one lemma more
ok_is : (r : Result State ℕ) (next : State) → r ≡ Ok next → IsOk r
ok_is r next e = subst (λ (x : Result State ℕ). IsOk x) (sym e) refl

spent : (s : Search) (formula : List (List ℤ)) (lines : List Line) (state : State) (count : ℕ) (d : Entries) (literals : List ℤ) (hints : List ℕ) (back : ℕ) → IsSearch formula lines state s count d → HasNoPart s d literals → IsLearnt s literals hints back → Spends formula (length lines) lines
spent s formula lines state count d literals hints back h none learnt =
    let id = length s.ends + 1 in
    let passes = ok_is (step state (Lemma id literals hints)) (with_clause state id literals) (passes_step s state id literals hints h.shared refl learnt.passes) in
    spends_by lines (start formula) state formula (length lines) refl h.lemmas h.fresh
    (Lemma id literals hints, further state (behind formula lines) id literals hints passes (λ some. learnt_is_new s formula lines state count d literals hints back h none learnt (filled_above s literals lines learnt.asserting some h.filled)))

-- and so there were fewer lemmas than clauses that could be new
spent_few : (s : Search) (formula : List (List ℤ)) (lines : List Line) (state : State) (count : ℕ) (d : Entries) (literals : List ℤ) (hints : List ℕ) (back : ℕ) → IsSearch formula lines state s count d → HasNoPart s d literals → IsLearnt s literals hints back → All (IsLiteral s.variables) literals → length lines < 3 ^ s.variables
spent_few s formula lines state count d literals hints back h none learnt over = ⊎_elim
    (λ (f : AreFilled s).
    let less = fewer s.variables (behind formula lines) literals over learnt.apart (learnt_is_new s formula lines state count d literals hints back h none learnt f).1 in
    omega (arith, less, h.fewer, within_powers s.variables formula))
    (λ (flat : (length s.limits ≡ 0) × (length lines ≡ 0)). omega (arith, flat.1, some_powers s.variables))
    h.filled

pub spent_turn : (s : Search) (formula : List (List ℤ)) (lines : List Line) (state : State) (count : ℕ) (d : Entries) (literals : List ℤ) (hints : List ℕ) (back : ℕ) (budget : Option ℕ) → budget ≡ Some (length lines) → IsSearch formula lines state s count d → HasNoPart s d literals → IsLearnt s literals hints back → All (IsLiteral s.variables) literals
    → (budget ≡ Some (length lines)) × AreLemmas (start formula) lines state × Spends formula (length lines) lines × (length lines < 3 ^ s.variables)
spent_turn s formula lines state count d literals hints back budget is h none learnt over = (is, h.lemmas, spent s formula lines state count d literals hints back h none learnt, spent_few s formula lines state count d literals hints back h none learnt over)

-- ---- a full trail

by_index : (n m : ℕ) (a b : ℤ) → IsLiteral n a → IsLiteral m b → index a ≡ index b → (a ≡ b) ⊎ (a ≡ neg_ℤ b)
by_index n m (pos zero) b h k e = absurd (omega (arith, h.0))
by_index n m (pos (suc i)) (pos zero) h k e = absurd (omega (arith, k.0))
by_index n m (pos (suc i)) (pos (suc j)) h k e = let is : i ≡ j = omega (arith, e) in inl (ap (λ (x : ℕ). pos (suc x)) is)
by_index n m (pos (suc i)) (negsuc j) h k e = let is : i ≡ j = omega (arith, e) in inr (ap (λ (x : ℕ). pos (suc x)) is)
by_index n m (negsuc i) (pos zero) h k e = absurd (omega (arith, k.0))
by_index n m (negsuc i) (pos (suc j)) h k e = let is : i ≡ j = omega (arith, e) in inr (ap negsuc is)
by_index n m (negsuc i) (negsuc j) h k e = let is : i ≡ j = omega (arith, e) in inl (ap negsuc is)

at_contains : (xs : List ℤ) (x : ℤ) (q : ℕ) → q < length xs → value_at xs q ≡ x → Contains xs x
at_contains xs x q h e = (q, h, get_or_default xs q x (pos 0) h ∙ e)

none_free : (s : Search) (x : ℤ) → IsFull s → All (IsLiteral s.variables) s.assignment.trail → IsLiteral s.variables x → IsFree s.assignment.trail x → ⊥
none_free s x full literals literal free =
    let trail = s.assignment.trail in
    let below : index x < s.variables = omega (arith, literal.0, literal.1) in
    let j = full (index x) below in
    ⊎_elim
    (λ (same : value_at trail j.0 ≡ x). free.0 (at_contains trail x j.0 j.1 same))
    (λ (opposite : value_at trail j.0 ≡ neg_ℤ x). free.1 (at_contains trail (neg_ℤ x) j.0 j.1 opposite))
    (by_index s.variables s.variables (value_at trail j.0) x (literals j.0 (pos 0) j.1) literal j.2)

pub full_true : (s : Search) (formula : List (List ℤ)) → IsArena s.literals s.ends s.variables → All (IsLiteral s.variables) s.assignment.trail → AreFirst s formula → IsFull s
    → ((i : ℕ) → IsAttached s i → IsSettled s.literals s.ends s.assignment.trail i) → AreTrue formula s.assignment.trail
full_true s formula arena literals first full all k b =
    let held = first k b in
    ⊎_elim
    (λ (one : IsTrueIn s.literals s.ends s.assignment.trail k). (value_at s.literals one.0, subst (λ (xs : List ℤ). Contains xs (value_at s.literals one.0)) held.2 (clause_has s k one.0 arena held.0 one.1), one.2))
    (λ (two : IsOpen s.literals s.ends s.assignment.trail k).
    let fits = (arena.ordered k held.0).1 in
    let inside : two.0 < length s.literals = omega (arith, two.2.1, fits) in
    absurd (none_free s (value_at s.literals two.0) full literals (arena.literal two.0 inside) two.5))
    (all k held.1)

-- ---- the measure

-- a number of two parts, of which the latter is below a bound, falls with the former
falls_first : (w a b x y : ℕ) → a < b → x < w → a * w + x < b * w + y
falls_first w a b x y less small =
    let below = mul-add-lt a w x b less small in
    let turned : w * b ≡ b * w = mul_comm w b in
    omega (arith, below, turned)

-- and with the latter
falls_last : (w a b x y : ℕ) → a ≡ b → x < y → a * w + x < b * w + y
falls_last w a b x y same less = let is = ap (λ (n : ℕ). n * w) same in omega (arith, is, less)

-- ---- free variables by their values

sign_some : (n : ℕ) (x : ℤ) → IsLiteral n x → sign x ≡ pos 0 → ⊥
sign_some n (pos zero) h e = omega (arith, h.0)
sign_some n (pos (suc k)) h e = absurd (cc)
sign_some n (negsuc k) h e = absurd (cc)

index_neg : (x : ℤ) → index (neg_ℤ x) ≡ index x
index_neg (pos zero) = refl
index_neg (pos (suc k)) = refl
index_neg (negsuc k) = refl

not_true_then : (b : Bool) → (b ≡ true → ⊥) → b ≡ false
not_true_then true h = absurd (h refl)
not_true_then false h = refl

free_by_value : (s : Search) (values : List ℤ) (x : ℤ) → IsTold s.assignment.trail values → All (IsLiteral s.variables) s.assignment.trail → value_at values (index x) ≡ pos 0 → (y : ℤ) → index y ≡ index x → Contains s.assignment.trail y → ⊥
free_by_value s values x told literals none y same c =
    let at : value_at s.assignment.trail c.0 ≡ y = get_or_default s.assignment.trail c.0 (pos 0) y c.1 ∙ c.2 in
    let is : sign y ≡ pos 0 = sym (ap sign at) ∙ (sym (told.value c.0 c.1) ∙ (ap (λ (z : ℤ). value_at values (index z)) at ∙ (ap (value_at values) same ∙ none))) in
    sign_some s.variables y (subst (IsLiteral s.variables) at (literals c.0 (pos 0) c.1)) is

pub free_literal_by : (s : Search) (values : List ℤ) (x : ℤ) → IsTold s.assignment.trail values → All (IsLiteral s.variables) s.assignment.trail → value_at values (index x) ≡ pos 0 → IsFree s.assignment.trail x
free_literal_by s values x told literals none = (free_by_value s values x told literals none x refl, free_by_value s values x told literals none (neg_ℤ x) (index_neg x))

pub full_by : (s : Search) (values : List ℤ) → IsTold s.assignment.trail values → length values ≡ s.variables → ((i : ℕ) → i < length values → value_at values i ≡ pos 0 → ⊥) → IsFull s
full_by s values told size none i b = ⊎_elim
    (λ (free : value_at values i ≡ pos 0). absurd (none i (omega (arith, b, size)) free))
    (λ (at : (j : ℕ) × (j < length s.assignment.trail) × (index (value_at s.assignment.trail j) ≡ i)). at)
    (told.only i (omega (arith, b, size)))

-- ---- the assignment of a full trail

literal_true : (n : ℕ) (truths : List Bool) (values : List ℤ) (x : ℤ) → IsLiteral n x → length values ≡ n → ((k : ℕ) → k < length values → (get_or truths k false ≡ true) ↔ (value_at values k ≡ pos 1)) → value_at values (index x) ≡ sign x → literal_value (value_of truths) x ≡ true
literal_true n truths values (pos zero) literal size tied is = absurd (omega (arith, literal.0))
literal_true n truths values (pos (suc k)) literal size tied is = (tied (suc k - 1) (omega (arith, literal.1, size))).1 is
literal_true n truths values (negsuc k) literal size tied is =
    ap not (not_true_then (get_or truths (suc k - 1) false) (λ e. let one : value_at values (suc k - 1) ≡ pos 1 = (tied (suc k - 1) (omega (arith, literal.1, size))).0 e in absurd (cc)))

pub solved : (s : Search) (formula : List (List ℤ)) (truths : List Bool) (values : List ℤ) → IsTold s.assignment.trail values → All (IsLiteral s.variables) s.assignment.trail → length values ≡ s.variables → length truths ≡ length values
    → ((k : ℕ) → k < length values → (get_or truths k false ≡ true) ↔ (value_at values k ≡ pos 1)) → AreTrue formula s.assignment.trail → IsSolution s.variables formula truths
solved s formula truths values told literals size count tied true_in = record {
  complete = count ∙ size;
  satisfies = All-from_get_or (λ (clause : List ℤ). clause_value (value_of truths) clause ≡ true) formula [] (λ k b.
      let x = true_in k b in
      let at : value_at s.assignment.trail x.2.0 ≡ x.0 = get_or_default s.assignment.trail x.2.0 (pos 0) x.0 x.2.1 ∙ x.2.2 in
      let is : value_at values (index x.0) ≡ sign x.0 = sym (ap (λ (z : ℤ). value_at values (index z)) at) ∙ (told.value x.2.0 x.2.1 ∙ ap sign at) in
      let literal = subst (IsLiteral s.variables) at (literals x.2.0 (pos 0) x.2.1) in
      let yes = literal_true s.variables truths values x.0 literal size tied is in
      list_any_at (literal_value (value_of truths)) (get_or formula k []) x.1.0 x.0 x.1.1 (ap (literal_value (value_of truths)) x.1.2 ∙ yes));
}

-- ---- what each step calls

pub some_free : (s : Search) (values : List ℤ) (r : Option ℤ) → IsTold s.assignment.trail values → All (IsLiteral s.variables) s.assignment.trail → length values ≡ s.variables → IfSome r (λ (l : ℤ). IsLiteral (length values) l × (value_at values (index l) ≡ pos 0))
    → IfSome r (λ (l : ℤ). IsLiteral s.variables l × IsFree s.assignment.trail l)
some_free s values (Some l) told literals size h = (subst (λ (n : ℕ). IsLiteral n l) size h.0, free_literal_by s values l told literals h.1)
some_free s values None told literals size h = tt

pub none_full : (s : Search) (values : List ℤ) (r : Option ℤ) → IsTold s.assignment.trail values → length values ≡ s.variables → IfNone r ((i : ℕ) → i < length values → value_at values i ≡ pos 0 → ⊥) → IfNone r (IsFull s)
none_full s values (Some l) told size h = tt
none_full s values None told size h = full_by s values told size h

-- a level is opened where each attached clause is settled
pub search_opened : (s t : Search) (l : ℤ) (formula : List (List ℤ)) (lines : List Line) (state : State) (count : ℕ) (d : Entries) → AreReasoned s → IsArena s.literals s.ends s.variables → t.literals ≡ s.literals → t.ends ≡ s.ends → t.variables ≡ s.variables → t.attached ≡ s.attached
    → t.limits ≡ s.limits ++ length s.assignment.trail ∷ [] → t.assignment.trail ≡ s.assignment.trail ++ l ∷ [] → ((i : ℕ) → IsAttached s i → IsSettled s.literals s.ends s.assignment.trail i) → IsSearch formula lines state s count d → IsSearch formula lines state t count d
search_opened s t l formula lines state count d r arena literals ends variables attached limits trail all h =
    search_same s t formula lines state count d literals ends variables attached (whole_opened s t l r literals ends attached limits trail all h.whole) (inl (filled_settled s d arena h.covered h.indexed all)) h

-- literals are forced
pub search_longer : (s t : Search) (formula : List (List ℤ)) (lines : List Line) (state : State) (count : ℕ) (d : Entries) → AreReasoned s → t.literals ≡ s.literals → t.ends ≡ s.ends → t.variables ≡ s.variables → t.attached ≡ s.attached → t.limits ≡ s.limits
    → (ts : List ℤ) × (t.assignment.trail ≡ s.assignment.trail ++ ts) → IsSearch formula lines state s count d → IsSearch formula lines state t count d
search_longer s t formula lines state count d r literals ends variables attached limits longer h =
    search_same s t formula lines state count d literals ends variables attached (whole_longer s t r literals ends attached limits longer h.whole) (filled_flat s t lines (λ e. ap length limits ∙ e) h.filled) h

-- the trail goes back to level 0
pub search_restarted : (s t : Search) (formula : List (List ℤ)) (lines : List Line) (state : State) (count : ℕ) (d : Entries) → t.literals ≡ s.literals → t.ends ≡ s.ends → t.variables ≡ s.variables → t.attached ≡ s.attached → t.limits ≡ [] → IsSearch formula lines state s count d
    → IsSearch formula lines state t count d
search_restarted s t formula lines state count d literals ends variables attached flat h =
    search_same s t formula lines state count d literals ends variables attached (whole_flat t flat) (filled_flat s t lines (λ e. ap length flat) h.filled) h

-- a dropped lemma is attached again, at level 0
pub search_back : (s t : Search) (formula : List (List ℤ)) (lines : List Line) (state : State) (count : ℕ) (d e : Entries) (number : ℕ) → length s.attached ≡ length s.ends → (0 < number) × (number ≤ length s.ends) → t.literals ≡ s.literals → t.ends ≡ s.ends → t.variables ≡ s.variables
    → t.attached ≡ set s.attached (number - 1) true → t.limits ≡ [] → IsIndexed s e → ((n : ℕ) → HasEntry d n → HasEntry e n ⊎ (Some number ≡ Some n)) → IsSearch formula lines state s count d → IsSearch formula lines state t count e
search_back s t formula lines state count d e number flags within literals ends variables is flat indexed others h =
    search_moved s t formula lines state count d e literals ends variables (first_back s t formula number flags within literals ends is h.held) (covered_back s t d e number flags within ends is others h.covered) (indexed_moved s t e literals ends variables indexed)
    (whole_flat t flat) (filled_flat s t lines (λ z. ap length flat) h.filled) h

-- some lemmas are dropped
pub search_fewer : (s t : Search) (formula : List (List ℤ)) (lines : List Line) (state : State) (count : ℕ) (d e : Entries) → t.literals ≡ s.literals → t.ends ≡ s.ends → t.variables ≡ s.variables → t.assignment ≡ s.assignment → t.limits ≡ s.limits → Drops s t count e
    → ((n : ℕ) → HasEntry d n → HasEntry e n) → IsIndexed s e → IsSearch formula lines state s count d → IsSearch formula lines state t count e
search_fewer s t formula lines state count d e literals ends variables assignment limits drops kept indexed h =
    search_moved s t formula lines state count d e literals ends variables (first_fewer s t formula count e h.first literals ends drops h.held) (covered_fewer s t d e count ends drops kept h.covered) (indexed_moved s t e literals ends variables indexed)
    (whole_fewer s t literals ends assignment limits drops.only h.whole) (filled_flat s t lines (λ z. ap length limits ∙ z) h.filled) h

-- ---- a lemma that was taken

pub taken_more : (line : Line) (lines lines' : List Line) (state state' : State) (taken : Taken) → taken ≢ Failed → IsTaken line lines state taken lines' state' → length lines' ≡ length lines + 1
taken_more line lines lines' state state' Added passes h = ap length h.0 ∙ length-append lines (line ∷ [])
taken_more line lines lines' state state' Refuted passes h = ap length h.0 ∙ length-append lines (line ∷ [])
taken_more line lines lines' state state' Failed passes h = absurd (passes refl)

-- a budget that isn't spent has room for one lemma more
pub room_more : (budget : Option ℕ) (lines lines' : List Line) → budget ≢ Some (length lines) → length lines' ≡ length lines + 1 → AreWithin budget lines → AreWithin budget lines'
room_more None lines lines' left more h = tt
room_more (Some limit) lines lines' left more h = ⊎_elim
    (λ (below : length lines < limit). omega (arith, below, more))
    (λ (up : limit ≤ length lines). let is : limit ≡ length lines = omega (arith, up, h) in absurd (left (ap Some is)))
    (cases_lt (length lines) limit)

pub room_first : (budget : Option ℕ) (lines : List Line) → lines ≡ [] → AreWithin budget lines
room_first None lines none = tt
room_first (Some limit) lines none = omega (arith, ap length none)

-- what was learnt, as the clause and the hints that are kept
pub learnt_as : (s : Search) (literals clause : List ℤ) (numbers hints : List ℕ) (back : ℕ) → clause ≡ literals → hints ≡ numbers → IsLearnt s literals numbers back → IsLearnt s clause hints back
learnt_as s literals clause numbers hints back same_clause same_hints h =
    subst (λ (ns : List ℕ). IsLearnt s clause ns back) (sym same_hints) (subst (λ (xs : List ℤ). IsLearnt s xs numbers back) (sym same_clause) h)

-- ---- the measure, after a step

rests_below : (n : ℕ) (trail : List ℤ) → n - length trail < n + 1
rests_below n trail = omega arith

left_falls : (n w : ℕ) (formula : List (List ℤ)) (lines lines' : List Line) (d d' : Entries) (trail trail' : List ℤ) → entry_count d' < w → length trail' ≤ n → GoesOn n formula lines d trail lines' d' trail'
    → (remaining n (behind formula lines') * w + entry_count d') * (n + 1) + (n - length trail') < (remaining n (behind formula lines) * w + entry_count d) * (n + 1) + (n - length trail)
left_falls n w formula lines lines' d d' trail trail' few within h =
    let r = remaining n (behind formula lines) in
    let r' = remaining n (behind formula lines') in
    let e = entry_count d in
    let e' = entry_count d' in
    ⊎_elim
    (λ (less : r' < r). falls_first (n + 1) (r' * w + e') (r * w + e) (n - length trail') (n - length trail) (falls_first w r' r e' e less few) (rests_below n trail'))
    (λ (other : ((lines' ≡ lines) × (e' < e)) ⊎ ((lines' ≡ lines) × (e' ≡ e) × (length trail < length trail'))). ⊎_elim
    (λ (back : (lines' ≡ lines) × (e' < e)).
    let same : r' ≡ r = ap (λ (ls : List Line). remaining n (behind formula ls)) back.0 in
    falls_first (n + 1) (r' * w + e') (r * w + e) (n - length trail') (n - length trail) (falls_last w r' r e' e same back.1) (rests_below n trail'))
    (λ (longer : (lines' ≡ lines) × (e' ≡ e) × (length trail < length trail')).
    let same : r' * w + e' ≡ r * w + e = ap (λ (ls : List Line). remaining n (behind formula ls) * w + e') longer.0 ∙ ap (λ (x : ℕ). r * w + x) longer.1 in
    falls_last (n + 1) (r' * w + e') (r * w + e) (n - length trail') (n - length trail) same (omega (arith, longer.2, within)))
    other)
    h

pub left_turn : (n m : ℕ) (formula : List (List ℤ)) (lines lines' : List Line) (d d' : Entries) (trail trail' : List ℤ) → m ≡ n → entry_count d' < 2 ^ 64 → length trail' ≤ m → GoesOn n formula lines d trail lines' d' trail'
    → left m formula lines' d' trail' < left n formula lines d trail
left_turn n m formula lines lines' d d' trail trail' same few within h =
    subst (λ (k : ℕ). left k formula lines' d' trail' < left n formula lines d trail) (sym same) (left_falls n (2 ^ 64) formula lines lines' d d' trail trail' few (omega (arith, within, same)) h)

-- ---- dropped lemmas, from one step to the next

pub indexed_by : (s : Search) (d e : Entries) → IsIndexed s d → e.variables ≡ d.variables → AreFiled s e.signatures e.numbers → IsIndexed s e
indexed_by s d e h variables filed = record { variables = variables ∙ h.variables; filed = filed }

pub none_by : (s : Search) (d : Entries) (given literals : List ℤ) → given ≡ literals → HasNoPart s d given → HasNoPart s d literals
none_by s d given literals is h = subst (λ (xs : List ℤ). HasNoPart s d xs) is h

pub search_by : (formula : List (List ℤ)) (lines : List Line) (state : State) (s : Search) (count : ℕ) (d e : Entries) → e ≡ d → IsSearch formula lines state s count d → IsSearch formula lines state s count e
search_by formula lines state s count d e is h = subst (λ (x : Entries). IsSearch formula lines state s count x) (sym is) h

-- a conflict's turn goes on with one lemma more, or with a dropped lemma back
pub goes_on : (n m : ℕ) (formula : List (List ℤ)) (lines lines' : List Line) (d d' : Entries) (trail trail' : List ℤ) → n ≡ m → (remaining n (behind formula lines') < remaining n (behind formula lines)) ⊎ ((lines' ≡ lines) × (entry_count d' < entry_count d))
    → GoesOn m formula lines d trail lines' d' trail'
goes_on n m formula lines lines' d d' trail trail' same h = subst (λ (k : ℕ). GoesOn k formula lines d trail lines' d' trail') same (⊎_elim
    (λ (less : remaining n (behind formula lines') < remaining n (behind formula lines)). inl less)
    (λ (back : (lines' ≡ lines) × (entry_count d' < entry_count d)). inr (inl back))
    h)
