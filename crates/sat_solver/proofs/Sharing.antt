-- The clauses of a trail and of a checker stay the same, and so each learnt lemma passes.
use Rattle.std.proofs.Common.{◌≡◌, ◌≢◌, ℕ, zero, suc, ◌+◌, ◌-◌, ◌<◌, ◌≤◌, ℤ, Bool, true, false, cond, nat_eq, nat_le, List, [], ◌∷◌, length, take, drop, get_or, pos, negsuc, nat_abs, unsigned_abs, ◌^◌, Some, Ok, Err, slice_get, refl, sym, ap, ◌∙◌, ⊎_elim, arith, leb-true}
use Rattle.std.specs.List.{All}
use Rattle.std.specs.Ordering.{nat_cmp}
use Rattle.std.specs.Cmp.{unsigned_tied}
use Rattle.std.proofs.lemmas.Cmp.{nat_cmp_total}
use Rattle.std.proofs.lemmas.Bool.{eq-eqb, ne_eqb, cases_lt}
use Rattle.std.proofs.lemmas.Option.{slice_get-get_or}
use Rattle.std.proofs.lemmas.List.Elements.{All-from_get_or}
use Rattle.std.specs.FinMap as map
use Rattle.std.specs.FinMap.{FinMap}
use Rattle.sat_lrat.specs.declared.line.Line.{Line}
use Rattle.sat_lrat.specs.declared.line.Line.TheVariants.{Lemma}
use Rattle.sat_lrat.specs.Step.{State, among, walk, with_clause, lemma_answer, step, numbered, start}
use Rattle.sat_lrat.specs.Step as checked
use Rattle.sat_lemmas.specs.Outcome.{IsTaken}
use Rattle.sat_lemmas.specs.declared.log.Taken.{Taken}
use Rattle.sat_lemmas.specs.declared.log.Taken.TheVariants.{Added, Refuted, Failed}
use Rattle.sat_trail.specs.Watched.{start_of}
use Rattle.sat_trail.specs.State.{Search, clause_at, Keeps, Adds}
use Rattle.sat_trail.specs.Literal.{IsLiteral}
use Rattle.sat_dimacs.specs.Literal as cnf
use Rattle.sat_dimacs.specs.Literal.{IsWithin}
use Rattle.sat_trail.specs.Assignment.{value_at}
use Rattle.sat_analysis.specs.Resolved.{level}
use Rattle.sat_analysis.specs.Hints.{Passes}
use Rattle.sat_analysis.specs.Learnt.{IsSecond}
use Rattle.sat_solver.specs.Shared.{AreShared}

at_insert : (standing : FinMap nat_cmp (List ℤ)) (id n : ℕ) (clause : List ℤ) → map.get (map.insert standing id clause) n ≡ cond (nat_eq n id) (Some clause) (map.get standing n)
at_insert standing id n clause = map.get-insert nat_cmp_total standing id clause n ∙ ap (λ b. cond b (Some clause) (map.get standing n)) (unsigned_tied n id)

at_other : (standing : FinMap nat_cmp (List ℤ)) (id n : ℕ) (clause : List ℤ) → n ≢ id → map.get (map.insert standing id clause) n ≡ map.get standing n
at_other standing id n clause ne = at_insert standing id n clause ∙ ap (λ b. cond b (Some clause) (map.get standing n)) (ne_eqb n id ne)

at_same : (standing : FinMap nat_cmp (List ℤ)) (id : ℕ) (clause : List ℤ) → map.get (map.insert standing id clause) id ≡ Some clause
at_same standing id clause = at_insert standing id id clause ∙ ap (λ b. cond b (Some clause) (map.get standing id)) (eq-eqb id id refl)

numbered_below : (clauses : List (List ℤ)) (standing : FinMap nat_cmp (List ℤ)) (n m : ℕ) → m < n → map.get (numbered standing n clauses) m ≡ map.get standing m
numbered_below [] standing n m h = refl
numbered_below (c ∷ cs) standing n m h = numbered_below cs (map.insert standing n c) (n + 1) m (omega arith) ∙ at_other standing n m c (λ e. absurd (omega arith))

numbered_at : (clauses : List (List ℤ)) (standing : FinMap nat_cmp (List ℤ)) (n k m : ℕ) → m ≡ n + k → k < length clauses → map.get (numbered standing n clauses) m ≡ slice_get clauses k
numbered_at [] standing n k m e h = absurd (omega arith)
numbered_at (c ∷ cs) standing n zero m e h =
    numbered_below cs (map.insert standing n c) (n + 1) m (omega arith)
    ∙ ap (map.get (map.insert standing n c)) (let same : m ≡ n = omega arith in same) ∙ at_same standing n c
numbered_at (c ∷ cs) standing n (suc k) m e h = numbered_at cs (map.insert standing n c) (n + 1) k m (omega arith) (omega arith)

-- at first the checker has the formula's clauses
pub shared_start : (s : Search) (clauses : List (List ℤ)) → Keeps s clauses → AreShared s (start clauses)
shared_start s clauses k = record {
  top = sym k.count;
  each = λ n h.
      let within : n < length clauses = omega (arith, h, k.count) in
      numbered_at clauses map.empty 1 n (n + 1) (omega arith) within ∙ (slice_get-get_or clauses n [] within ∙ ap Some (sym (k.each n within)));
}

pub same_clause : (s t : Search) (n : ℕ) → t.literals ≡ s.literals → t.ends ≡ s.ends → clause_at t n ≡ clause_at s n
same_clause s t n literals ends =
    ap (λ (xs : List ℤ). take (get_or t.ends n 0 - start_of t.ends n) (drop (start_of t.ends n) xs)) literals
    ∙ ap (λ (es : List ℕ). take (get_or es n 0 - start_of es n) (drop (start_of es n) s.literals)) ends

-- what is assigned or undone changes no clause
pub shared_kept : (s t : Search) (state : State) → t.literals ≡ s.literals → t.ends ≡ s.ends → AreShared s state → AreShared t state
shared_kept s t state literals ends h = record {
  top = h.top ∙ sym (ap length ends);
  each = λ n b. h.each n (omega (arith, b, ap length ends)) ∙ ap Some (sym (same_clause s t n literals ends));
}

-- both take one clause more
pub shared_more : (s t : Search) (state : State) (clause : List ℤ) (id : ℕ) → id ≡ length t.ends → Adds s t clause → AreShared s state → AreShared t (with_clause state id clause)
shared_more s t state clause id is added h = record {
  top = is;
  each = λ n b. ⊎_elim
      (λ (old : n < length s.ends). at_other state.standing id (n + 1) clause (λ e. omega (arith, e, is, old, added.count)) ∙ (h.each n old ∙ ap Some (sym (added.others n old))))
      (λ (new : length s.ends ≤ n).
      let last : n ≡ length s.ends = omega (arith, new, b, added.count) in
      let at : n + 1 ≡ id = omega (arith, last, is, added.count) in
      ap (map.get (map.insert state.standing id clause)) at ∙ (at_same state.standing id clause ∙ ap Some (sym (ap (clause_at t) last ∙ added.last))))
      (cases_lt n (length s.ends));
}

not_true : (b : Bool) → (b ≡ true → ⊥) → b ≡ false
not_true true h = absurd (h refl)
not_true false h = refl

-- a lemma that passes on the trail's clauses passes the checker's step
pub passes_step : (s : Search) (state : State) (id : ℕ) (clause : List ℤ) (hints : List ℕ) → AreShared s state → id ≡ length s.ends + 1 → Passes s clause hints → step state (Lemma id clause hints) ≡ Ok (with_clause state id clause)
passes_step s state id clause hints h is passes =
    let new : nat_le id state.top ≡ false = not_true (nat_le id state.top) (λ e. let up : id ≤ state.top = leb-true id state.top e in omega (arith, up, h.top, is)) in
    ap (λ b. cond b (Err 1) (lemma_answer (with_clause state id clause) (walk (checked.clause_at state) (among clause) hints))) new
    ∙ ap (lemma_answer (with_clause state id clause)) (passes (checked.clause_at state) h.each)

-- such a line is taken, and the checker then has its clause
pub taken_passes : (line : Line) (lines : List Line) (state : State) (taken : Taken) (lines' : List Line) (state' next : State) → step state line ≡ Ok next → IsTaken line lines state taken lines' state' → (taken ≢ Failed) × (state' ≡ next)
taken_passes line lines state Added lines' state' next e h = (λ f. cc, let is : Ok state' ≡ Ok next = sym h.1 ∙ e in cc)
taken_passes line lines state Refuted lines' state' next e h = (λ f. cc, let is : Ok state' ≡ Ok next = sym h.1 ∙ e in cc)
taken_passes line lines state Failed lines' state' next e h = let is : Err h.2 ≡ Ok next = sym h.3 ∙ e in absurd (cc)

-- ---- what is learnt, as a clause

same_abs : (l : ℤ) → nat_abs l ≡ unsigned_abs l
same_abs (pos n) = refl
same_abs (negsuc n) = refl

pub fits_literal : (n : ℕ) (l : ℤ) → n < 2 ^ 63 → IsLiteral n l → cnf.IsLiteral l
fits_literal n l small h = record { nonzero = omega (arith, same_abs l, h.0); fits = omega (arith, same_abs l, h.1, small) }

pub within_literals : (n : ℕ) (xs : List ℤ) → All (IsLiteral n) xs → IsWithin n xs
within_literals n xs h = All-from_get_or (λ (l : ℤ). nat_abs l ≤ n) xs (pos 0) (λ k b. let literal = h k (pos 0) b in omega (arith, same_abs (get_or xs k (pos 0)), literal.1))

pub back_within : (s : Search) (literals : List ℤ) (second : ℕ) → IsSecond s literals second → second ≤ length s.limits
back_within s literals second h = ⊎_elim
    (λ (zero : second ≡ 0). omega (arith, zero))
    (λ (p : (p : ℕ) × (p < length literals) × (level s (value_at literals p) ≡ second) × (second < length s.limits)). omega (arith, p.3))
    h.met

-- ---- all together

-- the trail goes back and has the clause, and the line passes
pub lemma_passes : (s u t : Search) (state : State) (id : ℕ) (clause : List ℤ) (hints : List ℕ) → AreShared s state → u.literals ≡ s.literals → u.ends ≡ s.ends → Adds u t clause → id ≡ length t.ends → Passes s clause hints
    → step state (Lemma id clause hints) ≡ Ok (with_clause state id clause)
lemma_passes s u t state id clause hints shared literals ends added is passes = passes_step s state id clause hints shared (omega (arith, is, added.count, ap length ends)) passes

pub lemma_shared : (s u t : Search) (state : State) (id : ℕ) (clause : List ℤ) → AreShared s state → u.literals ≡ s.literals → u.ends ≡ s.ends → Adds u t clause → id ≡ length t.ends → AreShared t (with_clause state id clause)
lemma_shared s u t state id clause shared literals ends added is = shared_more u t state clause id is added (shared_kept s u state literals ends shared)
