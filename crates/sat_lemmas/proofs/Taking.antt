-- One more line behind lemmas that pass.
use Rattle.std.proofs.Common.{◌≡◌, ℕ, List, [], ◌∷◌, ◌++◌, Result, Ok, Err, IsOkAnd, refl, sym, subst, inl, inr}
use Rattle.sat_lrat.specs.declared.line.Line.{Line}
use Rattle.sat_lrat.specs.declared.line.Line.TheVariants.{Lemma, Delete}
use Rattle.sat_lrat.specs.Step.{State, step, RefutesFrom}
use Rattle.sat_checker.specs.declared.fault.Step.TheVariants.{Added, Refuted}
use Rattle.sat_checker.specs.Answers.{kind_of}
use Rattle.sat_lemmas.specs.Outcome.{AreLemmas}

one_ok : (state end : State) (line : Line) (P : State → Type 0) → step state line ≡ Ok end → P end → IsOkAnd (step state line) P
one_ok state end line P e p = subst (λ r. IsOkAnd r P) (sym e) p

one_added : (state end : State) (line : Line) → Added ≡ kind_of line → step state line ≡ Ok end → AreLemmas state (line ∷ []) end
one_added state end (Lemma id [] hints) kind e = cc
one_added state end (Lemma id (x ∷ xs) hints) kind e = (refl, one_ok state end (Lemma id (x ∷ xs) hints) (λ next. next ≡ end) e refl)
one_added state end (Delete ids) kind e = cc

on_ok : (answer : Result State ℕ) (P Q : State → Type 0) → ((next : State) → P next → Q next) → IsOkAnd answer P → IsOkAnd answer Q
on_ok (Ok next) P Q on h = on next h
on_ok (Err rule) P Q on h = absurd h

pub added : (lines : List Line) (state middle end : State) (line : Line) → AreLemmas state lines middle → Added ≡ kind_of line → step middle line ≡ Ok end → AreLemmas state (lines ++ line ∷ []) end
added [] state middle end line h kind e = subst (λ s. AreLemmas s (line ∷ []) end) (sym h) (one_added middle end line kind e)
added (Delete ids ∷ lines) state middle end line h kind e = absurd h
added (Lemma id clause hints ∷ lines) state middle end line h kind e =
    (h.0, on_ok (step state (Lemma id clause hints)) (λ next. AreLemmas next lines middle) (λ next. AreLemmas next (lines ++ line ∷ []) end) (λ next g. added lines next middle end line g kind e) h.1)

one_refuted : (state end : State) (line : Line) → Refuted ≡ kind_of line → step state line ≡ Ok end → RefutesFrom state (line ∷ [])
one_refuted state end (Lemma id [] hints) kind e = one_ok state end (Lemma id [] hints) _ e (inl refl)
one_refuted state end (Lemma id (x ∷ xs) hints) kind e = cc
one_refuted state end (Delete ids) kind e = cc

pub refuted : (lines : List Line) (state middle end : State) (line : Line) → AreLemmas state lines middle → Refuted ≡ kind_of line → step middle line ≡ Ok end → RefutesFrom state (lines ++ line ∷ [])
refuted [] state middle end line h kind e = subst (λ s. RefutesFrom s (line ∷ [])) (sym h) (one_refuted middle end line kind e)
refuted (Delete ids ∷ lines) state middle end line h kind e = absurd h
refuted (Lemma id clause hints ∷ lines) state middle end line h kind e =
    on_ok (step state (Lemma id clause hints)) (λ next. AreLemmas next lines middle) _ (λ next g. inr (refuted lines next middle end line g kind e)) h.1
