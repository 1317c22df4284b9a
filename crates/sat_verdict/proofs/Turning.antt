-- What the kind of a line says of it, and what a broken rule comes to.
use Rattle.std.proofs.Common.{◌≡◌, ℕ, false, true, List, ℤ, [], ◌∷◌, Option, Some, None, Result, Ok, Err, IfSome, IsSome, IfOk, IsTrue, refl, sym, subst}
use Rattle.sat_lrat.specs.declared.line.Line.{Line}
use Rattle.sat_lrat.specs.declared.line.Line.TheVariants.{Lemma, Delete}
use Rattle.sat_lrat.specs.Step.{State, step, is_empty_lemma}
use Rattle.sat_lrat.specs.Text.{Found, read_from}
use Rattle.sat_checker.specs.declared.fault.Step.TheVariants.{Added, Deleted, Refuted}
use Rattle.sat_checker.specs.Answers.{kind_of}
use Rattle.sat_verdict.specs.declared.mode.Verdict.TheVariants as says
use Rattle.sat_verdict.specs.declared.mode.Turn.{Turn}
use Rattle.sat_verdict.specs.declared.mode.Turn.TheVariants as turns
use Rattle.sat_verdict.specs.Mode.{line_number, lemmas_of, Ends, rejected, IsTurn}

pub empty_lemma : (line : Line) → kind_of line ≡ Refuted → IsTrue (is_empty_lemma line)
empty_lemma (Lemma id [] hints) e = refl
empty_lemma (Lemma id (x ∷ xs) hints) e = cc
empty_lemma (Delete ids) e = cc

pub added_lemma : (line : Line) → kind_of line ≡ Added → (is_empty_lemma line ≡ false) × (lemmas_of line ≡ 1)
added_lemma (Lemma id [] hints) e = cc
added_lemma (Lemma id (x ∷ xs) hints) e = (refl, refl)
added_lemma (Delete ids) e = cc

pub deletion : (line : Line) → kind_of line ≡ Deleted → (is_empty_lemma line ≡ false) × (lemmas_of line ≡ 0)
deletion (Lemma id [] hints) e = cc
deletion (Lemma id (x ∷ xs) hints) e = cc
deletion (Delete ids) e = (refl, refl)

rejected_turn : (text : List ℕ) (from count start next : ℕ) (old new : State) (line : Line) → read_from text from ≡ Found line start next
    → (rule : Option ℕ) → IfSome rule (λ r. step old line ≡ Err r) → (turn : Turn) → IsSome rule → IfSome rule (λ r. turn ≡ turns.Over (says.Rejected r (line_number text start))) → IsTurn text from count old new turn
rejected_turn text from count start next old new line read None broken turn some is = cc
rejected_turn text from count start next old new line read (Some r) broken turn some is =
    subst (IsTurn text from count old new) (sym is) (rejected from count start next r old line read broken)

pub rejected_result : {E : Type 0} (text : List ℕ) (from count start next : ℕ) (old new : State) (line : Line) → read_from text from ≡ Found line start next
    → (rule : Option ℕ) → IfSome rule (λ r. step old line ≡ Err r) → (result : Result Turn E) → IfOk result (λ turn. IsSome rule)
    → IfOk result (λ turn. IfSome rule (λ r. turn ≡ turns.Over (says.Rejected r (line_number text start)))) → IfOk result (IsTurn text from count old new)
rejected_result text from count start next old new line read rule broken (Ok turn) some is = rejected_turn text from count start next old new line read rule broken turn some is
rejected_result text from count start next old new line read rule broken (Err e) some is = tt
