-- What a line gives, and a whole text.
use Rattle.std.proofs.Common.{◌≡◌, ℕ, suc, ◌+◌, List, ◌∷◌, Option, Some, None, refl, sym, ap, ◌∙◌, arith}
use Rattle.base_words.specs.Words.{parts}
use Rattle.core_meaning.specs.Sequence.{LassoValue}
use Rattle.answer_trace.specs.declared.label.Labels.{Labels}
use Rattle.answer_trace.specs.Unread.{Unread}
use Rattle.answer_trace.specs.Reading.{Way, on_line, after_line, way_from, lines_way}
use Rattle.answer_trace.specs.Reading.Way.{on, off}
use Rattle.answer_trace.specs.Faults.{IsRead}
use Rattle.answer_trace.proofs.Lines.{on_next}

-- a line that gives a value
pub line_goes : {A : Type 0} (f : List ℕ → Option A) (old new : Unread) (line rest : List ℕ) (a : A) → parts old.bytes ≡ line ∷ parts rest → new ≡ record { bytes = rest; lines = old.lines + 1 } → f line ≡ Some a
    → on a (parts new.bytes) new.lines ≡ on_line f (parts old.bytes) old.lines
line_goes f old new line rest a e left given =
    let next : old.lines + 1 ≡ suc old.lines = omega arith in
    ap (λ (u : Unread). on a (parts u.bytes) u.lines) left ∙ ap (on a (parts rest)) next ∙ ap (after_line (parts rest) old.lines) (sym given) ∙ sym (on_next f old.bytes line rest old.lines e)

-- a lasso that the lines of a text gave
pub was_read : (labels : Labels) (left first : Unread) (text : List ℕ) (lasso given : LassoValue) (o : Option LassoValue) → way_from left o ≡ lines_way labels (parts first.bytes) first.lines → o ≡ Some lasso → first ≡ record { bytes = text; lines = 0 } → given ≡ lasso
    → IsRead labels text given
was_read labels left first text lasso given o e is new same =
    (parts left.bytes, left.lines, sym (ap (λ l. on l (parts left.bytes) left.lines) same ∙ ap (way_from left) (sym is) ∙ e ∙ ap (λ (u : Unread). lines_way labels (parts u.bytes) u.lines) new))
