-- The line that a fault of the reader names.
use Rattle.std.proofs.Common.{◌≡◌, ℕ, List, refl, sym, subst}
use Rattle.base_words.specs.Words.{parts}
use Rattle.core_meaning.specs.Sequence.{LassoValue}
use Rattle.answer_trace.specs.declared.label.Labels.{Labels}
use Rattle.answer_trace.specs.Text.{trace_text}
use Rattle.answer_trace.specs.Reading.{Way, trace_way}
use Rattle.answer_trace.specs.Reading.Way.{on, off}
use Rattle.answer_trace.specs.Faults.{IsFaultOf}
use Rattle.answer_laws.specs.Form.{HasLines, HaveLassos, IsLassoOf}
use Rattle.answer_laws.specs.Fault.{IsFirstFault, NamesFirst}
use Rattle.answer_laws.proofs.Whole.{trace_again}
use Rattle.answer_laws.proofs.Fits.{atoms_are, lasso_has}
use Rattle.answer_laws.proofs.Local.{lines_stay}
use Rattle.answer_laws.proofs.Built.{allow_of, first_fault, some_lines}
use Rattle.answer_laws.proofs.Ended.{text_of_read}

-- where reading stops, the line is the first
pub first_at : (labels : Labels) (text : List ℕ) (line : ℕ) → HaveLassos labels → trace_way labels text ≡ off line → IsFirstFault labels text line
first_at labels text line have way =
    first_fault labels (allow_of labels have) text line (some_lines text) way (λ lasso is agree.
    let left = lines_stay labels (parts text) (parts (trace_text labels lasso)) line way (sym agree) in
    let read = trace_again labels (atoms_are labels have.lines.form) have.lines.form.places lasso (lasso_has labels have.lines lasso is) in
    let whole = read.1 in
    cc)

pub named_first : (labels : Labels) (text : List ℕ) (line : ℕ) → HaveLassos labels → (way : Way LassoValue) → trace_way labels text ≡ way → IsFaultOf labels text line way → NamesFirst labels text line
named_first labels text line have (on lasso rest n) e differs = absurd (differs (text_of_read labels (allow_of labels have) text lasso rest n e).0)
named_first labels text line have (off k) e is = record { first = k; is_first = first_at labels text k have e; named = is }

-- no line of the text of a lasso is named
pub none_named : (labels : Labels) (lasso : LassoValue) (line : ℕ) → HasLines labels → IsLassoOf labels lasso → IsFaultOf labels (trace_text labels lasso) line (trace_way labels (trace_text labels lasso)) → ⊥
none_named labels lasso line lines is fault =
    let read = trace_again labels (atoms_are labels lines.form) lines.form.places lasso (lasso_has labels lines lasso is) in
    subst (IsFaultOf labels (trace_text labels lasso) line) read.1 fault refl
