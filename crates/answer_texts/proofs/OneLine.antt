-- The rows of a table are lines.
use Rattle.std.proofs.Common.{◌≡◌, ℕ, ◌+◌, ◌<◌, ◌≤◌, Bool, true, false, not, List, [], ◌∷◌, length, take, get_or, refl, sym, ap, ◌∙◌, subst}
use Rattle.std.proofs.lemmas.List.{take_all}
use Rattle.std.proofs.lemmas.List.Elements.{All-more, All-nil}
use Rattle.sat_dimacs.specs.Text.{has_feed}
use Rattle.answer_texts.specs.Table.{AreLines}

abbrev IsLine : List ℕ → Type 0
IsLine row = has_feed row ≡ false

not_so : (b : Bool) → not b ≡ true → b ≡ false
not_so true e = absurd cc
not_so false e = refl

pub line_of : (row text : List ℕ) → text ≡ row → not (has_feed text) ≡ true → has_feed row ≡ false
line_of row text same e = not_so (has_feed row) (ap (λ (t : List ℕ). not (has_feed t)) (sym same) ∙ e)

pub lines_first : (rows : List (List ℕ)) → AreLines (take 0 rows)
lines_first [] = All-nil IsLine
lines_first (row ∷ rows) = All-nil IsLine

pub lines_more : (rows : List (List ℕ)) (k : ℕ) (row : List ℕ) → k < length rows → row ≡ get_or rows k row → has_feed row ≡ false → AreLines (take k rows) → AreLines (take (k + 1) rows)
lines_more rows k row lt e is was = All-more IsLine rows k row lt was (ap has_feed (sym e) ∙ is)

pub lines_all : (rows : List (List ℕ)) (k : ℕ) → length rows ≤ k → AreLines (take k rows) → AreLines rows
lines_all rows k le was = subst AreLines (take_all k rows le) was

pub same_lines : (rows table : List (List ℕ)) → rows ≡ table → AreLines rows → AreLines table
same_lines rows table same lines = subst AreLines same lines
