-- Rows that are added, and rounds of joins, one at a time.
use Rattle.std.proofs.Common.{◌≡◌, ℕ, zero, suc, ◌+◌, ◌<◌, true, false, Bool, cond, List, [], ◌∷◌, ◌++◌, length, get_or, take, refl, sym, ◌∙◌, ap, arith, append_assoc, append-nil, length-append}
use Rattle.std.proofs.lemmas.List.{take_more}
use Rattle.resolve_types.specs.Types.{Lines, Row}
use Rattle.resolve_types.specs.Rows.{has_row, with_row, added, once_more, rounds}

pub added-append : (rows xs ys : List Row) → added rows (xs ++ ys) ≡ added (added rows xs) ys
added-append rows [] ys = refl
added-append rows (x ∷ xs) ys = added-append (with_row rows x) xs ys

-- one row more that is added
pub added_more : (rows more : List Row) (i : ℕ) (row : Row) → i < length more → row ≡ get_or more i row → with_row (added rows (take i more)) row ≡ added rows (take (i + 1) more)
added_more rows more i row lt e =
    sym (added-append rows (take i more) (row ∷ []))
    ∙ ap (λ xs. added rows xs) (ap (λ y. take i more ++ y ∷ []) e ∙ sym (take_more more i row lt))

with_row_grows : (rows : List Row) (row : Row) → (fresh : List Row) × (with_row rows row ≡ rows ++ fresh)
with_row_grows rows row = by (has_row rows row)
  where
    by : (b : Bool) → (fresh : List Row) × (cond b rows (rows ++ row ∷ []) ≡ rows ++ fresh)
    by true = ([], sym (append-nil rows))
    by false = (row ∷ [], refl)

-- what is added stands behind what was there
added_grows : (rows more : List Row) → (fresh : List Row) × (added rows more ≡ rows ++ fresh)
added_grows rows [] = ([], sym (append-nil rows))
added_grows rows (row ∷ more) =
    let one = with_row_grows rows row in
    let rest = added_grows (with_row rows row) more in
    (one.0 ++ rest.0, rest.1 ∙ ap (λ xs. xs ++ rest.0) one.1 ∙ append_assoc rows one.0 rest.0)

none_of : (rows fresh : List Row) → length (rows ++ fresh) ≡ length rows → rows ++ fresh ≡ rows
none_of rows [] e = append-nil rows
none_of rows (x ∷ fresh) e =
    let sum : length rows + suc (length fresh) ≡ length rows = sym (length-append rows (x ∷ fresh)) ∙ e in
    absurd (omega (arith, sum))

-- where the number stays, nothing was added
pub added_same : (rows more : List Row) → length (added rows more) ≡ length rows → added rows more ≡ rows
added_same rows more e =
    let grown = added_grows rows more in
    grown.1 ∙ none_of rows grown.0 (ap (λ xs. length xs) (sym grown.1) ∙ e)

-- where a round brings nothing, no round does
pub rounds_same : (lines : Lines) (n : ℕ) (rows : List Row) → once_more lines rows ≡ rows → rounds lines n rows ≡ rows
rounds_same lines zero rows e = refl
rounds_same lines (suc n) rows e = ap (rounds lines n) e ∙ rounds_same lines n rows e
