-- The type of a resolved expression: rows of non-subset sigs and `Int`.
-- In these types a `var` sig stands as its nearest ancestor that isn't `var`, or as its top-level
-- sig where there is none, so that a type holds at every position.
use Rattle.std.specs.Prelude.{ℕ, zero, suc, eqb, Bool, true, false, if◌then◌else◌, List, [], ◌∷◌, ◌++◌, map, length, reverse, Option, Some, None, slice_get, is_some}
use Rattle.std.specs.List.{flat_map}
use Rattle.core_tree.specs.declared.operators.RelationOp.{RelationOp}
use Rattle.core_tree.specs.declared.operators.RelationOp.TheVariants.{Union, Difference, Intersection, Join, Override, LeftRestrict, RightRestrict}
use Rattle.core_tree.specs.declared.operators.UnaryRelation.{UnaryRelation}
use Rattle.core_tree.specs.declared.operators.UnaryRelation.TheVariants.{Transpose, Closure, ReflexiveClosure}
use Rattle.core_tree.specs.declared.model.Sig.{Sig}
use Rattle.core_tree.specs.declared.model.SigKind.{SigKind}
use Rattle.core_tree.specs.declared.model.SigKind.TheVariants.{Top, Extends, Subset}
use Rattle.core_tree.specs.declared.model.Column.{Column}
use Rattle.core_tree.specs.declared.model.Column.TheVariants.{Sig as SigColumn, Int as IntColumn}
use Rattle.core_tree.specs.declared.model.Field.{Field}
use Rattle.core_tree.specs.declared.model.Model.{Model}
use Rattle.core_tree.specs.declared.model.Body.{Body}
use Rattle.core_tree.specs.declared.model.BodyForm.{BodyForm}
use Rattle.core_tree.specs.declared.model.BodyForm.TheVariants.{Test, Term as Value}
use Rattle.core_tree.specs.declared.model.Parameter.{Parameter}
use Rattle.core_tree.specs.Trees.{Term, Variables, sig, field, name, univ, iden, empty, int, combine, product, unary, prime, choose_term, comprehension, number, count, arithmetic, sum_over, let_term, call_term, no_variables, more_variables, term_of}

abbrev pub TypeRow : Type 0
TypeRow = List Column

abbrev pub TypeRows : Type 0
TypeRows = List TypeRow

-- what a sig's `extends` parent gives, or what is given where it has none
abbrev pub by_parent : {X : Type 0} → X → (ℕ → X) → SigKind → X
by_parent none up Top = none
by_parent none up (Extends p) = up p
by_parent none up (Subset ps) = none

abbrev pub by_sig : {X : Type 0} → X → (Sig → X) → Option Sig → X
by_sig none of None = none
by_sig none of (Some d) = of d

-- as which sig a sig stands in a type, going up at most so far
abbrev pub standing : List Sig → ℕ → ℕ → ℕ
standing sigs zero s = s
standing sigs (suc n) s = by_sig s (λ d. if d.is_var then by_parent s (λ p. standing sigs n p) d.kind else s) (slice_get sigs s)

-- whether sig a is sig b or lies under it by `extends`, going up at most so far
abbrev pub is_under : List Sig → ℕ → ℕ → ℕ → Bool
is_under sigs zero a b = eqb a b
is_under sigs (suc n) a b = if eqb a b then true else by_sig false (λ d. by_parent false (λ p. is_under sigs n p b) d.kind) (slice_get sigs a)

-- the lower one of two columns where one lies under the other
abbrev pub meet : List Sig → Column → Column → Option Column
meet sigs IntColumn IntColumn = Some IntColumn
meet sigs (SigColumn a) (SigColumn b) = if is_under sigs (length sigs) a b then Some (SigColumn a) else if is_under sigs (length sigs) b a then Some (SigColumn b) else None
meet sigs IntColumn (SigColumn b) = None
meet sigs (SigColumn a) IntColumn = None

abbrev pub parent_rows : (ℕ → TypeRows) → Column → TypeRows
parent_rows rows IntColumn = (IntColumn ∷ []) ∷ []
parent_rows rows (SigColumn p) = rows p

-- the rows of a sig by its kind: itself, or the rows of its parents
abbrev pub kind_rows : TypeRows → (ℕ → TypeRows) → SigKind → TypeRows
kind_rows itself rows Top = itself
kind_rows itself rows (Extends p) = itself
kind_rows itself rows (Subset ps) = flat_map (parent_rows rows) ps

-- the rows of a sig, going up at most so far
abbrev pub sig_rows : List Sig → ℕ → ℕ → TypeRows
sig_rows sigs zero s = []
sig_rows sigs (suc n) s = by_sig [] (λ d. kind_rows ((SigColumn (standing sigs (length sigs) s) ∷ []) ∷ []) (λ p. sig_rows sigs n p) d.kind) (slice_get sigs s)

-- the row of a top-level sig
abbrev pub top_row : ℕ → SigKind → TypeRows
top_row k Top = (SigColumn k ∷ []) ∷ []
top_row k (Extends p) = []
top_row k (Subset ps) = []

-- the rows of the top-level sigs from number k on, and `Int`
abbrev pub top_rows : List Sig → ℕ → TypeRows
top_rows [] k = (IntColumn ∷ []) ∷ []
top_rows (d ∷ ds) k = top_row k d.kind ++ top_rows ds (suc k)

-- all rows of the first type, each followed by each of the second
abbrev pub row_pairs : TypeRows → TypeRows → TypeRows
row_pairs a b = flat_map (λ r. map (λ q. r ++ q) b) a

abbrev pub option_rows : {X : Type 0} → (X → TypeRow) → Option X → TypeRows
option_rows f None = []
option_rows f (Some x) = f x ∷ []

-- two rows column by column
abbrev pub both_columns : Option Column → Option TypeRow → Option TypeRow
both_columns (Some c) (Some r) = Some (c ∷ r)
both_columns None r = None
both_columns (Some c) None = None

abbrev pub row_meet : List Sig → TypeRow → TypeRow → Option TypeRow
row_meet sigs [] [] = Some []
row_meet sigs (c ∷ r) (d ∷ q) = both_columns (meet sigs c d) (row_meet sigs r q)
row_meet sigs [] (d ∷ q) = None
row_meet sigs (c ∷ r) [] = None

-- two rows that meet in the last column of the first and the first of the second, those left out
abbrev pub turned_join : List Sig → TypeRow → TypeRow → TypeRows
turned_join sigs [] q = []
turned_join sigs (c ∷ s) [] = []
turned_join sigs (c ∷ s) (d ∷ q) = option_rows (λ x. reverse s ++ q) (meet sigs c d)

abbrev pub row_join : List Sig → TypeRow → TypeRow → TypeRows
row_join sigs r q = turned_join sigs (reverse r) q

-- a row whose first, or last, column meets a column
abbrev pub first_meets : List Sig → TypeRow → TypeRow → TypeRows
first_meets sigs (c ∷ []) (d ∷ q) = option_rows (λ x. x ∷ q) (meet sigs c d)
first_meets sigs r q = []

abbrev pub last_meets : List Sig → TypeRow → TypeRow → TypeRows
last_meets sigs r q = map (λ x. reverse x) (first_meets sigs q (reverse r))

abbrev pub each_pair : (TypeRow → TypeRow → TypeRows) → TypeRows → TypeRows → TypeRows
each_pair f a b = flat_map (λ r. flat_map (f r) b) a

-- a type joined with itself at most so often
abbrev pub closed_rows : List Sig → ℕ → TypeRows → TypeRows
closed_rows sigs zero a = a
closed_rows sigs (suc n) a = a ++ each_pair (row_join sigs) a (closed_rows sigs n a)

abbrev pub combined_rows : List Sig → RelationOp → TypeRows → TypeRows → TypeRows
combined_rows sigs Union a b = a ++ b
combined_rows sigs Override a b = a ++ b
combined_rows sigs Difference a b = a
combined_rows sigs Intersection a b = each_pair (λ r q. option_rows (λ x. x) (row_meet sigs r q)) a b
combined_rows sigs Join a b = each_pair (row_join sigs) a b
combined_rows sigs LeftRestrict a b = each_pair (first_meets sigs) a b
combined_rows sigs RightRestrict a b = each_pair (last_meets sigs) a b

abbrev pub unary_rows : List Sig → UnaryRelation → TypeRows → TypeRows
unary_rows sigs Transpose a = map (λ r. reverse r) a
unary_rows sigs Closure a = closed_rows sigs (length a) a
unary_rows sigs ReflexiveClosure a = closed_rows sigs (length a) a ++ row_pairs (top_rows sigs 0) (top_rows sigs 0)

-- the rows that each name has
abbrev pub NameRows : Type 0
NameRows = ℕ → TypeRows

abbrev pub no_rows : NameRows
no_rows x = []

abbrev pub with_rows : NameRows → ℕ → TypeRows → NameRows
with_rows names x rows y = if eqb y x then rows else names y

abbrev pub rows_or_none : Option Field → TypeRows
rows_or_none None = []
rows_or_none (Some f) = f.rows

-- as which sig an expression's sig is typed: a literal's sig, which follows `String` and stands in
-- no text, as `String`
abbrev pub literal_parent : ℕ → Sig → ℕ
literal_parent s d = if is_some d.origin then s else by_parent s (λ p. p) d.kind

abbrev pub typed_as : List Sig → ℕ → ℕ
typed_as sigs s = by_sig s (literal_parent s) (slice_get sigs s)

-- the type of an expression, where calls have the rows that `results` says
module _ (sigs : List Sig) (fields : List Field) (results : ℕ → TypeRows) where
  abbrev mutual
    pub rows_in : Term → NameRows → TypeRows
    rows_in (sig s) names = sig_rows sigs (length sigs) (typed_as sigs s)
    rows_in (field f) names = rows_or_none (slice_get fields f)
    rows_in (name x) names = names x
    rows_in univ names = top_rows sigs 0
    rows_in iden names = row_pairs (top_rows sigs 0) (top_rows sigs 0)
    rows_in empty names = []
    rows_in int names = (IntColumn ∷ []) ∷ []
    rows_in (combine op a b) names = combined_rows sigs op (rows_in a names) (rows_in b names)
    rows_in (product a m n b) names = row_pairs (rows_in a names) (rows_in b names)
    rows_in (unary op a) names = unary_rows sigs op (rows_in a names)
    rows_in (prime a) names = rows_in a names
    rows_in (choose_term f a b) names = rows_in a names ++ rows_in b names
    rows_in (comprehension vs f) names = variable_rows vs names
    rows_in (number n place) names = (IntColumn ∷ []) ∷ []
    rows_in (count a) names = (IntColumn ∷ []) ∷ []
    rows_in (arithmetic op a b) names = (IntColumn ∷ []) ∷ []
    rows_in (sum_over vs a) names = (IntColumn ∷ []) ∷ []
    rows_in (let_term x a b) names = rows_in b (with_rows names x (rows_in a names))
    rows_in (call_term body es) names = results body

    -- the product of the bounds' types
    pub variable_rows : Variables → NameRows → TypeRows
    variable_rows no_variables names = [] ∷ []
    variable_rows (more_variables x apart e rest) names = row_pairs (rows_in e names) (variable_rows rest (with_rows names x (rows_in e names)))

-- no call: bounds call no function
abbrev pub no_results : ℕ → TypeRows
no_results body = []

-- the rows of parameters from number k on, whose bounds see those before them
abbrev pub parameter_rows : Model → List Parameter → ℕ → NameRows → NameRows
parameter_rows model [] k names = names
parameter_rows model (p ∷ ps) k names = parameter_rows model ps (suc k) (with_rows names k (rows_in model.sigs model.fields no_results (term_of p.bound.expr) names))

-- the rows of a function's result bound, with its declared parameters
abbrev pub result_rows : Model → ℕ → TypeRows
result_rows model body = go (slice_get model.bodies body)
  where
    of_form : List Parameter → BodyForm → TypeRows
    of_form ps (Test f) = []
    of_form ps (Value e bound) = rows_in model.sigs model.fields no_results (term_of bound.expr) (parameter_rows model ps 0 no_rows)

    go : Option Body → TypeRows
    go None = []
    go (Some b) = of_form b.parameters b.form

-- the type of an expression of a model
abbrev pub type_of : Model → Term → NameRows → TypeRows
type_of model e names = rows_in model.sigs model.fields (result_rows model) e names
