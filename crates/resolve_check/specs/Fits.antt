-- Whether every part of a tree fits its place, as a test, and how many columns an expression has
-- whose every part does.
use Rattle.std.specs.Prelude.{◌≡◌, ℕ, suc, ◌+◌, ◌-◌, Bool, true, false, ◌&&◌, eqb, nat_lt, nat_le, if◌then◌else◌, List, [], ◌∷◌, map, length, Option, Some, None, slice_get, slice_index}
use Rattle.core_tree.specs.declared.operators.Multiplicity.{Multiplicity}
use Rattle.core_tree.specs.declared.operators.Multiplicity.TheVariants.{Set, One, Lone, Some as AtLeastOne}
use Rattle.core_tree.specs.declared.operators.RelationOp.{RelationOp}
use Rattle.core_tree.specs.declared.operators.RelationOp.TheVariants.{Union, Difference, Intersection, Join, Override, LeftRestrict, RightRestrict}
use Rattle.core_tree.specs.Trees.{Term, Terms, Variables, Claim, Claims, sig, field, name, univ, iden, empty, int, combine, product, unary, prime, choose_term, comprehension, number, count, arithmetic, sum_over, let_term, call_term, no_terms, more_terms, no_variables, more_variables, inside, equal, within, test, compare, negation, every, connect, choose_claim, for_all, counted, temporal, temporal_pair, let_claim, call_claim, no_claims, more_claims, term_of}
use Rattle.core_tree.specs.declared.model.Bound.{Bound}
use Rattle.core_tree.specs.declared.tree.Expr.{Expr}
use Rattle.core_tree.specs.Columns.{Signature, Shapes, Columns, with_columns, combined, or_zero}
use Rattle.resolve_check.specs.declared.shape.BodyShape.{BodyShape}
use Rattle.resolve_check.specs.declared.shape.Shape.{Shape}
use Rattle.resolve_check.specs.declared.shape.Limits.{Limits}
use Rattle.resolve_check.specs.declared.shape.Calls.{Calls}
use Rattle.resolve_check.specs.declared.shape.Calls.TheVariants.{Any, Below, NoFunction}

-- what a call sees of a body, and what a tree's numbers may name
abbrev pub signature_in : BodyShape → Signature
signature_in s = record { parameters = s.parameters; result = s.result; rank = s.rank }

abbrev pub shapes_in : Shape → Shapes
shapes_in s = record { sigs = s.sigs; fields = s.fields; bodies = map signature_in s.bodies }

abbrev pub only : Bool → Option ℕ → Option ℕ
only true o = o
only false o = None

-- as many columns as an expression may have
abbrev pub few : ℕ → Option ℕ
few n = only (nat_le 1 n) (only (nat_le n 9) (Some n))

abbrev pub few_of : Option ℕ → Option ℕ
few_of None = None
few_of (Some n) = few n

abbrev pub is_there : Option ℕ → Bool
is_there None = false
is_there (Some n) = true

abbrev pub is_missing : Option ℕ → Bool
is_missing None = true
is_missing (Some n) = false

-- just one column
abbrev pub is_single : Option ℕ → Bool
is_single None = false
is_single (Some n) = eqb n 1

abbrev pub has_columns : Option ℕ → ℕ → Bool
has_columns None m = false
has_columns (Some n) m = eqb n m

abbrev pub can_combine : RelationOp → ℕ → ℕ → Bool
can_combine Union a b = eqb a b
can_combine Difference a b = eqb a b
can_combine Intersection a b = eqb a b
can_combine Override a b = eqb a b
can_combine Join a b = nat_le 3 (a + b)
can_combine LeftRestrict a b = eqb a 1
can_combine RightRestrict a b = eqb b 1

abbrev pub combined_columns : RelationOp → Option ℕ → Option ℕ → Option ℕ
combined_columns op None b = None
combined_columns op (Some a) None = None
combined_columns op (Some a) (Some b) = only (can_combine op a b) (few (combined op a b))

abbrev pub product_columns : Option ℕ → Option ℕ → Option ℕ
product_columns None b = None
product_columns (Some a) None = None
product_columns (Some a) (Some b) = few (a + b)

-- both have these columns
abbrev pub same_columns : Option ℕ → Option ℕ → Option ℕ
same_columns None b = None
same_columns (Some a) b = only (has_columns b a) (Some a)

-- a word other than `set` stands before one column alone
abbrev pub can_bound : Multiplicity → ℕ → Bool
can_bound Set n = true
can_bound One n = eqb n 1
can_bound Lone n = eqb n 1
can_bound AtLeastOne n = eqb n 1

abbrev pub bounded : Multiplicity → Option ℕ → Option ℕ
bounded m None = None
bounded m (Some n) = only (can_bound m n) (Some n)

abbrev pub sig_columns : Shape → ℕ → Option ℕ
sig_columns shape s = only (nat_lt s shape.sigs) (Some 1)

-- a field may stand only below this one in the order, where there is one
abbrev pub is_allowed_field : Shape → Option ℕ → ℕ → Bool
is_allowed_field shape None f = true
is_allowed_field shape (Some k) f = nat_lt (slice_index shape.order f) (slice_index shape.order k)

abbrev pub field_columns : Shape → Limits → ℕ → Option ℕ
field_columns shape limits f = only (nat_lt f (length shape.fields)) (only (is_allowed_field shape limits.below f) (few (slice_index shape.fields f)))

abbrev pub is_allowed_body : Calls → BodyShape → Bool
is_allowed_body Any s = true
is_allowed_body (Below r) s = nat_lt s.rank r
is_allowed_body NoFunction s = is_missing s.result

abbrev pub parameters_of_shape : Option BodyShape → List ℕ
parameters_of_shape None = []
parameters_of_shape (Some s) = s.parameters

-- what a call of a function has, where its arguments fit
abbrev pub function_columns : Calls → Option BodyShape → Bool → Option ℕ
function_columns calls None fit = None
function_columns calls (Some s) fit = only fit (only (is_allowed_body calls s) (few_of s.result))

-- whether a call is one of a predicate, where its arguments fit
abbrev pub is_predicate_call : Calls → Option BodyShape → Bool → Bool
is_predicate_call calls None fit = false
is_predicate_call calls (Some s) fit = is_missing s.result && (fit && is_allowed_body calls s)

-- formulas count only where one looks into them
abbrev pub seen : Bool → Bool → Bool
seen true right = right
seen false right = true

abbrev pub how_many : Variables → ℕ
how_many no_variables = 0
how_many (more_variables x apart e rest) = suc (how_many rest)

-- the same names with one more of one column for each variable
abbrev pub names_after : Variables → Columns → Columns
names_after no_variables names = names
names_after (more_variables x apart e rest) names = names_after rest (with_columns names x 1)

module _ (shape : Shape) (limits : Limits) where
  abbrev mutual
    pub columns_at : Term → Columns → Option ℕ
    columns_at (sig s) names = sig_columns shape s
    columns_at (field f) names = field_columns shape limits f
    columns_at (name x) names = few_of (names x)
    columns_at univ names = Some 1
    columns_at iden names = Some 2
    columns_at empty names = Some 1
    columns_at int names = Some 1
    columns_at (combine op a b) names = combined_columns op (columns_at a names) (columns_at b names)
    columns_at (product a m n b) names = product_columns (columns_at a names) (columns_at b names)
    columns_at (unary op a) names = only (has_columns (columns_at a names) 2) (Some 2)
    columns_at (prime a) names = columns_at a names
    columns_at (choose_term f a b) names = only (seen limits.look (is_right f names)) (same_columns (columns_at a names) (columns_at b names))
    columns_at (comprehension vs f) names = only (are_right_variables vs names) (only (seen limits.look (is_right f (names_after vs names))) (few (how_many vs)))
    columns_at (number n place) names = Some 1
    columns_at (count a) names = only (is_there (columns_at a names)) (Some 1)
    columns_at (arithmetic op a b) names = only (is_single (columns_at a names)) (only (is_single (columns_at b names)) (Some 1))
    columns_at (sum_over vs a) names = only (are_right_variables vs names) (only (is_single (columns_at a (names_after vs names))) (Some 1))
    columns_at (let_term x a b) names = only (is_there (columns_at a names)) (columns_at b (with_columns names x (or_zero (columns_at a names))))
    columns_at (call_term body es) names = function_columns limits.calls (slice_get shape.bodies body) (are_right_arguments es names (parameters_of_shape (slice_get shape.bodies body)))

    -- each bound has one column and sees the variables before it
    pub are_right_variables : Variables → Columns → Bool
    are_right_variables no_variables names = true
    are_right_variables (more_variables x apart e rest) names = is_single (columns_at e names) && are_right_variables rest (with_columns names x 1)

    -- an argument for each parameter, with its columns
    pub are_right_arguments : Terms → Columns → List ℕ → Bool
    are_right_arguments no_terms names [] = true
    are_right_arguments no_terms names (n ∷ ns) = false
    are_right_arguments (more_terms e rest) names [] = false
    are_right_arguments (more_terms e rest) names (n ∷ ns) = has_columns (columns_at e names) n && are_right_arguments rest names ns

    pub is_right : Claim → Columns → Bool
    is_right (inside a b) names = is_there (same_columns (columns_at a names) (columns_at b names))
    is_right (equal a b) names = is_there (same_columns (columns_at a names) (columns_at b names))
    is_right (within a m b) names = is_there (same_columns (columns_at a names) (bounded m (columns_at b names)))
    is_right (test q a) names = is_there (columns_at a names)
    is_right (compare op a b) names = is_single (columns_at a names) && is_single (columns_at b names)
    is_right (negation f) names = is_right f names
    is_right (every fs) names = are_right fs names
    is_right (connect op f g) names = is_right f names && is_right g names
    is_right (choose_claim f g h) names = is_right f names && (is_right g names && is_right h names)
    is_right (for_all vs f) names = are_right_variables vs names && is_right f (names_after vs names)
    is_right (counted q vs f) names = are_right_variables vs names && is_right f (names_after vs names)
    is_right (temporal op f) names = is_right f names
    is_right (temporal_pair op f g) names = is_right f names && is_right g names
    is_right (let_claim x e f) names = is_there (columns_at e names) && is_right f (with_columns names x (or_zero (columns_at e names)))
    is_right (call_claim body es) names = is_predicate_call limits.calls (slice_get shape.bodies body) (are_right_arguments es names (parameters_of_shape (slice_get shape.bodies body)))

    pub are_right : Claims → Columns → Bool
    are_right no_claims names = true
    are_right (more_claims f rest) names = is_right f names && are_right rest names

-- what a bound may hold
abbrev pub bound_limits : Option ℕ → Limits
bound_limits below = record { below = below; calls = NoFunction; look = true }

-- an expression and a bound are right, with the same columns
pub record HasColumns (shape : Shape) (limits : Limits) (names : Columns) (e : Expr) (bound : Bound) : Type 0 where
  pub columns : ℕ
  pub expr : columns_at shape limits (term_of e) names ≡ Some columns
  pub limit : bounded bound.multiplicity (columns_at shape (bound_limits None) (term_of bound.expr) names) ≡ Some columns

-- the order of the fields
abbrev pub order_of : Shape → ℕ → ℕ
order_of shape f = slice_index shape.order f
