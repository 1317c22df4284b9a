-- What each operator makes of what its operands are, where that is right.
use Rattle.std.specs.Prelude.{ℕ, ◌+◌, ◌==◌, max, nat_le, Bool, true, false, not, ◌&&◌, ◌||◌, List, [], ◌∷◌, Option, Some, None}
use Rattle.resolve_types.specs.Types.{union_of, product_of, join_of, meets_of, left_restricted_of, right_restricted_of}
use Rattle.resolve_types.specs.Rows.{distinct, transpose_of, closure_of}
use Rattle.resolve_types.specs.declared.columns.Columns.{Columns}
use Rattle.resolve_types.specs.declared.member.Member.TheVariants as member
use Rattle.resolve_readings.specs.declared.part.Typing.{Typing}
use Rattle.resolve_readings.specs.declared.part.Multiplicity.{Multiplicity}
use Rattle.resolve_readings.specs.declared.part.Multiplicity.TheVariants as multiplicity
use Rattle.resolve_readings.specs.declared.part.RootPlace.{RootPlace}
use Rattle.resolve_readings.specs.declared.part.RootPlace.TheVariants as place
use Rattle.resolve_readings.specs.declared.part.Unary.{Unary}
use Rattle.resolve_readings.specs.declared.part.Unary.TheVariants as unary
use Rattle.resolve_readings.specs.declared.part.Binary.{Binary}
use Rattle.resolve_readings.specs.declared.part.Binary.TheVariants as binary
use Rattle.resolve_readings.specs.declared.meaning.What.{What}
use Rattle.resolve_readings.specs.declared.meaning.What.TheVariants as what
use Rattle.resolve_readings.specs.declared.meaning.Meaning.{Meaning}

-- a value where a test is true
abbrev pub when : {X : Type 0} → Bool → X → Option X
when true x = Some x
when false x = None

abbrev pub is_none : {X : Type 0} → List X → Bool
is_none [] = true
is_none (x ∷ xs) = false

-- the type of a number
abbrev pub integers : Columns
integers = record { count = 1; rows = (member.Int ∷ []) ∷ [] }

-- whether what two types have in common isn't empty, or one of them is
abbrev pub agrees : Columns → Columns → Columns → Bool
agrees a b common = is_none a.rows || is_none b.rows || not (is_none common.rows)

-- one meaning made of a part's meaning
abbrev pub of_one : What → ℕ → Meaning → Meaning
of_one w widest a = record { what = w; marked = false; relevant = a.relevant; integer = a.integer; widest = max widest a.widest }

-- one meaning made of two parts' meanings
abbrev pub of_both : What → Bool → Bool → ℕ → Meaning → Meaning → Meaning
of_both w marked relevant widest a b = record {
  what = w;
  marked = marked;
  relevant = relevant && a.relevant && b.relevant;
  integer = a.integer || b.integer;
  widest = max widest (max a.widest b.widest);
}

-- `one`, `lone` and `some` stand before one column alone
abbrev pub word_fits : Option Multiplicity → ℕ → Bool
word_fits None n = true
word_fits (Some multiplicity.Set) n = true
word_fits (Some multiplicity.One) n = n == 1
word_fits (Some multiplicity.Lone) n = n == 1
word_fits (Some multiplicity.Some) n = n == 1

-- Whether a set may stand in the place. A marked one, an arrow with a multiplicity, stands only in a bound.
abbrev pub set_fits : RootPlace → Columns → Bool → Bool
set_fits place.Formula c marked = false
set_fits (place.Bound word) c marked = word_fits word c.count
set_fits place.Value c marked = not marked
set_fits (place.Columns n) c marked = not marked && (c.count == n)

-- whether a formula may stand in the place
abbrev pub formula_fits : RootPlace → Bool
formula_fits place.Formula = true
formula_fits (place.Bound word) = false
formula_fits place.Value = false
formula_fits (place.Columns n) = false

-- what a call is once it has all its arguments
abbrev pub called : Option Columns → What
called None = what.Formula
called (Some result) = what.Set result

-- a body that waits for these parameters, or its call where it waits for none
abbrev pub waiting : List Columns → Option Columns → What
waiting [] result = called result
waiting (p ∷ ps) result = what.Waiting (p ∷ ps) result

abbrev pub columns_of_result : List Columns → Option Columns → ℕ
columns_of_result [] (Some result) = result.count
columns_of_result _ _ = 0

-- a set made of an unmarked one of two columns
abbrev pub of_pairs : Columns → Columns → Meaning → Option Meaning
of_pairs c made m = when (c.count == 2 && not m.marked) (of_one (what.Set made) 2 m)

-- a set made of two unmarked ones, where a test is true
abbrev pub plain_pair : Bool → Columns → Bool → Meaning → Meaning → Option Meaning
plain_pair right type relevant a b =
    when (right && not a.marked && not b.marked) (of_both (what.Set (distinct type)) false relevant type.count a b)

-- an operator on a formula
abbrev pub of_formula : Unary → Meaning → Option Meaning
of_formula unary.Whole m = Some m
of_formula (unary.Fits p) m = when (formula_fits p) m
of_formula _ m = None

module _ (typing : Typing) where
  -- an operator on one set
  abbrev pub of_set : Unary → Columns → Meaning → Option Meaning
  of_set unary.Whole c m = Some m
  of_set unary.Transpose c m = of_pairs c (transpose_of c) m
  of_set unary.Closure c m = of_pairs c (closure_of typing.lines c) m
  of_set unary.ReflexiveClosure c m = of_pairs c (distinct (union_of (closure_of typing.lines c) typing.iden)) m
  of_set unary.Count c m = when (not m.marked) (of_one (what.Set integers) 1 m)
  of_set unary.Prime c m = when (not m.marked) (of_one (what.Set c) c.count m)
  of_set unary.Body c m = when (not m.marked) (of_one (what.Set c) c.count m)
  of_set (unary.Fits p) c m = when (set_fits p c m.marked) m

  abbrev pub of_kind : Unary → What → Meaning → Option Meaning
  of_kind op (what.Set c) m = of_set op c m
  of_kind op what.Formula m = of_formula op m
  of_kind op (what.Waiting parameters result) m = None

  -- what an operator makes of one part, where that is right
  abbrev pub single_of : Unary → Meaning → Option Meaning
  single_of op m = of_kind op m.what m

  -- the argument for the first parameter that a body waits for
  abbrev pub given : Columns → List Columns → Option Columns → Meaning → Columns → Meaning → Option Meaning
  given p ps result body columns argument =
      when (columns.count == p.count && not argument.marked)
      (of_both (waiting ps result) false (agrees columns p (meets_of typing.lines columns p)) (columns_of_result ps result) body argument)

  -- the next argument of a body, where it waits for one
  abbrev pub given_next : List Columns → Option Columns → Meaning → Columns → Meaning → Option Meaning
  given_next [] result body columns argument = None
  given_next (p ∷ ps) result body columns argument = given p ps result body columns argument

  abbrev pub joined_pair : Columns → Columns → Meaning → Meaning → Option Meaning
  joined_pair a b l r = plain_pair (nat_le 3 (a.count + b.count)) (join_of typing.lines a b) (agrees a b (join_of typing.lines a b)) l r

  -- a comparison, where a test is true
  abbrev pub compared : Bool → Columns → Columns → Meaning → Meaning → Option Meaning
  compared right a b l r =
      when (right && not l.marked) (of_both what.Formula false (agrees a b (meets_of typing.lines a b)) 0 l r)

  -- the operator between two sets
  abbrev pub of_sets : Binary → Columns → Columns → Meaning → Meaning → Option Meaning
  of_sets binary.Union a b l r = plain_pair (a.count == b.count) (union_of a b) true l r
  of_sets binary.Difference a b l r = plain_pair (a.count == b.count) a true l r
  of_sets binary.Override a b l r = plain_pair (a.count == b.count) (union_of a b) true l r
  of_sets binary.Intersection a b l r = plain_pair (a.count == b.count) (meets_of typing.lines a b) (agrees a b (meets_of typing.lines a b)) l r
  of_sets (binary.Arrow marked) a b l r =
      Some (of_both (what.Set (product_of typing.lines a b)) (marked || l.marked || r.marked) true (product_of typing.lines a b).count l r)
  of_sets binary.LeftRestrict s a l r = plain_pair (s.count == 1) (left_restricted_of typing.lines s a) (agrees s a (left_restricted_of typing.lines s a)) l r
  of_sets binary.RightRestrict a s l r = plain_pair (s.count == 1) (right_restricted_of typing.lines a s) (agrees a s (right_restricted_of typing.lines a s)) l r
  of_sets binary.Arithmetic a b l r = plain_pair (a.count == 1 && (b.count == 1)) integers true l r
  of_sets binary.Choose a b l r = plain_pair (a.count == b.count) (union_of a b) true l r
  of_sets binary.Dot a b l r = joined_pair a b l r
  of_sets binary.Apply a b l r = joined_pair b a r l
  of_sets (binary.In word) a b l r = compared (a.count == b.count && word_fits word b.count) a b l r
  of_sets binary.Equal a b l r = compared (a.count == b.count && not r.marked) a b l r
  of_sets binary.Order a b l r = compared (a.count == 1 && (b.count == 1) && not r.marked) a b l r

  abbrev pub of_kinds : Binary → What → What → Meaning → Meaning → Option Meaning
  of_kinds op (what.Set a) (what.Set b) l r = of_sets op a b l r
  of_kinds binary.Dot (what.Set a) (what.Waiting ps result) l r = given_next ps result r a l
  of_kinds binary.Apply (what.Waiting ps result) (what.Set a) l r = given_next ps result l a r
  of_kinds _ _ _ l r = None

  -- what an operator makes of what its operands are, where that is right
  abbrev pub pair_of : Binary → Meaning → Meaning → Option Meaning
  pair_of op l r = of_kinds op l.what r.what l r
