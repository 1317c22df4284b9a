-- Readings: what an expression is as a part of its root, and which candidate of each of its names is chosen; and formulas, of whose
-- roots each has the choice that is its reading.
use Rattle.std.specs.Prelude.{◌≡◌, ℕ, Bool, false, List, [], ◌∷◌, ◌++◌, Option, Some, None, codes}
use Rattle.base_types.specs.declared.place.Position.{Position}
use Rattle.syntax_tree.specs.declared.operator.Infix.{Infix}
use Rattle.syntax_tree.specs.declared.operator.Prefix.{Prefix}
use Rattle.syntax_tree.specs.declared.operator.Quantifier.{Quantifier}
use Rattle.syntax_tree.specs.declared.operator.Comparison.{Comparison}
use Rattle.syntax_tree.specs.declared.operator.Constant.{Constant}
use Rattle.syntax_tree.specs.declared.operator.Constant.TheVariants as constant
use Rattle.syntax_tree.specs.declared.operator.Multiplicity.{Multiplicity as Word}
use Rattle.syntax_tree.specs.declared.expr.QualName.{QualName}
use Rattle.syntax_tree.specs.declared.expr.Decl.{Decl}
use Rattle.syntax_tree.specs.declared.expr.Binding.{Binding}
use Rattle.syntax_tree.specs.declared.expr.Access.{Access}
use Rattle.syntax_tree.specs.declared.expr.Access.TheVariants as access
use Rattle.syntax_tree.specs.declared.expr.Expr.{Expr}
use Rattle.syntax_tree.specs.declared.expr.Expr.TheVariants as expr
use Rattle.resolve_types.specs.Types.{Lines}
use Rattle.resolve_types.specs.declared.columns.Columns.{Columns}
use Rattle.resolve_readings.specs.Meanings.{integers}
use Rattle.resolve_readings.specs.Readings.{Choice, read, IsReading}
use Rattle.resolve_readings.specs.declared.meaning.Meaning.{Meaning}
use Rattle.resolve_readings.specs.declared.meaning.What.TheVariants as what
use Rattle.resolve_readings.specs.declared.part.Typing.{Typing}
use Rattle.resolve_readings.specs.declared.part.Unary.{Unary}
use Rattle.resolve_readings.specs.declared.part.Unary.TheVariants as unary
use Rattle.resolve_readings.specs.declared.part.Binary.{Binary}
use Rattle.resolve_readings.specs.declared.part.Binary.TheVariants as binary
use Rattle.resolve_readings.specs.declared.part.RootPlace.{RootPlace}
use Rattle.resolve_readings.specs.declared.part.RootPlace.TheVariants as place
use Rattle.resolve_readings.specs.declared.part.Part.{Part}
use Rattle.resolve_rules.specs.Candidates.{set_of}
use Rattle.resolve_rules.specs.Forms.{word_of, between, before_set, IsTest, IsLogical, IsSum, compared_by}
use Rattle.resolve_rules.specs.Prepared.{Tree, name, known, single, pair, tree_of, no_columns, times, under}
use Rattle.resolve_read.specs.At.{At, Scope, type_of, with_decls, with_values}
use Rattle.resolve_read.specs.Candidates.{constant_type, Picked, PicksField}

-- the root of these parts has this reading, and this is what it then means
abbrev pub ReadAs : Typing → Tree → Choice → Meaning → Type 0
ReadAs typing t choice m = (root : Part) × (tree_of root ≡ t) × IsReading typing root choice × (read typing root choice ≡ Some (m, []))

-- the type of a product with that of each name of these declarations behind it
abbrev pub product_with : Lines → Columns → List (Decl Expr) → List Columns → Columns
product_with lines before (d ∷ ds) (c ∷ cs) = product_with lines (times lines before d.names c) ds cs
product_with lines before _ _ = before

-- a form that may be the call of a predicate: a name, or a join
pub data MayCall : Expr → Type 0 where
  by_name : {e : Expr} {q : QualName} → e ≡ expr.Name q → MayCall e
  by_join : {e : Expr} (first : Expr) (steps : List (Access Expr)) → e ≡ expr.Join first steps → MayCall e

module _ (at : At) where
  mutual
    -- an expression with these names in scope, as a part of the root in which it stands, with what is chosen for its names
    pub data Reads : Scope → Expr → Tree → Choice → Type 0 where
      a_name : {scope : Scope} {e : Expr} {ms : List Meaning} {n : ℕ} {q : QualName} → e ≡ expr.Name q → Picked at scope q ms n → Reads scope e (name ms) (n ∷ [])
      a_field : {scope : Scope} {e : Expr} {ms : List Meaning} {n : ℕ} {p : Position} {q : QualName} → e ≡ expr.At p q → PicksField at q ms n → Reads scope e (name ms) (n ∷ [])
      this : {scope : Scope} {e : Expr} {p : Position} {c : Columns} → e ≡ expr.Constant p constant.This → type_of (codes "this") scope ≡ Some c → Reads scope e (name (set_of c false ∷ [])) (0 ∷ [])
      a_constant : {scope : Scope} {e : Expr} {p : Position} {w : Constant} {c : Columns} → e ≡ expr.Constant p w → constant_type at w ≡ Some c → Reads scope e (known (set_of c false)) []
      a_number : {scope : Scope} {e : Expr} {p : Position} {n : ℕ} → e ≡ expr.Number p n → Reads scope e (known (set_of integers false)) []
      a_negative : {scope : Scope} {e : Expr} {p : Position} {n : ℕ} → e ≡ expr.Negative p n → Reads scope e (known (set_of integers false)) []
      a_literal : {scope : Scope} {e : Expr} {p : Position} {text : List ℕ} {c : Columns} → e ≡ expr.Literal p text → constant_type at constant.String ≡ Some c → Reads scope e (known (set_of c false)) []
      in_parentheses : {scope : Scope} {e inner : Expr} {t : Tree} {choice : Choice} {p : Position} → e ≡ expr.Parenthesis p inner → Reads scope inner t choice → Reads scope e (single unary.Whole t) choice
      primed : {scope : Scope} {e inner : Expr} {t : Tree} {choice : Choice} → e ≡ expr.Prime inner → Reads scope inner t choice → Reads scope e (single unary.Prime t) choice
      prefixed : {scope : Scope} {e inner : Expr} {t : Tree} {choice : Choice} {u : Unary} {p : Position} {op : Prefix} → e ≡ expr.Prefix p op inner → before_set op ≡ Some u → Reads scope inner t choice → Reads scope e (single u t) choice
      a_row : {scope : Scope} {e first : Expr} {t : Tree} {choice : Choice} {links : List (Infix × Expr)} → e ≡ expr.Infix first links → RowReads scope first links t choice → Reads scope e t choice
      a_join : {scope : Scope} {e first : Expr} {t : Tree} {choice : Choice} {steps : List (Access Expr)} → e ≡ expr.Join first steps → StepsRead scope first steps t choice → Reads scope e t choice
      a_choice : {scope : Scope} {e condition a b : Expr} {t u : Tree} {choice other : Choice} {is_word : Bool} → e ≡ expr.Implication is_word condition a (Some b) → IsRead scope condition → Reads scope a t choice → Reads scope b u other → Reads scope e (pair binary.Choose t u) (choice ++ other)
      a_let : {scope : Scope} {e body : Expr} {t : Tree} {choice : Choice} {p : Position} {bindings : List (Binding Expr)} {has_bar : Bool} {types : List Columns} → e ≡ expr.Let p bindings has_bar body → ValuesRead scope bindings types → Reads (with_values scope bindings types) body t choice → Reads scope e (under bindings t) choice
      a_comprehension : {scope : Scope} {e body : Expr} {p : Position} {decls : List (Decl Expr)} {has_bar : Bool} {types : List Columns} → e ≡ expr.Comprehension p decls has_bar body → DeclsRead scope decls types → IsRead (with_decls scope decls types) body → Reads scope e (known (set_of (product_with at.types.typing.lines no_columns decls types) false)) []
      a_sum : {scope : Scope} {e body : Expr} {p : Position} {w : Quantifier} {decls : List (Decl Expr)} {has_bar : Bool} {types : List Columns} {m : Meaning} → e ≡ expr.Quantified p w decls has_bar body → IsSum w → DeclsRead scope decls types → RootReads (with_decls scope decls types) (place.Columns 1) body m → Reads scope e (known (set_of integers false)) []

    -- an expression that is a root, in its place, and what it means by its reading
    pub data RootReads : Scope → RootPlace → Expr → Meaning → Type 0 where
      root : {scope : Scope} {w : RootPlace} {e : Expr} {m : Meaning} {t : Tree} {choice : Choice} → Reads scope e t choice → ReadAs at.types.typing (single (unary.Fits w) t) choice m → RootReads scope w e m

    -- a row of operators between parts, which group to the left
    pub data RowReads : Scope → Expr → List (Infix × Expr) → Tree → Choice → Type 0 where
      first_operand : {scope : Scope} {first : Expr} {t : Tree} {choice : Choice} → Reads scope first t choice → RowReads scope first [] t choice
      next_operand : {scope : Scope} {first e : Expr} {t u : Tree} {choice other : Choice} {links all : List (Infix × Expr)} {b : Binary} (op : Infix) → all ≡ links ++ (op, e) ∷ [] → RowReads scope first links t choice → between op ≡ Some b → Reads scope e u other → RowReads scope first all (pair b t u) (choice ++ other)

    -- a join: what stands left of a dot is the first argument of a body's name, and the arguments of boxes come behind it
    pub data StepsRead : Scope → Expr → List (Access Expr) → Tree → Choice → Type 0 where
      no_step : {scope : Scope} {first : Expr} {t : Tree} {choice : Choice} → Reads scope first t choice → StepsRead scope first [] t choice
      dot : {scope : Scope} {first e : Expr} {t u : Tree} {choice other : Choice} {steps all : List (Access Expr)} → all ≡ steps ++ access.Dot e ∷ [] → StepsRead scope first steps t choice → Reads scope e u other → StepsRead scope first all (pair binary.Dot t u) (choice ++ other)
      box : {scope : Scope} {first : Expr} {t u : Tree} {choice other : Choice} {steps all : List (Access Expr)} {es : List Expr} → all ≡ steps ++ access.Bracket es ∷ [] → StepsRead scope first steps t choice → ArgumentsRead scope t choice es u other → StepsRead scope first all u other

    -- a part with the arguments of a box behind it
    pub data ArgumentsRead : Scope → Tree → Choice → List Expr → Tree → Choice → Type 0 where
      no_argument : {scope : Scope} {t : Tree} {choice : Choice} → ArgumentsRead scope t choice [] t choice
      next_argument : {scope : Scope} {e : Expr} {s t u : Tree} {before choice other : Choice} {es all : List Expr} → all ≡ es ++ e ∷ [] → ArgumentsRead scope s before es t choice → Reads scope e u other → ArgumentsRead scope s before all (pair binary.Apply t u) (choice ++ other)

    -- the bound of a declaration is a root, and this is its type
    pub data BoundReads : Scope → Option Word → Expr → Columns → Type 0 where
      bound : {scope : Scope} {w : Option Word} {e : Expr} {c : Columns} {m : Meaning} → RootReads scope (place.Bound (word_of w)) e m → m.what ≡ what.Set c → BoundReads scope w e c

    -- declarations, each of whose bounds sees the names before it, and the types of the bounds
    pub data DeclsRead : Scope → List (Decl Expr) → List Columns → Type 0 where
      no_decl : {scope : Scope} → DeclsRead scope [] []
      next_decl : {scope : Scope} (d : Decl Expr) {ds all : List (Decl Expr)} {c : Columns} {cs types : List Columns} → all ≡ ds ++ d ∷ [] → types ≡ cs ++ c ∷ [] → DeclsRead scope ds cs → BoundReads (with_decls scope ds cs) d.word d.bound c → DeclsRead scope all types

    -- the values of a `let`, each of which sees the names before it, and their types
    pub data ValuesRead : Scope → List (Binding Expr) → List Columns → Type 0 where
      no_value : {scope : Scope} → ValuesRead scope [] []
      next_value : {scope : Scope} (b : Binding Expr) {bs all : List (Binding Expr)} {c : Columns} {cs types : List Columns} {m : Meaning} → all ≡ bs ++ b ∷ [] → types ≡ cs ++ c ∷ [] → ValuesRead scope bs cs → RootReads (with_values scope bs cs) place.Value b.value m → m.what ≡ what.Set c → ValuesRead scope all types

    -- a formula, of whose roots each has its reading
    pub data IsRead : Scope → Expr → Type 0 where
      a_parenthesis : {scope : Scope} {e inner : Expr} {p : Position} → e ≡ expr.Parenthesis p inner → IsRead scope inner → IsRead scope e
      a_block : {scope : Scope} {e : Expr} {p : Position} {items : List Expr} → e ≡ expr.Block p items → AreRead scope items → IsRead scope e
      a_sequence : {scope : Scope} {e a b : Expr} → e ≡ expr.Sequence a b → IsRead scope a → IsRead scope b → IsRead scope e
      an_implication : {scope : Scope} {e a b : Expr} {is_word : Bool} → e ≡ expr.Implication is_word a b None → IsRead scope a → IsRead scope b → IsRead scope e
      a_branching : {scope : Scope} {e condition a b : Expr} {is_word : Bool} → e ≡ expr.Implication is_word condition a (Some b) → IsRead scope condition → IsRead scope a → IsRead scope b → IsRead scope e
      a_comparison : {scope : Scope} {e a b : Expr} {t u : Tree} {choice other : Choice} {op : Comparison} {m : Meaning} → e ≡ expr.Compare op a b → Reads scope a t choice → Reads scope b u other → ReadAs at.types.typing (single (unary.Fits place.Formula) (pair (compared_by op.comparator op.word) t u)) (choice ++ other) m → IsRead scope e
      a_test : {scope : Scope} {e a : Expr} {p : Position} {op : Prefix} {m : Meaning} → e ≡ expr.Prefix p op a → IsTest op → RootReads scope place.Value a m → IsRead scope e
      a_prefix : {scope : Scope} {e a : Expr} {p : Position} {op : Prefix} → e ≡ expr.Prefix p op a → IsLogical op → IsRead scope a → IsRead scope e
      a_logical_row : {scope : Scope} {e first : Expr} {op : Infix} {a : Expr} {links : List (Infix × Expr)} → e ≡ expr.Infix first ((op, a) ∷ links) → between op ≡ None → IsRead scope first → LinksRead scope ((op, a) ∷ links) → IsRead scope e
      a_formula_let : {scope : Scope} {e body : Expr} {p : Position} {bindings : List (Binding Expr)} {has_bar : Bool} {types : List Columns} → e ≡ expr.Let p bindings has_bar body → ValuesRead scope bindings types → IsRead (with_values scope bindings types) body → IsRead scope e
      a_quantified : {scope : Scope} {e body : Expr} {p : Position} {w : Quantifier} {decls : List (Decl Expr)} {has_bar : Bool} {types : List Columns} → e ≡ expr.Quantified p w decls has_bar body → (IsSum w → ⊥) → DeclsRead scope decls types → IsRead (with_decls scope decls types) body → IsRead scope e
      a_call : {scope : Scope} {e : Expr} {m : Meaning} → MayCall e → RootReads scope place.Formula e m → IsRead scope e

    pub data AreRead : Scope → List Expr → Type 0 where
      no_item : {scope : Scope} → AreRead scope []
      next_item : {scope : Scope} {e : Expr} {es all : List Expr} → all ≡ es ++ e ∷ [] → AreRead scope es → IsRead scope e → AreRead scope all

    -- the formulas behind operators
    pub data LinksRead : Scope → List (Infix × Expr) → Type 0 where
      no_link : {scope : Scope} → LinksRead scope []
      next_link : {scope : Scope} {e : Expr} {links all : List (Infix × Expr)} (op : Infix) → all ≡ links ++ (op, e) ∷ [] → LinksRead scope links → IsRead scope e → LinksRead scope all
