-- Where formulas and expressions stand in each other, and which names are in scope there.
use Rattle.std.specs.Prelude.{◌≡◌, ◌⊎◌, ℕ, ◌<◌, Bool, List, [], ◌∷◌, ◌++◌, Option, Some, None, Contains, codes}
use Rattle.base_types.specs.declared.place.Position.{Position}
use Rattle.syntax_tree.specs.declared.operator.Infix.{Infix}
use Rattle.syntax_tree.specs.declared.operator.Prefix.{Prefix}
use Rattle.syntax_tree.specs.declared.operator.Quantifier.{Quantifier}
use Rattle.syntax_tree.specs.declared.operator.Comparison.{Comparison}
use Rattle.syntax_tree.specs.declared.operator.Multiplicity.{Multiplicity as Word}
use Rattle.syntax_tree.specs.declared.operator.Multiplicity.TheVariants as word
use Rattle.syntax_tree.specs.declared.expr.Named.{Named}
use Rattle.syntax_tree.specs.declared.expr.Decl.{Decl}
use Rattle.syntax_tree.specs.declared.expr.Binding.{Binding}
use Rattle.syntax_tree.specs.declared.expr.Access.{Access}
use Rattle.syntax_tree.specs.declared.expr.Access.TheVariants as access
use Rattle.syntax_tree.specs.declared.expr.Expr.{Expr}
use Rattle.syntax_tree.specs.declared.expr.Expr.TheVariants as expr
use Rattle.resolve_types.specs.declared.columns.Columns.{Columns}
use Rattle.resolve_readings.specs.declared.part.Typing.{Typing}
use Rattle.resolve_readings.specs.declared.part.Unary.{Unary}
use Rattle.resolve_readings.specs.declared.part.Unary.TheVariants as unary
use Rattle.resolve_readings.specs.declared.part.Binary.{Binary}
use Rattle.resolve_readings.specs.declared.part.RootPlace.{RootPlace as Wanted}
use Rattle.resolve_readings.specs.declared.part.RootPlace.TheVariants as wanted
use Rattle.resolve_readings.specs.declared.part.Part.{Part}
use Rattle.base_types.specs.declared.place.Rule.{Rule}
use Rattle.syntax_tree.specs.declared.expr.QualName.{QualName}
use Rattle.syntax_tree.specs.declared.operator.Constant.{Constant}
use Rattle.syntax_tree.specs.declared.operator.Constant.TheVariants as constant
use Rattle.resolve_names.specs.Twice.{IsBefore}
use Rattle.resolve_rules.specs.Roots.{IsBroken}
use Rattle.resolve_rules.specs.Candidates.{Ground, Locals, Tables, IsLocal, AreCandidates, AreFields}
use Rattle.resolve_rules.specs.Forms.{word_of, between, before_set, IsTest, IsLogical, IsSum}
use Rattle.resolve_rules.specs.Prepared.{Tree, single, tree_of, IsPart, IsBound, IsValue, IsComparison, IsClaim, named}

-- what is wanted where an expression stands: a formula; a part of the root round it; or a root of its own, a set
-- in that place
pub data Role : Type 0 where
  formula : Role
  part : Role
  set : Wanted → Role

-- the place that a name, a constant, a number, a literal or `this` gives a root; `@` and a name give that of the name
pub data IsLeaf : Expr → Position → Type 0 where
  a_name : (e : Expr) (q : QualName) → e ≡ expr.Name q → IsLeaf e q.place
  a_field : (e : Expr) (q : QualName) (p : Position) → e ≡ expr.At p q → IsLeaf e q.place
  a_constant : (e : Expr) (p : Position) (w : Constant) → e ≡ expr.Constant p w → IsLeaf e p
  a_number : (e : Expr) (p : Position) (n : ℕ) → e ≡ expr.Number p n → IsLeaf e p
  a_negative : (e : Expr) (p : Position) (n : ℕ) → e ≡ expr.Negative p n → IsLeaf e p
  a_literal : (e : Expr) (p : Position) (text : List ℕ) → e ≡ expr.Literal p text → IsLeaf e p

-- an expression with the names in scope there, and what is wanted there
pub record Standpoint : Type 0 where
  pub locals : Locals
  pub role : Role
  pub tree : Expr

abbrev pub at : Locals → Role → Expr → Standpoint
at locals role tree = record { locals = locals; role = role; tree = tree }

-- not a formula's place: there a form is a part of a root
abbrev pub IsInRoot : Role → Type 0
IsInRoot formula = ⊥
IsInRoot part = Unit {0}
IsInRoot (set w) = Unit {0}

module _ (typing : Typing) (tables : Tables) (ground : Ground) (k : ℕ) where
  -- A name's type, where its bound has a reading; there is none for the names of a bound that has none.
  abbrev pub HasTypeOf : Locals → Decl Expr → Option Columns → Type 0
  HasTypeOf locals d None = (c : Columns) → IsBound typing tables ground k locals d.word d.bound c → ⊥
  HasTypeOf locals d (Some c) = IsBound typing tables ground k locals d.word d.bound c

  abbrev pub HasValueOf : Locals → Expr → Option Columns → Type 0
  HasValueOf locals e None = (c : Columns) → IsValue typing tables ground k locals e c → ⊥
  HasValueOf locals e (Some c) = IsValue typing tables ground k locals e c

  -- the names in scope behind declarations: each bound sees those before it
  pub data Enters : Locals → List (Decl Expr) → Locals → Type 0 where
    none : (locals : Locals) → Enters locals [] locals
    more : (locals inner : Locals) (d : Decl Expr) (ds : List (Decl Expr)) (c : Option Columns) → HasTypeOf locals d c → Enters (locals ++ named d.names c) ds inner → Enters locals (d ∷ ds) inner

  -- a declaration among these, with the names before it
  pub data Declares : Locals → List (Decl Expr) → Locals → Decl Expr → Type 0 where
    here : (locals : Locals) (d : Decl Expr) (ds : List (Decl Expr)) → Declares locals (d ∷ ds) locals d
    later : (locals there : Locals) (d other : Decl Expr) (ds : List (Decl Expr)) (c : Option Columns) → HasTypeOf locals d c → Declares (locals ++ named d.names c) ds there other → Declares locals (d ∷ ds) there other

  -- the names in scope behind those of a `let`, and a value among these
  pub data Lets : Locals → List (Binding Expr) → Locals → Type 0 where
    none : (locals : Locals) → Lets locals [] locals
    more : (locals inner : Locals) (b : Binding Expr) (bs : List (Binding Expr)) (c : Option Columns) → HasValueOf locals b.value c → Lets (locals ++ record { name = b.name; columns = c } ∷ []) bs inner → Lets locals (b ∷ bs) inner

  pub data Values : Locals → List (Binding Expr) → Locals → Expr → Type 0 where
    here : (locals : Locals) (b : Binding Expr) (bs : List (Binding Expr)) → Values locals (b ∷ bs) locals b.value
    later : (locals there : Locals) (b : Binding Expr) (bs : List (Binding Expr)) (e : Expr) (c : Option Columns) → HasValueOf locals b.value c → Values (locals ++ record { name = b.name; columns = c } ∷ []) bs there e → Values locals (b ∷ bs) there e

  -- what stands after operators, or as a step of a join
  abbrev IsAmong : List (Infix × Expr) → Expr → Type 0
  IsAmong links e = (op : Infix) × Contains links (op, e)

  abbrev IsStep : List (Access Expr) → Expr → Type 0
  IsStep steps e = Contains steps (access.Dot e) ⊎ ((es : List Expr) × Contains steps (access.Bracket es) × Contains es e)

  -- the second position stands right in the first
  pub data Holds : Standpoint → Standpoint → Type 0 where
    -- in a formula's place, parentheses hold a formula; elsewhere a part
    in_parentheses : (l : Locals) (e a : Expr) (p : Position) → e ≡ expr.Parenthesis p a → Holds (at l formula e) (at l formula a)
    in_root : (l : Locals) (r : Role) (e a : Expr) (p : Position) → IsInRoot r → e ≡ expr.Parenthesis p a → Holds (at l r e) (at l part a)
    item : (l : Locals) (r : Role) (e a : Expr) (p : Position) (items : List Expr) → e ≡ expr.Block p items → Contains items a → Holds (at l r e) (at l formula a)
    first : (l : Locals) (r : Role) (e a : Expr) (b : Expr) → e ≡ expr.Sequence a b → Holds (at l r e) (at l formula a)
    second : (l : Locals) (r : Role) (e b : Expr) (a : Expr) → e ≡ expr.Sequence a b → Holds (at l r e) (at l formula b)
    condition : (l : Locals) (r : Role) (e c : Expr) (a : Expr) (is_word : Bool) (other : Option Expr) → e ≡ expr.Implication is_word c a other → Holds (at l r e) (at l formula c)
    implied : (l : Locals) (r : Role) (e a : Expr) (c : Expr) (is_word : Bool) → e ≡ expr.Implication is_word c a None → Holds (at l r e) (at l formula a)
    either : (l : Locals) (e a : Expr) (c b : Expr) (is_word : Bool) → e ≡ expr.Implication is_word c a (Some b) → Holds (at l formula e) (at l formula a)
    other : (l : Locals) (e b : Expr) (c a : Expr) (is_word : Bool) → e ≡ expr.Implication is_word c a (Some b) → Holds (at l formula e) (at l formula b)
    either_part : (l : Locals) (r : Role) (e a : Expr) (c b : Expr) (is_word : Bool) → IsInRoot r → e ≡ expr.Implication is_word c a (Some b) → Holds (at l r e) (at l part a)
    other_part : (l : Locals) (r : Role) (e b : Expr) (c a : Expr) (is_word : Bool) → IsInRoot r → e ≡ expr.Implication is_word c a (Some b) → Holds (at l r e) (at l part b)
    left : (l : Locals) (r : Role) (e a : Expr) (b : Expr) (op : Comparison) → e ≡ expr.Compare op a b → Holds (at l r e) (at l part a)
    right : (l : Locals) (r : Role) (e b : Expr) (a : Expr) (op : Comparison) → e ≡ expr.Compare op a b → Holds (at l r e) (at l part b)
    tested : (l : Locals) (r : Role) (e a : Expr) (p : Position) (op : Prefix) → e ≡ expr.Prefix p op a → IsTest op → Holds (at l r e) (at l (set wanted.Value) a)
    logical : (l : Locals) (r : Role) (e a : Expr) (p : Position) (op : Prefix) → e ≡ expr.Prefix p op a → IsLogical op → Holds (at l r e) (at l formula a)
    prefixed : (l : Locals) (r : Role) (e a : Expr) (p : Position) (op : Prefix) (u : Unary) → e ≡ expr.Prefix p op a → before_set op ≡ Some u → Holds (at l r e) (at l part a)
    row_first : (l : Locals) (r : Role) (e a : Expr) (b : Expr) (op : Infix) (links : List (Infix × Expr)) (u : Binary) → e ≡ expr.Infix a ((op, b) ∷ links) → between op ≡ Some u → Holds (at l r e) (at l part a)
    row_later : (l : Locals) (r : Role) (e c : Expr) (a b : Expr) (op : Infix) (links : List (Infix × Expr)) (u : Binary) → e ≡ expr.Infix a ((op, b) ∷ links) → between op ≡ Some u → IsAmong ((op, b) ∷ links) c → Holds (at l r e) (at l part c)
    link_first : (l : Locals) (r : Role) (e a : Expr) (b : Expr) (op : Infix) (links : List (Infix × Expr)) → e ≡ expr.Infix a ((op, b) ∷ links) → between op ≡ None → Holds (at l r e) (at l formula a)
    link_later : (l : Locals) (r : Role) (e c : Expr) (a b : Expr) (op : Infix) (links : List (Infix × Expr)) → e ≡ expr.Infix a ((op, b) ∷ links) → between op ≡ None → IsAmong ((op, b) ∷ links) c → Holds (at l r e) (at l formula c)
    join_first : (l : Locals) (r : Role) (e a : Expr) (steps : List (Access Expr)) → e ≡ expr.Join a steps → Holds (at l r e) (at l part a)
    join_later : (l : Locals) (r : Role) (e b : Expr) (a : Expr) (steps : List (Access Expr)) → e ≡ expr.Join a steps → IsStep steps b → Holds (at l r e) (at l part b)
    primed : (l : Locals) (r : Role) (e a : Expr) → e ≡ expr.Prime a → Holds (at l r e) (at l part a)
    -- declarations: each bound is a root, and the body stands behind all names
    quantified_bound : (l there : Locals) (r : Role) (e : Expr) (d : Decl Expr) (body : Expr) (p : Position) (w : Quantifier) (decls : List (Decl Expr)) (has_bar : Bool) → e ≡ expr.Quantified p w decls has_bar body → Declares l decls there d → Holds (at l r e) (at there (set (wanted.Bound (word_of d.word))) d.bound)
    quantified : (l inner : Locals) (r : Role) (e body : Expr) (p : Position) (w : Quantifier) (decls : List (Decl Expr)) (has_bar : Bool) → e ≡ expr.Quantified p w decls has_bar body → (IsSum w → ⊥) → Enters l decls inner → Holds (at l r e) (at inner formula body)
    summed : (l inner : Locals) (r : Role) (e body : Expr) (p : Position) (w : Quantifier) (decls : List (Decl Expr)) (has_bar : Bool) → e ≡ expr.Quantified p w decls has_bar body → IsSum w → Enters l decls inner → Holds (at l r e) (at inner (set (wanted.Columns 1)) body)
    comprehended_bound : (l there : Locals) (r : Role) (e : Expr) (d : Decl Expr) (body : Expr) (p : Position) (decls : List (Decl Expr)) (has_bar : Bool) → e ≡ expr.Comprehension p decls has_bar body → Declares l decls there d → Holds (at l r e) (at there (set (wanted.Bound (word_of d.word))) d.bound)
    comprehended : (l inner : Locals) (r : Role) (e body : Expr) (p : Position) (decls : List (Decl Expr)) (has_bar : Bool) → e ≡ expr.Comprehension p decls has_bar body → Enters l decls inner → Holds (at l r e) (at inner formula body)
    let_value : (l there : Locals) (r : Role) (e v : Expr) (body : Expr) (p : Position) (bindings : List (Binding Expr)) (has_bar : Bool) → e ≡ expr.Let p bindings has_bar body → Values l bindings there v → Holds (at l r e) (at there (set wanted.Value) v)
    let_formula : (l inner : Locals) (e body : Expr) (p : Position) (bindings : List (Binding Expr)) (has_bar : Bool) → e ≡ expr.Let p bindings has_bar body → Lets l bindings inner → Holds (at l formula e) (at inner formula body)
    let_part : (l inner : Locals) (r : Role) (e body : Expr) (p : Position) (bindings : List (Binding Expr)) (has_bar : Bool) → IsInRoot r → e ≡ expr.Let p bindings has_bar body → Lets l bindings inner → Holds (at l r e) (at inner part body)

  -- the second position stands in the first, at any depth
  pub data Lies : Standpoint → Standpoint → Type 0 where
    here : (a : Standpoint) → Lies a a
    deeper : (a c : Standpoint) (b : Standpoint) → Holds a b → Lies b c → Lies a c

  -- Whether the position is a root, and how that is prepared: a set in its place; a comparison; and any other
  -- expression in a formula's place, which is a call of a predicate.
  pub data IsRoot : Standpoint → Tree → Type 0 where
    a_set : (l : Locals) (w : Wanted) (e : Expr) (t : Tree) → IsPart typing tables ground k l e t → IsRoot (at l (set w) e) (single (unary.Fits w) t)
    a_comparison : (l : Locals) (r : Role) (e : Expr) (t : Tree) → IsComparison typing tables ground k l e t → IsRoot (at l r e) t
    a_call : (l : Locals) (e : Expr) (t : Tree) → (IsClaim e → ⊥) → ((p : Position) (a : Expr) → e ≡ expr.Parenthesis p a → ⊥) → ((p : Position) (bs : List (Binding Expr)) (has_bar : Bool) (a : Expr) → e ≡ expr.Let p bs has_bar a → ⊥) → ((is_word : Bool) (c a : Expr) (other : Option Expr) → e ≡ expr.Implication is_word c a other → ⊥) → IsPart typing tables ground k l e t → IsRoot (at l formula e) (single (unary.Fits wanted.Formula) t)

  -- `set`, `lone` or `some`
  abbrev pub IsOfSets : Option Word → Type 0
  IsOfSets (Some word.Set) = Unit {0}
  IsOfSets (Some word.Lone) = Unit {0}
  IsOfSets (Some word.Some) = Unit {0}
  IsOfSets _ = ⊥

  -- S45: a variable's bound has such a word, or its reading has several columns; at the variable
  abbrev pub IsHigherOrder : Locals → Decl Expr → Position → Type 0
  IsHigherOrder locals d p =
      ((n : Named) × Contains d.names n × (p ≡ n.place)) ×
      (IsOfSets d.word ⊎ ((c : Columns) × IsBound typing tables ground k locals d.word d.bound c × (1 < c.count)))

  -- a declaration of variables right in a position
  pub data HasDecl : Standpoint → Locals → Decl Expr → Type 0 where
    quantified : (l there : Locals) (r : Role) (e : Expr) (d : Decl Expr) (body : Expr) (p : Position) (w : Quantifier) (decls : List (Decl Expr)) (has_bar : Bool) → e ≡ expr.Quantified p w decls has_bar body → Declares l decls there d → HasDecl (at l r e) there d
    comprehended : (l there : Locals) (r : Role) (e : Expr) (d : Decl Expr) (body : Expr) (p : Position) (decls : List (Decl Expr)) (has_bar : Bool) → e ≡ expr.Comprehension p decls has_bar body → Declares l decls there d → HasDecl (at l r e) there d

  -- S45 is broken somewhere in a position
  abbrev pub HigherOrderAt : Standpoint → Position → Type 0
  HigherOrderAt whole p = (a : Standpoint) × (there : Locals) × (d : Decl Expr) × Lies whole a × HasDecl a there d × IsHigherOrder there d p

  -- a position of the same root, or the position itself
  pub data IsOfRoot : Standpoint → Standpoint → Type 0 where
    itself : (a : Standpoint) → IsOfRoot a a
    through : (a c : Standpoint) (b : Standpoint) → Holds a b → b.role ≡ part → IsOfRoot b c → IsOfRoot a c

  abbrev pub Shows : Standpoint → Position → Type 0
  Shows a p = (b : Standpoint) × IsOfRoot a b × IsLeaf b.tree p

  -- The place of a root: its first name, constant, number, literal or `this`, or where it has none its first token.
  abbrev pub IsPlaceOf : Standpoint → (token : Position) → Position → Type 0
  IsPlaceOf a token p =
      (Shows a p × ((q : Position) → Shows a q → IsBefore q p → ⊥)) ⊎
      (((q : Position) → Shows a q → ⊥) × (p ≡ token))

  -- S40: the position's name has no candidate, or it is `this` where there is none; at the name's first token
  pub data UnknownAt : Standpoint → Position → Type 0 where
    a_name : (l : Locals) (r : Role) (e : Expr) (q : QualName) → e ≡ expr.Name q → AreCandidates tables ground k l q [] → UnknownAt (at l r e) q.place
    a_field : (l : Locals) (r : Role) (e : Expr) (q : QualName) (p : Position) → e ≡ expr.At p q → AreFields tables ground k q [] → UnknownAt (at l r e) q.place
    this : (l : Locals) (r : Role) (e : Expr) (p : Position) → e ≡ expr.Constant p constant.This → (IsLocal l (codes "this") → ⊥) → UnknownAt (at l r e) p

  -- S41, S42, S43, S47: the root at the position breaks the rule, at its place
  abbrev pub RootBreaks : Standpoint → (token : Position) → Rule → Position → Type 0
  RootBreaks a token r p = (t : Tree) × (root : Part) × IsRoot a t × (tree_of root ≡ t) × IsBroken typing root r × IsPlaceOf a token p
