-- What the expressions of a text say, in the terms of the model: the name of each declaration is
-- its number there, and each name in scope is numbered.
--
-- Types play no part here. Where a name stands for several declarations, it says the one that it is
-- taken to stand for.
use Rattle.std.specs.Prelude.{◌≡◌, ℕ, ◌+◌, Bool, true, false, if◌then◌else◌, List, [], ◌∷◌, ◌++◌, length, Contains, Option, Some, None, slice_get, codes, pos, ◌-ℤ◌}
use Rattle.std.specs.List.{list_any}
use Rattle.std.specs.Str.{bytes_eq}
use Rattle.base_types.specs.declared.place.Position.{Position}
use Rattle.syntax_tree.specs.declared.operator.Infix.{Infix}
use Rattle.syntax_tree.specs.declared.operator.Prefix.{Prefix}
use Rattle.syntax_tree.specs.declared.operator.Quantifier.{Quantifier}
use Rattle.syntax_tree.specs.declared.operator.Comparison.{Comparison as Compared}
use Rattle.syntax_tree.specs.declared.operator.Constant.{Constant}
use Rattle.syntax_tree.specs.declared.operator.Constant.TheVariants as constant
use Rattle.syntax_tree.specs.declared.expr.QualName.{QualName}
use Rattle.syntax_tree.specs.declared.expr.Named.{Named}
use Rattle.syntax_tree.specs.declared.expr.Decl.{Decl}
use Rattle.syntax_tree.specs.declared.expr.Binding.{Binding}
use Rattle.syntax_tree.specs.declared.expr.Access.{Access}
use Rattle.syntax_tree.specs.declared.expr.Access.TheVariants as access
use Rattle.syntax_tree.specs.declared.expr.Expr.{Expr}
use Rattle.syntax_tree.specs.declared.expr.Expr.TheVariants as expr
use Rattle.resolve_names.specs.declared.table.Decl.{Decl as Declared}
use Rattle.resolve_names.specs.declared.table.Decl.TheVariants as decl
use Rattle.resolve_names.specs.declared.table.Namespace.{Namespace}
use Rattle.resolve_names.specs.Gathered.{number_in}
use Rattle.resolve_names.specs.Visible.{Declaration, Sees}
use Rattle.resolve_picks.specs.declared.target.Target.{Target}
use Rattle.resolve_picks.specs.declared.target.Target.TheVariants as target
use Rattle.resolve_picks.specs.Picks.{picked_in}
use Rattle.core_tree.specs.declared.model.Sig.{Sig}
use Rattle.core_tree.specs.declared.model.Body.{Body}
use Rattle.core_tree.specs.declared.operators.Connective.TheVariants as connective
use Rattle.core_tree.specs.declared.operators.TemporalBinary.TheVariants as times
use Rattle.core_tree.specs.declared.operators.RelationOp.TheVariants as relation
use Rattle.core_tree.specs.Trees.{Term, Claim, Binder, sig, field, name, univ, iden, empty, int, combine, prime, number, every, connect, temporal_pair, claim_list, variable_list}
use Rattle.resolve_said.specs.declared.place.OwnField.{OwnField}
use Rattle.resolve_said.specs.declared.place.Site.{Site}
use Rattle.resolve_said.specs.Operators.{Said, a_set, a_formula, IsWhole, IsCall, Takes, Prefixes, Links, is_and, ComparesBy, Chooses, Collects, Lets, Quantifies}
use Rattle.resolve_said.specs.Locals.{Scope, number_of, under_decls}

-- Where an expression stands: the names of all instances, the sigs and the bodies of the model, the
-- number of its own instance, the fields that are joined to `this` where their name alone is written, and
-- what the names at each place of the text are taken to stand for, where they aren't in scope.
pub record Standing : Type 0 where
  pub scopes : List Namespace
  pub sigs : List Sig
  pub bodies : List Body
  pub instance : ℕ
  pub own : List OwnField
  pub picks : Position → Option Target

abbrev pub standing_of : Site → Standing
standing_of s = record { scopes = s.names.now.scopes; sigs = s.model.now.sigs; bodies = s.model.now.bodies; instance = s.instance; own = s.own.now; picks = picked_in s.picks.now }

-- ------------------------------------------------------------------ names

abbrev only_part : List (List ℕ) → Option (List ℕ)
only_part [] = None
only_part (text ∷ []) = Some text
only_part (text ∷ other ∷ others) = None

-- a name that has no path
abbrev pub text_alone : QualName → Option (List ℕ)
text_alone q = if q.is_own then None else only_part q.parts

-- whether a field of that name is joined to `this`
abbrev pub has_own : List OwnField → List ℕ → Bool
has_own own text = list_any (λ (o : OwnField). bytes_eq o.name text) own

-- neither a name in scope nor a field of `this` hides what is declared
abbrev pub IsShown : Standing → Scope → Option (List ℕ) → Type 0
IsShown at scope None = Unit {0}
IsShown at scope (Some text) = (number_of text scope ≡ None) × (has_own at.own text ≡ false)

-- what a declaration says by its name
abbrev pub Stands : Standing → Declared → Said → Type 0
Stands at (decl.Sig r) s = s ≡ a_set (sig (number_in at.scopes r))
Stands at (decl.Parameter None) s = s ≡ a_set int
Stands at (decl.Parameter (Some r)) s = s ≡ a_set (sig (number_in at.scopes r))
Stands at (decl.Field f) s = s ≡ a_set (field f)
Stands at (decl.Body b) s = IsCall at.bodies b [] s

-- what a declaration is in the model
abbrev pub target_of : List Namespace → Declared → Target
target_of scopes (decl.Sig r) = target.Sig (number_in scopes r)
target_of scopes (decl.Parameter None) = target.Int
target_of scopes (decl.Parameter (Some r)) = target.Sig (number_in scopes r)
target_of scopes (decl.Field f) = target.Field f
target_of scopes (decl.Body b) = target.Body b

-- what a name says: the innermost name in scope, or the field of `this` or the declaration that is seen
-- which it is taken to stand for
pub data NameSays (at : Standing) (scope : Scope) (q : QualName) : Said → Type 0 where
  is_local : {text : List ℕ} {n : ℕ} → text_alone q ≡ Some text → number_of text scope ≡ Some n → NameSays at scope q (a_set (name n))
  is_own : {text : List ℕ} (o : OwnField) → text_alone q ≡ Some text → number_of text scope ≡ None → Contains at.own o → o.name ≡ text → at.picks q.place ≡ Some (target.Field o.field) → NameSays at scope q (a_set (combine relation.Join (name 0) (field o.field)))
  is_declared : (d : Declaration) (s : Said) → IsShown at scope (text_alone q) → Sees at.scopes at.instance q d → Stands at d.1.what s → at.picks q.place ≡ Some (target_of at.scopes d.1.what) → NameSays at scope q s

-- what a name behind `@` says: the field that is seen which it is taken to stand for
abbrev pub FieldSays : Standing → QualName → ℕ → Type 0
FieldSays at q f = (d : Declaration) × Sees at.scopes at.instance q d × (d.1.what ≡ decl.Field f) × (at.picks q.place ≡ Some (target.Field f))

-- ------------------------------------------------------------------ constants

-- the number of `String`, which stands behind the sigs that are declared: how many the instances have
abbrev pub string_sig : List Namespace → ℕ
string_sig [] = 0
string_sig (n ∷ ns) = n.sigs + string_sig ns

abbrev pub constant_of : List Namespace → Constant → Option Term
constant_of scopes constant.Univ = Some univ
constant_of scopes constant.Iden = Some iden
constant_of scopes constant.None = Some empty
constant_of scopes constant.Int = Some int
constant_of scopes constant.String = Some (sig (string_sig scopes))
constant_of scopes constant.This = None

-- the sig of the literal, whose label is the text between quotes
abbrev pub LiteralSays : Standing → List ℕ → ℕ → Type 0
LiteralSays at text n = (s : Sig) × (slice_get at.sigs n ≡ Some s) × (s.label ≡ 34 ∷ text ++ 34 ∷ [])

-- ------------------------------------------------------------------ expressions

-- in a `disj` list a variable differs from all that stand before it there
abbrev pub apart_from : Bool → ℕ → ℕ
apart_from is_disjoint place = if is_disjoint then place else 0

module _ (at : Standing) where
  mutual
    -- what an expression or a formula says where these names are in scope
    pub data Says : Scope → Expr → Said → Type 0 where
      a_name : {scope : Scope} {e : Expr} {s : Said} {q : QualName} → e ≡ expr.Name q → NameSays at scope q s → Says scope e s
      a_field : {scope : Scope} {e : Expr} {p : Position} {q : QualName} {f : ℕ} → e ≡ expr.At p q → FieldSays at q f → Says scope e (a_set (field f))
      this : {scope : Scope} {e : Expr} {p : Position} {n : ℕ} → e ≡ expr.Constant p constant.This → number_of (codes "this") scope ≡ Some n → Says scope e (a_set (name n))
      a_constant : {scope : Scope} {e : Expr} {p : Position} {w : Constant} {t : Term} → e ≡ expr.Constant p w → constant_of at.scopes w ≡ Some t → Says scope e (a_set t)
      a_number : {scope : Scope} {e : Expr} {p : Position} {n : ℕ} → e ≡ expr.Number p n → Says scope e (a_set (number (pos n) p))
      a_negative : {scope : Scope} {e : Expr} {p : Position} {n : ℕ} → e ≡ expr.Negative p n → Says scope e (a_set (number (pos 0 -ℤ pos n) p))
      a_literal : {scope : Scope} {e : Expr} {p : Position} {text : List ℕ} {n : ℕ} → e ≡ expr.Literal p text → LiteralSays at text n → Says scope e (a_set (sig n))
      in_parentheses : {scope : Scope} {e inner : Expr} {s : Said} {p : Position} → e ≡ expr.Parenthesis p inner → IsWhole s → Says scope inner s → Says scope e s
      primed : {scope : Scope} {e a : Expr} {t : Term} → e ≡ expr.Prime a → Says scope a (a_set t) → Says scope e (a_set (prime t))
      prefixed : {scope : Scope} {e a : Expr} {r s : Said} {p : Position} {op : Prefix} → e ≡ expr.Prefix p op a → Says scope a r → Prefixes op r s → Says scope e s
      a_row : {scope : Scope} {e first : Expr} {s : Said} {links : List (Infix × Expr)} → e ≡ expr.Infix first links → RowSays scope first links s → Says scope e s
      a_conjunction : {scope : Scope} {e first : Expr} {links : List (Infix × Expr)} {cs : List Claim} → e ≡ expr.Infix first links → ConjunctsSay scope first links cs → Says scope e (a_formula (every (claim_list cs)))
      a_join : {scope : Scope} {e first : Expr} {s : Said} {steps : List (Access Expr)} → e ≡ expr.Join first steps → StepsSay scope first steps s → Says scope e s
      an_implication : {scope : Scope} {e a b : Expr} {c d : Claim} {is_word : Bool} → e ≡ expr.Implication is_word a b None → Says scope a (a_formula c) → Says scope b (a_formula d) → Says scope e (a_formula (connect connective.Implies c d))
      a_choice : {scope : Scope} {e a b other : Expr} {c : Claim} {r s u : Said} {is_word : Bool} → e ≡ expr.Implication is_word a b (Some other) → Says scope a (a_formula c) → Says scope b r → Says scope other s → Chooses c r s u → Says scope e u
      a_sequence : {scope : Scope} {e a b : Expr} {c d : Claim} → e ≡ expr.Sequence a b → Says scope a (a_formula c) → Says scope b (a_formula d) → Says scope e (a_formula (temporal_pair times.Then c d))
      a_comparison : {scope : Scope} {e a b : Expr} {s : Said} {t u : Term} {op : Compared} → e ≡ expr.Compare op a b → Says scope a (a_set t) → Says scope b (a_set u) → ComparesBy op t u s → Says scope e s
      a_block : {scope : Scope} {e : Expr} {p : Position} {items : List Expr} {cs : List Claim} → e ≡ expr.Block p items → ItemsSay scope items cs → Says scope e (a_formula (every (claim_list cs)))
      a_let : {scope : Scope} {e body : Expr} {s : Said} {p : Position} {bindings : List (Binding Expr)} {has_bar : Bool} → e ≡ expr.Let p bindings has_bar body → LetSays scope bindings body s → Says scope e s
      a_comprehension : {scope : Scope} {e body : Expr} {r s : Said} {p : Position} {decls : List (Decl Expr)} {has_bar : Bool} {vs : List Binder} → e ≡ expr.Comprehension p decls has_bar body → DeclsSay scope decls vs → Says (under_decls scope decls) body r → Collects (variable_list vs) r s → Says scope e s
      a_quantified : {scope : Scope} {e body : Expr} {r s : Said} {p : Position} {w : Quantifier} {decls : List (Decl Expr)} {has_bar : Bool} {vs : List Binder} → e ≡ expr.Quantified p w decls has_bar body → DeclsSay scope decls vs → Says (under_decls scope decls) body r → Quantifies (variable_list vs) w r s → Says scope e s

    -- a row of operators, which group to the left
    pub data RowSays : Scope → Expr → List (Infix × Expr) → Said → Type 0 where
      first_operand : {scope : Scope} {first : Expr} {s : Said} → Says scope first s → RowSays scope first [] s
      next_operand : {scope : Scope} {first e : Expr} {links all : List (Infix × Expr)} {op : Infix} {r s u : Said} → all ≡ links ++ (op, e) ∷ [] → RowSays scope first links r → Says scope e s → Links op r s u → RowSays scope first all u

    -- a row of `and`, which is one list
    pub data ConjunctsSay : Scope → Expr → List (Infix × Expr) → List Claim → Type 0 where
      first_conjunct : {scope : Scope} {first : Expr} {c : Claim} → Says scope first (a_formula c) → ConjunctsSay scope first [] (c ∷ [])
      next_conjunct : {scope : Scope} {first e : Expr} {links all : List (Infix × Expr)} (op : Infix) {cs ds : List Claim} {c : Claim} → all ≡ links ++ (op, e) ∷ [] → ds ≡ cs ++ c ∷ [] → ConjunctsSay scope first links cs → is_and op ≡ true → Says scope e (a_formula c) → ConjunctsSay scope first all ds

    pub data ItemsSay : Scope → List Expr → List Claim → Type 0 where
      no_item : {scope : Scope} → ItemsSay scope [] []
      next_item : {scope : Scope} {e : Expr} {es all : List Expr} {cs ds : List Claim} {c : Claim} → all ≡ es ++ e ∷ [] → ds ≡ cs ++ c ∷ [] → ItemsSay scope es cs → Says scope e (a_formula c) → ItemsSay scope all ds

    -- a join: what stands left of a dot is an argument for what stands right of it, and what stands in a box is one
    -- for what stands before the box
    pub data StepsSay : Scope → Expr → List (Access Expr) → Said → Type 0 where
      no_step : {scope : Scope} {first : Expr} {s : Said} → Says scope first s → StepsSay scope first [] s
      dot : {scope : Scope} {first e : Expr} {steps all : List (Access Expr)} {t : Term} {r s : Said} → all ≡ steps ++ access.Dot e ∷ [] → StepsSay scope first steps (a_set t) → Says scope e r → Takes at.bodies r t s → StepsSay scope first all s
      box : {scope : Scope} {first : Expr} {steps all : List (Access Expr)} {es : List Expr} {r s : Said} → all ≡ steps ++ access.Bracket es ∷ [] → StepsSay scope first steps r → ArgumentsSay scope r es s → StepsSay scope first all s

    -- what becomes of the first under the arguments of a box
    pub data ArgumentsSay : Scope → Said → List Expr → Said → Type 0 where
      no_argument : {scope : Scope} {s : Said} → ArgumentsSay scope s [] s
      next_argument : {scope : Scope} {e : Expr} {es all : List Expr} {t : Term} {q r s : Said} → all ≡ es ++ e ∷ [] → ArgumentsSay scope q es r → Says scope e (a_set t) → Takes at.bodies r t s → ArgumentsSay scope q all s

    -- the names of a `let` in turn, each inside those before it
    pub data LetSays : Scope → List (Binding Expr) → Expr → Said → Type 0 where
      let_body : {scope : Scope} {body : Expr} {s : Said} → Says scope body s → LetSays scope [] body s
      let_value : {scope : Scope} {body : Expr} {b : Binding Expr} {bs all : List (Binding Expr)} {t : Term} {r s : Said} → all ≡ b ∷ bs → Says scope b.value (a_set t) → LetSays (b.name ∷ scope) bs body r → Lets (length scope) t r s → LetSays scope all body s

    -- the variables of declarations, each bound with the names before it in scope
    pub data DeclsSay : Scope → List (Decl Expr) → List Binder → Type 0 where
      no_decl : {scope : Scope} → DeclsSay scope [] []
      next_decl : {scope : Scope} {d : Decl Expr} {ds all : List (Decl Expr)} {vs ws us : List Binder} → all ≡ ds ++ d ∷ [] → us ≡ vs ++ ws → DeclsSay scope ds vs → VariablesSay (under_decls scope ds) d d.names ws → DeclsSay scope all us

    -- the variables of one bound, which has its own copy at each of them
    pub data VariablesSay : Scope → Decl Expr → List Named → List Binder → Type 0 where
      no_variable : {scope : Scope} {d : Decl Expr} → VariablesSay scope d [] []
      next_variable : {scope : Scope} {d : Decl Expr} {ns all : List Named} (n : Named) (v : Binder) {vs ws : List Binder} → all ≡ ns ++ n ∷ [] → ws ≡ vs ++ v ∷ [] → VariablesSay scope d ns vs → Says scope d.bound (a_set v.bound) → v.name ≡ length scope + length ns → v.apart ≡ apart_from d.is_disjoint (length ns) → VariablesSay scope d all ws

  -- a set, or a formula, is what the expression says
  abbrev pub SaysSet : Scope → Expr → Term → Type 0
  SaysSet scope e t = Says scope e (a_set t)

  abbrev pub SaysFormula : Scope → Expr → Claim → Type 0
  SaysFormula scope e c = Says scope e (a_formula c)
