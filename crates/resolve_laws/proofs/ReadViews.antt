-- What a reading of an expression of each form is.
use Rattle.std.proofs.Common.{◌≡◌, ◌⊎◌, ℕ, false, List, [], ◌∷◌, ◌++◌, Some, None, codes, refl, sym, subst, inl, inr}
use Rattle.std.proofs.lemmas.Option.{none-some}
use Rattle.syntax_tree.specs.declared.operator.Constant.TheVariants as constant
use Rattle.syntax_tree.specs.declared.expr.Expr.{Expr}
use Rattle.syntax_tree.specs.declared.expr.Expr.TheOpen.{Expr-F}
use Rattle.syntax_tree.specs.declared.expr.Expr.TheViews.{out-Expr}
use Rattle.resolve_types.specs.declared.columns.Columns.{Columns}
use Rattle.resolve_readings.specs.Meanings.{integers}
use Rattle.resolve_readings.specs.Readings.{Choice}
use Rattle.resolve_readings.specs.declared.meaning.Meaning.{Meaning}
use Rattle.resolve_readings.specs.declared.part.Unary.{Unary}
use Rattle.resolve_readings.specs.declared.part.Unary.TheVariants as unary
use Rattle.resolve_readings.specs.declared.part.Binary.TheVariants as binary
use Rattle.resolve_readings.specs.declared.part.RootPlace.TheVariants as place
use Rattle.resolve_rules.specs.Candidates.{set_of}
use Rattle.resolve_rules.specs.Forms.{before_set, IsTest, IsLogical, compared_by}
use Rattle.resolve_rules.specs.Prepared.{Tree, name, known, single, pair, no_columns, under}
use Rattle.resolve_read.specs.At.{At, Scope, type_of, with_decls, with_values}
use Rattle.resolve_read.specs.Candidates.{constant_type, Picked, PicksField}
use Rattle.resolve_read.specs.Reads.{ReadAs, product_with, by_name, by_join, Reads, a_name, a_field, this, a_constant, a_number, a_negative, a_literal, in_parentheses, primed, prefixed, a_row, a_join, a_choice, a_let, a_comprehension, a_sum, RootReads, RowReads, StepsRead, DeclsRead, ValuesRead, IsRead, AreRead, LinksRead, a_parenthesis, a_block, a_sequence, an_implication, a_branching, a_comparison, a_test, a_prefix, a_logical_row, a_formula_let, a_quantified, a_call}
use Rattle.resolve_laws.proofs.Layers.{layer-Name, layer-At, layer-Constant, layer-Number, layer-Negative, layer-Literal, layer-Parenthesis, layer-Block, layer-Comprehension, layer-Quantified, layer-Let, layer-Sequence, layer-Implication, layer-Compare, layer-Prefix, layer-Infix, layer-Join, layer-Prime}

module _ (at : At) (scope : Scope) where
  -- what a type is known to be, with no name to choose for
  abbrev pub IsKnown : Columns → Tree → Choice → Type 0
  IsKnown c t choice = (t ≡ known (set_of c false)) × (choice ≡ [])

  -- a part of this layer
  abbrev pub ReadsAt : Expr-F Expr → Tree → Choice → Type 0
  ReadsAt (Expr-F.Name q) t choice = (ms : List Meaning) × (n : ℕ) × Picked at scope q ms n × (t ≡ name ms) × (choice ≡ n ∷ [])
  ReadsAt (Expr-F.At p q) t choice = (ms : List Meaning) × (n : ℕ) × PicksField at q ms n × (t ≡ name ms) × (choice ≡ n ∷ [])
  ReadsAt (Expr-F.Constant p w) t choice =
      (c : Columns) × (((w ≡ constant.This) × (type_of (codes "this") scope ≡ Some c) × (t ≡ name (set_of c false ∷ [])) × (choice ≡ 0 ∷ [])) ⊎ ((constant_type at w ≡ Some c) × IsKnown c t choice))
  ReadsAt (Expr-F.Number p n) t choice = IsKnown integers t choice
  ReadsAt (Expr-F.Negative p n) t choice = IsKnown integers t choice
  ReadsAt (Expr-F.Literal p text) t choice = (c : Columns) × (constant_type at constant.String ≡ Some c) × IsKnown c t choice
  ReadsAt (Expr-F.Parenthesis p a) t choice = (u : Tree) × Reads at scope a u choice × (t ≡ single unary.Whole u)
  ReadsAt (Expr-F.Block p items) t choice = ⊥
  ReadsAt (Expr-F.Comprehension p decls has_bar body) t choice =
      (types : List Columns) × DeclsRead at scope decls types × IsRead at (with_decls scope decls types) body × IsKnown (product_with at.types.typing.lines no_columns decls types) t choice
  ReadsAt (Expr-F.Quantified p w decls has_bar body) t choice =
      (types : List Columns) × (m : Meaning) × DeclsRead at scope decls types × RootReads at (with_decls scope decls types) (place.Columns 1) body m × IsKnown integers t choice
  ReadsAt (Expr-F.Let p bindings has_bar body) t choice =
      (types : List Columns) × (u : Tree) × ValuesRead at scope bindings types × Reads at (with_values scope bindings types) body u choice × (t ≡ under bindings u)
  ReadsAt (Expr-F.Sequence a b) t choice = ⊥
  ReadsAt (Expr-F.Implication is_word condition a other) t choice =
      (b : Expr) × (u : Tree) × (v : Tree) × (g : Choice) × (h : Choice) × (other ≡ Some b) × IsRead at scope condition × Reads at scope a u g × Reads at scope b v h × (t ≡ pair binary.Choose u v) × (choice ≡ g ++ h)
  ReadsAt (Expr-F.Compare op a b) t choice = ⊥
  ReadsAt (Expr-F.Prefix p op a) t choice = (by : Unary) × (u : Tree) × (before_set op ≡ Some by) × Reads at scope a u choice × (t ≡ single by u)
  ReadsAt (Expr-F.Infix first links) t choice = RowReads at scope first links t choice
  ReadsAt (Expr-F.Join first steps) t choice = StepsRead at scope first steps t choice
  ReadsAt (Expr-F.Prime a) t choice = (u : Tree) × Reads at scope a u choice × (t ≡ single unary.Prime u)

  -- a formula of this layer; a call is the root of the whole
  abbrev pub IsReadAt : Expr → Expr-F Expr → Type 0
  IsReadAt e (Expr-F.Name q) = (m : Meaning) × RootReads at scope place.Formula e m
  IsReadAt e (Expr-F.At p q) = ⊥
  IsReadAt e (Expr-F.Constant p w) = ⊥
  IsReadAt e (Expr-F.Number p n) = ⊥
  IsReadAt e (Expr-F.Negative p n) = ⊥
  IsReadAt e (Expr-F.Literal p text) = ⊥
  IsReadAt e (Expr-F.Parenthesis p a) = IsRead at scope a
  IsReadAt e (Expr-F.Block p items) = AreRead at scope items
  IsReadAt e (Expr-F.Comprehension p decls has_bar body) = ⊥
  IsReadAt e (Expr-F.Quantified p w decls has_bar body) = (types : List Columns) × DeclsRead at scope decls types × IsRead at (with_decls scope decls types) body
  IsReadAt e (Expr-F.Let p bindings has_bar body) = (types : List Columns) × ValuesRead at scope bindings types × IsRead at (with_values scope bindings types) body
  IsReadAt e (Expr-F.Sequence a b) = IsRead at scope a × IsRead at scope b
  IsReadAt e (Expr-F.Implication is_word condition a other) = IsRead at scope condition × IsRead at scope a × ((b : Expr) → other ≡ Some b → IsRead at scope b)
  IsReadAt e (Expr-F.Compare op a b) =
      (t : Tree) × (u : Tree) × (g : Choice) × (h : Choice) × (m : Meaning) × Reads at scope a t g × Reads at scope b u h × ReadAs at.types.typing (single (unary.Fits place.Formula) (pair (compared_by op.comparator op.word) t u)) (g ++ h) m
  IsReadAt e (Expr-F.Prefix p op a) = (IsTest op × ((m : Meaning) × RootReads at scope place.Value a m)) ⊎ (IsLogical op × IsRead at scope a)
  IsReadAt e (Expr-F.Infix first links) = IsRead at scope first × LinksRead at scope links
  IsReadAt e (Expr-F.Join first steps) = (m : Meaning) × RootReads at scope place.Formula e m
  IsReadAt e (Expr-F.Prime a) = ⊥

  back : (e : Expr) (l : Expr-F Expr) (t : Tree) (choice : Choice) → out-Expr e ≡ l → ReadsAt l t choice → ReadsAt (out-Expr e) t choice
  back e l t choice is reads = subst (λ (x : Expr-F Expr). ReadsAt x t choice) (sym is) reads

  formula_back : (e : Expr) (l : Expr-F Expr) → out-Expr e ≡ l → IsReadAt e l → IsReadAt e (out-Expr e)
  formula_back e l is reads = subst (λ (x : Expr-F Expr). IsReadAt e x) (sym is) reads

reads_at : (at : At) {scope : Scope} {e : Expr} {t : Tree} {choice : Choice} → Reads at scope e t choice → ReadsAt at scope (out-Expr e) t choice
reads_at at {scope} {e} (a_name {ms = ms} {n = n} {q = q} is picked) = back at scope e _ _ _ (layer-Name e q is) (ms, n, picked, refl, refl)
reads_at at {scope} {e} (a_field {ms = ms} {n = n} {p = p} {q = q} is picked) = back at scope e _ _ _ (layer-At e p q is) (ms, n, picked, refl, refl)
reads_at at {scope} {e} (this {p = p} {c = c} is typed) = back at scope e _ _ _ (layer-Constant e p constant.This is) (c, inl (refl, typed, refl, refl))
reads_at at {scope} {e} (a_constant {p = p} {w = w} {c = c} is typed) = back at scope e _ _ _ (layer-Constant e p w is) (c, inr (typed, (refl, refl)))
reads_at at {scope} {e} (a_number {p = p} {n = n} is) = back at scope e _ _ _ (layer-Number e p n is) (refl, refl)
reads_at at {scope} {e} (a_negative {p = p} {n = n} is) = back at scope e _ _ _ (layer-Negative e p n is) (refl, refl)
reads_at at {scope} {e} (a_literal {p = p} {text = text} {c = c} is typed) = back at scope e _ _ _ (layer-Literal e p text is) (c, typed, (refl, refl))
reads_at at {scope} {e} (in_parentheses {inner = a} {t = t} {p = p} is inner) = back at scope e _ _ _ (layer-Parenthesis e p a is) (t, inner, refl)
reads_at at {scope} {e} (primed {inner = a} {t = t} is inner) = back at scope e _ _ _ (layer-Prime e a is) (t, inner, refl)
reads_at at {scope} {e} (prefixed {inner = a} {t = t} {u = by} {p = p} {op = op} is before inner) = back at scope e _ _ _ (layer-Prefix e p op a is) (by, t, before, inner, refl)
reads_at at {scope} {e} (a_row {first = first} {links = links} is row) = back at scope e _ _ _ (layer-Infix e first links is) row
reads_at at {scope} {e} (a_join {first = first} {steps = steps} is row) = back at scope e _ _ _ (layer-Join e first steps is) row
reads_at at {scope} {e} (a_choice {condition = c} {a = a} {b = b} {t = t} {u = u} {choice = g} {other = h} {is_word = w} is condition first second) =
    back at scope e _ _ _ (layer-Implication e w c a (Some b) is) (b, t, u, g, h, refl, condition, first, second, refl, refl)
reads_at at {scope} {e} (a_let {body = body} {t = t} {p = p} {bindings = bindings} {has_bar = h} {types = types} is values inner) =
    back at scope e _ _ _ (layer-Let e p bindings h body is) (types, t, values, inner, refl)
reads_at at {scope} {e} (a_comprehension {body = body} {p = p} {decls = decls} {has_bar = h} {types = types} is bounds inner) =
    back at scope e _ _ _ (layer-Comprehension e p decls h body is) (types, bounds, inner, (refl, refl))
reads_at at {scope} {e} (a_sum {body = body} {p = p} {w = w} {decls = decls} {has_bar = h} {types = types} {m = m} is sums bounds inner) =
    back at scope e _ _ _ (layer-Quantified e p w decls h body is) (types, m, bounds, inner, (refl, refl))

is_read_at : (at : At) {scope : Scope} {e : Expr} → IsRead at scope e → IsReadAt at scope e (out-Expr e)
is_read_at at {scope} {e} (a_parenthesis {inner = a} {p = p} is inner) = formula_back at scope e _ (layer-Parenthesis e p a is) inner
is_read_at at {scope} {e} (a_block {p = p} {items = items} is inner) = formula_back at scope e _ (layer-Block e p items is) inner
is_read_at at {scope} {e} (a_sequence {a = a} {b = b} is first second) = formula_back at scope e _ (layer-Sequence e a b is) (first, second)
is_read_at at {scope} {e} (an_implication {a = a} {b = b} {is_word = w} is first second) = formula_back at scope e _ (layer-Implication e w a b None is) (first, second, λ c none. absurd (none-some c none))
is_read_at at {scope} {e} (a_branching {condition = c} {a = a} {b = b} {is_word = w} is condition first second) =
    formula_back at scope e _ (layer-Implication e w c a (Some b) is) (condition, first, λ d same. (let one : b ≡ d = cc in subst (IsRead at scope) one second))
is_read_at at {scope} {e} (a_comparison {a = a} {b = b} {t = t} {u = u} {choice = g} {other = h} {op = op} {m = m} is first second means) = formula_back at scope e _ (layer-Compare e op a b is) (t, u, g, h, m, first, second, means)
is_read_at at {scope} {e} (a_test {a = a} {p = p} {op = op} {m = m} is test means) = formula_back at scope e _ (layer-Prefix e p op a is) (inl (test, (m, means)))
is_read_at at {scope} {e} (a_prefix {a = a} {p = p} {op = op} is logical inner) = formula_back at scope e _ (layer-Prefix e p op a is) (inr (logical, inner))
is_read_at at {scope} {e} (a_logical_row {first = first} {op = op} {a = a} {links = links} is logical begun rest) = formula_back at scope e _ (layer-Infix e first ((op, a) ∷ links) is) (begun, rest)
is_read_at at {scope} {e} (a_formula_let {body = body} {p = p} {bindings = bindings} {has_bar = h} {types = types} is values inner) = formula_back at scope e _ (layer-Let e p bindings h body is) (types, values, inner)
is_read_at at {scope} {e} (a_quantified {body = body} {p = p} {w = w} {decls = decls} {has_bar = h} {types = types} is no_sum bounds inner) = formula_back at scope e _ (layer-Quantified e p w decls h body is) (types, bounds, inner)
is_read_at at {scope} {e} (a_call {m = m} (by_name {q = q} is) means) = formula_back at scope e _ (layer-Name e q is) (m, means)
is_read_at at {scope} {e} (a_call {m = m} (by_join first steps is) means) = formula_back at scope e _ (layer-Join e first steps is) (m, means)

-- the reading of an expression of a known form
pub reads_as : (at : At) {scope : Scope} {e : Expr} {t : Tree} {choice : Choice} {l : Expr-F Expr} → out-Expr e ≡ l → Reads at scope e t choice → ReadsAt at scope l t choice
reads_as at {scope} {e} {t} {choice} is reads = subst (λ (x : Expr-F Expr). ReadsAt at scope x t choice) is (reads_at at reads)

pub is_read_as : (at : At) {scope : Scope} {e : Expr} {l : Expr-F Expr} → out-Expr e ≡ l → IsRead at scope e → IsReadAt at scope e l
is_read_as at {scope} {e} is reads = subst (λ (x : Expr-F Expr). IsReadAt at scope e x) is (is_read_at at reads)
