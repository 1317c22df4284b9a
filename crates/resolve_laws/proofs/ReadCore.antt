-- Two ways to take names by which one text is read agree on its names.
use Rattle.std.proofs.Common.{◌≡◌, ◌∙◌, List, [], ◌∷◌, ◌++◌, length, Option, Some, None, refl, sym, ap, ap₂, subst, inl, inr}
use Rattle.std.proofs.lemmas.Option.{none-some, same_Some}
use Rattle.base_types.specs.declared.place.Position.{Position}
use Rattle.syntax_tree.specs.declared.operator.Infix.{Infix}
use Rattle.syntax_tree.specs.declared.operator.Multiplicity.{Multiplicity as Word}
use Rattle.syntax_tree.specs.declared.expr.Decl.{Decl}
use Rattle.syntax_tree.specs.declared.expr.Binding.{Binding}
use Rattle.syntax_tree.specs.declared.expr.Access.{Access}
use Rattle.syntax_tree.specs.declared.expr.Expr.{Expr}
use Rattle.resolve_types.specs.declared.columns.Columns.{Columns}
use Rattle.resolve_readings.specs.Meanings.{integers}
use Rattle.resolve_readings.specs.Readings.{Choice}
use Rattle.resolve_readings.specs.declared.meaning.Meaning.{Meaning}
use Rattle.resolve_readings.specs.declared.meaning.What.TheVariants as what
use Rattle.resolve_readings.specs.declared.part.Unary.{Unary}
use Rattle.resolve_readings.specs.declared.part.Unary.TheVariants as unary
use Rattle.resolve_readings.specs.declared.part.Binary.{Binary}
use Rattle.resolve_readings.specs.declared.part.Binary.TheVariants as binary
use Rattle.resolve_readings.specs.declared.part.RootPlace.{RootPlace}
use Rattle.resolve_readings.specs.declared.part.RootPlace.TheVariants as place
use Rattle.resolve_picks.specs.declared.target.Target.{Target}
use Rattle.resolve_rules.specs.Forms.{compared_by}
use Rattle.resolve_rules.specs.Prepared.{Tree, single, pair, no_columns, under}
use Rattle.resolve_said.specs.Locals.{Scope as Names, under_decls, under_values}
use Rattle.resolve_read.specs.At.{At, Scope, with_decls, with_values}
use Rattle.resolve_read.specs.Reads.{product_with, by_name, by_join, Reads, a_name, a_field, this, a_constant, a_number, a_negative, a_literal, in_parentheses, primed, prefixed, a_row, a_join, a_choice, a_let, a_comprehension, a_sum, RootReads, root, RowReads, first_operand, next_operand, StepsRead, no_step, dot, box, ArgumentsRead, no_argument, next_argument, BoundReads, bound, DeclsRead, no_decl, next_decl, ValuesRead, no_value, next_value, IsRead, a_parenthesis, a_block, a_sequence, an_implication, a_branching, a_comparison, a_test, a_prefix, a_logical_row, a_formula_let, a_quantified, a_call, AreRead, no_item, next_item, LinksRead, no_link, next_link}
use Rattle.resolve_laws.specs.Occurs.{Agree}
use Rattle.resolve_laws.specs.Readings.{with_picks, names_of}
use Rattle.resolve_laws.proofs.Layers.{layer-Name, layer-Number, layer-Negative, layer-Literal, layer-Parenthesis, layer-Block, layer-Comprehension, layer-Quantified, layer-Let, layer-Sequence, layer-Implication, layer-Compare, layer-Prefix, layer-Infix, layer-Join, layer-Prime}
use Rattle.resolve_laws.proofs.ReadLists.{same_parts}
use Rattle.resolve_laws.proofs.ReadSingle.{read_once}
use Rattle.resolve_laws.proofs.Occurring.{AgreeItems, AgreeLinks, AgreeSteps, AgreeDecls, AgreeValues}
use Rattle.resolve_laws.proofs.Agreeing.{no_items, more_items, no_links, more_links, no_steps, dot_more, box_more, no_decls, more_decls, no_values, more_values, agree-Number, agree-Negative, agree-Literal, agree-Parenthesis, agree-Prime, agree-Prefix, agree-Block, agree-Sequence, agree-Compare, agree-Implication, agree-Infix, agree-Join, agree-Let, agree-Comprehension, agree-Quantified}
use Rattle.resolve_laws.proofs.ReadScopes.{decls_under, values_under, decls_sized, values_sized}
use Rattle.resolve_laws.proofs.ReadViews.{reads_as, is_read_as}
use Rattle.resolve_laws.proofs.ReadBacks.{root_back, bound_back, row_none, row_last, steps_none, dot_last, box_last, arguments_none, argument_last, decls_none, decl_last, values_none, value_last, item_last, link_last}
use Rattle.resolve_laws.proofs.ReadAlike.{Alike, one, two, constant, test_logical}
use Rattle.resolve_laws.proofs.ReadLeaves.{name_alike, at_alike, this_alike, constant_alike}

module _ (at : At) (picks : Position → Option Target) where
  abbrev other : At
  other = with_picks at picks

  -- on the names of an expression
  abbrev Same : Scope → Expr → Type 0
  Same scope e = Agree at.picks picks (names_of scope) e

  -- what is right of names under declarations is so under the names of these
  under_these_decls : (scope : Scope) (decls : List (Decl Expr)) (types : List Columns) (e : Expr) → DeclsRead at scope decls types → Same (with_decls scope decls types) e → Agree at.picks picks (under_decls (names_of scope) decls) e
  under_these_decls scope decls types e bounds h = subst (λ (names : Names). Agree at.picks picks names e) (decls_under scope decls types (decls_sized bounds)) h

  under_these_values : (scope : Scope) (bindings : List (Binding Expr)) (types : List Columns) (e : Expr) → ValuesRead at scope bindings types → Same (with_values scope bindings types) e → Agree at.picks picks (under_values (names_of scope) bindings) e
  under_these_values scope bindings types e values h = subst (λ (names : Names). Agree at.picks picks names e) (values_under scope bindings types (values_sized values)) h

  set_same : (m n : Meaning) (c d : Columns) → m ≡ n → m.what ≡ what.Set c → n.what ≡ what.Set d → c ≡ d
  set_same m n c d same first second = (let both : what.Set c ≡ what.Set d = sym first ∙ (ap (λ (x : Meaning). x.what) same ∙ second) in cc)

  longer_same : {X : Type 0} (xs ys all whole : List X) (x y : X) → all ≡ xs ++ x ∷ [] → whole ≡ ys ++ y ∷ [] → xs ≡ ys → x ≡ y → all ≡ whole
  longer_same {X} xs ys all whole x y is also front last = is ∙ (ap₂ (λ (l : List X) (z : X). l ++ z ∷ []) front last ∙ sym also)

  mutual
    reads_alike : {scope : Scope} {e : Expr} {t : Tree} {choice : Choice} → Reads at scope e t choice → (u : Tree) (rest : Choice) → Reads other scope e u rest → Alike t u choice rest (Same scope e)
    reads_alike {scope} {e} (a_name {ms = ms} {n = n} {q = q} is picked) u rest second = name_alike at picks scope e q is ms n picked u rest second
    reads_alike {scope} {e} (a_field {ms = ms} {n = n} {p = p} {q = q} is picked) u rest second = at_alike at picks scope e p q is ms n picked u rest second
    reads_alike {scope} {e} (this {p = p} {c = c} is typed) u rest second = this_alike at picks scope e p c is typed u rest second
    reads_alike {scope} {e} (a_constant {p = p} {w = w} {c = c} is typed) u rest second = constant_alike at picks scope e p w c is typed u rest second
    reads_alike {scope} {e} (a_number {p = p} {n = n} is) u rest second =
        constant integers integers u rest refl (reads_as other (layer-Number e p n is) second) (agree-Number at.picks picks (names_of scope) e p n is)
    reads_alike {scope} {e} (a_negative {p = p} {n = n} is) u rest second =
        constant integers integers u rest refl (reads_as other (layer-Negative e p n is) second) (agree-Negative at.picks picks (names_of scope) e p n is)
    reads_alike {scope} {e} (a_literal {p = p} {text = text} {c = c} is typed) u rest second =
        let v = reads_as other (layer-Literal e p text is) second in
        constant c v.0 u rest (same_Some c v.0 (sym typed ∙ v.1)) v.2 (agree-Literal at.picks picks (names_of scope) e p text is)
    reads_alike {scope} {e} (in_parentheses {inner = a} {t = t} {choice = g} {p = p} is inner) u rest second =
        let v = reads_as other (layer-Parenthesis e p a is) second in
        one (single unary.Whole) t v.0 g rest (reads_alike inner v.0 rest v.1) u v.2 (agree-Parenthesis at.picks picks (names_of scope) e p a is)
    reads_alike {scope} {e} (primed {inner = a} {t = t} {choice = g} is inner) u rest second =
        let v = reads_as other (layer-Prime e a is) second in
        one (single unary.Prime) t v.0 g rest (reads_alike inner v.0 rest v.1) u v.2 (agree-Prime at.picks picks (names_of scope) e a is)
    reads_alike {scope} {e} (prefixed {inner = a} {t = t} {choice = g} {u = by} {p = p} {op = op} is before inner) u rest second =
        let v = reads_as other (layer-Prefix e p op a is) second in
        let operator : v.0 ≡ by = same_Some v.0 by (sym v.2 ∙ before) in
        one (single by) t v.1 g rest (reads_alike inner v.1 rest v.3) u (v.4 ∙ ap (λ (x : Unary). single x v.1) operator) (agree-Prefix at.picks picks (names_of scope) e p op a is)
    reads_alike {scope} {e} (a_row {first = first} {t = t} {choice = g} {links = links} is row) u rest second =
        let a = row_alike row u rest (reads_as other (layer-Infix e first links is) second) in
        one (λ s. s) t u g rest a u refl (λ h. agree-Infix at.picks picks (names_of scope) e first links is h.0 h.1)
    reads_alike {scope} {e} (a_join {first = first} {t = t} {choice = g} {steps = steps} is row) u rest second =
        let a = steps_alike row u rest (reads_as other (layer-Join e first steps is) second) in
        one (λ s. s) t u g rest a u refl (λ h. agree-Join at.picks picks (names_of scope) e first steps is h.0 h.1)
    reads_alike {scope} {e} (a_choice {condition = c} {a = a} {b = b} {t = t} {u = s} {choice = g} {other = i} {is_word = w} is condition first last) u rest second =
        let v = reads_as other (layer-Implication e w c a (Some b) is) second in
        let tested = is_read_alike condition v.6 in
        let branch : v.0 ≡ b = same_Some v.0 b (sym v.5) in
        let here = reads_alike first v.1 v.3 v.7 in
        let there = reads_alike last v.2 v.4 (subst (λ (x : Expr). Reads other scope x v.2 v.4) branch v.8) in
        two (pair binary.Choose) t v.1 s v.2 g v.3 i v.4 here there u rest v.9 v.10
        (λ x y. agree-Implication at.picks picks (names_of scope) e w c a (Some b) is tested x (λ d same. subst (Same scope) (same_Some b d same) y))
    reads_alike {scope} {e} (a_let {body = body} {t = t} {choice = g} {p = p} {bindings = bindings} {has_bar = bar} {types = types} is values inner) u rest second =
        let v = reads_as other (layer-Let e p bindings bar body is) second in
        let known_values = values_alike values v.0 v.2 in
        let here = reads_alike inner v.1 rest (subst (λ (ts : List Columns). Reads other (with_values scope bindings ts) body v.1 rest) (sym known_values.0) v.3) in
        one (under bindings) t v.1 g rest here u v.4 (λ h. agree-Let at.picks picks (names_of scope) e p bindings bar body is known_values.1 (under_these_values scope bindings types body values h))
    reads_alike {scope} {e} (a_comprehension {body = body} {p = p} {decls = decls} {has_bar = bar} {types = types} is bounds inner) u rest second =
        let v = reads_as other (layer-Comprehension e p decls bar body is) second in
        let known_bounds = decls_alike bounds v.0 v.1 in
        let here = is_read_alike inner (subst (λ (ts : List Columns). IsRead other (with_decls scope decls ts) body) (sym known_bounds.0) v.2) in
        let product : List Columns → Columns = product_with at.types.typing.lines no_columns decls in
        constant (product types) (product v.0) u rest (ap product known_bounds.0) v.3
        (agree-Comprehension at.picks picks (names_of scope) e p decls bar body is known_bounds.1 (under_these_decls scope decls types body bounds here))
    reads_alike {scope} {e} (a_sum {body = body} {p = p} {w = w} {decls = decls} {has_bar = bar} {types = types} is sums bounds inner) u rest second =
        let v = reads_as other (layer-Quantified e p w decls bar body is) second in
        let known_bounds = decls_alike bounds v.0 v.2 in
        let here = root_alike inner v.1 (subst (λ (ts : List Columns). RootReads other (with_decls scope decls ts) (place.Columns 1) body v.1) (sym known_bounds.0) v.3) in
        constant integers integers u rest refl v.4
        (agree-Quantified at.picks picks (names_of scope) e p w decls bar body is known_bounds.1 (under_these_decls scope decls types body bounds here.1))

    pub root_alike : {scope : Scope} {w : RootPlace} {e : Expr} {m : Meaning} → RootReads at scope w e m → (n : Meaning) → RootReads other scope w e n → (m ≡ n) × Same scope e
    root_alike {scope} {w} {e} {m} (root {t = t} {choice = g} reads means) n second =
        let v = root_back other second in
        let a = reads_alike reads v.0 v.1 v.2 in
        let once = read_once at.types.typing (single (unary.Fits w) t) (single (unary.Fits w) v.0) g v.1 m n (ap (single (unary.Fits w)) a.tree) means v.3 in
        (once.1, a.agree once.0)

    row_alike : {scope : Scope} {first : Expr} {links : List (Infix × Expr)} {t : Tree} {choice : Choice} → RowReads at scope first links t choice → (u : Tree) (rest : Choice) → RowReads other scope first links u rest →
        Alike t u choice rest (Same scope first × AgreeLinks at.picks picks (names_of scope) links)
    row_alike {scope} (first_operand {t = t} {choice = g} reads) u rest second =
        one (λ s. s) t u g rest (reads_alike reads u rest (row_none other second refl)) u refl (λ h. (h, no_links at.picks picks (names_of scope)))
    row_alike {scope} (next_operand {e = e} {t = t} {u = s} {choice = g} {other = i} {links = links} {all = all} {b = b} op is row by reads) u rest second =
        let v = row_last other second links op e is in
        let before = row_alike row v.0 v.2 v.5 in
        let here = reads_alike reads v.1 v.3 v.7 in
        let operator : v.4 ≡ b = same_Some v.4 b (sym v.6 ∙ by) in
        two (pair b) t v.0 s v.1 g v.2 i v.3 before here u rest (v.8 ∙ ap (λ (x : Binary). pair x v.0 v.1) operator) v.9
        (λ x y. (x.0, more_links at.picks picks (names_of scope) links all op e is x.1 y))

    steps_alike : {scope : Scope} {first : Expr} {steps : List (Access Expr)} {t : Tree} {choice : Choice} → StepsRead at scope first steps t choice → (u : Tree) (rest : Choice) → StepsRead other scope first steps u rest →
        Alike t u choice rest (Same scope first × AgreeSteps at.picks picks (names_of scope) steps)
    steps_alike {scope} (no_step {t = t} {choice = g} reads) u rest second =
        one (λ s. s) t u g rest (reads_alike reads u rest (steps_none other second refl)) u refl (λ h. (h, no_steps at.picks picks (names_of scope)))
    steps_alike {scope} (dot {e = e} {t = t} {u = s} {choice = g} {other = i} {steps = steps} {all = all} is row reads) u rest second =
        let v = dot_last other second steps e is in
        let before = steps_alike row v.0 v.2 v.4 in
        let here = reads_alike reads v.1 v.3 v.5 in
        two (pair binary.Dot) t v.0 s v.1 g v.2 i v.3 before here u rest v.6 v.7 (λ x y. (x.0, dot_more at.picks picks (names_of scope) steps all e is x.1 y))
    steps_alike {scope} {first} (box {t = t} {u = s} {choice = g} {other = i} {steps = steps} {all = all} {es = es} is row arguments) u rest second =
        let v = box_last other second steps es is in
        let before = steps_alike row v.0 v.1 v.2 in
        let here = arguments_alike arguments v.0 v.1 u rest v.3 before.tree before.size in
        one (λ x. x) s u i rest here u refl (λ h. (let a = before.agree h.0 in (a.0, box_more at.picks picks (names_of scope) steps all es is a.1 h.1)))

    arguments_alike : {scope : Scope} {s : Tree} {before : Choice} {es : List Expr} {t : Tree} {choice : Choice} → ArgumentsRead at scope s before es t choice → (r : Tree) (early : Choice) (u : Tree) (rest : Choice) →
        ArgumentsRead other scope r early es u rest → s ≡ r → length before ≡ length early → Alike t u choice rest ((before ≡ early) × AgreeItems at.picks picks (names_of scope) es)
    arguments_alike {scope} {s} {before} no_argument r early u rest second same size =
        let v = arguments_none other second refl in record {
          tree = same ∙ v.0;
          size = size ∙ ap (λ (l : Choice). length l) v.1;
          agree = λ e. (e ∙ sym v.1, no_items at.picks picks (names_of scope));
        }
    arguments_alike {scope} (next_argument {e = e} {t = t} {u = s} {choice = g} {other = i} {es = es} {all = all} is row reads) r early u rest second same size =
        let v = argument_last other second es e is in
        let front = arguments_alike row r early v.0 v.2 v.4 same size in
        let here = reads_alike reads v.1 v.3 v.5 in
        two (pair binary.Apply) t v.0 s v.1 g v.2 i v.3 front here u rest v.6 v.7 (λ x y. (x.0, more_items at.picks picks (names_of scope) es all e is x.1 y))

    pub bound_alike : {scope : Scope} {w : Option Word} {e : Expr} {c : Columns} → BoundReads at scope w e c → (d : Columns) → BoundReads other scope w e d → (c ≡ d) × Same scope e
    bound_alike {c = c} (bound {m = m} reads set) d second =
        let v = bound_back other second in
        let a = root_alike reads v.0 v.1 in
        (set_same m v.0 c d a.0 set v.2, a.1)

    decls_alike : {scope : Scope} {decls : List (Decl Expr)} {types : List Columns} → DeclsRead at scope decls types → (others : List Columns) → DeclsRead other scope decls others → (types ≡ others) × AgreeDecls at.picks picks (names_of scope) decls
    decls_alike {scope} no_decl others second = (sym (decls_none other second refl), no_decls at.picks picks (names_of scope))
    decls_alike {scope} (next_decl d {ds = ds} {all = all} {c = c} {cs = cs} {types = types} is also before here) others second =
        let v = decl_last other second ds d is in
        let front = decls_alike before v.0 v.2 in
        let last = bound_alike here v.1 (subst (λ (ts : List Columns). BoundReads other (with_decls scope ds ts) d.word d.bound v.1) (sym front.0) v.3) in
        (longer_same cs v.0 types others c v.1 also v.4 front.0 last.0, more_decls at.picks picks (names_of scope) ds all d is front.1 (under_these_decls scope ds cs d.bound before last.1))

    values_alike : {scope : Scope} {bindings : List (Binding Expr)} {types : List Columns} → ValuesRead at scope bindings types → (others : List Columns) → ValuesRead other scope bindings others → (types ≡ others) × AgreeValues at.picks picks (names_of scope) bindings
    values_alike {scope} no_value others second = (sym (values_none other second refl), no_values at.picks picks (names_of scope))
    values_alike {scope} (next_value b {bs = bs} {all = all} {c = c} {cs = cs} {types = types} {m = m} is also before here set) others second =
        let v = value_last other second bs b is in
        let front = values_alike before v.0 v.3 in
        let last = root_alike here v.2 (subst (λ (ts : List Columns). RootReads other (with_values scope bs ts) place.Value b.value v.2) (sym front.0) v.4) in
        (longer_same cs v.0 types others c v.1 also v.6 front.0 (set_same m v.2 c v.1 last.0 set v.5), more_values at.picks picks (names_of scope) bs all b is front.1 (under_these_values scope bs cs b.value before last.1))

    pub is_read_alike : {scope : Scope} {e : Expr} → IsRead at scope e → IsRead other scope e → Same scope e
    is_read_alike {scope} {e} (a_parenthesis {inner = a} {p = p} is inner) second = agree-Parenthesis at.picks picks (names_of scope) e p a is (is_read_alike inner (is_read_as other (layer-Parenthesis e p a is) second))
    is_read_alike {scope} {e} (a_block {p = p} {items = items} is inner) second = agree-Block at.picks picks (names_of scope) e p items is (are_read_alike inner (is_read_as other (layer-Block e p items is) second))
    is_read_alike {scope} {e} (a_sequence {a = a} {b = b} is first last) second =
        let v = is_read_as other (layer-Sequence e a b is) second in
        agree-Sequence at.picks picks (names_of scope) e a b is (is_read_alike first v.0) (is_read_alike last v.1)
    is_read_alike {scope} {e} (an_implication {a = a} {b = b} {is_word = w} is first last) second =
        let v = is_read_as other (layer-Implication e w a b None is) second in
        agree-Implication at.picks picks (names_of scope) e w a b None is (is_read_alike first v.0) (is_read_alike last v.1) (λ d none. absurd (none-some d none))
    is_read_alike {scope} {e} (a_branching {condition = c} {a = a} {b = b} {is_word = w} is condition first last) second =
        let v = is_read_as other (layer-Implication e w c a (Some b) is) second in
        let there = is_read_alike last (v.2 b refl) in
        agree-Implication at.picks picks (names_of scope) e w c a (Some b) is (is_read_alike condition v.0) (is_read_alike first v.1) (λ d same. subst (Same scope) (same_Some b d same) there)
    is_read_alike {scope} {e} (a_comparison {a = a} {b = b} {t = t} {u = s} {choice = g} {other = i} {op = op} {m = m} is first last means) second =
        let v = is_read_as other (layer-Compare e op a b is) second in
        let here = reads_alike first v.0 v.2 v.5 in
        let there = reads_alike last v.1 v.3 v.6 in
        let tree : Tree → Tree → Tree = λ x y. single (unary.Fits place.Formula) (pair (compared_by op.comparator op.word) x y) in
        let once = read_once at.types.typing (tree t s) (tree v.0 v.1) (g ++ i) (v.2 ++ v.3) m v.4 (ap₂ tree here.tree there.tree) means v.7 in
        let parts = same_parts g v.2 i v.3 here.size once.0 in
        agree-Compare at.picks picks (names_of scope) e op a b is (here.agree parts.0) (there.agree parts.1)
    is_read_alike {scope} {e} (a_test {a = a} {p = p} {op = op} is test means) second =
        let v = is_read_as other (layer-Prefix e p op a is) second in
        agree-Prefix at.picks picks (names_of scope) e p op a is (elim v [ inl x ↦ (root_alike means x.1.0 x.1.1).1 | inr x ↦ absurd (test_logical op test x.0) ])
    is_read_alike {scope} {e} (a_prefix {a = a} {p = p} {op = op} is logical inner) second =
        let v = is_read_as other (layer-Prefix e p op a is) second in
        agree-Prefix at.picks picks (names_of scope) e p op a is (elim v [ inl x ↦ absurd (test_logical op x.0 logical) | inr x ↦ is_read_alike inner x.1 ])
    is_read_alike {scope} {e} (a_logical_row {first = first} {op = op} {a = a} {links = links} is logical begun behind) second =
        let v = is_read_as other (layer-Infix e first ((op, a) ∷ links) is) second in
        agree-Infix at.picks picks (names_of scope) e first ((op, a) ∷ links) is (is_read_alike begun v.0) (links_alike behind v.1)
    is_read_alike {scope} {e} (a_formula_let {body = body} {p = p} {bindings = bindings} {has_bar = bar} {types = types} is values inner) second =
        let v = is_read_as other (layer-Let e p bindings bar body is) second in
        let known_values = values_alike values v.0 v.1 in
        let here = is_read_alike inner (subst (λ (ts : List Columns). IsRead other (with_values scope bindings ts) body) (sym known_values.0) v.2) in
        agree-Let at.picks picks (names_of scope) e p bindings bar body is known_values.1 (under_these_values scope bindings types body values here)
    is_read_alike {scope} {e} (a_quantified {body = body} {p = p} {w = w} {decls = decls} {has_bar = bar} {types = types} is no_sum bounds inner) second =
        let v = is_read_as other (layer-Quantified e p w decls bar body is) second in
        let known_bounds = decls_alike bounds v.0 v.1 in
        let here = is_read_alike inner (subst (λ (ts : List Columns). IsRead other (with_decls scope decls ts) body) (sym known_bounds.0) v.2) in
        agree-Quantified at.picks picks (names_of scope) e p w decls bar body is known_bounds.1 (under_these_decls scope decls types body bounds here)
    is_read_alike {scope} {e} (a_call (by_name {q = q} is) means) second = (let v = is_read_as other (layer-Name e q is) second in (root_alike means v.0 v.1).1)
    is_read_alike {scope} {e} (a_call (by_join first steps is) means) second = (let v = is_read_as other (layer-Join e first steps is) second in (root_alike means v.0 v.1).1)

    are_read_alike : {scope : Scope} {items : List Expr} → AreRead at scope items → AreRead other scope items → AgreeItems at.picks picks (names_of scope) items
    are_read_alike {scope} no_item second = no_items at.picks picks (names_of scope)
    are_read_alike {scope} (next_item {e = e} {es = es} {all = all} is before here) second =
        let v = item_last other second es e is in
        more_items at.picks picks (names_of scope) es all e is (are_read_alike before v.0) (is_read_alike here v.1)

    links_alike : {scope : Scope} {links : List (Infix × Expr)} → LinksRead at scope links → LinksRead other scope links → AgreeLinks at.picks picks (names_of scope) links
    links_alike {scope} no_link second = no_links at.picks picks (names_of scope)
    links_alike {scope} (next_link {e = e} {links = links} {all = all} op is before here) second =
        let v = link_last other second links op e is in
        more_links at.picks picks (names_of scope) links all op e is (links_alike before v.0) (is_read_alike here v.1)
