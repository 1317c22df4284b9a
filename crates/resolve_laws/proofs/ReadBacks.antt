-- What the reading of a row, of a join or of a list is, by its last part.
use Rattle.std.proofs.Common.{◌≡◌, ◌∙◌, List, [], ◌∷◌, ◌++◌, Option, Some, refl, sym, ap, subst}
use Rattle.std.proofs.lemmas.List.{same_from_push}
use Rattle.syntax_tree.specs.declared.operator.Infix.{Infix}
use Rattle.syntax_tree.specs.declared.operator.Multiplicity.{Multiplicity as Word}
use Rattle.syntax_tree.specs.declared.expr.Decl.{Decl}
use Rattle.syntax_tree.specs.declared.expr.Binding.{Binding}
use Rattle.syntax_tree.specs.declared.expr.Access.{Access}
use Rattle.syntax_tree.specs.declared.expr.Access.TheVariants as access
use Rattle.syntax_tree.specs.declared.expr.Expr.{Expr}
use Rattle.resolve_types.specs.declared.columns.Columns.{Columns}
use Rattle.resolve_readings.specs.Readings.{Choice}
use Rattle.resolve_readings.specs.declared.meaning.Meaning.{Meaning}
use Rattle.resolve_readings.specs.declared.meaning.What.TheVariants as what
use Rattle.resolve_readings.specs.declared.part.Unary.TheVariants as unary
use Rattle.resolve_readings.specs.declared.part.Binary.{Binary}
use Rattle.resolve_readings.specs.declared.part.Binary.TheVariants as binary
use Rattle.resolve_readings.specs.declared.part.RootPlace.{RootPlace}
use Rattle.resolve_readings.specs.declared.part.RootPlace.TheVariants as place
use Rattle.resolve_rules.specs.Forms.{word_of, between}
use Rattle.resolve_rules.specs.Prepared.{Tree, single, pair}
use Rattle.resolve_read.specs.At.{At, Scope, with_decls, with_values}
use Rattle.resolve_read.specs.Reads.{ReadAs, Reads, RootReads, root, RowReads, first_operand, next_operand, StepsRead, no_step, dot, box, ArgumentsRead, no_argument, next_argument, BoundReads, bound, DeclsRead, no_decl, next_decl, ValuesRead, no_value, next_value, IsRead, AreRead, no_item, next_item, LinksRead, no_link, next_link}
use Rattle.resolve_laws.proofs.ReadLists.{no_last}

module _ (at : At) where
  -- ------------------------------------------------------------------ roots

  abbrev pub RootBack : Scope → RootPlace → Expr → Meaning → Type 0
  RootBack scope w e m = (t : Tree) × (choice : Choice) × Reads at scope e t choice × ReadAs at.types.typing (single (unary.Fits w) t) choice m

  pub root_back : {scope : Scope} {w : RootPlace} {e : Expr} {m : Meaning} → RootReads at scope w e m → RootBack scope w e m
  root_back (root {t = t} {choice = choice} reads means) = (t, choice, reads, means)

  abbrev pub BoundBack : Scope → Option Word → Expr → Columns → Type 0
  BoundBack scope w e c = (m : Meaning) × RootReads at scope (place.Bound (word_of w)) e m × (m.what ≡ what.Set c)

  pub bound_back : {scope : Scope} {w : Option Word} {e : Expr} {c : Columns} → BoundReads at scope w e c → BoundBack scope w e c
  bound_back (bound {m = m} reads set) = (m, reads, set)

  -- ------------------------------------------------------------------ rows

  pub row_none : {scope : Scope} {first : Expr} {all : List (Infix × Expr)} {t : Tree} {choice : Choice} → RowReads at scope first all t choice → all ≡ [] → Reads at scope first t choice
  row_none (first_operand reads) none = reads
  row_none (next_operand {e = e} {links = links} op is row by reads) none = absurd (no_last links [] (op, e) (sym none ∙ is))

  abbrev pub RowLast : Scope → Expr → List (Infix × Expr) → Infix → Expr → Tree → Choice → Type 0
  RowLast scope first links op e t choice =
      (u : Tree) × (v : Tree) × (g : Choice) × (h : Choice) × (b : Binary) × RowReads at scope first links u g × (between op ≡ Some b) × Reads at scope e v h × (t ≡ pair b u v) × (choice ≡ g ++ h)

  pub row_last : {scope : Scope} {first : Expr} {all : List (Infix × Expr)} {t : Tree} {choice : Choice} → RowReads at scope first all t choice →
      (links : List (Infix × Expr)) (op : Infix) (e : Expr) → all ≡ links ++ (op, e) ∷ [] → RowLast scope first links op e t choice
  row_last (first_operand reads) links op e is = absurd (no_last links [] (op, e) is)
  row_last {scope} {first} (next_operand {e = f} {t = u} {u = v} {choice = g} {other = h} {links = ls} {b = b} by same row between_is reads) links op e is =
      let parts = same_from_push ls links (by, f) (op, e) (sym same ∙ is) in
      let operator : by ≡ op = ap (λ (l : Infix × Expr). l.0) parts.1 in
      let operand : f ≡ e = ap (λ (l : Infix × Expr). l.1) parts.1 in
      (u, v, g, h, b, subst (λ (l : List (Infix × Expr)). RowReads at scope first l u g) parts.0 row, sym (ap between operator) ∙ between_is, subst (λ (x : Expr). Reads at scope x v h) operand reads, refl, refl)

  -- ------------------------------------------------------------------ joins

  pub steps_none : {scope : Scope} {first : Expr} {all : List (Access Expr)} {t : Tree} {choice : Choice} → StepsRead at scope first all t choice → all ≡ [] → Reads at scope first t choice
  steps_none (no_step reads) none = reads
  steps_none (dot {e = e} {steps = steps} is row reads) none = absurd (no_last steps [] (access.Dot e) (sym none ∙ is))
  steps_none (box {steps = steps} {es = es} is row reads) none = absurd (no_last steps [] (access.Bracket es) (sym none ∙ is))

  abbrev pub DotLast : Scope → Expr → List (Access Expr) → Expr → Tree → Choice → Type 0
  DotLast scope first steps e t choice = (u : Tree) × (v : Tree) × (g : Choice) × (h : Choice) × StepsRead at scope first steps u g × Reads at scope e v h × (t ≡ pair binary.Dot u v) × (choice ≡ g ++ h)

  dot_same : (a b : Expr) → ◌≡◌ {A = Access Expr} (access.Dot a) (access.Dot b) → a ≡ b
  dot_same a b same = cc

  box_same : (a b : List Expr) → ◌≡◌ {A = Access Expr} (access.Bracket a) (access.Bracket b) → a ≡ b
  box_same a b same = cc

  dot_box : (a : Expr) (b : List Expr) → ◌≡◌ {A = Access Expr} (access.Dot a) (access.Bracket b) → ⊥
  dot_box a b same = cc

  pub dot_last : {scope : Scope} {first : Expr} {all : List (Access Expr)} {t : Tree} {choice : Choice} → StepsRead at scope first all t choice →
      (steps : List (Access Expr)) (e : Expr) → all ≡ steps ++ access.Dot e ∷ [] → DotLast scope first steps e t choice
  dot_last (no_step reads) steps e is = absurd (no_last steps [] (access.Dot e) is)
  dot_last {scope} {first} (dot {e = f} {t = u} {u = v} {choice = g} {other = h} {steps = ss} same row reads) steps e is =
      let parts = same_from_push ss steps (access.Dot f) (access.Dot e) (sym same ∙ is) in
      (u, v, g, h, subst (λ (l : List (Access Expr)). StepsRead at scope first l u g) parts.0 row, subst (λ (x : Expr). Reads at scope x v h) (dot_same f e parts.1) reads, refl, refl)
  dot_last (box {steps = ss} {es = es} same row reads) steps e is = absurd (dot_box e es (sym (same_from_push ss steps (access.Bracket es) (access.Dot e) (sym same ∙ is)).1))

  abbrev pub BoxLast : Scope → Expr → List (Access Expr) → List Expr → Tree → Choice → Type 0
  BoxLast scope first steps es t choice = (u : Tree) × (g : Choice) × StepsRead at scope first steps u g × ArgumentsRead at scope u g es t choice

  pub box_last : {scope : Scope} {first : Expr} {all : List (Access Expr)} {t : Tree} {choice : Choice} → StepsRead at scope first all t choice →
      (steps : List (Access Expr)) (es : List Expr) → all ≡ steps ++ access.Bracket es ∷ [] → BoxLast scope first steps es t choice
  box_last (no_step reads) steps es is = absurd (no_last steps [] (access.Bracket es) is)
  box_last (dot {e = f} {steps = ss} same row reads) steps es is = absurd (dot_box f es (same_from_push ss steps (access.Dot f) (access.Bracket es) (sym same ∙ is)).1)
  box_last {scope} {first} {t = v} {choice = h} (box {t = u} {choice = g} {steps = ss} {es = fs} same row reads) steps es is =
      let parts = same_from_push ss steps (access.Bracket fs) (access.Bracket es) (sym same ∙ is) in
      (u, g, subst (λ (l : List (Access Expr)). StepsRead at scope first l u g) parts.0 row, subst (λ (l : List Expr). ArgumentsRead at scope u g l v h) (box_same fs es parts.1) reads)

  pub arguments_none : {scope : Scope} {s : Tree} {before : Choice} {all : List Expr} {t : Tree} {choice : Choice} → ArgumentsRead at scope s before all t choice → all ≡ [] → (s ≡ t) × (before ≡ choice)
  arguments_none no_argument none = (refl, refl)
  arguments_none (next_argument {e = e} {es = es} is row reads) none = absurd (no_last es [] e (sym none ∙ is))

  abbrev pub ArgumentLast : Scope → Tree → Choice → List Expr → Expr → Tree → Choice → Type 0
  ArgumentLast scope s before es e t choice = (u : Tree) × (v : Tree) × (g : Choice) × (h : Choice) × ArgumentsRead at scope s before es u g × Reads at scope e v h × (t ≡ pair binary.Apply u v) × (choice ≡ g ++ h)

  pub argument_last : {scope : Scope} {s : Tree} {before : Choice} {all : List Expr} {t : Tree} {choice : Choice} → ArgumentsRead at scope s before all t choice →
      (es : List Expr) (e : Expr) → all ≡ es ++ e ∷ [] → ArgumentLast scope s before es e t choice
  argument_last no_argument es e is = absurd (no_last es [] e is)
  argument_last {scope} {s} {before} (next_argument {e = f} {t = u} {u = v} {choice = g} {other = h} {es = fs} same row reads) es e is =
      let parts = same_from_push fs es f e (sym same ∙ is) in
      (u, v, g, h, subst (λ (l : List Expr). ArgumentsRead at scope s before l u g) parts.0 row, subst (λ (x : Expr). Reads at scope x v h) parts.1 reads, refl, refl)

  -- ------------------------------------------------------------------ lists

  pub decls_none : {scope : Scope} {all : List (Decl Expr)} {types : List Columns} → DeclsRead at scope all types → all ≡ [] → types ≡ []
  decls_none no_decl none = refl
  decls_none (next_decl d {ds = ds} is also before here) none = absurd (no_last ds [] d (sym none ∙ is))

  abbrev pub DeclLast : Scope → List (Decl Expr) → Decl Expr → List Columns → Type 0
  DeclLast scope ds d types = (cs : List Columns) × (c : Columns) × DeclsRead at scope ds cs × BoundReads at (with_decls scope ds cs) d.word d.bound c × (types ≡ cs ++ c ∷ [])

  pub decl_last : {scope : Scope} {all : List (Decl Expr)} {types : List Columns} → DeclsRead at scope all types → (ds : List (Decl Expr)) (d : Decl Expr) → all ≡ ds ++ d ∷ [] → DeclLast scope ds d types
  decl_last no_decl ds d is = absurd (no_last ds [] d is)
  decl_last {scope} (next_decl e {ds = es} {c = c} {cs = cs} same also before here) ds d is =
      let parts = same_from_push es ds e d (sym same ∙ is) in
      let there : BoundReads at (with_decls scope ds cs) e.word e.bound c = subst (λ (l : List (Decl Expr)). BoundReads at (with_decls scope l cs) e.word e.bound c) parts.0 here in
      (cs, c, subst (λ (l : List (Decl Expr)). DeclsRead at scope l cs) parts.0 before, subst (λ (x : Decl Expr). BoundReads at (with_decls scope ds cs) x.word x.bound c) parts.1 there, also)

  pub values_none : {scope : Scope} {all : List (Binding Expr)} {types : List Columns} → ValuesRead at scope all types → all ≡ [] → types ≡ []
  values_none no_value none = refl
  values_none (next_value b {bs = bs} is also before here set) none = absurd (no_last bs [] b (sym none ∙ is))

  abbrev pub ValueLast : Scope → List (Binding Expr) → Binding Expr → List Columns → Type 0
  ValueLast scope bs b types = (cs : List Columns) × (c : Columns) × (m : Meaning) × ValuesRead at scope bs cs × RootReads at (with_values scope bs cs) place.Value b.value m × (m.what ≡ what.Set c) × (types ≡ cs ++ c ∷ [])

  pub value_last : {scope : Scope} {all : List (Binding Expr)} {types : List Columns} → ValuesRead at scope all types → (bs : List (Binding Expr)) (b : Binding Expr) → all ≡ bs ++ b ∷ [] → ValueLast scope bs b types
  value_last no_value bs b is = absurd (no_last bs [] b is)
  value_last {scope} (next_value e {bs = es} {c = c} {cs = cs} {m = m} same also before here set) bs b is =
      let parts = same_from_push es bs e b (sym same ∙ is) in
      let there : RootReads at (with_values scope bs cs) place.Value e.value m = subst (λ (l : List (Binding Expr)). RootReads at (with_values scope l cs) place.Value e.value m) parts.0 here in
      (cs, c, m, subst (λ (l : List (Binding Expr)). ValuesRead at scope l cs) parts.0 before, subst (λ (x : Binding Expr). RootReads at (with_values scope bs cs) place.Value x.value m) parts.1 there, set, also)

  pub item_last : {scope : Scope} {all : List Expr} → AreRead at scope all → (es : List Expr) (e : Expr) → all ≡ es ++ e ∷ [] → AreRead at scope es × IsRead at scope e
  item_last no_item es e is = absurd (no_last es [] e is)
  item_last {scope} (next_item {e = f} {es = fs} same before here) es e is =
      let parts = same_from_push fs es f e (sym same ∙ is) in (subst (λ (l : List Expr). AreRead at scope l) parts.0 before, subst (λ (x : Expr). IsRead at scope x) parts.1 here)

  pub link_last : {scope : Scope} {all : List (Infix × Expr)} → LinksRead at scope all → (links : List (Infix × Expr)) (op : Infix) (e : Expr) → all ≡ links ++ (op, e) ∷ [] → LinksRead at scope links × IsRead at scope e
  link_last no_link links op e is = absurd (no_last links [] (op, e) is)
  link_last {scope} (next_link {e = f} {links = ls} by same before here) links op e is =
      let parts = same_from_push ls links (by, f) (op, e) (sym same ∙ is) in
      let operand : f ≡ e = ap (λ (l : Infix × Expr). l.1) parts.1 in
      (subst (λ (l : List (Infix × Expr)). LinksRead at scope l) parts.0 before, subst (λ (x : Expr). IsRead at scope x) operand here)
