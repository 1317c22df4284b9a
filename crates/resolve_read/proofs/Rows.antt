-- A part more of a row, of a join, of a box, of a block, of a `let` or of declarations.
use Rattle.std.proofs.Common.{◌≡◌, ◌∙◌, ℕ, ◌+◌, ◌<◌, ◌≤◌, List, [], ◌∷◌, ◌++◌, length, take, get_or, Some, sym, ap, subst}
use Rattle.std.proofs.lemmas.List.{take_all}
use Rattle.syntax_tree.specs.declared.operator.Infix.{Infix}
use Rattle.syntax_tree.specs.declared.expr.Decl.{Decl}
use Rattle.syntax_tree.specs.declared.expr.Binding.{Binding}
use Rattle.syntax_tree.specs.declared.expr.Access.{Access}
use Rattle.syntax_tree.specs.declared.expr.Access.TheVariants as access
use Rattle.syntax_tree.specs.declared.expr.Expr.{Expr}
use Rattle.resolve_types.specs.declared.columns.Columns.{Columns}
use Rattle.resolve_readings.specs.Readings.{Choice}
use Rattle.resolve_readings.specs.declared.meaning.Meaning.{Meaning}
use Rattle.resolve_readings.specs.declared.meaning.What.TheVariants as what
use Rattle.resolve_readings.specs.declared.part.Binary.{Binary}
use Rattle.resolve_readings.specs.declared.part.Binary.TheVariants as binary
use Rattle.resolve_readings.specs.declared.part.RootPlace.TheVariants as root_place
use Rattle.resolve_rules.specs.Forms.{between}
use Rattle.resolve_rules.specs.Prepared.{Tree, pair}
use Rattle.resolve_said.proofs.Lists.{take_next}
use Rattle.resolve_read.specs.At.{At, Scope, with_decls, with_values}
use Rattle.resolve_read.specs.Reads.{Reads, RowReads, StepsRead, ArgumentsRead, BoundReads, RootReads, DeclsRead, ValuesRead, IsRead, AreRead, LinksRead, next_operand, dot, box, next_argument, next_decl, next_value, next_item, next_link}

module _ (at : At) (scope : Scope) where
  pub row_next : (first : Expr) (links : List (Infix × Expr)) (place : ℕ) (link : Infix × Expr) (b : Binary) (t u v : Tree) (c d g : Choice) → place < length links → link ≡ get_or links place link → Some b ≡ between link.0 →
      Reads at scope link.1 u d → v ≡ pair b t u → g ≡ c ++ d → RowReads at scope first (take place links) t c → RowReads at scope first (take (place + 1) links) v g
  row_next first links place link b t u v c d g inside here op reads tree_is choice_is row =
      rw tree_is (rw choice_is (next_operand link.0 (take_next links place link inside here) row (sym op) reads))

  pub row_all : (first : Expr) (links : List (Infix × Expr)) (place : ℕ) (t : Tree) (c : Choice) → length links ≤ place → RowReads at scope first (take place links) t c → RowReads at scope first links t c
  row_all first links place t c past row = subst (λ (l : List (Infix × Expr)). RowReads at scope first l t c) (take_all place links past) row

  pub steps_all : (first : Expr) (steps : List (Access Expr)) (place : ℕ) (t : Tree) (c : Choice) → length steps ≤ place → StepsRead at scope first (take place steps) t c → StepsRead at scope first steps t c
  steps_all first steps place t c past row = subst (λ (l : List (Access Expr)). StepsRead at scope first l t c) (take_all place steps past) row

  pub dot_case : (first : Expr) (steps : List (Access Expr)) (place : ℕ) (one : Access Expr) (e : Expr) (t u v : Tree) (c d g : Choice) → place < length steps → one ≡ get_or steps place one → one ≡ access.Dot e →
      Reads at scope e u d → v ≡ pair binary.Dot t u → g ≡ c ++ d → StepsRead at scope first (take place steps) t c → StepsRead at scope first (take (place + 1) steps) v g
  dot_case first steps place one e t u v c d g inside here is reads tree_is choice_is row =
      rw tree_is (rw choice_is (dot (take_next steps place one inside here ∙ ap (λ z. take place steps ++ z ∷ []) is) row reads))

  pub box_case : (first : Expr) (steps : List (Access Expr)) (place : ℕ) (one : Access Expr) (es xs : List Expr) (t u : Tree) (c d : Choice) → place < length steps → one ≡ get_or steps place one → one ≡ access.Bracket es → xs ≡ es →
      ArgumentsRead at scope t c xs u d → StepsRead at scope first (take place steps) t c → StepsRead at scope first (take (place + 1) steps) u d
  box_case first steps place one es xs t u c d inside here is same reads row =
      box (take_next steps place one inside here ∙ ap (λ z. take place steps ++ z ∷ []) is) row (subst (λ (x : List Expr). ArgumentsRead at scope t c x u d) same reads)

  pub arguments_next : (s : Tree) (before : Choice) (es : List Expr) (place : ℕ) (e : Expr) (t u v : Tree) (c d g : Choice) → place < length es → e ≡ get_or es place e →
      Reads at scope e u d → v ≡ pair binary.Apply t u → g ≡ c ++ d → ArgumentsRead at scope s before (take place es) t c → ArgumentsRead at scope s before (take (place + 1) es) v g
  arguments_next s before es place e t u v c d g inside here reads tree_is choice_is row =
      rw tree_is (rw choice_is (next_argument (take_next es place e inside here) row reads))

  pub arguments_all : (s : Tree) (before : Choice) (es : List Expr) (place : ℕ) (t : Tree) (c : Choice) → length es ≤ place → ArgumentsRead at scope s before (take place es) t c → ArgumentsRead at scope s before es t c
  arguments_all s before es place t c past row = subst (λ (l : List Expr). ArgumentsRead at scope s before l t c) (take_all place es past) row

  pub decls_next : (ds : List (Decl Expr)) (place : ℕ) (d : Decl Expr) (cs ks types : List Columns) (c : Columns) → place < length ds → d ≡ get_or ds place d → ks ≡ cs → types ≡ cs ++ c ∷ [] →
      BoundReads at (with_decls scope (take place ds) ks) d.word d.bound c → DeclsRead at scope (take place ds) cs → DeclsRead at scope (take (place + 1) ds) types
  decls_next ds place d cs ks types c inside here same more reads row =
      next_decl d (take_next ds place d inside here) more row (subst (λ (l : List Columns). BoundReads at (with_decls scope (take place ds) l) d.word d.bound c) same reads)

  pub decls_all : (ds : List (Decl Expr)) (place : ℕ) (cs : List Columns) → length ds ≤ place → DeclsRead at scope (take place ds) cs → DeclsRead at scope ds cs
  decls_all ds place cs past row = subst (λ (l : List (Decl Expr)). DeclsRead at scope l cs) (take_all place ds past) row

  pub values_next : (bs : List (Binding Expr)) (place : ℕ) (b : Binding Expr) (cs ks types : List Columns) (c : Columns) → place < length bs → b ≡ get_or bs place b → ks ≡ cs → types ≡ cs ++ c ∷ [] →
      (m : Meaning) × RootReads at (with_values scope (take place bs) ks) root_place.Value b.value m × (m.what ≡ what.Set c) → ValuesRead at scope (take place bs) cs → ValuesRead at scope (take (place + 1) bs) types
  values_next bs place b cs ks types c inside here same more (m, reads, is) row =
      next_value b (take_next bs place b inside here) more row (subst (λ (l : List Columns). RootReads at (with_values scope (take place bs) l) root_place.Value b.value m) same reads) is

  pub values_all : (bs : List (Binding Expr)) (place : ℕ) (cs : List Columns) → length bs ≤ place → ValuesRead at scope (take place bs) cs → ValuesRead at scope bs cs
  values_all bs place cs past row = subst (λ (l : List (Binding Expr)). ValuesRead at scope l cs) (take_all place bs past) row

  pub items_next : (es : List Expr) (place : ℕ) (e : Expr) → place < length es → e ≡ get_or es place e → IsRead at scope e → AreRead at scope (take place es) → AreRead at scope (take (place + 1) es)
  items_next es place e inside here is row = next_item (take_next es place e inside here) row is

  pub items_all : (es : List Expr) (place : ℕ) → length es ≤ place → AreRead at scope (take place es) → AreRead at scope es
  items_all es place past row = subst (λ (l : List Expr). AreRead at scope l) (take_all place es past) row

  pub links_next : (links : List (Infix × Expr)) (place : ℕ) (link : Infix × Expr) → place < length links → link ≡ get_or links place link → IsRead at scope link.1 → LinksRead at scope (take place links) → LinksRead at scope (take (place + 1) links)
  links_next links place link inside here is row = next_link link.0 (take_next links place link inside here) row is

  pub links_all : (links : List (Infix × Expr)) (place : ℕ) → length links ≤ place → LinksRead at scope (take place links) → LinksRead at scope links
  links_all links place past row = subst (λ (l : List (Infix × Expr)). LinksRead at scope l) (take_all place links past) row
