-- A name more in scope.
use Rattle.std.proofs.Common.{◌≡◌, ◌∙◌, ℕ, ◌+◌, ◌<◌, List, [], ◌∷◌, ◌++◌, length, take, get_or, refl, sym, ap, subst}
use Rattle.syntax_tree.specs.declared.expr.Named.{Named}
use Rattle.syntax_tree.specs.declared.expr.Decl.{Decl}
use Rattle.syntax_tree.specs.declared.expr.Binding.{Binding}
use Rattle.syntax_tree.specs.declared.expr.Expr.{Expr}
use Rattle.resolve_said.specs.declared.scope.Found.{Found}
use Rattle.resolve_said.specs.Locals.{Scope, IsFound, under_names, under_decls, under_values}
use Rattle.resolve_said.proofs.Lists.{take_next}

pub names_behind : (outer : Scope) (ns : List Named) (n : Named) → under_names outer (ns ++ n ∷ []) ≡ n.name ∷ under_names outer ns
names_behind outer [] n = refl
names_behind outer (m ∷ ms) n = names_behind (m.name ∷ outer) ms n

pub decls_behind : (outer : Scope) (ds : List (Decl Expr)) (d : Decl Expr) → under_decls outer (ds ++ d ∷ []) ≡ under_names (under_decls outer ds) d.names
decls_behind outer [] d = refl
decls_behind outer (e ∷ es) d = decls_behind (under_names outer e.names) es d

pub values_behind : (outer : Scope) (bs : List (Binding Expr)) (b : Binding Expr) → under_values outer (bs ++ b ∷ []) ≡ b.name ∷ under_values outer bs
values_behind outer [] b = refl
values_behind outer (c ∷ cs) b = values_behind (c.name ∷ outer) cs b

module _ (text : List ℕ) (outer : Scope) (found now : Found) where
  pub names_next : (ns : List Named) (i : ℕ) (n : Named) (name : List ℕ) → i < length ns → n ≡ get_or ns i n → name ≡ n.name → IsFound text (under_names outer (take i ns)) found →
      ((o : Scope) → IsFound text o found → IsFound text (name ∷ o) now) → IsFound text (under_names outer (take (i + 1) ns)) now
  names_next ns i n name inside at same was more =
      subst (λ (s : Scope). IsFound text s now)
      (ap (λ t. t ∷ under_names outer (take i ns)) same ∙ sym (names_behind outer (take i ns) n) ∙ ap (under_names outer) (sym (take_next ns i n inside at)))
      (more (under_names outer (take i ns)) was)

  pub values_next : (bs : List (Binding Expr)) (i : ℕ) (b : Binding Expr) (name : List ℕ) → i < length bs → b ≡ get_or bs i b → name ≡ b.name → IsFound text (under_values outer (take i bs)) found →
      ((o : Scope) → IsFound text o found → IsFound text (name ∷ o) now) → IsFound text (under_values outer (take (i + 1) bs)) now
  values_next bs i b name inside at same was more =
      subst (λ (s : Scope). IsFound text s now)
      (ap (λ t. t ∷ under_values outer (take i bs)) same ∙ sym (values_behind outer (take i bs) b) ∙ ap (under_values outer) (sym (take_next bs i b inside at)))
      (more (under_values outer (take i bs)) was)

  pub decls_next : (ds : List (Decl Expr)) (i : ℕ) (d : Decl Expr) (names : List Named) → i < length ds → d ≡ get_or ds i d → names ≡ d.names → IsFound text (under_decls outer (take i ds)) found →
      ((o : Scope) → IsFound text o found → IsFound text (under_names o names) now) → IsFound text (under_decls outer (take (i + 1) ds)) now
  decls_next ds i d names inside at same was more =
      subst (λ (s : Scope). IsFound text s now)
      (ap (under_names (under_decls outer (take i ds))) same ∙ sym (decls_behind outer (take i ds) d) ∙ ap (under_decls outer) (sym (take_next ds i d inside at)))
      (more (under_decls outer (take i ds)) was)
