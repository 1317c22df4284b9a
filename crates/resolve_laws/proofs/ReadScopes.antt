-- The names in scope of a reading are those of what is said.
use Rattle.std.proofs.Common.{◌≡◌, ◌∙◌, ℕ, ◌+◌, List, [], ◌∷◌, ◌++◌, length, refl, sym, ap, arith}
use Rattle.std.proofs.lemmas.List.{length_push}
use Rattle.syntax_tree.specs.declared.expr.Named.{Named}
use Rattle.syntax_tree.specs.declared.expr.Decl.{Decl}
use Rattle.syntax_tree.specs.declared.expr.Binding.{Binding}
use Rattle.syntax_tree.specs.declared.expr.Expr.{Expr}
use Rattle.resolve_types.specs.declared.columns.Columns.{Columns}
use Rattle.resolve_said.specs.Locals.{Scope as Names, under_names, under_decls, under_values}
use Rattle.resolve_read.specs.At.{At, Scope, with_name, with_names, with_decls, with_values}
use Rattle.resolve_read.specs.Reads.{DeclsRead, no_decl, next_decl, ValuesRead, no_value, next_value}
use Rattle.resolve_laws.specs.Readings.{names_of}

names_under : (outer : Scope) (ns : List Named) (c : Columns) → names_of (with_names outer ns c) ≡ under_names (names_of outer) ns
names_under outer [] c = refl
names_under outer (n ∷ ns) c = names_under (with_name outer n.name c) ns c

pub decls_under : (outer : Scope) (ds : List (Decl Expr)) (cs : List Columns) → length ds ≡ length cs → names_of (with_decls outer ds cs) ≡ under_decls (names_of outer) ds
decls_under outer [] [] size = refl
decls_under outer [] (c ∷ cs) size = absurd (omega (arith, size))
decls_under outer (d ∷ ds) [] size = absurd (omega (arith, size))
decls_under outer (d ∷ ds) (c ∷ cs) size =
    let less : length ds ≡ length cs = omega (arith, size) in
    decls_under (with_names outer d.names c) ds cs less ∙ ap (λ (names : Names). under_decls names ds) (names_under outer d.names c)

pub values_under : (outer : Scope) (bs : List (Binding Expr)) (cs : List Columns) → length bs ≡ length cs → names_of (with_values outer bs cs) ≡ under_values (names_of outer) bs
values_under outer [] [] size = refl
values_under outer [] (c ∷ cs) size = absurd (omega (arith, size))
values_under outer (b ∷ bs) [] size = absurd (omega (arith, size))
values_under outer (b ∷ bs) (c ∷ cs) size =
    let less : length bs ≡ length cs = omega (arith, size) in
    values_under (with_name outer b.name c) bs cs less

one_longer : {X Y : Type 0} (xs all : List X) (x : X) (ys whole : List Y) (y : Y) → all ≡ xs ++ x ∷ [] → whole ≡ ys ++ y ∷ [] → length xs ≡ length ys → length all ≡ length whole
one_longer {X} {Y} xs all x ys whole y is also size =
    ap (λ (l : List X). length l) is ∙ (length_push xs x ∙ (ap (λ (n : ℕ). n + 1) size ∙ (sym (length_push ys y) ∙ sym (ap (λ (l : List Y). length l) also))))

-- each declaration, and each value, has one type
pub decls_sized : {at : At} {scope : Scope} {ds : List (Decl Expr)} {cs : List Columns} → DeclsRead at scope ds cs → length ds ≡ length cs
decls_sized no_decl = refl
decls_sized (next_decl d {ds = ds} {all = all} {c = c} {cs = cs} {types = types} is also before here) = one_longer ds all d cs types c is also (decls_sized before)

pub values_sized : {at : At} {scope : Scope} {bs : List (Binding Expr)} {cs : List Columns} → ValuesRead at scope bs cs → length bs ≡ length cs
values_sized no_value = refl
values_sized (next_value b {bs = bs} {all = all} {c = c} {cs = cs} {types = types} is also before here set) = one_longer bs all b cs types c is also (values_sized before)
