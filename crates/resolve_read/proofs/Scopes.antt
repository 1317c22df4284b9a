-- The type that is found with a name more in scope.
use Rattle.std.proofs.Common.{◌≡◌, ◌∙◌, ℕ, zero, suc, ◌+◌, ◌<◌, List, [], ◌∷◌, ◌++◌, length, take, get_or, Option, refl, sym, ap, arith}
use Rattle.syntax_tree.specs.declared.expr.Named.{Named}
use Rattle.syntax_tree.specs.declared.expr.Decl.{Decl}
use Rattle.syntax_tree.specs.declared.expr.Binding.{Binding}
use Rattle.syntax_tree.specs.declared.expr.Expr.{Expr}
use Rattle.resolve_types.specs.declared.columns.Columns.{Columns}
use Rattle.resolve_read.specs.At.{Scope, type_of, with_name, with_names, with_decls, with_values}
use Rattle.resolve_said.proofs.Lists.{take_next, take_length}

pub names_behind : (outer : Scope) (ns : List Named) (n : Named) (c : Columns) → with_names outer (ns ++ n ∷ []) c ≡ with_name (with_names outer ns c) n.name c
names_behind outer [] n c = refl
names_behind outer (m ∷ ms) n c = names_behind (with_name outer m.name c) ms n c

pub decls_behind : (outer : Scope) (ds : List (Decl Expr)) (cs : List Columns) (d : Decl Expr) (c : Columns) → length ds ≡ length cs →
    with_decls outer (ds ++ d ∷ []) (cs ++ c ∷ []) ≡ with_names (with_decls outer ds cs) d.names c
decls_behind outer [] [] d c same = refl
decls_behind outer [] (b ∷ cs) d c same = absurd (omega arith)
decls_behind outer (e ∷ ds) [] d c same = absurd (omega arith)
decls_behind outer (e ∷ ds) (b ∷ cs) d c same = decls_behind (with_names outer e.names b) ds cs d c (omega arith)

pub values_behind : (outer : Scope) (bs : List (Binding Expr)) (cs : List Columns) (b : Binding Expr) (c : Columns) → length bs ≡ length cs →
    with_values outer (bs ++ b ∷ []) (cs ++ c ∷ []) ≡ with_name (with_values outer bs cs) b.name c
values_behind outer [] [] b c same = refl
values_behind outer [] (a ∷ cs) b c same = absurd (omega arith)
values_behind outer (e ∷ bs) [] b c same = absurd (omega arith)
values_behind outer (e ∷ bs) (a ∷ cs) b c same = values_behind (with_name outer e.name a) bs cs b c (omega arith)

-- so many of both, where one of them has no more
pub decls_all : (outer : Scope) (ds : List (Decl Expr)) (cs : List Columns) (n : ℕ) → (n < length ds → n < length cs → ⊥) → with_decls outer (take n ds) (take n cs) ≡ with_decls outer ds cs
decls_all outer [] cs zero whole = refl
decls_all outer [] cs (suc n) whole = refl
decls_all outer (d ∷ ds) [] zero whole = refl
decls_all outer (d ∷ ds) [] (suc n) whole = refl
decls_all outer (d ∷ ds) (c ∷ cs) zero whole = absurd (whole (omega arith) (omega arith))
decls_all outer (d ∷ ds) (c ∷ cs) (suc n) whole = decls_all (with_names outer d.names c) ds cs n (λ a b. whole (omega arith) (omega arith))

pub values_all : (outer : Scope) (bs : List (Binding Expr)) (cs : List Columns) (n : ℕ) → (n < length bs → n < length cs → ⊥) → with_values outer (take n bs) (take n cs) ≡ with_values outer bs cs
values_all outer [] cs zero whole = refl
values_all outer [] cs (suc n) whole = refl
values_all outer (b ∷ bs) [] zero whole = refl
values_all outer (b ∷ bs) [] (suc n) whole = refl
values_all outer (b ∷ bs) (c ∷ cs) zero whole = absurd (whole (omega arith) (omega arith))
values_all outer (b ∷ bs) (c ∷ cs) (suc n) whole = values_all (with_name outer b.name c) bs cs n (λ a b. whole (omega arith) (omega arith))

-- one more of both
module _ (text : List ℕ) (outer : Scope) (found now : Option Columns) where
  pub names_next : (ns : List Named) (c : Columns) (i : ℕ) (n : Named) (name : List ℕ) → i < length ns → n ≡ get_or ns i n → name ≡ n.name → found ≡ type_of text (with_names outer (take i ns) c) →
      ((o : Scope) → found ≡ type_of text o → now ≡ type_of text (with_name o name c)) → now ≡ type_of text (with_names outer (take (i + 1) ns) c)
  names_next ns c i n name inside at same was more =
      more (with_names outer (take i ns) c) was
      ∙ ap (type_of text)
      (ap (λ t. with_name (with_names outer (take i ns) c) t c) same ∙ sym (names_behind outer (take i ns) n c) ∙ ap (λ l. with_names outer l c) (sym (take_next ns i n inside at)))

  pub decls_next : (ds : List (Decl Expr)) (cs : List Columns) (i : ℕ) (d : Decl Expr) (c : Columns) (names : List Named) → i < length ds → i < length cs → d ≡ get_or ds i d → c ≡ get_or cs i c → names ≡ d.names →
      found ≡ type_of text (with_decls outer (take i ds) (take i cs)) → ((o : Scope) → found ≡ type_of text o → now ≡ type_of text (with_names o names c)) →
      now ≡ type_of text (with_decls outer (take (i + 1) ds) (take (i + 1) cs))
  decls_next ds cs i d c names inside within at here same was more =
      let both : length (take i ds) ≡ length (take i cs) = take_length ds i (omega arith) ∙ sym (take_length cs i (omega arith)) in
      more (with_decls outer (take i ds) (take i cs)) was
      ∙ ap (type_of text)
      (ap (λ l. with_names (with_decls outer (take i ds) (take i cs)) l c) same ∙ sym (decls_behind outer (take i ds) (take i cs) d c both)
      ∙ ap (λ l. with_decls outer l (take i cs ++ c ∷ [])) (sym (take_next ds i d inside at)) ∙ ap (with_decls outer (take (i + 1) ds)) (sym (take_next cs i c within here)))

  pub values_next : (bs : List (Binding Expr)) (cs : List Columns) (i : ℕ) (b : Binding Expr) (c : Columns) (name : List ℕ) → i < length bs → i < length cs → b ≡ get_or bs i b → c ≡ get_or cs i c → name ≡ b.name →
      found ≡ type_of text (with_values outer (take i bs) (take i cs)) → ((o : Scope) → found ≡ type_of text o → now ≡ type_of text (with_name o name c)) →
      now ≡ type_of text (with_values outer (take (i + 1) bs) (take (i + 1) cs))
  values_next bs cs i b c name inside within at here same was more =
      let both : length (take i bs) ≡ length (take i cs) = take_length bs i (omega arith) ∙ sym (take_length cs i (omega arith)) in
      more (with_values outer (take i bs) (take i cs)) was
      ∙ ap (type_of text)
      (ap (λ t. with_name (with_values outer (take i bs) (take i cs)) t c) same ∙ sym (values_behind outer (take i bs) (take i cs) b c both)
      ∙ ap (λ l. with_values outer l (take i cs ++ c ∷ [])) (sym (take_next bs i b inside at)) ∙ ap (with_values outer (take (i + 1) bs)) (sym (take_next cs i c within here)))
