-- What it means that the names of a `let` and declarations say something, by their lists.
use Rattle.std.proofs.Common.{◌≡◌, ◌+◌, List, [], ◌∷◌, ◌++◌, length, refl, sym, ap, subst, ◌∙◌}
use Rattle.syntax_tree.specs.declared.expr.Named.{Named}
use Rattle.syntax_tree.specs.declared.expr.Decl.{Decl}
use Rattle.syntax_tree.specs.declared.expr.Binding.{Binding}
use Rattle.syntax_tree.specs.declared.expr.Expr.{Expr}
use Rattle.core_tree.specs.Trees.{Term, Binder}
use Rattle.resolve_said.specs.Operators.{Said, a_set, Lets}
use Rattle.resolve_said.specs.Locals.{Scope, under_decls}
use Rattle.resolve_said.specs.Said as said
use Rattle.resolve_said.specs.Said.{Standing, apart_from, Says, LetSays, DeclsSay, VariablesSay}
use Rattle.resolve_laws.proofs.SaidListed.{no_last, no_first, same_first, same_last}

module _ (at : Standing) where
  pub let_first : {scope : Scope} {bs : List (Binding Expr)} {body : Expr} {s : Said} → bs ≡ [] → LetSays at scope bs body s → Says at scope body s
  let_first none (said.let_body d) = d
  let_first none (said.let_value {b = b} {bs = bs} is d rest h) = absurd (no_first bs b (sym none ∙ is))

  pub record LetFront (scope : Scope) (b : Binding Expr) (bs : List (Binding Expr)) (body : Expr) (s : Said) : Type 0 where
    pub term : Term
    pub inner : Said
    pub value : Says at scope b.value (a_set term)
    pub rest : LetSays at (b.name ∷ scope) bs body inner
    pub lets : Lets (length scope) term inner s

  pub let_front : {scope : Scope} {all : List (Binding Expr)} {body : Expr} {s : Said} (b : Binding Expr) (bs : List (Binding Expr)) → all ≡ b ∷ bs → LetSays at scope all body s → LetFront scope b bs body s
  let_front b bs cut (said.let_body d) = absurd (no_first bs b cut)
  let_front b bs cut (said.let_value {scope} {body} {b = c} {bs = cs} {all} {t} {r} {s} is d rest h) =
      let two = same_first cs bs c b (sym is ∙ cut) in
      record {
        term = t;
        inner = r;
        value = subst (λ (z : Binding Expr). Says at scope z.value (a_set t)) two.0 d;
        rest = subst (λ (z : List (Binding Expr)). LetSays at (b.name ∷ scope) z body r) two.1 (subst (λ (z : Binding Expr). LetSays at (z.name ∷ scope) cs body r) two.0 rest);
        lets = h;
      }

  pub decls_first : {scope : Scope} {ds : List (Decl Expr)} {vs : List Binder} → ds ≡ [] → DeclsSay at scope ds vs → vs ≡ []
  decls_first none said.no_decl = refl
  decls_first none (said.next_decl {d = d} {ds = ds} is ends rest v) = absurd (no_last ds d (sym none ∙ is))

  pub record DeclEnd (scope : Scope) (ds : List (Decl Expr)) (d : Decl Expr) (all : List Binder) : Type 0 where
    pub before : List Binder
    pub last : List Binder
    pub rest : DeclsSay at scope ds before
    pub variables : VariablesSay at (under_decls scope ds) d d.names last
    pub whole : all ≡ before ++ last

  pub decl_end : {scope : Scope} {all : List (Decl Expr)} {us : List Binder} (ds : List (Decl Expr)) (d : Decl Expr) → all ≡ ds ++ d ∷ [] → DeclsSay at scope all us → DeclEnd scope ds d us
  decl_end ds d cut said.no_decl = absurd (no_last ds d cut)
  decl_end ds d cut (said.next_decl {scope} {d = c} {ds = cs} {all} {vs} {ws} {us} is ends rest v) =
      let two = same_last cs ds c d (sym is ∙ cut) in
      record {
        before = vs;
        last = ws;
        rest = subst (λ (z : List (Decl Expr)). DeclsSay at scope z vs) two.0 rest;
        variables = subst (λ (z : List (Decl Expr)). VariablesSay at (under_decls scope z) d d.names ws) two.0 (subst (λ (z : Decl Expr). VariablesSay at (under_decls scope cs) z z.names ws) two.1 v);
        whole = ends;
      }

  pub variables_first : {scope : Scope} {d : Decl Expr} {ns : List Named} {vs : List Binder} → ns ≡ [] → VariablesSay at scope d ns vs → vs ≡ []
  variables_first none said.no_variable = refl
  variables_first none (said.next_variable {ns = ns} n v is ends rest b x y) = absurd (no_last ns n (sym none ∙ is))

  pub record VariableEnd (scope : Scope) (d : Decl Expr) (ns : List Named) (all : List Binder) : Type 0 where
    pub before : List Binder
    pub last : Binder
    pub rest : VariablesSay at scope d ns before
    pub says : Says at scope d.bound (a_set last.bound)
    pub numbered : last.name ≡ length scope + length ns
    pub apart : last.apart ≡ apart_from d.is_disjoint (length ns)
    pub whole : all ≡ before ++ last ∷ []

  pub variable_end : {scope : Scope} {d : Decl Expr} {all : List Named} {ws : List Binder} (ns : List Named) (n : Named) → all ≡ ns ++ n ∷ [] → VariablesSay at scope d all ws → VariableEnd scope d ns ws
  variable_end ns n cut said.no_variable = absurd (no_last ns n cut)
  variable_end ns n cut (said.next_variable {scope} {d} {ns = ms} {all} m v {vs} {ws} is ends rest b x y) =
      let two = same_last ms ns m n (sym is ∙ cut) in
      record {
        before = vs;
        last = v;
        rest = subst (λ (z : List Named). VariablesSay at scope d z vs) two.0 rest;
        says = b;
        numbered = x ∙ ap (λ (z : List Named). length scope + length z) two.0;
        apart = y ∙ ap (λ (z : List Named). apart_from d.is_disjoint (length z)) two.0;
        whole = ends;
      }
