-- What the rules on lists say when one more part comes.
use Rattle.std.proofs.Common.{◌≡◌, ◌<◌, Bool, true, false, not, ◌&&◌, List, [], ◌∷◌, ◌++◌, length, fold, refl, sym, ◌∙◌, arith}
use Rattle.std.specs.Prelude.{IsTrue}
use Rattle.std.proofs.lemmas.Bool.{and_from, and_parts}
use Rattle.std.proofs.lemmas.List.Recursion.{and_push}
use Rattle.syntax_expr.proofs.Places.{some_has}
use Rattle.syntax_tree.specs.declared.module.Qualifier.{Qualifier}
use Rattle.syntax_tree.specs.Levels.{every}
use Rattle.syntax_tree.specs.ModuleRules.{excludes, qualifiers_right, comma_right}

module _ {A : Type 0} (test : A → Bool) where
  every_from : (b : Bool) (xs : List A) → fold (λ passed x. passed && test x) b xs ≡ (b && every test xs)
  every_from true xs = refl
  every_from false [] = refl
  every_from false (x ∷ xs) = every_from false xs

  pub every_cons : (x : A) (xs : List A) → every test (x ∷ xs) ≡ (test x && every test xs)
  every_cons x xs = every_from (test x) xs

  pub every_push : (xs : List A) (x : A) → every test (xs ++ x ∷ []) ≡ (every test xs && test x)
  every_push xs x = and_push (every test) test refl every_cons xs x

  -- the first part was read
  pub one_every : (x : A) (ys : List A) → ys ≡ x ∷ [] → IsTrue (test x) → IsTrue (every test ys)
  one_every x ys same t = rw same t

  -- a further part was read
  pub push_every : (x : A) (xs ys : List A) → ys ≡ xs ++ x ∷ [] → IsTrue (every test xs) → IsTrue (test x) → IsTrue (every test ys)
  push_every x xs ys same e t = rw same (every_push xs x ∙ and_from (every test xs) (test x) e t)

-- a further word before a sig, which none of those before it excludes
qualifiers_more : (q : Qualifier) (qs : List Qualifier) → IsTrue (qualifiers_right qs) → IsTrue (every (λ p. not (excludes p q)) qs) →
    IsTrue (qualifiers_right (qs ++ q ∷ []))
qualifiers_more q [] r e = refl
qualifiers_more q (p ∷ qs) r e =
    let parts = and_parts (every (λ s. not (excludes p s)) qs) (qualifiers_right qs) r in
    let free = and_parts (not (excludes p q)) (every (λ s. not (excludes s q)) qs) (sym (every_cons (λ s. not (excludes s q)) p qs) ∙ e) in
    and_from (every (λ s. not (excludes p s)) (qs ++ q ∷ [])) (qualifiers_right (qs ++ q ∷ []))
    (every_push (λ s. not (excludes p s)) qs q ∙ and_from _ _ parts.0 free.0)
    (qualifiers_more q qs parts.1 free.1)

pub push_qualifier : (q : Qualifier) (qs rs : List Qualifier) → rs ≡ qs ++ q ∷ [] → IsTrue (qualifiers_right qs) → IsTrue (every (λ p. not (excludes p q)) qs) →
    IsTrue (qualifiers_right rs)
push_qualifier q qs rs same r e = rw same (qualifiers_more q qs r e)

-- a comma may stand after a part
pub comma_some : {A : Type 0} (xs : List A) (has_comma : Bool) → 0 < length xs → IsTrue (comma_right xs has_comma)
comma_some [] has_comma h = absurd (omega arith)
comma_some (x ∷ xs) has_comma h = refl

-- what a part with parts of its own needs
pub ruleset right_rules = (and_from, some_has)
