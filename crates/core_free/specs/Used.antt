-- Which names expressions and formulas use.
use Rattle.std.specs.Prelude.{ℕ, List, [], ◌∷◌, ◌++◌}
use Rattle.core_tree.specs.Trees.{Term, Terms, Variables, Claim, Claims, sig, field, name, univ, iden, empty, int, combine, product, unary, prime, choose_term, comprehension, number, count, arithmetic, sum_over, let_term, call_term, no_terms, more_terms, no_variables, more_variables, inside, equal, within, test, compare, negation, every, connect, choose_claim, for_all, counted, temporal, temporal_pair, let_claim, call_claim, no_claims, more_claims}

-- the names that stand in it, those of its own variables too
abbrev mutual
  pub used_in : Term → List ℕ
  used_in (sig s) = []
  used_in (field f) = []
  used_in (name x) = x ∷ []
  used_in univ = []
  used_in iden = []
  used_in empty = []
  used_in int = []
  used_in (combine op a b) = used_in a ++ used_in b
  used_in (product a m k b) = used_in a ++ used_in b
  used_in (unary op a) = used_in a
  used_in (prime a) = used_in a
  used_in (choose_term f a b) = used_of f ++ (used_in a ++ used_in b)
  used_in (comprehension vs f) = used_under vs ++ used_of f
  used_in (number n place) = []
  used_in (count a) = used_in a
  used_in (arithmetic op a b) = used_in a ++ used_in b
  used_in (sum_over vs a) = used_under vs ++ used_in a
  used_in (let_term x a b) = used_in a ++ used_in b
  used_in (call_term body es) = used_in_each es

  pub used_in_each : Terms → List ℕ
  used_in_each no_terms = []
  used_in_each (more_terms e rest) = used_in e ++ used_in_each rest

  pub used_under : Variables → List ℕ
  used_under no_variables = []
  used_under (more_variables x apart e rest) = used_in e ++ used_under rest

  pub used_of : Claim → List ℕ
  used_of (inside a b) = used_in a ++ used_in b
  used_of (equal a b) = used_in a ++ used_in b
  used_of (within a m b) = used_in a ++ used_in b
  used_of (test q a) = used_in a
  used_of (compare op a b) = used_in a ++ used_in b
  used_of (negation f) = used_of f
  used_of (every fs) = used_of_each fs
  used_of (connect op f g) = used_of f ++ used_of g
  used_of (choose_claim f g h) = used_of f ++ (used_of g ++ used_of h)
  used_of (for_all vs f) = used_under vs ++ used_of f
  used_of (counted q vs f) = used_under vs ++ used_of f
  used_of (temporal op f) = used_of f
  used_of (temporal_pair op f g) = used_of f ++ used_of g
  used_of (let_claim x e f) = used_in e ++ used_of f
  used_of (call_claim body es) = used_in_each es

  pub used_of_each : Claims → List ℕ
  used_of_each no_claims = []
  used_of_each (more_claims f rest) = used_of f ++ used_of_each rest
