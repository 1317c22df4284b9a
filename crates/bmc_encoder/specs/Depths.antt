-- How many past operators a kernel formula nests; a call or a `let` isn't looked into.
use Rattle.std.specs.Prelude.{ℕ, max}
use Rattle.core_tree.specs.Past.{under_unary, under_binary}
use Rattle.core_tree.specs.Trees.{Term, Variables, Claim, Claims, sig, field, name, univ, iden, empty, int, combine, product, unary, prime, choose_term, comprehension, number, count, arithmetic, sum_over, let_term, call_term, no_variables, more_variables, inside, equal, within, test, compare, negation, every, connect, choose_claim, for_all, counted, temporal, temporal_pair, let_claim, call_claim, no_claims, more_claims}

abbrev mutual
  pub nested_in : Term → ℕ
  nested_in (sig s) = 0
  nested_in (field f) = 0
  nested_in (name x) = 0
  nested_in univ = 0
  nested_in iden = 0
  nested_in empty = 0
  nested_in int = 0
  nested_in (combine op a b) = max (nested_in a) (nested_in b)
  nested_in (product a m n b) = max (nested_in a) (nested_in b)
  nested_in (unary op a) = nested_in a
  nested_in (prime a) = nested_in a
  nested_in (choose_term f a b) = max (nested_of f) (max (nested_in a) (nested_in b))
  nested_in (comprehension vs f) = max (nested_of_bounds vs) (nested_of f)
  nested_in (number n place) = 0
  nested_in (count a) = nested_in a
  nested_in (arithmetic op a b) = max (nested_in a) (nested_in b)
  nested_in (sum_over vs a) = max (nested_of_bounds vs) (nested_in a)
  nested_in (let_term x a b) = 0
  nested_in (call_term body es) = 0

  pub nested_of_bounds : Variables → ℕ
  nested_of_bounds no_variables = 0
  nested_of_bounds (more_variables x apart e rest) = max (nested_in e) (nested_of_bounds rest)

  pub nested_of : Claim → ℕ
  nested_of (inside a b) = max (nested_in a) (nested_in b)
  nested_of (equal a b) = max (nested_in a) (nested_in b)
  nested_of (within a m b) = max (nested_in a) (nested_in b)
  nested_of (test q a) = nested_in a
  nested_of (compare op a b) = max (nested_in a) (nested_in b)
  nested_of (negation f) = nested_of f
  nested_of (every fs) = nested_of_each fs
  nested_of (connect op f g) = max (nested_of f) (nested_of g)
  nested_of (choose_claim f g h) = max (nested_of f) (max (nested_of g) (nested_of h))
  nested_of (for_all vs f) = max (nested_of_bounds vs) (nested_of f)
  nested_of (counted q vs f) = max (nested_of_bounds vs) (nested_of f)
  nested_of (temporal op f) = under_unary op (nested_of f)
  nested_of (temporal_pair op f g) = under_binary op (max (nested_of f) (nested_of g))
  nested_of (let_claim x e f) = 0
  nested_of (call_claim body es) = 0

  pub nested_of_each : Claims → ℕ
  nested_of_each no_claims = 0
  nested_of_each (more_claims f rest) = max (nested_of f) (nested_of_each rest)
