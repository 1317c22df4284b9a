-- Formulas without `let`, whose past depth is that of their parts.
use Rattle.core_tree.specs.Trees.{Term, Variables, Claim, Claims, combine, product, unary, prime, choose_term, comprehension, count, arithmetic, sum_over, let_term, no_variables, more_variables, inside, equal, within, test, compare, negation, every, connect, choose_claim, for_all, counted, temporal, temporal_pair, let_claim, call_claim, no_claims, more_claims}

abbrev mutual
  pub IsLetlessTerm : Term → Type 0
  IsLetlessTerm (combine op a b) = IsLetlessTerm a × IsLetlessTerm b
  IsLetlessTerm (product a m n b) = IsLetlessTerm a × IsLetlessTerm b
  IsLetlessTerm (unary op a) = IsLetlessTerm a
  IsLetlessTerm (prime a) = IsLetlessTerm a
  IsLetlessTerm (choose_term f a b) = IsLetless f × IsLetlessTerm a × IsLetlessTerm b
  IsLetlessTerm (comprehension vs f) = AreLetlessBounds vs × IsLetless f
  IsLetlessTerm (count a) = IsLetlessTerm a
  IsLetlessTerm (arithmetic op a b) = IsLetlessTerm a × IsLetlessTerm b
  IsLetlessTerm (sum_over vs a) = AreLetlessBounds vs × IsLetlessTerm a
  IsLetlessTerm (let_term x a b) = ⊥
  IsLetlessTerm e = Unit {0}

  pub AreLetlessBounds : Variables → Type 0
  AreLetlessBounds no_variables = Unit {0}
  AreLetlessBounds (more_variables x apart e rest) = IsLetlessTerm e × AreLetlessBounds rest

  pub IsLetless : Claim → Type 0
  IsLetless (inside a b) = IsLetlessTerm a × IsLetlessTerm b
  IsLetless (equal a b) = IsLetlessTerm a × IsLetlessTerm b
  IsLetless (within a m b) = IsLetlessTerm a × IsLetlessTerm b
  IsLetless (test q a) = IsLetlessTerm a
  IsLetless (compare op a b) = IsLetlessTerm a × IsLetlessTerm b
  IsLetless (negation f) = IsLetless f
  IsLetless (every fs) = AreLetless fs
  IsLetless (connect op f g) = IsLetless f × IsLetless g
  IsLetless (choose_claim f g h) = IsLetless f × IsLetless g × IsLetless h
  IsLetless (for_all vs f) = AreLetlessBounds vs × IsLetless f
  IsLetless (counted q vs f) = AreLetlessBounds vs × IsLetless f
  IsLetless (temporal op f) = IsLetless f
  IsLetless (temporal_pair op f g) = IsLetless f × IsLetless g
  IsLetless (let_claim x e f) = ⊥
  IsLetless (call_claim body es) = Unit {0}

  pub AreLetless : Claims → Type 0
  AreLetless no_claims = Unit {0}
  AreLetless (more_claims f rest) = IsLetless f × AreLetless rest
