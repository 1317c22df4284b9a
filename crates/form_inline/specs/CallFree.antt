-- Trees in which no body is called and no name is given by `let`.
use Rattle.core_tree.specs.Trees.{Term, Variables, Claim, Claims, sig, field, name, univ, iden, empty, int, combine, product, unary, prime, choose_term, comprehension, number, count, arithmetic, sum_over, let_term, call_term, no_variables, more_variables, inside, equal, within, test, compare, negation, every, connect, choose_claim, for_all, counted, temporal, temporal_pair, let_claim, call_claim, no_claims, more_claims, Binder}

abbrev mutual
  pub IsCallFreeTerm : Term → Type 0
  IsCallFreeTerm (sig s) = Unit {0}
  IsCallFreeTerm (field f) = Unit {0}
  IsCallFreeTerm (name x) = Unit {0}
  IsCallFreeTerm univ = Unit {0}
  IsCallFreeTerm iden = Unit {0}
  IsCallFreeTerm empty = Unit {0}
  IsCallFreeTerm int = Unit {0}
  IsCallFreeTerm (combine op a b) = IsCallFreeTerm a × IsCallFreeTerm b
  IsCallFreeTerm (product a m n b) = IsCallFreeTerm a × IsCallFreeTerm b
  IsCallFreeTerm (unary op a) = IsCallFreeTerm a
  IsCallFreeTerm (prime a) = IsCallFreeTerm a
  IsCallFreeTerm (choose_term f a b) = IsCallFree f × IsCallFreeTerm a × IsCallFreeTerm b
  IsCallFreeTerm (comprehension vs f) = AreCallFreeVariables vs × IsCallFree f
  IsCallFreeTerm (number n place) = Unit {0}
  IsCallFreeTerm (count a) = IsCallFreeTerm a
  IsCallFreeTerm (arithmetic op a b) = IsCallFreeTerm a × IsCallFreeTerm b
  IsCallFreeTerm (sum_over vs a) = AreCallFreeVariables vs × IsCallFreeTerm a
  IsCallFreeTerm (let_term x a b) = ⊥
  IsCallFreeTerm (call_term body es) = ⊥

  pub AreCallFreeVariables : Variables → Type 0
  AreCallFreeVariables no_variables = Unit {0}
  AreCallFreeVariables (more_variables x apart e rest) = IsCallFreeTerm e × AreCallFreeVariables rest

  pub IsCallFree : Claim → Type 0
  IsCallFree (inside a b) = IsCallFreeTerm a × IsCallFreeTerm b
  IsCallFree (equal a b) = IsCallFreeTerm a × IsCallFreeTerm b
  IsCallFree (within a m b) = IsCallFreeTerm a × IsCallFreeTerm b
  IsCallFree (test q a) = IsCallFreeTerm a
  IsCallFree (compare op a b) = IsCallFreeTerm a × IsCallFreeTerm b
  IsCallFree (negation f) = IsCallFree f
  IsCallFree (every fs) = AreCallFree fs
  IsCallFree (connect op f g) = IsCallFree f × IsCallFree g
  IsCallFree (choose_claim f g h) = IsCallFree f × IsCallFree g × IsCallFree h
  IsCallFree (for_all vs f) = AreCallFreeVariables vs × IsCallFree f
  IsCallFree (counted q vs f) = AreCallFreeVariables vs × IsCallFree f
  IsCallFree (temporal op f) = IsCallFree f
  IsCallFree (temporal_pair op f g) = IsCallFree f × IsCallFree g
  IsCallFree (let_claim x e f) = ⊥
  IsCallFree (call_claim body es) = ⊥

  pub AreCallFree : Claims → Type 0
  AreCallFree no_claims = Unit {0}
  AreCallFree (more_claims f rest) = IsCallFree f × AreCallFree rest

-- the bound of a variable calls nothing
abbrev pub HasCallFreeBound : Binder → Type 0
HasCallFreeBound v = IsCallFreeTerm v.bound
