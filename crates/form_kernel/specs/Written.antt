-- What trees are written out as.
use Rattle.std.specs.Prelude.{Bool, true, false, List, [], ◌∷◌}
use Rattle.core_tree.specs.declared.operators.Multiplicity.{Multiplicity}
use Rattle.core_tree.specs.declared.operators.Multiplicity.TheVariants.{Set}
use Rattle.core_tree.specs.Trees.{Term, Variables, Claim, Claims, Binder, sig, field, name, univ, iden, empty, int, combine, product, unary, prime, choose_term, comprehension, number, count, arithmetic, sum_over, let_term, call_term, no_variables, more_variables, inside, equal, within, test, compare, negation, every, connect, choose_claim, for_all, counted, temporal, temporal_pair, let_claim, call_claim, no_claims, more_claims, variable_list}
use Rattle.form_kernel.specs.Operators.{truth, tested, compared, connected, happening, happening_both, related}
use Rattle.form_kernel.specs.Single.{under, counting}

-- an arrow's end keeps its multiplicity in a bound alone
abbrev pub end : Bool → Multiplicity → Multiplicity
end true m = m
end false m = Set

abbrev mutual
  -- an expression; of a bound the arrows keep their multiplicities
  pub kernel_term : Bool → Term → Term
  kernel_term in_bound (sig s) = sig s
  kernel_term in_bound (field f) = field f
  kernel_term in_bound (name x) = name x
  kernel_term in_bound univ = univ
  kernel_term in_bound iden = iden
  kernel_term in_bound empty = empty
  kernel_term in_bound int = int
  kernel_term in_bound (combine op a b) = combine op (kernel_term false a) (kernel_term false b)
  kernel_term in_bound (product a m n b) = product (kernel_term in_bound a) (end in_bound m) (end in_bound n) (kernel_term in_bound b)
  kernel_term in_bound (unary op a) = related op (kernel_term false a)
  kernel_term in_bound (prime a) = prime (kernel_term false a)
  kernel_term in_bound (choose_term f a b) = choose_term (kernel_claim f) (kernel_term false a) (kernel_term false b)
  kernel_term in_bound (comprehension vs f) = comprehension (variable_list (kernel_variables vs)) (kernel_claim f)
  kernel_term in_bound (number n place) = number n place
  kernel_term in_bound (count a) = count (kernel_term false a)
  kernel_term in_bound (arithmetic op a b) = arithmetic op (kernel_term false a) (kernel_term false b)
  kernel_term in_bound (sum_over vs a) = sum_over (variable_list (kernel_variables vs)) (kernel_term false a)
  kernel_term in_bound (let_term x a b) = empty
  kernel_term in_bound (call_term body es) = empty

  pub kernel_variables : Variables → List Binder
  kernel_variables no_variables = []
  kernel_variables (more_variables x apart e rest) = record { name = x; apart = apart; bound = kernel_term false e } ∷ kernel_variables rest

  pub kernel_claim : Claim → Claim
  kernel_claim (inside a b) = inside (kernel_term false a) (kernel_term false b)
  kernel_claim (equal a b) = equal (kernel_term false a) (kernel_term false b)
  kernel_claim (within a m b) = within (kernel_term false a) m (kernel_term true b)
  kernel_claim (test q a) = tested q (kernel_term false a)
  kernel_claim (compare op a b) = compared op (kernel_term false a) (kernel_term false b)
  kernel_claim (negation f) = negation (kernel_claim f)
  kernel_claim (every fs) = every (kernel_claims fs)
  kernel_claim (connect op f g) = connected op (kernel_claim f) (kernel_claim g)
  kernel_claim (choose_claim f g h) = choose_claim (kernel_claim f) (kernel_claim g) (kernel_claim h)
  kernel_claim (for_all vs f) = under (kernel_variables vs) (kernel_claim f)
  kernel_claim (counted q vs f) = counting q (kernel_variables vs) (kernel_claim f)
  kernel_claim (temporal op f) = happening op (kernel_claim f)
  kernel_claim (temporal_pair op f g) = happening_both op (kernel_claim f) (kernel_claim g)
  kernel_claim (let_claim x e f) = negation truth
  kernel_claim (call_claim body es) = negation truth

  pub kernel_claims : Claims → Claims
  kernel_claims no_claims = no_claims
  kernel_claims (more_claims f rest) = more_claims (kernel_claim f) (kernel_claims rest)

-- a variable whose bound is written out
abbrev pub kernel_binder : Binder → Binder
kernel_binder v = record { name = v.name; apart = v.apart; bound = kernel_term false v.bound }
