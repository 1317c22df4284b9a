-- The forms that are left when derived operators are written out.
-- `=`, `iff`, `implies else` and `one` are among them, since each would be written with an operand
-- twice; a call, a `let` and the operators of Operators are not.
use Rattle.std.specs.Prelude.{◌≡◌, ◌⊎◌, false, List}
use Rattle.core_tree.specs.declared.operators.Quantity.{Quantity}
use Rattle.core_tree.specs.declared.operators.Quantity.TheVariants.{Some, No, One, Lone}
use Rattle.core_tree.specs.declared.operators.Connective.{Connective}
use Rattle.core_tree.specs.declared.operators.Connective.TheVariants.{Or, Implies, Iff}
use Rattle.core_tree.specs.Trees.{Term, Variables, Claim, Claims, Binder, sig, field, name, univ, iden, empty, int, combine, product, unary, prime, choose_term, comprehension, number, count, arithmetic, sum_over, let_term, call_term, no_variables, more_variables, inside, equal, within, test, compare, negation, every, connect, choose_claim, for_all, counted, temporal, temporal_pair, let_claim, call_claim, no_claims, more_claims, variable_list}
use Rattle.core_tree.specs.Kernel.{IsKernelComparison, IsKernelUnary, IsKernelTemporal, IsKernelPair, IsSet, IsOneVariable}
use Rattle.form_kernel.specs.Single.{is_rising}

abbrev pub IsLeftQuantity : Quantity → Type 0
IsLeftQuantity Some = Unit {0}
IsLeftQuantity No = ⊥
IsLeftQuantity One = Unit {0}
IsLeftQuantity Lone = Unit {0}

abbrev pub IsLeftConnective : Connective → Type 0
IsLeftConnective Or = ⊥
IsLeftConnective Implies = ⊥
IsLeftConnective Iff = Unit {0}

-- several variables whose names don't rise
abbrev pub AreTogether : Variables → Type 0
AreTogether vs = (us : List Binder) × (vs ≡ variable_list us) × (is_rising 0 us ≡ false)

abbrev mutual
  pub IsLeftTerm : Term → Type 0
  IsLeftTerm (sig s) = Unit {0}
  IsLeftTerm (field f) = Unit {0}
  IsLeftTerm (name x) = Unit {0}
  IsLeftTerm univ = Unit {0}
  IsLeftTerm iden = Unit {0}
  IsLeftTerm empty = Unit {0}
  IsLeftTerm int = Unit {0}
  IsLeftTerm (combine op a b) = IsLeftTerm a × IsLeftTerm b
  IsLeftTerm (product a m n b) = IsSet m × IsSet n × IsLeftTerm a × IsLeftTerm b
  IsLeftTerm (unary op a) = IsKernelUnary op × IsLeftTerm a
  IsLeftTerm (prime a) = IsLeftTerm a
  IsLeftTerm (choose_term f a b) = IsLeft f × IsLeftTerm a × IsLeftTerm b
  IsLeftTerm (comprehension vs f) = AreLeftVariables vs × IsLeft f
  IsLeftTerm (number n place) = Unit {0}
  IsLeftTerm (count a) = IsLeftTerm a
  IsLeftTerm (arithmetic op a b) = IsLeftTerm a × IsLeftTerm b
  IsLeftTerm (sum_over vs a) = AreLeftVariables vs × IsLeftTerm a
  IsLeftTerm (let_term x a b) = ⊥
  IsLeftTerm (call_term body es) = ⊥

  -- a bound: products with any multiplicities over such expressions
  pub IsLeftBound : Term → Type 0
  IsLeftBound (product a m n b) = IsLeftBound a × IsLeftBound b
  IsLeftBound (sig s) = Unit {0}
  IsLeftBound (field f) = Unit {0}
  IsLeftBound (name x) = Unit {0}
  IsLeftBound univ = Unit {0}
  IsLeftBound iden = Unit {0}
  IsLeftBound empty = Unit {0}
  IsLeftBound int = Unit {0}
  IsLeftBound (combine op a b) = IsLeftTerm a × IsLeftTerm b
  IsLeftBound (unary op a) = IsKernelUnary op × IsLeftTerm a
  IsLeftBound (prime a) = IsLeftTerm a
  IsLeftBound (choose_term f a b) = IsLeft f × IsLeftTerm a × IsLeftTerm b
  IsLeftBound (comprehension vs f) = AreLeftVariables vs × IsLeft f
  IsLeftBound (number n place) = Unit {0}
  IsLeftBound (count a) = IsLeftTerm a
  IsLeftBound (arithmetic op a b) = IsLeftTerm a × IsLeftTerm b
  IsLeftBound (sum_over vs a) = AreLeftVariables vs × IsLeftTerm a
  IsLeftBound (let_term x a b) = ⊥
  IsLeftBound (call_term body es) = ⊥

  pub AreLeftVariables : Variables → Type 0
  AreLeftVariables no_variables = Unit {0}
  AreLeftVariables (more_variables x apart e rest) = IsLeftTerm e × AreLeftVariables rest

  -- `all` has one variable
  pub IsLeft : Claim → Type 0
  IsLeft (inside a b) = IsLeftTerm a × IsLeftTerm b
  IsLeft (equal a b) = IsLeftTerm a × IsLeftTerm b
  IsLeft (within a m b) = IsLeftTerm a × IsLeftBound b
  IsLeft (test q a) = IsLeftQuantity q × IsLeftTerm a
  IsLeft (compare op a b) = IsKernelComparison op × IsLeftTerm a × IsLeftTerm b
  IsLeft (negation f) = IsLeft f
  IsLeft (every fs) = AreLeft fs
  IsLeft (connect op f g) = IsLeftConnective op × IsLeft f × IsLeft g
  IsLeft (choose_claim f g h) = IsLeft f × IsLeft g × IsLeft h
  IsLeft (for_all vs f) = (IsOneVariable vs ⊎ AreTogether vs) × AreLeftVariables vs × IsLeft f
  IsLeft (counted q vs f) = ⊥
  IsLeft (temporal op f) = IsKernelTemporal op × IsLeft f
  IsLeft (temporal_pair op f g) = IsKernelPair op × IsLeft f × IsLeft g
  IsLeft (let_claim x e f) = ⊥
  IsLeft (call_claim body es) = ⊥

  pub AreLeft : Claims → Type 0
  AreLeft no_claims = Unit {0}
  AreLeft (more_claims f rest) = IsLeft f × AreLeft rest
