-- What is written out has the kernel's forms alone.
use Rattle.std.proofs.Common.{ℕ, true, false, List, [], ◌∷◌, take, refl, inl, inr}
use Rattle.std.proofs.lemmas.Bool.{cond_both}
use Rattle.core_tree.specs.declared.operators.Quantity.{Quantity}
use Rattle.core_tree.specs.declared.operators.Quantity.TheVariants.{Some, No, One, Lone}
use Rattle.core_tree.specs.declared.operators.Comparison.{Comparison}
use Rattle.core_tree.specs.declared.operators.Comparison.TheVariants.{Equal, Less, AtMost, Greater, AtLeast}
use Rattle.core_tree.specs.declared.operators.Connective.{Connective}
use Rattle.core_tree.specs.declared.operators.Connective.TheVariants.{Or, Implies, Iff}
use Rattle.core_tree.specs.declared.operators.TemporalUnary.{TemporalUnary}
use Rattle.core_tree.specs.declared.operators.TemporalUnary.TheVariants.{After, Always, Eventually, Before, Historically, Once}
use Rattle.core_tree.specs.declared.operators.TemporalBinary.{TemporalBinary}
use Rattle.core_tree.specs.declared.operators.TemporalBinary.TheVariants.{Until, Releases, Since, Triggered, Then}
use Rattle.core_tree.specs.declared.operators.RelationOp.TheVariants.{Difference}
use Rattle.core_tree.specs.declared.operators.UnaryRelation.{UnaryRelation}
use Rattle.core_tree.specs.declared.operators.UnaryRelation.TheVariants.{Transpose, Closure, ReflexiveClosure}
use Rattle.core_tree.specs.Trees.{Term, Variables, Claim, Claims, Binder, sig, field, name, univ, iden, empty, int, combine, product, unary, prime, choose_term, comprehension, number, count, arithmetic, sum_over, let_term, call_term, no_variables, more_variables, inside, equal, within, test, compare, negation, every, connect, choose_claim, for_all, counted, temporal, temporal_pair, let_claim, call_claim, no_claims, more_claims, variable_list}
use Rattle.form_kernel.specs.Operators.{both, tested, compared, connected, happening, happening_both, related}
use Rattle.form_kernel.specs.Single.{without, alone, is_rising, one_by_one, under, lone_values, are_many, lone_by_one, are_many_rising, counting}
use Rattle.form_kernel.specs.Written.{kernel_term, kernel_variables, kernel_claim, kernel_claims}
use Rattle.form_kernel.specs.Left.{IsLeftTerm, IsLeftBound, AreLeftVariables, IsLeft, AreLeft}

-- derived operators
left_tested : (q : Quantity) (e : Term) → IsLeftTerm e → IsLeft (tested q e)
left_tested Some e h = (tt, h)
left_tested No e h = (tt, h)
left_tested One e h = (tt, h)
left_tested Lone e h = (tt, h)

left_compared : (op : Comparison) (a b : Term) → IsLeftTerm a → IsLeftTerm b → IsLeft (compared op a b)
left_compared Equal a b h k = (tt, h, k)
left_compared Less a b h k = (tt, h, k)
left_compared AtMost a b h k = (tt, k, h)
left_compared Greater a b h k = (tt, k, h)
left_compared AtLeast a b h k = (tt, h, k)

left_connected : (op : Connective) (f g : Claim) → IsLeft f → IsLeft g → IsLeft (connected op f g)
left_connected Or f g h k = (h, (k, tt))
left_connected Implies f g h k = (h, (k, tt))
left_connected Iff f g h k = (tt, h, k)

left_happening : (op : TemporalUnary) (f : Claim) → IsLeft f → IsLeft (happening op f)
left_happening After f h = (tt, h)
left_happening Always f h = (tt, tt, h)
left_happening Eventually f h = (tt, tt, h)
left_happening Before f h = (tt, h)
left_happening Historically f h = (tt, tt, h)
left_happening Once f h = (tt, tt, h)

left_happening_both : (op : TemporalBinary) (f g : Claim) → IsLeft f → IsLeft g → IsLeft (happening_both op f g)
left_happening_both Until f g h k = (tt, h, k)
left_happening_both Releases f g h k = (tt, h, k)
left_happening_both Since f g h k = (tt, h, k)
left_happening_both Triggered f g h k = (tt, h, k)
left_happening_both Then f g h k = (h, ((tt, k), tt))

left_related : (op : UnaryRelation) (a : Term) → IsLeftTerm a → IsLeftTerm (related op a)
left_related Transpose a h = (tt, h)
left_related Closure a h = (tt, h)
left_related ReflexiveClosure a h = ((tt, h), tt)

bound_related : (op : UnaryRelation) (a : Term) → IsLeftTerm a → IsLeftBound (related op a)
bound_related Transpose a h = (tt, h)
bound_related Closure a h = (tt, h)
bound_related ReflexiveClosure a h = ((tt, h), tt)

-- variables
left_without : (xs : List ℕ) (e : Term) → IsLeftTerm e → IsLeftTerm (without e xs)
left_without [] e h = h
left_without (x ∷ xs) e h = left_without xs (combine Difference e (name x)) (h, tt)

left_alone : (before : List ℕ) (vs : List Binder) → AreLeftVariables (variable_list vs) → AreLeftVariables (variable_list (alone before vs))
left_alone before [] h = tt
left_alone before (v ∷ vs) h = (left_without (take v.apart before) v.bound h.0, left_alone (v.name ∷ before) vs h.1)

left_one_by_one : (vs : List Binder) (f : Claim) → AreLeftVariables (variable_list vs) → IsLeft f → IsLeft (one_by_one vs f)
left_one_by_one [] f h k = k
left_one_by_one (v ∷ vs) f h k = (inl tt, (h.0, tt), left_one_by_one vs f h.1 k)

left_under : (vs : List Binder) (f : Claim) → AreLeftVariables (variable_list vs) → IsLeft f → IsLeft (under vs f)
left_under vs f h k = cond_both (is_rising 0 vs) (one_by_one (alone [] vs) f) (for_all (variable_list vs) f) IsLeft
    (λ rises. left_one_by_one (alone [] vs) f (left_alone [] vs h) k)
    (λ falls. (inr (vs, refl, falls), h, k))

left_lone_by_one : (vs : List Binder) (f : Claim) → AreLeftVariables (variable_list vs) → IsLeft f → IsLeft (lone_by_one vs f)
left_lone_by_one [] f h k = (tt, (tt, k))
left_lone_by_one (v ∷ vs) f h k = cond_both (are_many (v ∷ vs)) (both (lone_values (v ∷ []) (negation (one_by_one vs (negation f)))) (for_all (variable_list (v ∷ [])) (lone_by_one vs f))) (lone_values (v ∷ vs) f) IsLeft
    (λ many. ((tt, ((h.0, tt), left_one_by_one vs (negation f) h.1 k)), ((inl tt, (h.0, tt), left_lone_by_one vs f h.1 k), tt)))
    (λ few. (tt, (h, k)))

left_counting : (q : Quantity) (vs : List Binder) (f : Claim) → AreLeftVariables (variable_list vs) → IsLeft f → IsLeft (counting q vs f)
left_counting Some vs f h k = left_under vs (negation f) h k
left_counting No vs f h k = left_under vs (negation f) h k
left_counting One vs f h k = cond_both (are_many_rising vs) (both (negation (under vs (negation f))) (lone_by_one (alone [] vs) f)) (negation (negation (test One (comprehension (variable_list vs) f)))) IsLeft
    (λ many. (left_under vs (negation f) h k, (left_lone_by_one (alone [] vs) f (left_alone [] vs h) k, tt)))
    (λ few. (tt, (h, k)))
left_counting Lone vs f h k = cond_both (are_many_rising vs) (lone_by_one (alone [] vs) f) (lone_values vs f) IsLeft
    (λ many. left_lone_by_one (alone [] vs) f (left_alone [] vs h) k)
    (λ few. (tt, (h, k)))

mutual
  pub left_term : (e : Term) → IsLeftTerm (kernel_term false e)
  left_term (sig s) = tt
  left_term (field f) = tt
  left_term (name x) = tt
  left_term univ = tt
  left_term iden = tt
  left_term empty = tt
  left_term int = tt
  left_term (combine op a b) = (left_term a, left_term b)
  left_term (product a m n b) = (tt, tt, left_term a, left_term b)
  left_term (unary op a) = left_related op (kernel_term false a) (left_term a)
  left_term (prime a) = left_term a
  left_term (choose_term f a b) = (left_claim f, left_term a, left_term b)
  left_term (comprehension vs f) = (left_variables vs, left_claim f)
  left_term (number n place) = tt
  left_term (count a) = left_term a
  left_term (arithmetic op a b) = (left_term a, left_term b)
  left_term (sum_over vs a) = (left_variables vs, left_term a)
  left_term (let_term x a b) = tt
  left_term (call_term body es) = tt

  left_bound : (e : Term) → IsLeftBound (kernel_term true e)
  left_bound (sig s) = tt
  left_bound (field f) = tt
  left_bound (name x) = tt
  left_bound univ = tt
  left_bound iden = tt
  left_bound empty = tt
  left_bound int = tt
  left_bound (combine op a b) = (left_term a, left_term b)
  left_bound (product a m n b) = (left_bound a, left_bound b)
  left_bound (unary op a) = bound_related op (kernel_term false a) (left_term a)
  left_bound (prime a) = left_term a
  left_bound (choose_term f a b) = (left_claim f, left_term a, left_term b)
  left_bound (comprehension vs f) = (left_variables vs, left_claim f)
  left_bound (number n place) = tt
  left_bound (count a) = left_term a
  left_bound (arithmetic op a b) = (left_term a, left_term b)
  left_bound (sum_over vs a) = (left_variables vs, left_term a)
  left_bound (let_term x a b) = tt
  left_bound (call_term body es) = tt

  left_variables : (vs : Variables) → AreLeftVariables (variable_list (kernel_variables vs))
  left_variables no_variables = tt
  left_variables (more_variables x apart e rest) = (left_term e, left_variables rest)

  pub left_claim : (f : Claim) → IsLeft (kernel_claim f)
  left_claim (inside a b) = (left_term a, left_term b)
  left_claim (equal a b) = (left_term a, left_term b)
  left_claim (within a m b) = (left_term a, left_bound b)
  left_claim (test q a) = left_tested q (kernel_term false a) (left_term a)
  left_claim (compare op a b) = left_compared op (kernel_term false a) (kernel_term false b) (left_term a) (left_term b)
  left_claim (negation f) = left_claim f
  left_claim (every fs) = left_claims fs
  left_claim (connect op f g) = left_connected op (kernel_claim f) (kernel_claim g) (left_claim f) (left_claim g)
  left_claim (choose_claim f g h) = (left_claim f, left_claim g, left_claim h)
  left_claim (for_all vs f) = left_under (kernel_variables vs) (kernel_claim f) (left_variables vs) (left_claim f)
  left_claim (counted q vs f) = left_counting q (kernel_variables vs) (kernel_claim f) (left_variables vs) (left_claim f)
  left_claim (temporal op f) = left_happening op (kernel_claim f) (left_claim f)
  left_claim (temporal_pair op f g) = left_happening_both op (kernel_claim f) (kernel_claim g) (left_claim f) (left_claim g)
  left_claim (let_claim x e f) = tt
  left_claim (call_claim body es) = tt

  left_claims : (fs : Claims) → AreLeft (kernel_claims fs)
  left_claims no_claims = tt
  left_claims (more_claims f rest) = (left_claim f, left_claims rest)
