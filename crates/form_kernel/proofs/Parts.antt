-- What is written out is made of nothing new.
use Rattle.std.proofs.Common.{◌≡◌, ℕ, zero, suc, ℤ, Bool, true, false, eqb, List, [], ◌∷◌, take, refl, subst}
use Rattle.std.proofs.lemmas.Bool.{cond_both, cond-true, eq-eqb}
use Rattle.core_tree.specs.declared.operators.Quantity.{Quantity}
use Rattle.core_tree.specs.declared.operators.Quantity.TheVariants.{Some, No, One, Lone}
use Rattle.core_tree.specs.declared.operators.Comparison.{Comparison}
use Rattle.core_tree.specs.declared.operators.Comparison.TheVariants.{Equal, Less, AtMost, Greater, AtLeast}
use Rattle.core_tree.specs.declared.operators.Connective.{Connective}
use Rattle.core_tree.specs.declared.operators.Connective.TheVariants.{Or, Implies, Iff}
use Rattle.core_tree.specs.declared.operators.TemporalUnary.{TemporalUnary}
use Rattle.core_tree.specs.declared.operators.TemporalUnary.TheVariants.{After, Always, Eventually, Before, Historically, Once}
use Rattle.core_tree.specs.declared.operators.TemporalBinary.{TemporalBinary}
use Rattle.core_tree.specs.declared.operators.TemporalBinary.TheVariants.{Until, Releases, Since, Triggered, Then}
use Rattle.core_tree.specs.declared.operators.RelationOp.TheVariants.{Difference}
use Rattle.core_tree.specs.declared.operators.UnaryRelation.{UnaryRelation}
use Rattle.core_tree.specs.declared.operators.UnaryRelation.TheVariants.{Transpose, Closure, ReflexiveClosure}
use Rattle.core_tree.specs.Trees.{Term, Variables, Claim, Claims, Binder, sig, field, name, univ, iden, empty, int, combine, product, unary, prime, choose_term, comprehension, number, count, arithmetic, sum_over, let_term, call_term, no_variables, more_variables, inside, equal, within, test, compare, negation, every, connect, choose_claim, for_all, counted, temporal, temporal_pair, let_claim, call_claim, no_claims, more_claims, variable_list}
use Rattle.form_kernel.specs.Operators.{both, tested, compared, connected, happening, happening_both, related}
use Rattle.form_kernel.specs.Single.{without, alone, is_rising, one_by_one, under, lone_values, are_many, lone_by_one, are_many_rising, counting}
use Rattle.form_kernel.specs.Written.{kernel_term, kernel_variables, kernel_claim, kernel_claims}
use Rattle.form_kernel.specs.Parts.{Allowed, with_bound, with_all, IsMadeTerm, AreMadeVariables, IsMade, AreMade}

module _ (sigs : ℕ → Bool) (fields : ℕ → Bool) (numbers : ℤ → Bool) where
  abbrev Made : Claim → Allowed → Type 0
  Made f names = IsMade sigs fields numbers f names

  abbrev MadeTerm : Term → Allowed → Type 0
  MadeTerm e names = IsMadeTerm sigs fields numbers e names

  abbrev MadeVariables : List Binder → Allowed → Type 0
  MadeVariables vs names = AreMadeVariables sigs fields numbers (variable_list vs) names

  -- derived operators
  tested_made : (q : Quantity) (e : Term) (names : Allowed) → MadeTerm e names → Made (tested q e) names
  tested_made Some e names h = h
  tested_made No e names h = h
  tested_made One e names h = h
  tested_made Lone e names h = h

  compared_made : (op : Comparison) (a b : Term) (names : Allowed) → MadeTerm a names → MadeTerm b names → Made (compared op a b) names
  compared_made Equal a b names h k = (h, k)
  compared_made Less a b names h k = (h, k)
  compared_made AtMost a b names h k = (k, h)
  compared_made Greater a b names h k = (k, h)
  compared_made AtLeast a b names h k = (h, k)

  connected_made : (op : Connective) (f g : Claim) (names : Allowed) → Made f names → Made g names → Made (connected op f g) names
  connected_made Or f g names h k = (h, (k, tt))
  connected_made Implies f g names h k = (h, (k, tt))
  connected_made Iff f g names h k = (h, k)

  happening_made : (op : TemporalUnary) (f : Claim) (names : Allowed) → Made f names → Made (happening op f) names
  happening_made After f names h = h
  happening_made Always f names h = (tt, h)
  happening_made Eventually f names h = (tt, h)
  happening_made Before f names h = h
  happening_made Historically f names h = (tt, h)
  happening_made Once f names h = (tt, h)

  happening_both_made : (op : TemporalBinary) (f g : Claim) (names : Allowed) → Made f names → Made g names → Made (happening_both op f g) names
  happening_both_made Until f g names h k = (h, k)
  happening_both_made Releases f g names h k = (h, k)
  happening_both_made Since f g names h k = (h, k)
  happening_both_made Triggered f g names h k = (h, k)
  happening_both_made Then f g names h k = (h, (k, tt))

  related_made : (op : UnaryRelation) (a : Term) (names : Allowed) → MadeTerm a names → MadeTerm (related op a) names
  related_made Transpose a names h = h
  related_made Closure a names h = h
  related_made ReflexiveClosure a names h = (h, tt)

  -- variables
  abbrev Allows : List ℕ → Allowed → Type 0
  Allows [] names = Unit {0}
  Allows (x ∷ xs) names = (names x ≡ true) × Allows xs names

  allows_still : (xs : List ℕ) (names : Allowed) (y : ℕ) → Allows xs names → Allows xs (with_bound names y)
  allows_still [] names y h = tt
  allows_still (x ∷ xs) names y h = (cond_both (eqb x y) true (names x) (λ b. b ≡ true) (λ e. refl) (λ e. h.0), allows_still xs names y h.1)

  allows_more : (xs : List ℕ) (names : Allowed) (y : ℕ) → Allows xs names → Allows (y ∷ xs) (with_bound names y)
  allows_more xs names y h = (cond-true (eqb y y) true (names y) (eq-eqb y y refl), allows_still xs names y h)

  allows_front : (n : ℕ) (xs : List ℕ) (names : Allowed) → Allows xs names → Allows (take n xs) names
  allows_front zero [] names h = tt
  allows_front zero (x ∷ xs) names h = tt
  allows_front (suc n) [] names h = tt
  allows_front (suc n) (x ∷ xs) names h = (h.0, allows_front n xs names h.1)

  without_made : (xs : List ℕ) (e : Term) (names : Allowed) → Allows xs names → MadeTerm e names → MadeTerm (without e xs) names
  without_made [] e names h k = k
  without_made (x ∷ xs) e names h k = without_made xs (combine Difference e (name x)) names h.1 (k, h.0)

  bound_made : (v : Binder) (before : List ℕ) (names : Allowed) → Allows before names → MadeTerm v.bound names → MadeTerm (without v.bound (take v.apart before)) names
  bound_made v before names h k = without_made (take v.apart before) v.bound names (allows_front v.apart before names h) k

  alone_made : (vs : List Binder) (before : List ℕ) (names : Allowed) → Allows before names → MadeVariables vs names → MadeVariables (alone before vs) names
  alone_made [] before names h k = tt
  alone_made (v ∷ vs) before names h k = (bound_made v before names h k.0, alone_made vs (v.name ∷ before) (with_bound names v.name) (allows_more before names v.name h) k.1)

  -- the same names are bound
  alone_binds : (vs : List Binder) (before : List ℕ) (names : Allowed) → with_all (variable_list vs) names ≡ with_all (variable_list (alone before vs)) names
  alone_binds [] before names = refl
  alone_binds (v ∷ vs) before names = alone_binds vs (v.name ∷ before) (with_bound names v.name)

  one_by_one_made : (vs : List Binder) (before : List ℕ) (f : Claim) (names : Allowed) → Allows before names → MadeVariables vs names → Made f (with_all (variable_list vs) names) → Made (one_by_one (alone before vs) f) names
  one_by_one_made [] before f names h k m = m
  one_by_one_made (v ∷ vs) before f names h k m = ((bound_made v before names h k.0, tt), one_by_one_made vs (v.name ∷ before) f (with_bound names v.name) (allows_more before names v.name h) k.1 m)

  under_made : (vs : List Binder) (f : Claim) (names : Allowed) → MadeVariables vs names → Made f (with_all (variable_list vs) names) → Made (under vs f) names
  under_made vs f names k m = cond_both (is_rising 0 vs) (one_by_one (alone [] vs) f) (for_all (variable_list vs) f) (λ c. Made c names)
      (λ rises. one_by_one_made vs [] f names tt k m)
      (λ falls. (k, m))

  lone_made : (vs : List Binder) (before : List ℕ) (f : Claim) (names : Allowed) → Allows before names → MadeVariables vs names → Made f (with_all (variable_list vs) names) → Made (lone_by_one (alone before vs) f) names
  lone_made [] before f names h k m = (tt, m)
  lone_made (v ∷ vs) before f names h k m =
      let first = record { name = v.name; apart = 0; bound = without v.bound (take v.apart before) } ∷ [] in
      let others = alone (v.name ∷ before) vs in
      let deep = allows_more before names v.name h in
      let here = bound_made v before names h k.0 in
      cond_both (are_many (alone before (v ∷ vs))) (both (lone_values first (negation (one_by_one others (negation f)))) (for_all (variable_list first) (lone_by_one others f))) (lone_values (alone before (v ∷ vs)) f)
      (λ c. Made c names)
      (λ many. (((here, tt), one_by_one_made vs (v.name ∷ before) (negation f) (with_bound names v.name) deep k.1 m), (((here, tt), lone_made vs (v.name ∷ before) f (with_bound names v.name) deep k.1 m), tt)))
      (λ few. (alone_made (v ∷ vs) before names h k, subst (Made f) (alone_binds (v ∷ vs) before names) m))

  counting_made : (q : Quantity) (vs : List Binder) (f : Claim) (names : Allowed) → MadeVariables vs names → Made f (with_all (variable_list vs) names) → Made (counting q vs f) names
  counting_made Some vs f names k m = under_made vs (negation f) names k m
  counting_made No vs f names k m = under_made vs (negation f) names k m
  counting_made One vs f names k m = cond_both (are_many_rising vs) (both (negation (under vs (negation f))) (lone_by_one (alone [] vs) f)) (negation (negation (test One (comprehension (variable_list vs) f)))) (λ c. Made c names)
      (λ many. (under_made vs (negation f) names k m, (lone_made vs [] f names tt k m, tt)))
      (λ few. (k, m))
  counting_made Lone vs f names k m = cond_both (are_many_rising vs) (lone_by_one (alone [] vs) f) (lone_values vs f) (λ c. Made c names)
      (λ many. lone_made vs [] f names tt k m)
      (λ few. (k, m))

  kernel_binds : (vs : Variables) (names : Allowed) → with_all vs names ≡ with_all (variable_list (kernel_variables vs)) names
  kernel_binds no_variables names = refl
  kernel_binds (more_variables x apart e rest) names = kernel_binds rest (with_bound names x)

  mutual
    pub term_made : (b : Bool) (e : Term) (names : Allowed) → MadeTerm e names → MadeTerm (kernel_term b e) names
    term_made b (sig s) names h = h
    term_made b (field f) names h = h
    term_made b (name x) names h = h
    term_made b univ names h = tt
    term_made b iden names h = tt
    term_made b empty names h = tt
    term_made b int names h = tt
    term_made b (combine op a c) names h = (term_made false a names h.0, term_made false c names h.1)
    term_made b (product a m n c) names h = (term_made b a names h.0, term_made b c names h.1)
    term_made b (unary op a) names h = related_made op (kernel_term false a) names (term_made false a names h)
    term_made b (prime a) names h = term_made false a names h
    term_made b (choose_term f a c) names h = (claim_made f names h.0, term_made false a names h.1, term_made false c names h.2)
    term_made b (comprehension vs f) names h = (variables_made vs names h.0, subst (Made (kernel_claim f)) (kernel_binds vs names) (claim_made f (with_all vs names) h.1))
    term_made b (number n place) names h = h
    term_made b (count a) names h = term_made false a names h
    term_made b (arithmetic op a c) names h = (term_made false a names h.0, term_made false c names h.1)
    term_made b (sum_over vs a) names h = (variables_made vs names h.0, subst (MadeTerm (kernel_term false a)) (kernel_binds vs names) (term_made false a (with_all vs names) h.1))
    term_made b (let_term x a c) names h = tt
    term_made b (call_term body es) names h = tt

    variables_made : (vs : Variables) (names : Allowed) → AreMadeVariables sigs fields numbers vs names → MadeVariables (kernel_variables vs) names
    variables_made no_variables names h = tt
    variables_made (more_variables x apart e rest) names h = (term_made false e names h.0, variables_made rest (with_bound names x) h.1)

    pub claim_made : (f : Claim) (names : Allowed) → Made f names → Made (kernel_claim f) names
    claim_made (inside a c) names h = (term_made false a names h.0, term_made false c names h.1)
    claim_made (equal a c) names h = (term_made false a names h.0, term_made false c names h.1)
    claim_made (within a m c) names h = (term_made false a names h.0, term_made true c names h.1)
    claim_made (test q a) names h = tested_made q (kernel_term false a) names (term_made false a names h)
    claim_made (compare op a c) names h = compared_made op (kernel_term false a) (kernel_term false c) names (term_made false a names h.0) (term_made false c names h.1)
    claim_made (negation f) names h = claim_made f names h
    claim_made (every fs) names h = claims_made fs names h
    claim_made (connect op f g) names h = connected_made op (kernel_claim f) (kernel_claim g) names (claim_made f names h.0) (claim_made g names h.1)
    claim_made (choose_claim f g k) names h = (claim_made f names h.0, claim_made g names h.1, claim_made k names h.2)
    claim_made (for_all vs f) names h = under_made (kernel_variables vs) (kernel_claim f) names (variables_made vs names h.0) (subst (Made (kernel_claim f)) (kernel_binds vs names) (claim_made f (with_all vs names) h.1))
    claim_made (counted q vs f) names h = counting_made q (kernel_variables vs) (kernel_claim f) names (variables_made vs names h.0) (subst (Made (kernel_claim f)) (kernel_binds vs names) (claim_made f (with_all vs names) h.1))
    claim_made (temporal op f) names h = happening_made op (kernel_claim f) names (claim_made f names h)
    claim_made (temporal_pair op f g) names h = happening_both_made op (kernel_claim f) (kernel_claim g) names (claim_made f names h.0) (claim_made g names h.1)
    claim_made (let_claim x e f) names h = tt
    claim_made (call_claim body es) names h = tt

    claims_made : (fs : Claims) (names : Allowed) → AreMade sigs fields numbers fs names → AreMade sigs fields numbers (kernel_claims fs) names
    claims_made no_claims names h = tt
    claims_made (more_claims f rest) names h = (claim_made f names h.0, claims_made rest names h.1)
