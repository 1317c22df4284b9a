-- What is written out nests no more past operators than before.
use Rattle.std.proofs.Common.{◌≡◌, ℕ, zero, suc, ◌+◌, ◌-◌, ◌^◌, ◌≤◌, Bool, true, false, eqb, nat_lt, max, if◌then◌else◌, List, [], ◌∷◌, take, refl, ◌∙◌, subst, arith, inl, inr}
use Rattle.std.proofs.lemmas.Bool.{cases_lt, cond_below, cond_above, cond_both, cond-true, eq-eqb}
use Rattle.std.proofs.Math.Nat.{le-max_left, le-max_right, max-le}
use Rattle.core_tree.specs.declared.operators.Quantity.{Quantity}
use Rattle.core_tree.specs.declared.operators.Quantity.TheVariants.{Some, No, One, Lone}
use Rattle.core_tree.specs.declared.operators.Comparison.{Comparison}
use Rattle.core_tree.specs.declared.operators.Comparison.TheVariants.{Equal, Less, AtMost, Greater, AtLeast}
use Rattle.core_tree.specs.declared.operators.Connective.{Connective}
use Rattle.core_tree.specs.declared.operators.Connective.TheVariants.{Or, Implies, Iff}
use Rattle.core_tree.specs.declared.operators.TemporalUnary.{TemporalUnary}
use Rattle.core_tree.specs.declared.operators.TemporalUnary.TheVariants.{After, Always, Eventually, Before, Historically, Once}
use Rattle.core_tree.specs.declared.operators.TemporalBinary.{TemporalBinary}
use Rattle.core_tree.specs.declared.operators.TemporalBinary.TheVariants.{Until, Releases, Since, Triggered, Then}
use Rattle.core_tree.specs.declared.operators.RelationOp.TheVariants.{Difference}
use Rattle.core_tree.specs.declared.operators.UnaryRelation.{UnaryRelation}
use Rattle.core_tree.specs.declared.operators.UnaryRelation.TheVariants.{Transpose, Closure, ReflexiveClosure}
use Rattle.core_tree.specs.Trees.{Term, Variables, Claim, Claims, Binder, sig, field, name, univ, iden, empty, int, combine, product, unary, prime, choose_term, comprehension, number, count, arithmetic, sum_over, let_term, call_term, no_variables, more_variables, inside, equal, within, test, compare, negation, every, connect, choose_claim, for_all, counted, temporal, temporal_pair, let_claim, call_claim, no_claims, more_claims, variable_list}
use Rattle.core_tree.specs.Past.{Depths, with_depth, one_more, under_unary, under_binary, BodyDepths, past_in, past_under, past_of, past_of_each}
use Rattle.form_kernel.specs.Operators.{both, tested, compared, connected, happening, happening_both, related}
use Rattle.form_kernel.specs.Single.{without, alone, is_rising, one_by_one, under, lone_values, are_many, lone_by_one, are_many_rising, counting}
use Rattle.form_kernel.specs.Written.{kernel_term, kernel_variables, kernel_claim, kernel_claims}

same : {a : ℕ} → a ≤ a
same {a} = omega arith

least : {a : ℕ} → 0 ≤ a
least {a} = omega arith

on : {a b c : ℕ} → a ≤ b → b ≤ c → a ≤ c
on {a} {b} {c} h k = omega (arith, h, k)

of_equal : {a b : ℕ} → a ≡ b → a ≤ b
of_equal {a} {b} e = omega (arith, e)

two : (a b c d : ℕ) → a ≤ c → b ≤ d → max a b ≤ max c d
two a b c d h k = max-le (on h (le-max_left c d)) (on k (le-max_right c d))

three : (a b c d e f : ℕ) → a ≤ d → b ≤ e → c ≤ f → max a (max b c) ≤ max d (max e f)
three a b c d e f h k l = two a (max b c) d (max e f) h (two b c e f k l)

front : (a : ℕ) → max 0 a ≤ a
front a = max-le least same

back : (a : ℕ) → max a 0 ≤ a
back a = max-le same least

turned : (a b : ℕ) → max b a ≤ max a b
turned a b = max-le (le-max_right a b) (le-max_left a b)

joined : (a b c : ℕ) → a ≤ c → b ≤ c → max a (max b 0) ≤ c
joined a b c h k = max-le h (max-le k least)

abbrev Marked : Bool → Type 0
Marked true = Unit {0}
Marked false = ⊥

no_false : true ≡ false → ⊥
no_false e = subst Marked e tt

reduced : (b : Bool) → (if b then true else false) ≡ b
reduced true = refl
reduced false = refl

one_more_on : (a b : ℕ) → a ≤ b → one_more a ≤ one_more b
one_more_on a b h = cond_both (nat_lt b (2 ^ 32 - 1)) (b + 1) b (λ k. one_more a ≤ k)
    (λ low. cond_both (nat_lt a (2 ^ 32 - 1)) (a + 1) a (λ k. k ≤ b + 1) (λ small. omega (arith, h)) (λ great. omega (arith, h)))
    (λ high. elim (cases_lt b (2 ^ 32 - 1)) [
      | inl below ↦ absurd (no_false (cond_below b (2 ^ 32 - 1) true false below ∙ reduced (nat_lt b (2 ^ 32 - 1)) ∙ high))
      | inr above ↦ elim (cases_lt a (2 ^ 32 - 1)) [
        | inl small ↦ subst (λ k. k ≤ b) (cond_below a (2 ^ 32 - 1) (a + 1) a small) (omega (arith, small, above))
        | inr great ↦ subst (λ k. k ≤ b) (cond_above a (2 ^ 32 - 1) (a + 1) a a great refl) h
      ]
    ])

under_unary_on : (op : TemporalUnary) (a b : ℕ) → a ≤ b → under_unary op a ≤ under_unary op b
under_unary_on After a b h = h
under_unary_on Always a b h = h
under_unary_on Eventually a b h = h
under_unary_on Before a b h = one_more_on a b h
under_unary_on Historically a b h = one_more_on a b h
under_unary_on Once a b h = one_more_on a b h

under_binary_on : (op : TemporalBinary) (a b : ℕ) → a ≤ b → under_binary op a ≤ under_binary op b
under_binary_on Until a b h = h
under_binary_on Releases a b h = h
under_binary_on Since a b h = one_more_on a b h
under_binary_on Triggered a b h = one_more_on a b h
under_binary_on Then a b h = h

module _ (bodies : BodyDepths) where
  -- derived operators
  tested_nests : (q : Quantity) (e : Term) (d : Depths) → past_of bodies (tested q e) d ≤ past_in bodies e d
  tested_nests Some e d = same
  tested_nests No e d = same
  tested_nests One e d = same
  tested_nests Lone e d = same

  compared_nests : (op : Comparison) (a b : Term) (d : Depths) → past_of bodies (compared op a b) d ≤ max (past_in bodies a d) (past_in bodies b d)
  compared_nests Equal a b d = same
  compared_nests Less a b d = same
  compared_nests AtMost a b d = turned (past_in bodies a d) (past_in bodies b d)
  compared_nests Greater a b d = turned (past_in bodies a d) (past_in bodies b d)
  compared_nests AtLeast a b d = same

  connected_nests : (op : Connective) (f g : Claim) (d : Depths) → past_of bodies (connected op f g) d ≤ max (past_of bodies f d) (past_of bodies g d)
  connected_nests Or f g d = joined (past_of bodies f d) (past_of bodies g d) (max (past_of bodies f d) (past_of bodies g d)) (le-max_left (past_of bodies f d) (past_of bodies g d)) (le-max_right (past_of bodies f d) (past_of bodies g d))
  connected_nests Implies f g d = joined (past_of bodies f d) (past_of bodies g d) (max (past_of bodies f d) (past_of bodies g d)) (le-max_left (past_of bodies f d) (past_of bodies g d)) (le-max_right (past_of bodies f d) (past_of bodies g d))
  connected_nests Iff f g d = same

  happening_nests : (op : TemporalUnary) (f : Claim) (d : Depths) → past_of bodies (happening op f) d ≤ under_unary op (past_of bodies f d)
  happening_nests After f d = same
  happening_nests Always f d = front (past_of bodies f d)
  happening_nests Eventually f d = front (past_of bodies f d)
  happening_nests Before f d = same
  happening_nests Historically f d = one_more_on (max 0 (past_of bodies f d)) (past_of bodies f d) (front (past_of bodies f d))
  happening_nests Once f d = one_more_on (max 0 (past_of bodies f d)) (past_of bodies f d) (front (past_of bodies f d))

  happening_both_nests : (op : TemporalBinary) (f g : Claim) (d : Depths) → past_of bodies (happening_both op f g) d ≤ under_binary op (max (past_of bodies f d) (past_of bodies g d))
  happening_both_nests Until f g d = same
  happening_both_nests Releases f g d = same
  happening_both_nests Since f g d = same
  happening_both_nests Triggered f g d = same
  happening_both_nests Then f g d = joined (past_of bodies f d) (past_of bodies g d) (max (past_of bodies f d) (past_of bodies g d)) (le-max_left (past_of bodies f d) (past_of bodies g d)) (le-max_right (past_of bodies f d) (past_of bodies g d))

  related_nests : (op : UnaryRelation) (a : Term) (d : Depths) → past_in bodies (related op a) d ≤ past_in bodies a d
  related_nests Transpose a d = same
  related_nests Closure a d = same
  related_nests ReflexiveClosure a d = back (past_in bodies a d)

  -- variables, which nest none
  abbrev Zeros : List ℕ → Depths → Type 0
  Zeros [] d = Unit {0}
  Zeros (x ∷ xs) d = (d x ≡ 0) × Zeros xs d

  zeros_still : (xs : List ℕ) (d : Depths) (y : ℕ) → Zeros xs d → Zeros xs (with_depth d y 0)
  zeros_still [] d y h = tt
  zeros_still (x ∷ xs) d y h = (cond_both (eqb x y) 0 (d x) (λ k. k ≡ 0) (λ e. refl) (λ e. h.0), zeros_still xs d y h.1)

  zeros_more : (xs : List ℕ) (d : Depths) (y : ℕ) → Zeros xs d → Zeros (y ∷ xs) (with_depth d y 0)
  zeros_more xs d y h = (cond-true (eqb y y) 0 (d y) (eq-eqb y y refl), zeros_still xs d y h)

  zeros_front : (n : ℕ) (xs : List ℕ) (d : Depths) → Zeros xs d → Zeros (take n xs) d
  zeros_front zero [] d h = tt
  zeros_front zero (x ∷ xs) d h = tt
  zeros_front (suc n) [] d h = tt
  zeros_front (suc n) (x ∷ xs) d h = (h.0, zeros_front n xs d h.1)

  without_nests : (xs : List ℕ) (e : Term) (d : Depths) → Zeros xs d → past_in bodies (without e xs) d ≤ past_in bodies e d
  without_nests [] e d h = same
  without_nests (x ∷ xs) e d h = on (without_nests xs (combine Difference e (name x)) d h.1) (max-le same (on (of_equal h.0) least))

  bound_nests : (v : Binder) (before : List ℕ) (d : Depths) → Zeros before d → past_in bodies (without v.bound (take v.apart before)) d ≤ past_in bodies v.bound d
  bound_nests v before d h = without_nests (take v.apart before) v.bound d (zeros_front v.apart before d h)

  abbrev Of : Claim → Depths → ℕ
  Of f d = past_of bodies f d

  alone_nests : (vs : List Binder) (before : List ℕ) (d : Depths) (f : Claim) → Zeros before d → past_under bodies (variable_list (alone before vs)) d (Of f) ≤ past_under bodies (variable_list vs) d (Of f)
  alone_nests [] before d f h = same
  alone_nests (v ∷ vs) before d f h = two (past_in bodies (without v.bound (take v.apart before)) d) (past_under bodies (variable_list (alone (v.name ∷ before) vs)) (with_depth d v.name 0) (Of f)) (past_in bodies v.bound d) (past_under bodies (variable_list vs) (with_depth d v.name 0) (Of f))
      (bound_nests v before d h) (alone_nests vs (v.name ∷ before) (with_depth d v.name 0) f (zeros_more before d v.name h))

  one_by_one_nests : (vs : List Binder) (before : List ℕ) (d : Depths) (f : Claim) → Zeros before d → past_of bodies (one_by_one (alone before vs) f) d ≤ past_under bodies (variable_list vs) d (Of f)
  one_by_one_nests [] before d f h = same
  one_by_one_nests (v ∷ vs) before d f h = two (past_in bodies (without v.bound (take v.apart before)) d) (past_of bodies (one_by_one (alone (v.name ∷ before) vs) f) (with_depth d v.name 0)) (past_in bodies v.bound d) (past_under bodies (variable_list vs) (with_depth d v.name 0) (Of f))
      (bound_nests v before d h) (one_by_one_nests vs (v.name ∷ before) (with_depth d v.name 0) f (zeros_more before d v.name h))

  under_nests : (vs : List Binder) (f : Claim) (d : Depths) → past_of bodies (under vs f) d ≤ past_under bodies (variable_list vs) d (Of f)
  under_nests vs f d = cond_both (is_rising 0 vs) (one_by_one (alone [] vs) f) (for_all (variable_list vs) f) (λ c. past_of bodies c d ≤ past_under bodies (variable_list vs) d (Of f))
      (λ rises. one_by_one_nests vs [] d f tt)
      (λ falls. same)

  lone_nests : (vs : List Binder) (before : List ℕ) (d : Depths) (f : Claim) → Zeros before d → past_of bodies (lone_by_one (alone before vs) f) d ≤ past_under bodies (variable_list vs) d (Of f)
  lone_nests [] before d f h = same
  lone_nests (v ∷ vs) before d f h =
      let first = record { name = v.name; apart = 0; bound = without v.bound (take v.apart before) } ∷ [] in
      let others = alone (v.name ∷ before) vs in
      let inner = with_depth d v.name 0 in
      let deep = zeros_more before d v.name h in
      cond_both (are_many (alone before (v ∷ vs))) (both (lone_values first (negation (one_by_one others (negation f)))) (for_all (variable_list first) (lone_by_one others f))) (lone_values (alone before (v ∷ vs)) f)
      (λ c. past_of bodies c d ≤ past_under bodies (variable_list (v ∷ vs)) d (Of f))
      (λ many. joined
      (max (past_in bodies (without v.bound (take v.apart before)) d) (past_of bodies (one_by_one others (negation f)) inner))
      (max (past_in bodies (without v.bound (take v.apart before)) d) (past_of bodies (lone_by_one others f) inner))
      (max (past_in bodies v.bound d) (past_under bodies (variable_list vs) inner (Of f)))
      (two (past_in bodies (without v.bound (take v.apart before)) d) (past_of bodies (one_by_one others (negation f)) inner) (past_in bodies v.bound d) (past_under bodies (variable_list vs) inner (Of f)) (bound_nests v before d h) (one_by_one_nests vs (v.name ∷ before) inner (negation f) deep))
      (two (past_in bodies (without v.bound (take v.apart before)) d) (past_of bodies (lone_by_one others f) inner) (past_in bodies v.bound d) (past_under bodies (variable_list vs) inner (Of f)) (bound_nests v before d h) (lone_nests vs (v.name ∷ before) inner f deep)))
      (λ few. alone_nests (v ∷ vs) before d f h)

  counting_nests : (q : Quantity) (vs : List Binder) (f : Claim) (d : Depths) → past_of bodies (counting q vs f) d ≤ past_under bodies (variable_list vs) d (Of f)
  counting_nests Some vs f d = under_nests vs (negation f) d
  counting_nests No vs f d = under_nests vs (negation f) d
  counting_nests One vs f d = cond_both (are_many_rising vs) (both (negation (under vs (negation f))) (lone_by_one (alone [] vs) f)) (negation (negation (test One (comprehension (variable_list vs) f)))) (λ c. past_of bodies c d ≤ past_under bodies (variable_list vs) d (Of f))
      (λ many. joined (past_of bodies (under vs (negation f)) d) (past_of bodies (lone_by_one (alone [] vs) f) d) (past_under bodies (variable_list vs) d (Of f)) (under_nests vs (negation f) d) (lone_nests vs [] d f tt))
      (λ few. same)
  counting_nests Lone vs f d = cond_both (are_many_rising vs) (lone_by_one (alone [] vs) f) (lone_values vs f) (λ c. past_of bodies c d ≤ past_under bodies (variable_list vs) d (Of f))
      (λ many. lone_nests vs [] d f tt)
      (λ few. same)

  mutual
    pub term_nests : (b : Bool) (e : Term) (d : Depths) → past_in bodies (kernel_term b e) d ≤ past_in bodies e d
    term_nests b (sig s) d = same
    term_nests b (field f) d = same
    term_nests b (name x) d = same
    term_nests b univ d = same
    term_nests b iden d = same
    term_nests b empty d = same
    term_nests b int d = same
    term_nests b (combine op a c) d = two (past_in bodies (kernel_term false a) d) (past_in bodies (kernel_term false c) d) (past_in bodies a d) (past_in bodies c d) (term_nests false a d) (term_nests false c d)
    term_nests b (product a m n c) d = two (past_in bodies (kernel_term b a) d) (past_in bodies (kernel_term b c) d) (past_in bodies a d) (past_in bodies c d) (term_nests b a d) (term_nests b c d)
    term_nests b (unary op a) d = on (related_nests op (kernel_term false a) d) (term_nests false a d)
    term_nests b (prime a) d = term_nests false a d
    term_nests b (choose_term f a c) d = three (past_of bodies (kernel_claim f) d) (past_in bodies (kernel_term false a) d) (past_in bodies (kernel_term false c) d) (past_of bodies f d) (past_in bodies a d) (past_in bodies c d) (claim_nests f d) (term_nests false a d) (term_nests false c d)
    term_nests b (comprehension vs f) d = variables_nest vs d (Of (kernel_claim f)) (Of f) (λ inner. claim_nests f inner)
    term_nests b (number n place) d = same
    term_nests b (count a) d = term_nests false a d
    term_nests b (arithmetic op a c) d = two (past_in bodies (kernel_term false a) d) (past_in bodies (kernel_term false c) d) (past_in bodies a d) (past_in bodies c d) (term_nests false a d) (term_nests false c d)
    term_nests b (sum_over vs a) d = variables_nest vs d (λ inner. past_in bodies (kernel_term false a) inner) (λ inner. past_in bodies a inner) (λ inner. term_nests false a inner)
    term_nests b (let_term x a c) d = least
    term_nests b (call_term body es) d = least

    variables_nest : (vs : Variables) (d : Depths) (f g : Depths → ℕ) → ((inner : Depths) → f inner ≤ g inner) → past_under bodies (variable_list (kernel_variables vs)) d f ≤ past_under bodies vs d g
    variables_nest no_variables d f g h = h d
    variables_nest (more_variables x apart e rest) d f g h = two (past_in bodies (kernel_term false e) d) (past_under bodies (variable_list (kernel_variables rest)) (with_depth d x 0) f) (past_in bodies e d) (past_under bodies rest (with_depth d x 0) g) (term_nests false e d) (variables_nest rest (with_depth d x 0) f g h)

    pub claim_nests : (f : Claim) (d : Depths) → past_of bodies (kernel_claim f) d ≤ past_of bodies f d
    claim_nests (inside a c) d = two (past_in bodies (kernel_term false a) d) (past_in bodies (kernel_term false c) d) (past_in bodies a d) (past_in bodies c d) (term_nests false a d) (term_nests false c d)
    claim_nests (equal a c) d = two (past_in bodies (kernel_term false a) d) (past_in bodies (kernel_term false c) d) (past_in bodies a d) (past_in bodies c d) (term_nests false a d) (term_nests false c d)
    claim_nests (within a m c) d = two (past_in bodies (kernel_term false a) d) (past_in bodies (kernel_term true c) d) (past_in bodies a d) (past_in bodies c d) (term_nests false a d) (term_nests true c d)
    claim_nests (test q a) d = on (tested_nests q (kernel_term false a) d) (term_nests false a d)
    claim_nests (compare op a c) d = on (compared_nests op (kernel_term false a) (kernel_term false c) d) (two (past_in bodies (kernel_term false a) d) (past_in bodies (kernel_term false c) d) (past_in bodies a d) (past_in bodies c d) (term_nests false a d) (term_nests false c d))
    claim_nests (negation f) d = claim_nests f d
    claim_nests (every fs) d = claims_nest fs d
    claim_nests (connect op f g) d = on (connected_nests op (kernel_claim f) (kernel_claim g) d) (two (past_of bodies (kernel_claim f) d) (past_of bodies (kernel_claim g) d) (past_of bodies f d) (past_of bodies g d) (claim_nests f d) (claim_nests g d))
    claim_nests (choose_claim f g h) d = three (past_of bodies (kernel_claim f) d) (past_of bodies (kernel_claim g) d) (past_of bodies (kernel_claim h) d) (past_of bodies f d) (past_of bodies g d) (past_of bodies h d) (claim_nests f d) (claim_nests g d) (claim_nests h d)
    claim_nests (for_all vs f) d = on (under_nests (kernel_variables vs) (kernel_claim f) d) (variables_nest vs d (Of (kernel_claim f)) (Of f) (λ inner. claim_nests f inner))
    claim_nests (counted q vs f) d = on (counting_nests q (kernel_variables vs) (kernel_claim f) d) (variables_nest vs d (Of (kernel_claim f)) (Of f) (λ inner. claim_nests f inner))
    claim_nests (temporal op f) d = on (happening_nests op (kernel_claim f) d) (under_unary_on op (past_of bodies (kernel_claim f) d) (past_of bodies f d) (claim_nests f d))
    claim_nests (temporal_pair op f g) d = on (happening_both_nests op (kernel_claim f) (kernel_claim g) d) (under_binary_on op (max (past_of bodies (kernel_claim f) d) (past_of bodies (kernel_claim g) d)) (max (past_of bodies f d) (past_of bodies g d))
        (two (past_of bodies (kernel_claim f) d) (past_of bodies (kernel_claim g) d) (past_of bodies f d) (past_of bodies g d) (claim_nests f d) (claim_nests g d)))
    claim_nests (let_claim x e f) d = least
    claim_nests (call_claim body es) d = least

    claims_nest : (fs : Claims) (d : Depths) → past_of_each bodies (kernel_claims fs) d ≤ past_of_each bodies fs d
    claims_nest no_claims d = same
    claims_nest (more_claims f rest) d = two (past_of bodies (kernel_claim f) d) (past_of_each bodies (kernel_claims rest) d) (past_of bodies f d) (past_of_each bodies rest d) (claim_nests f d) (claims_nest rest d)
