-- The past depth of trees over lists, by the items of the lists.
use Rattle.std.proofs.Common.{◌≡◌, ℕ, zero, suc, ◌+◌, ◌<◌, ◌≤◌, List, [], ◌∷◌, ◌++◌, map, take, length, get_or, max, eqb, if◌then◌else◌, Bool, true, false, refl, sym, ap, ◌∙◌, arith, Vec, Box, Global}
use Rattle.std.proofs.lemmas.List.{take_more, map-append}
use Rattle.std.proofs.Math.Nat.{le-max_left, le-max_right}
use Rattle.std.proofs.Math.Path.{fun_ext}
use Rattle.core_tree.specs.declared.operators.Quantity.{Quantity}
use Rattle.core_tree.specs.declared.tree.Variable.{Variable}
use Rattle.core_tree.specs.declared.tree.Formula.{Formula, Every, ForAll, Counted, Call as CallFormula}
use Rattle.core_tree.specs.declared.tree.Expr.{Expr, Comprehension, Sum, Call as CallExpr}
use Rattle.core_tree.specs.Trees.{Term, Variables, Claim, Claims, Binder, sig, field, name, univ, iden, empty, int, combine, product, unary, prime, choose_term, comprehension, number, count, arithmetic, sum_over, let_term, call_term, let_claim, call_claim, counted, compare, inside, equal, within, test, negation, every, for_all, connect, choose_claim, temporal, temporal_pair, no_variables, more_variables, no_claims, more_claims, term_of, claim_of, variable_of, variable_list, claim_list}
use Rattle.core_tree.specs.Past.{Depths, no_depths, with_depth, under_unary, under_binary, past_in, past_of, past_under, past_of_each}
use Rattle.core_tree.proofs.RowLemmas.{every_is, for_all_is, counted_is, call_claim_is, comprehension_is, sum_over_is, call_term_is}
use Rattle.bmc_leaves.specs.Shown.{none_nested}
use Rattle.bmc_encoder.specs.Letless.{IsLetlessTerm, AreLetlessBounds, IsLetless, AreLetless}
use Rattle.bmc_encoder.specs.Depths.{nested_in, nested_of, nested_of_bounds, nested_of_each}

below_both : (a b c : ℕ) → a ≤ c → b ≤ c → max a b ≤ c
below_both a b c x y = grind (arith)

half : (a b c : ℕ) → max a (max b c) ≤ max b (max a c)
half a b c =
    let x = le-max_left a c in
    let y = le-max_right a c in
    let z = le-max_right b (max a c) in
    below_both a (max b c) (max b (max a c)) (omega arith) (below_both b c (max b (max a c)) (le-max_left b (max a c)) (omega arith))

max_swap : (a b c : ℕ) → max a (max b c) ≡ max b (max a c)
max_swap a b c = let p = half a b c in let q = half b a c in omega arith

all_taken : {X : Type 0} (xs : List X) (i : ℕ) → length xs ≤ i → take i xs ≡ xs
all_taken [] zero h = refl
all_taken [] (suc i) h = refl
all_taken (x ∷ xs) zero h = absurd (omega arith)
all_taken (x ∷ xs) (suc i) h = ap (λ ys. x ∷ ys) (all_taken xs i (omega arith))

bounds_last : (es : List Binder) (e : Binder) → nested_of_bounds (variable_list (es ++ e ∷ [])) ≡ max (nested_in e.bound) (nested_of_bounds (variable_list es))
bounds_last [] e = refl
bounds_last (x ∷ es) e = ap (max (nested_in x.bound)) (bounds_last es e) ∙ max_swap (nested_in x.bound) (nested_in e.bound) (nested_of_bounds (variable_list es))

pub bounds_more : (xs : List Variable) (i : ℕ) (d : Variable) → i < length xs → nested_of_bounds (variable_list (map variable_of (take (i + 1) xs))) ≡ max (nested_in (term_of (get_or xs i d).bound)) (nested_of_bounds (variable_list (map variable_of (take i xs))))
bounds_more xs i d lt = ap (λ ys. nested_of_bounds (variable_list (map variable_of ys))) (take_more xs i d lt) ∙ ap (λ ys. nested_of_bounds (variable_list ys)) (map-append variable_of (take i xs) (get_or xs i d ∷ [])) ∙ bounds_last (map variable_of (take i xs)) (variable_of (get_or xs i d))

pub bounds_all : (xs : List Variable) (i : ℕ) → length xs ≤ i → nested_of_bounds (variable_list (map variable_of (take i xs))) ≡ nested_of_bounds (variable_list (map variable_of xs))
bounds_all xs i le = ap (λ ys. nested_of_bounds (variable_list (map variable_of ys))) (all_taken xs i le)

claims_last : (es : List Claim) (e : Claim) → nested_of_each (claim_list (es ++ e ∷ [])) ≡ max (nested_of e) (nested_of_each (claim_list es))
claims_last [] e = refl
claims_last (x ∷ es) e = ap (max (nested_of x)) (claims_last es e) ∙ max_swap (nested_of x) (nested_of e) (nested_of_each (claim_list es))

pub claims_more : (xs : List Formula) (i : ℕ) (d : Formula) → i < length xs → nested_of_each (claim_list (map claim_of (take (i + 1) xs))) ≡ max (nested_of (claim_of (get_or xs i d))) (nested_of_each (claim_list (map claim_of (take i xs))))
claims_more xs i d lt = ap (λ ys. nested_of_each (claim_list (map claim_of ys))) (take_more xs i d lt) ∙ ap (λ ys. nested_of_each (claim_list ys)) (map-append claim_of (take i xs) (get_or xs i d ∷ [])) ∙ claims_last (map claim_of (take i xs)) (claim_of (get_or xs i d))

pub claims_all : (xs : List Formula) (i : ℕ) → length xs ≤ i → nested_of_each (claim_list (map claim_of (take i xs))) ≡ nested_of_each (claim_list (map claim_of xs))
claims_all xs i le = ap (λ ys. nested_of_each (claim_list (map claim_of ys))) (all_taken xs i le)

module _ (r x y : ℕ) where
  pub every_nests : (v : Vec Formula Global) (fs : List Formula) → r ≡ nested_of_each (claim_list (map claim_of fs)) → fs ≡ v.items → r ≡ nested_of (claim_of (Every v))
  every_nests v fs e is = e ∙ ap (λ l. nested_of_each (claim_list (map claim_of l))) is ∙ ap nested_of (sym (every_is v))

  module _ (v : Vec Variable Global) (vs : List Variable) (ex : x ≡ nested_of_bounds (variable_list (map variable_of vs))) (is : vs ≡ v.items) (er : r ≡ max x y) where
    bounds_then : (z : ℕ) → y ≡ z → r ≡ max (nested_of_bounds (variable_list (map variable_of v.items))) z
    bounds_then z ey = er ∙ ap (λ n. max n y) (ex ∙ ap (λ l. nested_of_bounds (variable_list (map variable_of l))) is) ∙ ap (max (nested_of_bounds (variable_list (map variable_of v.items)))) ey

    module _ (b : Box Formula Global) (f : Formula) (ey : y ≡ nested_of (claim_of f)) (same : f ≡ b.value) where
      pub for_all_nests : r ≡ nested_of (claim_of (ForAll v b))
      for_all_nests = bounds_then (nested_of (claim_of b.value)) (ey ∙ ap (λ g. nested_of (claim_of g)) same) ∙ ap nested_of (sym (for_all_is v b))

      pub counted_nests : (q : Quantity) → r ≡ nested_of (claim_of (Counted q v b))
      counted_nests q = bounds_then (nested_of (claim_of b.value)) (ey ∙ ap (λ g. nested_of (claim_of g)) same) ∙ ap nested_of (sym (counted_is q v b))

      pub comprehension_nests : r ≡ nested_in (term_of (Comprehension v b))
      comprehension_nests = bounds_then (nested_of (claim_of b.value)) (ey ∙ ap (λ g. nested_of (claim_of g)) same) ∙ ap nested_in (sym (comprehension_is v b))

    pub sum_nests : (b : Box Expr Global) (e : Expr) → y ≡ nested_in (term_of e) → e ≡ b.value → r ≡ nested_in (term_of (Sum v b))
    sum_nests b e ey same = bounds_then (nested_in (term_of b.value)) (ey ∙ ap (λ g. nested_in (term_of g)) same) ∙ ap nested_in (sym (sum_over_is v b))

pub call_term_nests : (body : ℕ) (v : Vec Expr Global) → 0 ≡ nested_in (term_of (CallExpr body v))
call_term_nests body v = ap nested_in (sym (call_term_is body v))

pub call_claim_nests : (body : ℕ) (v : Vec Expr Global) → 0 ≡ nested_of (claim_of (CallFormula body v))
call_claim_nests body v = ap nested_of (sym (call_claim_is body v))

-- ---- without `let`, it is the past depth

both_same : (b : Bool) (n : ℕ) → (if b then n else n) ≡ n
both_same true n = refl
both_same false n = refl

-- an atom nests none
no_deeper : (x : ℕ) → with_depth no_depths x 0 ≡ no_depths
no_deeper x = fun_ext (λ y. both_same (eqb y x) 0)

none_more : (n : ℕ) → max 0 n ≡ n
none_more n = let p = below_both 0 n n (omega arith) (omega arith) in let q = le-max_right 0 n in omega (arith, p, q)

max_more : (a b c : ℕ) → max a (max b c) ≡ max (max a b) c
max_more a b c =
    let x = le-max_left a b in
    let y = le-max_right a b in
    let z = le-max_left (max a b) c in
    let w = le-max_right (max a b) c in
    let p = below_both a (max b c) (max (max a b) c) (omega (arith, x, z)) (below_both b c (max (max a b) c) (omega (arith, y, z)) w) in
    let u = le-max_left b c in
    let v = le-max_right b c in
    let s = le-max_left a (max b c) in
    let t = le-max_right a (max b c) in
    let q = below_both (max a b) c (max a (max b c)) (below_both a b (max a (max b c)) s (omega (arith, u, t))) (omega (arith, v, t)) in
    omega (arith, p, q)

mutual
  term_depth : (e : Term) → IsLetlessTerm e → past_in none_nested e no_depths ≡ nested_in e
  term_depth (sig s) plain = refl
  term_depth (field f) plain = refl
  term_depth (name x) plain = refl
  term_depth univ plain = refl
  term_depth iden plain = refl
  term_depth empty plain = refl
  term_depth int plain = refl
  term_depth (combine op a b) plain = ap (λ n. max n (past_in none_nested b no_depths)) (term_depth a plain.0) ∙ ap (max (nested_in a)) (term_depth b plain.1)
  term_depth (product a m n b) plain = ap (λ k. max k (past_in none_nested b no_depths)) (term_depth a plain.0) ∙ ap (max (nested_in a)) (term_depth b plain.1)
  term_depth (unary op a) plain = term_depth a plain
  term_depth (prime a) plain = term_depth a plain
  term_depth (choose_term f a b) plain = ap (λ n. max n (max (past_in none_nested a no_depths) (past_in none_nested b no_depths))) (claim_depth f plain.0) ∙ ap (max (nested_of f)) (ap (λ n. max n (past_in none_nested b no_depths)) (term_depth a plain.1) ∙ ap (max (nested_in a)) (term_depth b plain.2))
  term_depth (comprehension vs f) plain = bounds_depth vs (λ d. past_of none_nested f d) (nested_of f) plain.0 (claim_depth f plain.1)
  term_depth (number n place) plain = refl
  term_depth (count a) plain = term_depth a plain
  term_depth (arithmetic op a b) plain = ap (λ n. max n (past_in none_nested b no_depths)) (term_depth a plain.0) ∙ ap (max (nested_in a)) (term_depth b plain.1)
  term_depth (sum_over vs a) plain = bounds_depth vs (λ d. past_in none_nested a d) (nested_in a) plain.0 (term_depth a plain.1)
  term_depth (let_term x a b) plain = absurd plain
  term_depth (call_term body es) plain = refl

  bounds_depth : (vs : Variables) (inner : Depths → ℕ) (n : ℕ) → AreLetlessBounds vs → inner no_depths ≡ n → past_under none_nested vs no_depths inner ≡ max (nested_of_bounds vs) n
  bounds_depth no_variables inner n plain is = is ∙ sym (none_more n)
  bounds_depth (more_variables x apart e rest) inner n plain is =
      ap (λ k. max k (past_under none_nested rest (with_depth no_depths x 0) inner)) (term_depth e plain.0)
      ∙ ap (λ (d : Depths). max (nested_in e) (past_under none_nested rest d inner)) (no_deeper x)
      ∙ ap (max (nested_in e)) (bounds_depth rest inner n plain.1 is)
      ∙ max_more (nested_in e) (nested_of_bounds rest) n

  pub claim_depth : (f : Claim) → IsLetless f → past_of none_nested f no_depths ≡ nested_of f
  claim_depth (inside a b) plain = ap (λ n. max n (past_in none_nested b no_depths)) (term_depth a plain.0) ∙ ap (max (nested_in a)) (term_depth b plain.1)
  claim_depth (equal a b) plain = ap (λ n. max n (past_in none_nested b no_depths)) (term_depth a plain.0) ∙ ap (max (nested_in a)) (term_depth b plain.1)
  claim_depth (within a m b) plain = ap (λ n. max n (past_in none_nested b no_depths)) (term_depth a plain.0) ∙ ap (max (nested_in a)) (term_depth b plain.1)
  claim_depth (test q a) plain = term_depth a plain
  claim_depth (compare op a b) plain = ap (λ n. max n (past_in none_nested b no_depths)) (term_depth a plain.0) ∙ ap (max (nested_in a)) (term_depth b plain.1)
  claim_depth (negation f) plain = claim_depth f plain
  claim_depth (every fs) plain = each_depth fs plain
  claim_depth (connect op f g) plain = ap (λ n. max n (past_of none_nested g no_depths)) (claim_depth f plain.0) ∙ ap (max (nested_of f)) (claim_depth g plain.1)
  claim_depth (choose_claim f g h) plain = ap (λ n. max n (max (past_of none_nested g no_depths) (past_of none_nested h no_depths))) (claim_depth f plain.0) ∙ ap (max (nested_of f)) (ap (λ n. max n (past_of none_nested h no_depths)) (claim_depth g plain.1) ∙ ap (max (nested_of g)) (claim_depth h plain.2))
  claim_depth (for_all vs f) plain = bounds_depth vs (λ d. past_of none_nested f d) (nested_of f) plain.0 (claim_depth f plain.1)
  claim_depth (counted q vs f) plain = bounds_depth vs (λ d. past_of none_nested f d) (nested_of f) plain.0 (claim_depth f plain.1)
  claim_depth (temporal op f) plain = ap (under_unary op) (claim_depth f plain)
  claim_depth (temporal_pair op f g) plain = ap (under_binary op) (ap (λ n. max n (past_of none_nested g no_depths)) (claim_depth f plain.0) ∙ ap (max (nested_of f)) (claim_depth g plain.1))
  claim_depth (let_claim x e f) plain = absurd plain
  claim_depth (call_claim body es) plain = refl

  each_depth : (fs : Claims) → AreLetless fs → past_of_each none_nested fs no_depths ≡ nested_of_each fs
  each_depth no_claims plain = refl
  each_depth (more_claims f rest) plain = ap (λ n. max n (past_of_each none_nested rest no_depths)) (claim_depth f plain.0) ∙ ap (max (nested_of f)) (each_depth rest plain.1)
