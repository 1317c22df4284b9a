-- The names that trees over lists use, by the items of the lists.
use Rattle.std.proofs.Common.{◌≡◌, ℕ, ◌+◌, ◌<◌, List, [], ◌∷◌, ◌++◌, map, take, length, get_or, sym, ap, ap₂, ◌∙◌, Vec, Box, Global}
use Rattle.std.proofs.lemmas.List.{take_more, map-append, append-nil, append_assoc}
use Rattle.core_tree.specs.declared.operators.Quantity.{Quantity}
use Rattle.core_tree.specs.declared.tree.Variable.{Variable}
use Rattle.core_tree.specs.declared.tree.Formula.{Formula, Every, ForAll, Counted, Call as CallFormula}
use Rattle.core_tree.specs.declared.tree.Expr.{Expr, Comprehension, Sum, Call as CallExpr}
use Rattle.core_tree.specs.Trees.{Term, Claim, Binder, term_of, claim_of, variable_of, term_list, variable_list, claim_list}
use Rattle.core_tree.proofs.RowLemmas.{every_is, for_all_is, counted_is, call_claim_is, comprehension_is, sum_over_is, call_term_is}
use Rattle.core_free.specs.Used.{used_in, used_in_each, used_under, used_of, used_of_each}

pub two : (old mid new a b : List ℕ) → mid ≡ old ++ a → new ≡ mid ++ b → new ≡ old ++ (a ++ b)
two old mid new a b first second = second ∙ ap (λ (r : List ℕ). r ++ b) first ∙ append_assoc old a b

pub three : (old mid next new a b c : List ℕ) → mid ≡ old ++ a → next ≡ mid ++ b → new ≡ next ++ c → new ≡ old ++ (a ++ (b ++ c))
three old mid next new a b c first second third = two old mid new a (b ++ c) first (two mid next new b c second third)

terms_last : (es : List Term) (e : Term) → used_in_each (term_list (es ++ e ∷ [])) ≡ used_in_each (term_list es) ++ used_in e
terms_last [] e = append-nil (used_in e)
terms_last (x ∷ es) e = ap (λ r. used_in x ++ r) (terms_last es e) ∙ sym (append_assoc (used_in x) (used_in_each (term_list es)) (used_in e))

bounds_last : (es : List Binder) (e : Binder) → used_under (variable_list (es ++ e ∷ [])) ≡ used_under (variable_list es) ++ used_in e.bound
bounds_last [] e = append-nil (used_in e.bound)
bounds_last (x ∷ es) e = ap (λ r. used_in x.bound ++ r) (bounds_last es e) ∙ sym (append_assoc (used_in x.bound) (used_under (variable_list es)) (used_in e.bound))

claims_last : (es : List Claim) (e : Claim) → used_of_each (claim_list (es ++ e ∷ [])) ≡ used_of_each (claim_list es) ++ used_of e
claims_last [] e = append-nil (used_of e)
claims_last (x ∷ es) e = ap (λ r. used_of x ++ r) (claims_last es e) ∙ sym (append_assoc (used_of x) (used_of_each (claim_list es)) (used_of e))

module _ (old mid new : List ℕ) where
  -- a turn of a loop
  pub terms_turn : (xs : List Expr) (i next : ℕ) (x : Expr) → next ≡ i + 1 → i < length xs → x ≡ get_or xs i x → mid ≡ old ++ used_in_each (term_list (map term_of (take i xs))) → new ≡ mid ++ used_in (term_of x) → new ≡ old ++ used_in_each (term_list (map term_of (take next xs)))
  terms_turn xs i next x one lt item was is =
      two old mid new (used_in_each (term_list (map term_of (take i xs)))) (used_in (term_of x)) was is
      ∙ ap (λ r. old ++ r) (ap (λ (y : Expr). used_in_each (term_list (map term_of (take i xs))) ++ used_in (term_of y)) item
      ∙ sym (terms_last (map term_of (take i xs)) (term_of (get_or xs i x)))
      ∙ ap (λ es. used_in_each (term_list es)) (sym (map-append term_of (take i xs) (get_or xs i x ∷ [])))
      ∙ ap (λ ys. used_in_each (term_list (map term_of ys))) (sym (take_more xs i x lt))
      ∙ ap (λ (n : ℕ). used_in_each (term_list (map term_of (take n xs)))) (sym one))

  pub bounds_turn : (xs : List Variable) (i next : ℕ) (x : Variable) → next ≡ i + 1 → i < length xs → x ≡ get_or xs i x → mid ≡ old ++ used_under (variable_list (map variable_of (take i xs))) → new ≡ mid ++ used_in (term_of x.bound) → new ≡ old ++ used_under (variable_list (map variable_of (take next xs)))
  bounds_turn xs i next x one lt item was is =
      two old mid new (used_under (variable_list (map variable_of (take i xs)))) (used_in (term_of x.bound)) was is
      ∙ ap (λ r. old ++ r) (ap (λ (y : Variable). used_under (variable_list (map variable_of (take i xs))) ++ used_in (term_of y.bound)) item
      ∙ sym (bounds_last (map variable_of (take i xs)) (variable_of (get_or xs i x)))
      ∙ ap (λ es. used_under (variable_list es)) (sym (map-append variable_of (take i xs) (get_or xs i x ∷ [])))
      ∙ ap (λ ys. used_under (variable_list (map variable_of ys))) (sym (take_more xs i x lt))
      ∙ ap (λ (n : ℕ). used_under (variable_list (map variable_of (take n xs)))) (sym one))

  pub claims_turn : (xs : List Formula) (i next : ℕ) (x : Formula) → next ≡ i + 1 → i < length xs → x ≡ get_or xs i x → mid ≡ old ++ used_of_each (claim_list (map claim_of (take i xs))) → new ≡ mid ++ used_of (claim_of x) → new ≡ old ++ used_of_each (claim_list (map claim_of (take next xs)))
  claims_turn xs i next x one lt item was is =
      two old mid new (used_of_each (claim_list (map claim_of (take i xs)))) (used_of (claim_of x)) was is
      ∙ ap (λ r. old ++ r) (ap (λ (y : Formula). used_of_each (claim_list (map claim_of (take i xs))) ++ used_of (claim_of y)) item
      ∙ sym (claims_last (map claim_of (take i xs)) (claim_of (get_or xs i x)))
      ∙ ap (λ es. used_of_each (claim_list es)) (sym (map-append claim_of (take i xs) (get_or xs i x ∷ [])))
      ∙ ap (λ ys. used_of_each (claim_list (map claim_of ys))) (sym (take_more xs i x lt))
      ∙ ap (λ (n : ℕ). used_of_each (claim_list (map claim_of (take n xs)))) (sym one))

  -- trees over lists
  pub every_adds : (v : Vec Formula Global) (s : List Formula) → s ≡ v.items → new ≡ old ++ used_of_each (claim_list (map claim_of s)) → new ≡ old ++ used_of (claim_of (Every v))
  every_adds v s same is = is ∙ ap (λ ys. old ++ used_of_each (claim_list (map claim_of ys))) same ∙ ap (λ f. old ++ used_of f) (sym (every_is v))

  pub for_all_adds : (v : Vec Variable Global) (s : List Variable) (b : Box Formula Global) (f : Formula) → s ≡ v.items → f ≡ b.value → mid ≡ old ++ used_under (variable_list (map variable_of s)) → new ≡ mid ++ used_of (claim_of f) → new ≡ old ++ used_of (claim_of (ForAll v b))
  for_all_adds v s b f same inner first second =
      two old mid new (used_under (variable_list (map variable_of s))) (used_of (claim_of f)) first second
      ∙ ap₂ (λ ys (g : Formula). old ++ (used_under (variable_list (map variable_of ys)) ++ used_of (claim_of g))) same inner
      ∙ ap (λ g. old ++ used_of g) (sym (for_all_is v b))

  pub counted_adds : (q : Quantity) (v : Vec Variable Global) (s : List Variable) (b : Box Formula Global) (f : Formula) → s ≡ v.items → f ≡ b.value → mid ≡ old ++ used_under (variable_list (map variable_of s)) → new ≡ mid ++ used_of (claim_of f) → new ≡ old ++ used_of (claim_of (Counted q v b))
  counted_adds q v s b f same inner first second =
      two old mid new (used_under (variable_list (map variable_of s))) (used_of (claim_of f)) first second
      ∙ ap₂ (λ ys (g : Formula). old ++ (used_under (variable_list (map variable_of ys)) ++ used_of (claim_of g))) same inner
      ∙ ap (λ g. old ++ used_of g) (sym (counted_is q v b))

  pub comprehension_adds : (v : Vec Variable Global) (s : List Variable) (b : Box Formula Global) (f : Formula) → s ≡ v.items → f ≡ b.value → mid ≡ old ++ used_under (variable_list (map variable_of s)) → new ≡ mid ++ used_of (claim_of f) → new ≡ old ++ used_in (term_of (Comprehension v b))
  comprehension_adds v s b f same inner first second =
      two old mid new (used_under (variable_list (map variable_of s))) (used_of (claim_of f)) first second
      ∙ ap₂ (λ ys (g : Formula). old ++ (used_under (variable_list (map variable_of ys)) ++ used_of (claim_of g))) same inner
      ∙ ap (λ g. old ++ used_in g) (sym (comprehension_is v b))

  pub sum_adds : (v : Vec Variable Global) (s : List Variable) (b : Box Expr Global) (e : Expr) → s ≡ v.items → e ≡ b.value → mid ≡ old ++ used_under (variable_list (map variable_of s)) → new ≡ mid ++ used_in (term_of e) → new ≡ old ++ used_in (term_of (Sum v b))
  sum_adds v s b e same inner first second =
      two old mid new (used_under (variable_list (map variable_of s))) (used_in (term_of e)) first second
      ∙ ap₂ (λ ys (g : Expr). old ++ (used_under (variable_list (map variable_of ys)) ++ used_in (term_of g))) same inner
      ∙ ap (λ g. old ++ used_in g) (sym (sum_over_is v b))

  pub call_claim_adds : (body : ℕ) (v : Vec Expr Global) (s : List Expr) → s ≡ v.items → new ≡ old ++ used_in_each (term_list (map term_of s)) → new ≡ old ++ used_of (claim_of (CallFormula body v))
  call_claim_adds body v s same is = is ∙ ap (λ ys. old ++ used_in_each (term_list (map term_of ys))) same ∙ ap (λ g. old ++ used_of g) (sym (call_claim_is body v))

  pub call_term_adds : (body : ℕ) (v : Vec Expr Global) (s : List Expr) → s ≡ v.items → new ≡ old ++ used_in_each (term_list (map term_of s)) → new ≡ old ++ used_in (term_of (CallExpr body v))
  call_term_adds body v s same is = is ∙ ap (λ ys. old ++ used_in_each (term_list (map term_of ys))) same ∙ ap (λ g. old ++ used_in g) (sym (call_term_is body v))
