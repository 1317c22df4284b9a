-- What trees over lists mention, by the items of the lists.
use Rattle.std.proofs.Common.{◌≡◌, ℕ, ◌+◌, ◌<◌, ◌≤◌, List, [], ◌∷◌, ◌++◌, map, take, length, get_or, sym, ap, ap₂, ◌∙◌, Vec, Box, Global}
use Rattle.std.proofs.lemmas.List.{take_more, map-append, append-nil, append_assoc}
use Rattle.core_tree.specs.declared.operators.Quantity.{Quantity}
use Rattle.core_tree.specs.declared.tree.Variable.{Variable}
use Rattle.core_tree.specs.declared.tree.Formula.{Formula, Every, ForAll, Counted, Call as CallFormula}
use Rattle.core_tree.specs.declared.tree.Expr.{Expr, Comprehension, Sum, Call as CallExpr}
use Rattle.core_tree.specs.Trees.{Term, Claim, Binder, term_of, claim_of, variable_of, term_list, variable_list, claim_list}
use Rattle.core_tree.proofs.RowLemmas.{every_is, for_all_is, counted_is, call_claim_is, comprehension_is, sum_over_is, call_term_is}
use Rattle.bound_definitions.specs.declared.mention.Mention.{Mention}
use Rattle.bound_definitions.specs.declared.mention.Mention.TheVariants as mention
use Rattle.bound_definitions.specs.Mentions.{mentions_in, mentions_in_each, mentions_under, mentions_of, mentions_of_each}
use Rattle.bound_definitions.proofs.Firsts.{whole}

pub two : (old mid new a b : List Mention) → mid ≡ old ++ a → new ≡ mid ++ b → new ≡ old ++ (a ++ b)
two old mid new a b first second = second ∙ ap (λ (r : List Mention). r ++ b) first ∙ append_assoc old a b

pub three : (old mid next new a b c : List Mention) → mid ≡ old ++ a → next ≡ mid ++ b → new ≡ next ++ c → new ≡ old ++ (a ++ (b ++ c))
three old mid next new a b c first second third = two old mid new a (b ++ c) first (two mid next new b c second third)

module _ (instance : ℕ) where
  terms_last : (es : List Term) (e : Term) → mentions_in_each instance (term_list (es ++ e ∷ [])) ≡ mentions_in_each instance (term_list es) ++ mentions_in instance e
  terms_last [] e = append-nil (mentions_in instance e)
  terms_last (x ∷ es) e = ap (λ r. mentions_in instance x ++ r) (terms_last es e) ∙ sym (append_assoc (mentions_in instance x) (mentions_in_each instance (term_list es)) (mentions_in instance e))

  bounds_last : (es : List Binder) (e : Binder) → mentions_under instance (variable_list (es ++ e ∷ [])) ≡ mentions_under instance (variable_list es) ++ mentions_in instance e.bound
  bounds_last [] e = append-nil (mentions_in instance e.bound)
  bounds_last (x ∷ es) e = ap (λ r. mentions_in instance x.bound ++ r) (bounds_last es e) ∙ sym (append_assoc (mentions_in instance x.bound) (mentions_under instance (variable_list es)) (mentions_in instance e.bound))

  claims_last : (es : List Claim) (e : Claim) → mentions_of_each instance (claim_list (es ++ e ∷ [])) ≡ mentions_of_each instance (claim_list es) ++ mentions_of instance e
  claims_last [] e = append-nil (mentions_of instance e)
  claims_last (x ∷ es) e = ap (λ r. mentions_of instance x ++ r) (claims_last es e) ∙ sym (append_assoc (mentions_of instance x) (mentions_of_each instance (claim_list es)) (mentions_of instance e))

  module _ (old mid new : List Mention) where
    -- a turn of a loop
    pub terms_turn : (xs : List Expr) (i next : ℕ) (x : Expr) → next ≡ i + 1 → i < length xs → x ≡ get_or xs i x → mid ≡ old ++ mentions_in_each instance (term_list (map term_of (take i xs))) → new ≡ mid ++ mentions_in instance (term_of x) → new ≡ old ++ mentions_in_each instance (term_list (map term_of (take next xs)))
    terms_turn xs i next x one lt item was is =
        two old mid new (mentions_in_each instance (term_list (map term_of (take i xs)))) (mentions_in instance (term_of x)) was is
        ∙ ap (λ r. old ++ r) (ap (λ (y : Expr). mentions_in_each instance (term_list (map term_of (take i xs))) ++ mentions_in instance (term_of y)) item
        ∙ sym (terms_last (map term_of (take i xs)) (term_of (get_or xs i x)))
        ∙ ap (λ es. mentions_in_each instance (term_list es)) (sym (map-append term_of (take i xs) (get_or xs i x ∷ [])))
        ∙ ap (λ ys. mentions_in_each instance (term_list (map term_of ys))) (sym (take_more xs i x lt))
        ∙ ap (λ (n : ℕ). mentions_in_each instance (term_list (map term_of (take n xs)))) (sym one))

    pub bounds_turn : (xs : List Variable) (i next : ℕ) (x : Variable) → next ≡ i + 1 → i < length xs → x ≡ get_or xs i x → mid ≡ old ++ mentions_under instance (variable_list (map variable_of (take i xs))) → new ≡ mid ++ mentions_in instance (term_of x.bound) → new ≡ old ++ mentions_under instance (variable_list (map variable_of (take next xs)))
    bounds_turn xs i next x one lt item was is =
        two old mid new (mentions_under instance (variable_list (map variable_of (take i xs)))) (mentions_in instance (term_of x.bound)) was is
        ∙ ap (λ r. old ++ r) (ap (λ (y : Variable). mentions_under instance (variable_list (map variable_of (take i xs))) ++ mentions_in instance (term_of y.bound)) item
        ∙ sym (bounds_last (map variable_of (take i xs)) (variable_of (get_or xs i x)))
        ∙ ap (λ es. mentions_under instance (variable_list es)) (sym (map-append variable_of (take i xs) (get_or xs i x ∷ [])))
        ∙ ap (λ ys. mentions_under instance (variable_list (map variable_of ys))) (sym (take_more xs i x lt))
        ∙ ap (λ (n : ℕ). mentions_under instance (variable_list (map variable_of (take n xs)))) (sym one))

    pub claims_turn : (xs : List Formula) (i next : ℕ) (x : Formula) → next ≡ i + 1 → i < length xs → x ≡ get_or xs i x → mid ≡ old ++ mentions_of_each instance (claim_list (map claim_of (take i xs))) → new ≡ mid ++ mentions_of instance (claim_of x) → new ≡ old ++ mentions_of_each instance (claim_list (map claim_of (take next xs)))
    claims_turn xs i next x one lt item was is =
        two old mid new (mentions_of_each instance (claim_list (map claim_of (take i xs)))) (mentions_of instance (claim_of x)) was is
        ∙ ap (λ r. old ++ r) (ap (λ (y : Formula). mentions_of_each instance (claim_list (map claim_of (take i xs))) ++ mentions_of instance (claim_of y)) item
        ∙ sym (claims_last (map claim_of (take i xs)) (claim_of (get_or xs i x)))
        ∙ ap (λ es. mentions_of_each instance (claim_list es)) (sym (map-append claim_of (take i xs) (get_or xs i x ∷ [])))
        ∙ ap (λ ys. mentions_of_each instance (claim_list (map claim_of ys))) (sym (take_more xs i x lt))
        ∙ ap (λ (n : ℕ). mentions_of_each instance (claim_list (map claim_of (take n xs)))) (sym one))

    -- the end of a loop
    pub terms_end : (xs : List Expr) (i : ℕ) → length xs ≤ i → new ≡ old ++ mentions_in_each instance (term_list (map term_of (take i xs))) → new ≡ old ++ mentions_in_each instance (term_list (map term_of xs))
    terms_end xs i far is = is ∙ ap (λ ys. old ++ mentions_in_each instance (term_list (map term_of ys))) (whole xs i far)

    pub bounds_end : (xs : List Variable) (i : ℕ) → length xs ≤ i → new ≡ old ++ mentions_under instance (variable_list (map variable_of (take i xs))) → new ≡ old ++ mentions_under instance (variable_list (map variable_of xs))
    bounds_end xs i far is = is ∙ ap (λ ys. old ++ mentions_under instance (variable_list (map variable_of ys))) (whole xs i far)

    pub claims_end : (xs : List Formula) (i : ℕ) → length xs ≤ i → new ≡ old ++ mentions_of_each instance (claim_list (map claim_of (take i xs))) → new ≡ old ++ mentions_of_each instance (claim_list (map claim_of xs))
    claims_end xs i far is = is ∙ ap (λ ys. old ++ mentions_of_each instance (claim_list (map claim_of ys))) (whole xs i far)

    -- trees over lists
    pub every_adds : (v : Vec Formula Global) (s : List Formula) → s ≡ v.items → new ≡ old ++ mentions_of_each instance (claim_list (map claim_of s)) → new ≡ old ++ mentions_of instance (claim_of (Every v))
    every_adds v s same is = is ∙ ap (λ ys. old ++ mentions_of_each instance (claim_list (map claim_of ys))) same ∙ ap (λ f. old ++ mentions_of instance f) (sym (every_is v))

    pub for_all_adds : (v : Vec Variable Global) (s : List Variable) (b : Box Formula Global) (f : Formula) → s ≡ v.items → f ≡ b.value → mid ≡ old ++ mentions_under instance (variable_list (map variable_of s)) → new ≡ mid ++ mentions_of instance (claim_of f) → new ≡ old ++ mentions_of instance (claim_of (ForAll v b))
    for_all_adds v s b f same inner first second =
        two old mid new (mentions_under instance (variable_list (map variable_of s))) (mentions_of instance (claim_of f)) first second
        ∙ ap₂ (λ ys (g : Formula). old ++ (mentions_under instance (variable_list (map variable_of ys)) ++ mentions_of instance (claim_of g))) same inner
        ∙ ap (λ g. old ++ mentions_of instance g) (sym (for_all_is v b))

    pub counted_adds : (q : Quantity) (v : Vec Variable Global) (s : List Variable) (b : Box Formula Global) (f : Formula) → s ≡ v.items → f ≡ b.value → mid ≡ old ++ mentions_under instance (variable_list (map variable_of s)) → new ≡ mid ++ mentions_of instance (claim_of f) → new ≡ old ++ mentions_of instance (claim_of (Counted q v b))
    counted_adds q v s b f same inner first second =
        two old mid new (mentions_under instance (variable_list (map variable_of s))) (mentions_of instance (claim_of f)) first second
        ∙ ap₂ (λ ys (g : Formula). old ++ (mentions_under instance (variable_list (map variable_of ys)) ++ mentions_of instance (claim_of g))) same inner
        ∙ ap (λ g. old ++ mentions_of instance g) (sym (counted_is q v b))

    pub comprehension_adds : (v : Vec Variable Global) (s : List Variable) (b : Box Formula Global) (f : Formula) → s ≡ v.items → f ≡ b.value → mid ≡ old ++ mentions_under instance (variable_list (map variable_of s)) → new ≡ mid ++ mentions_of instance (claim_of f) → new ≡ old ++ mentions_in instance (term_of (Comprehension v b))
    comprehension_adds v s b f same inner first second =
        two old mid new (mentions_under instance (variable_list (map variable_of s))) (mentions_of instance (claim_of f)) first second
        ∙ ap₂ (λ ys (g : Formula). old ++ (mentions_under instance (variable_list (map variable_of ys)) ++ mentions_of instance (claim_of g))) same inner
        ∙ ap (λ g. old ++ mentions_in instance g) (sym (comprehension_is v b))

    pub sum_adds : (v : Vec Variable Global) (s : List Variable) (b : Box Expr Global) (e : Expr) → s ≡ v.items → e ≡ b.value → mid ≡ old ++ mentions_under instance (variable_list (map variable_of s)) → new ≡ mid ++ mentions_in instance (term_of e) → new ≡ old ++ mentions_in instance (term_of (Sum v b))
    sum_adds v s b e same inner first second =
        two old mid new (mentions_under instance (variable_list (map variable_of s))) (mentions_in instance (term_of e)) first second
        ∙ ap₂ (λ ys (g : Expr). old ++ (mentions_under instance (variable_list (map variable_of ys)) ++ mentions_in instance (term_of g))) same inner
        ∙ ap (λ g. old ++ mentions_in instance g) (sym (sum_over_is v b))

    pub call_claim_adds : (body : ℕ) (v : Vec Expr Global) (s : List Expr) → s ≡ v.items → mid ≡ old ++ mention.Call body ∷ [] → new ≡ mid ++ mentions_in_each instance (term_list (map term_of s)) → new ≡ old ++ mentions_of instance (claim_of (CallFormula body v))
    call_claim_adds body v s same first second =
        two old mid new (mention.Call body ∷ []) (mentions_in_each instance (term_list (map term_of s))) first second
        ∙ ap (λ ys. old ++ mention.Call body ∷ mentions_in_each instance (term_list (map term_of ys))) same
        ∙ ap (λ g. old ++ mentions_of instance g) (sym (call_claim_is body v))

    pub call_term_adds : (body : ℕ) (v : Vec Expr Global) (s : List Expr) → s ≡ v.items → mid ≡ old ++ mention.Call body ∷ [] → new ≡ mid ++ mentions_in_each instance (term_list (map term_of s)) → new ≡ old ++ mentions_in instance (term_of (CallExpr body v))
    call_term_adds body v s same first second =
        two old mid new (mention.Call body ∷ []) (mentions_in_each instance (term_list (map term_of s))) first second
        ∙ ap (λ ys. old ++ mention.Call body ∷ mentions_in_each instance (term_list (map term_of ys))) same
        ∙ ap (λ g. old ++ mentions_in instance g) (sym (call_term_is body v))
