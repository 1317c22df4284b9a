-- Where the test of a tree holds, every part of it fits its place, and the columns are its columns.
use Rattle.std.proofs.Common.{◌≡◌, ℕ, zero, suc, ◌+◌, ◌-◌, ◌<◌, ◌≤◌, Bool, true, false, ◌&&◌, nat_le, nat_lt, eqb, List, [], ◌∷◌, map, length, Option, Some, None, slice_get, slice_index, refl, sym, ap, ap₂, ◌∙◌, subst, subst₂, ltb-true, option_map}
use Rattle.std.proofs.lemmas.Option.{slice_get-map}
use Rattle.core_tree.specs.declared.operators.RelationOp.{RelationOp}
use Rattle.core_tree.specs.Trees.{Term, Terms, Variables, Claim, Claims, sig, field, name, univ, iden, empty, int, combine, product, unary, prime, choose_term, comprehension, number, count, arithmetic, sum_over, let_term, call_term, no_terms, more_terms, no_variables, more_variables, inside, equal, within, test, compare, negation, every, connect, choose_claim, for_all, counted, temporal, temporal_pair, let_claim, call_claim, no_claims, more_claims}
use Rattle.core_tree.specs.Columns.{Signature, Shapes, Columns, with_columns, with_variables, variables_count, combined, or_zero, result_columns, columns_in, CanCombine, CanBound, IsFew, IsRightTerm, AreRightVariables, AreRightArguments, IsRightClaim, AreRightClaims}
use Rattle.resolve_check.specs.declared.shape.BodyShape.{BodyShape}
use Rattle.resolve_check.specs.declared.shape.Shape.{Shape}
use Rattle.resolve_check.specs.declared.shape.Limits.{Limits}
use Rattle.resolve_check.specs.Fits.{signature_in, shapes_in, only, few, is_there, is_single, has_columns, same_columns, bounded, is_allowed_field, is_allowed_body, parameters_of_shape, seen, how_many, names_after, columns_at, are_right_variables, are_right_arguments, is_right, are_right}
use Rattle.resolve_check.proofs.Parts.{some_same, not_false, only_from, both_from, few_from, few_of_from, there_from, single_from, has_from, combined_from, product_from, same_from, bounded_from, function_from, predicate_from}

module _ (shape : Shape) where
  signature_there : (body : ℕ) (s : BodyShape) → slice_get shape.bodies body ≡ Some s → slice_get (shapes_in shape).bodies body ≡ Some (signature_in s)
  signature_there body s e = slice_get-map signature_in shape.bodies body ∙ ap (option_map signature_in) e

  count_same : (vs : Variables) → variables_count (shapes_in shape) vs ≡ how_many vs
  count_same no_variables = refl
  count_same (more_variables x apart e rest) = ap suc (count_same rest)

  after_same : (vs : Variables) (names : Columns) → with_variables (shapes_in shape) vs names ≡ names_after vs names
  after_same no_variables names = refl
  after_same (more_variables x apart e rest) names = after_same rest (with_columns names x 1)

  module _ (limits : Limits) where
    pub columns_from : (t : Term) (names : Columns) (n : ℕ) → columns_at shape limits t names ≡ Some n → columns_in (shapes_in shape) t names ≡ n
    columns_from (sig s) names n e = some_same 1 n (only_from (nat_lt s shape.sigs) (Some 1) n e).is
    columns_from (field f) names n e =
        let a = only_from (nat_lt f (length shape.fields)) (only (is_allowed_field shape limits.below f) (few (slice_index shape.fields f))) n e in
        let b = only_from (is_allowed_field shape limits.below f) (few (slice_index shape.fields f)) n a.is in
        (few_from (slice_index shape.fields f) n b.is).same
    columns_from (name x) names n e = ap or_zero (few_of_from (names x) n e).same
    columns_from univ names n e = some_same 1 n e
    columns_from iden names n e = some_same 2 n e
    columns_from empty names n e = some_same 1 n e
    columns_from int names n e = some_same 1 n e
    columns_from (combine op a b) names n e =
        let c = combined_from op (columns_at shape limits a names) (columns_at shape limits b names) n e in
        ap₂ (combined op) (columns_from a names c.left c.left_is) (columns_from b names c.right c.right_is) ∙ c.is
    columns_from (product a m k b) names n e =
        let c = product_from (columns_at shape limits a names) (columns_at shape limits b names) n e in
        ap₂ (λ x y. x + y) (columns_from a names c.left c.left_is) (columns_from b names c.right c.right_is) ∙ c.is
    columns_from (unary op a) names n e = some_same 2 n (only_from (has_columns (columns_at shape limits a names) 2) (Some 2) n e).is
    columns_from (prime a) names n e = columns_from a names n e
    columns_from (choose_term f a b) names n e =
        let g = only_from (seen limits.look (is_right shape limits f names)) (same_columns (columns_at shape limits a names) (columns_at shape limits b names)) n e in
        columns_from a names n (same_from (columns_at shape limits a names) (columns_at shape limits b names) n g.is).left_is
    columns_from (comprehension vs f) names n e =
        let g = only_from (are_right_variables shape limits vs names) (only (seen limits.look (is_right shape limits f (names_after vs names))) (few (how_many vs))) n e in
        let h = only_from (seen limits.look (is_right shape limits f (names_after vs names))) (few (how_many vs)) n g.is in
        count_same vs ∙ (few_from (how_many vs) n h.is).same
    columns_from (number k place) names n e = some_same 1 n e
    columns_from (count a) names n e = some_same 1 n (only_from (is_there (columns_at shape limits a names)) (Some 1) n e).is
    columns_from (arithmetic op a b) names n e =
        let g = only_from (is_single (columns_at shape limits a names)) (only (is_single (columns_at shape limits b names)) (Some 1)) n e in
        some_same 1 n (only_from (is_single (columns_at shape limits b names)) (Some 1) n g.is).is
    columns_from (sum_over vs a) names n e =
        let g = only_from (are_right_variables shape limits vs names) (only (is_single (columns_at shape limits a (names_after vs names))) (Some 1)) n e in
        some_same 1 n (only_from (is_single (columns_at shape limits a (names_after vs names))) (Some 1) n g.is).is
    columns_from (let_term x a b) names n e =
        let g = only_from (is_there (columns_at shape limits a names)) (columns_at shape limits b (with_columns names x (or_zero (columns_at shape limits a names)))) n e in
        let t = there_from (columns_at shape limits a names) g.holds in
        ap (λ k. columns_in (shapes_in shape) b (with_columns names x k)) (columns_from a names t.columns t.is ∙ sym (ap or_zero t.is))
        ∙ columns_from b (with_columns names x (or_zero (columns_at shape limits a names))) n g.is
    columns_from (call_term body es) names n e =
        let c = function_from limits.calls (slice_get shape.bodies body) (are_right_arguments shape limits es names (parameters_of_shape (slice_get shape.bodies body))) n e in
        ap result_columns (signature_there body c.there c.is) ∙ ap or_zero c.has

    module _ (AllowedField : ℕ → Type 0) (AllowedBody : Signature → Type 0) (field_may : (f : ℕ) → is_allowed_field shape limits.below f ≡ true → AllowedField f) (body_may : (s : BodyShape) → is_allowed_body limits.calls s ≡ true → AllowedBody (signature_in s)) (look : limits.look ≡ true) where
      look_in : (b : Bool) → seen limits.look b ≡ true → b ≡ true
      look_in b e = subst (λ l. seen l b ≡ true) look e

      claim_after : (vs : Variables) (f : Claim) (names : Columns) → IsRightClaim (shapes_in shape) AllowedField AllowedBody f (names_after vs names) → IsRightClaim (shapes_in shape) AllowedField AllowedBody f (with_variables (shapes_in shape) vs names)
      claim_after vs f names h = subst (λ k. IsRightClaim (shapes_in shape) AllowedField AllowedBody f k) (sym (after_same vs names)) h

      mutual
        pub term_right : (t : Term) (names : Columns) (n : ℕ) → columns_at shape limits t names ≡ Some n → IsRightTerm (shapes_in shape) AllowedField AllowedBody t names
        term_right (sig s) names n e = ltb-true s shape.sigs (only_from (nat_lt s shape.sigs) (Some 1) n e).holds
        term_right (field f) names n e =
            let a = only_from (nat_lt f (length shape.fields)) (only (is_allowed_field shape limits.below f) (few (slice_index shape.fields f))) n e in
            let b = only_from (is_allowed_field shape limits.below f) (few (slice_index shape.fields f)) n a.is in
            let c = few_from (slice_index shape.fields f) n b.is in
            (ltb-true f (length shape.fields) a.holds, subst IsFew (sym c.same) c.is_few, field_may f b.holds)
        term_right (name x) names n e = let f = few_of_from (names x) n e in (n, f.same, f.is_few)
        term_right univ names n e = tt
        term_right iden names n e = tt
        term_right empty names n e = tt
        term_right int names n e = tt
        term_right (combine op a b) names n e =
            let c = combined_from op (columns_at shape limits a names) (columns_at shape limits b names) n e in
            let ea = sym (columns_from a names c.left c.left_is) in
            let eb = sym (columns_from b names c.right c.right_is) in
            (term_right a names c.left c.left_is, term_right b names c.right c.right_is, subst₂ (CanCombine op) ea eb c.can, subst₂ (λ x y. IsFew (combined op x y)) ea eb c.is_few)
        term_right (product a m k b) names n e =
            let c = product_from (columns_at shape limits a names) (columns_at shape limits b names) n e in
            let ea = sym (columns_from a names c.left c.left_is) in
            let eb = sym (columns_from b names c.right c.right_is) in
            (term_right a names c.left c.left_is, term_right b names c.right c.right_is, subst₂ (λ x y. IsFew (x + y)) ea eb c.is_few)
        term_right (unary op a) names n e =
            let h = has_from (columns_at shape limits a names) 2 (only_from (has_columns (columns_at shape limits a names) 2) (Some 2) n e).holds in
            (term_right a names 2 h, columns_from a names 2 h)
        term_right (prime a) names n e = term_right a names n e
        term_right (choose_term f a b) names n e =
            let g = only_from (seen limits.look (is_right shape limits f names)) (same_columns (columns_at shape limits a names) (columns_at shape limits b names)) n e in
            let s = same_from (columns_at shape limits a names) (columns_at shape limits b names) n g.is in
            (claim_right f names (look_in (is_right shape limits f names) g.holds), term_right a names n s.left_is, term_right b names n s.right_is, columns_from a names n s.left_is ∙ sym (columns_from b names n s.right_is))
        term_right (comprehension vs f) names n e =
            let g = only_from (are_right_variables shape limits vs names) (only (seen limits.look (is_right shape limits f (names_after vs names))) (few (how_many vs))) n e in
            let h = only_from (seen limits.look (is_right shape limits f (names_after vs names))) (few (how_many vs)) n g.is in
            let k = few_from (how_many vs) n h.is in
            (variables_right vs names g.holds, subst IsFew (sym (count_same vs ∙ k.same)) k.is_few, claim_after vs f names (claim_right f (names_after vs names) (look_in (is_right shape limits f (names_after vs names)) h.holds)))
        term_right (number k place) names n e = tt
        term_right (count a) names n e =
            let t = there_from (columns_at shape limits a names) (only_from (is_there (columns_at shape limits a names)) (Some 1) n e).holds in
            term_right a names t.columns t.is
        term_right (arithmetic op a b) names n e =
            let g = only_from (is_single (columns_at shape limits a names)) (only (is_single (columns_at shape limits b names)) (Some 1)) n e in
            let h = only_from (is_single (columns_at shape limits b names)) (Some 1) n g.is in
            let sa = single_from (columns_at shape limits a names) g.holds in
            let sb = single_from (columns_at shape limits b names) h.holds in
            (term_right a names 1 sa, columns_from a names 1 sa, term_right b names 1 sb, columns_from b names 1 sb)
        term_right (sum_over vs a) names n e =
            let g = only_from (are_right_variables shape limits vs names) (only (is_single (columns_at shape limits a (names_after vs names))) (Some 1)) n e in
            let h = only_from (is_single (columns_at shape limits a (names_after vs names))) (Some 1) n g.is in
            let s = single_from (columns_at shape limits a (names_after vs names)) h.holds in
            (variables_right vs names g.holds, subst (λ k. IsRightTerm (shapes_in shape) AllowedField AllowedBody a k) (sym (after_same vs names)) (term_right a (names_after vs names) 1 s), ap (columns_in (shapes_in shape) a) (after_same vs names) ∙ columns_from a (names_after vs names) 1 s)
        term_right (let_term x a b) names n e =
            let g = only_from (is_there (columns_at shape limits a names)) (columns_at shape limits b (with_columns names x (or_zero (columns_at shape limits a names)))) n e in
            let t = there_from (columns_at shape limits a names) g.holds in
            let same = sym (columns_from a names t.columns t.is ∙ sym (ap or_zero t.is)) in
            (term_right a names t.columns t.is, subst (λ k. IsRightTerm (shapes_in shape) AllowedField AllowedBody b (with_columns names x k)) same (term_right b (with_columns names x (or_zero (columns_at shape limits a names))) n g.is))
        term_right (call_term body es) names n e =
            let c = function_from limits.calls (slice_get shape.bodies body) (are_right_arguments shape limits es names (parameters_of_shape (slice_get shape.bodies body))) n e in (
              signature_in c.there,
              signature_there body c.there c.is,
              body_may c.there c.allowed,
              (n, c.has, c.is_few),
              arguments_right es names c.there.parameters (subst (λ o. are_right_arguments shape limits es names (parameters_of_shape o) ≡ true) c.is c.fits),
            )

        pub variables_right : (vs : Variables) (names : Columns) → are_right_variables shape limits vs names ≡ true → AreRightVariables (shapes_in shape) AllowedField AllowedBody vs names
        variables_right no_variables names e = tt
        variables_right (more_variables x apart t rest) names e =
            let b = both_from (is_single (columns_at shape limits t names)) (are_right_variables shape limits rest (with_columns names x 1)) e in
            let s = single_from (columns_at shape limits t names) b.first in
            (term_right t names 1 s, columns_from t names 1 s, variables_right rest (with_columns names x 1) b.second)

        pub arguments_right : (es : Terms) (names : Columns) (ns : List ℕ) → are_right_arguments shape limits es names ns ≡ true → AreRightArguments (shapes_in shape) AllowedField AllowedBody es names ns
        arguments_right no_terms names [] e = tt
        arguments_right no_terms names (n ∷ ns) e = absurd (not_false e)
        arguments_right (more_terms t rest) names [] e = absurd (not_false e)
        arguments_right (more_terms t rest) names (n ∷ ns) e =
            let b = both_from (has_columns (columns_at shape limits t names) n) (are_right_arguments shape limits rest names ns) e in
            let h = has_from (columns_at shape limits t names) n b.first in
            (term_right t names n h, columns_from t names n h, arguments_right rest names ns b.second)

        pub claim_right : (f : Claim) (names : Columns) → is_right shape limits f names ≡ true → IsRightClaim (shapes_in shape) AllowedField AllowedBody f names
        claim_right (inside a b) names e =
            let t = there_from (same_columns (columns_at shape limits a names) (columns_at shape limits b names)) e in
            let s = same_from (columns_at shape limits a names) (columns_at shape limits b names) t.columns t.is in
            (term_right a names t.columns s.left_is, term_right b names t.columns s.right_is, columns_from a names t.columns s.left_is ∙ sym (columns_from b names t.columns s.right_is))
        claim_right (equal a b) names e =
            let t = there_from (same_columns (columns_at shape limits a names) (columns_at shape limits b names)) e in
            let s = same_from (columns_at shape limits a names) (columns_at shape limits b names) t.columns t.is in
            (term_right a names t.columns s.left_is, term_right b names t.columns s.right_is, columns_from a names t.columns s.left_is ∙ sym (columns_from b names t.columns s.right_is))
        claim_right (within a m b) names e =
            let t = there_from (same_columns (columns_at shape limits a names) (bounded m (columns_at shape limits b names))) e in
            let s = same_from (columns_at shape limits a names) (bounded m (columns_at shape limits b names)) t.columns t.is in
            let d = bounded_from m (columns_at shape limits b names) t.columns s.right_is in
            let eb = columns_from b names t.columns d.is in
            (term_right a names t.columns s.left_is, term_right b names t.columns d.is, columns_from a names t.columns s.left_is ∙ sym eb, subst (CanBound m) (sym eb) d.can)
        claim_right (test q a) names e = let t = there_from (columns_at shape limits a names) e in term_right a names t.columns t.is
        claim_right (compare op a b) names e =
            let g = both_from (is_single (columns_at shape limits a names)) (is_single (columns_at shape limits b names)) e in
            let sa = single_from (columns_at shape limits a names) g.first in
            let sb = single_from (columns_at shape limits b names) g.second in
            (term_right a names 1 sa, columns_from a names 1 sa, term_right b names 1 sb, columns_from b names 1 sb)
        claim_right (negation f) names e = claim_right f names e
        claim_right (every fs) names e = claims_right fs names e
        claim_right (connect op f g) names e =
            let b = both_from (is_right shape limits f names) (is_right shape limits g names) e in
            (claim_right f names b.first, claim_right g names b.second)
        claim_right (choose_claim f g h) names e =
            let b = both_from (is_right shape limits f names) (is_right shape limits g names && is_right shape limits h names) e in
            let d = both_from (is_right shape limits g names) (is_right shape limits h names) b.second in
            (claim_right f names b.first, claim_right g names d.first, claim_right h names d.second)
        claim_right (for_all vs f) names e =
            let b = both_from (are_right_variables shape limits vs names) (is_right shape limits f (names_after vs names)) e in
            (variables_right vs names b.first, claim_after vs f names (claim_right f (names_after vs names) b.second))
        claim_right (counted q vs f) names e =
            let b = both_from (are_right_variables shape limits vs names) (is_right shape limits f (names_after vs names)) e in
            (variables_right vs names b.first, claim_after vs f names (claim_right f (names_after vs names) b.second))
        claim_right (temporal op f) names e = claim_right f names e
        claim_right (temporal_pair op f g) names e =
            let b = both_from (is_right shape limits f names) (is_right shape limits g names) e in
            (claim_right f names b.first, claim_right g names b.second)
        claim_right (let_claim x t f) names e =
            let g = both_from (is_there (columns_at shape limits t names)) (is_right shape limits f (with_columns names x (or_zero (columns_at shape limits t names)))) e in
            let h = there_from (columns_at shape limits t names) g.first in
            let same = sym (columns_from t names h.columns h.is ∙ sym (ap or_zero h.is)) in
            (term_right t names h.columns h.is, subst (λ k. IsRightClaim (shapes_in shape) AllowedField AllowedBody f (with_columns names x k)) same (claim_right f (with_columns names x (or_zero (columns_at shape limits t names))) g.second))
        claim_right (call_claim body es) names e =
            let c = predicate_from limits.calls (slice_get shape.bodies body) (are_right_arguments shape limits es names (parameters_of_shape (slice_get shape.bodies body))) e in (
              signature_in c.there,
              signature_there body c.there c.is,
              body_may c.there c.allowed,
              c.has,
              arguments_right es names c.there.parameters (subst (λ o. are_right_arguments shape limits es names (parameters_of_shape o) ≡ true) c.is c.fits),
            )

        pub claims_right : (fs : Claims) (names : Columns) → are_right shape limits fs names ≡ true → AreRightClaims (shapes_in shape) AllowedField AllowedBody fs names
        claims_right no_claims names e = tt
        claims_right (more_claims f rest) names e =
            let b = both_from (is_right shape limits f names) (are_right shape limits rest names) e in
            (claim_right f names b.first, claims_right rest names b.second)
