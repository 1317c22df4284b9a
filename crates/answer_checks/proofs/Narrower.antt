-- A right tree that names only the first fields is right where just those may stand in it.
use Rattle.std.proofs.Common.{◌<◌, ℕ, [], ◌∷◌, List, length}
use Rattle.core_tree.specs.Trees.{Term, Terms, Variables, Claim, Claims, sig, field, name, univ, iden, empty, int, combine, product, unary, prime, choose_term, comprehension, number, count, arithmetic, sum_over, let_term, call_term, no_terms, more_terms, no_variables, more_variables, inside, equal, within, test, compare, negation, every, connect, choose_claim, for_all, counted, temporal, temporal_pair, let_claim, call_claim, no_claims, more_claims}
use Rattle.bound_laws.specs.Placed.{IsTermBelow, AreTermsBelow, AreVariablesBelow, IsClaimBelow, AreClaimsBelow}
use Rattle.core_tree.specs.Columns.{Signature, Shapes, Columns, columns_in, with_columns, with_variables, IsRightTerm, AreRightVariables, AreRightArguments, IsRightClaim, AreRightClaims}

module _ (shapes : Shapes) (sigs first : ℕ) (A B : ℕ → Type 0) (Body : Signature → Type 0) (owned : (f : ℕ) → f < first → f < length shapes.fields → B f) where
  mutual
    pub term_below : (e : Term) (names : Columns) → IsTermBelow sigs first e → IsRightTerm shapes A Body e names → IsRightTerm shapes B Body e names
    term_below (sig s) names b h = h
    term_below (field f) names b (low, few, allowed) = (low, few, owned f b low)
    term_below (name x) names b h = h
    term_below univ names b h = h
    term_below iden names b h = h
    term_below empty names b h = h
    term_below int names b h = h
    term_below (combine op x y) names b (left, right, can, few) = (term_below x names b.0 left, term_below y names b.1 right, can, few)
    term_below (product x m n y) names b (left, right, rest) = (term_below x names b.0 left, term_below y names b.1 right, rest)
    term_below (unary op x) names b (here, rest) = (term_below x names b here, rest)
    term_below (prime x) names b h = term_below x names b h
    term_below (choose_term f x y) names b (when, left, right, same) = (claim_below f names b.0 when, term_below x names b.1 left, term_below y names b.2 right, same)
    term_below (comprehension vs f) names b (bounds, few, here) = (variables_below vs names b.0 bounds, few, claim_below f (with_variables shapes vs names) b.1 here)
    term_below (number n place) names b h = h
    term_below (count x) names b h = term_below x names b h
    term_below (arithmetic op x y) names b (left, one, right, two) = (term_below x names b.0 left, one, term_below y names b.1 right, two)
    term_below (sum_over vs x) names b (bounds, here, rest) = (variables_below vs names b.0 bounds, term_below x (with_variables shapes vs names) b.1 here, rest)
    term_below (let_term x e y) names b (value, here) = (term_below e names b.0 value, term_below y (with_columns names x (columns_in shapes e names)) b.1 here)
    term_below (call_term body es) names b h = elim b [ ]

    variables_below : (vs : Variables) (names : Columns) → AreVariablesBelow sigs first vs → AreRightVariables shapes A Body vs names → AreRightVariables shapes B Body vs names
    variables_below no_variables names b h = h
    variables_below (more_variables x apart e rest) names b (bound, one, more) = (term_below e names b.0 bound, one, variables_below rest (with_columns names x 1) b.1 more)

    arguments_below : (es : Terms) (names : Columns) (ns : List ℕ) → AreTermsBelow sigs first es → AreRightArguments shapes A Body es names ns → AreRightArguments shapes B Body es names ns
    arguments_below no_terms names [] b h = h
    arguments_below no_terms names (n ∷ ns) b h = h
    arguments_below (more_terms e rest) names [] b h = h
    arguments_below (more_terms e rest) names (n ∷ ns) b (here, same, more) = (term_below e names b.0 here, same, arguments_below rest names ns b.1 more)

    claim_below : (f : Claim) (names : Columns) → IsClaimBelow sigs first f → IsRightClaim shapes A Body f names → IsRightClaim shapes B Body f names
    claim_below (inside x y) names b (left, right, rest) = (term_below x names b.0 left, term_below y names b.1 right, rest)
    claim_below (equal x y) names b (left, right, rest) = (term_below x names b.0 left, term_below y names b.1 right, rest)
    claim_below (within x m y) names b (left, right, same, can) = (term_below x names b.0 left, term_below y names b.1 right, same, can)
    claim_below (test q x) names b h = term_below x names b h
    claim_below (compare op x y) names b (left, one, right, two) = (term_below x names b.0 left, one, term_below y names b.1 right, two)
    claim_below (negation f) names b h = claim_below f names b h
    claim_below (every fs) names b h = claims_below fs names b h
    claim_below (connect op f g) names b (left, right) = (claim_below f names b.0 left, claim_below g names b.1 right)
    claim_below (choose_claim f g h) names b (when, left, right) = (claim_below f names b.0 when, claim_below g names b.1 left, claim_below h names b.2 right)
    claim_below (for_all vs f) names b (bounds, here) = (variables_below vs names b.0 bounds, claim_below f (with_variables shapes vs names) b.1 here)
    claim_below (counted q vs f) names b (bounds, here) = (variables_below vs names b.0 bounds, claim_below f (with_variables shapes vs names) b.1 here)
    claim_below (temporal op f) names b h = claim_below f names b h
    claim_below (temporal_pair op f g) names b (left, right) = (claim_below f names b.0 left, claim_below g names b.1 right)
    claim_below (let_claim x e f) names b (value, here) = (term_below e names b.0 value, claim_below f (with_columns names x (columns_in shapes e names)) b.1 here)
    claim_below (call_claim body es) names b (s, is, allowed, none, given) = (s, is, allowed, none, arguments_below es names s.parameters b given)

    claims_below : (fs : Claims) (names : Columns) → AreClaimsBelow sigs first fs → AreRightClaims shapes A Body fs names → AreRightClaims shapes B Body fs names
    claims_below no_claims names b h = h
    claims_below (more_claims f rest) names b (here, more) = (claim_below f names b.0 here, claims_below rest names b.1 more)
