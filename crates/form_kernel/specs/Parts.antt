-- What a tree is made of: its sigs, its fields, its numbers, and the names that stand free in it.
use Rattle.std.specs.Prelude.{◌≡◌, ℕ, ℤ, Bool, true, eqb, if◌then◌else◌}
use Rattle.core_tree.specs.Trees.{Term, Terms, Variables, Claim, Claims, sig, field, name, univ, iden, empty, int, combine, product, unary, prime, choose_term, comprehension, number, count, arithmetic, sum_over, let_term, call_term, no_terms, more_terms, no_variables, more_variables, inside, equal, within, test, compare, negation, every, connect, choose_claim, for_all, counted, temporal, temporal_pair, let_claim, call_claim, no_claims, more_claims}

-- which names may stand free
abbrev pub Allowed : Type 0
Allowed = ℕ → Bool

-- one more, which is bound
abbrev pub with_bound : Allowed → ℕ → Allowed
with_bound names x y = if eqb y x then true else names y

abbrev pub with_all : Variables → Allowed → Allowed
with_all no_variables names = names
with_all (more_variables x apart e rest) names = with_all rest (with_bound names x)

-- which sigs, fields and numbers may stand in a tree
module _ (sigs : ℕ → Bool) (fields : ℕ → Bool) (numbers : ℤ → Bool) where
  abbrev mutual
    pub IsMadeTerm : Term → Allowed → Type 0
    IsMadeTerm (sig s) names = sigs s ≡ true
    IsMadeTerm (field f) names = fields f ≡ true
    IsMadeTerm (name x) names = names x ≡ true
    IsMadeTerm univ names = Unit {0}
    IsMadeTerm iden names = Unit {0}
    IsMadeTerm empty names = Unit {0}
    IsMadeTerm int names = Unit {0}
    IsMadeTerm (combine op a b) names = IsMadeTerm a names × IsMadeTerm b names
    IsMadeTerm (product a m n b) names = IsMadeTerm a names × IsMadeTerm b names
    IsMadeTerm (unary op a) names = IsMadeTerm a names
    IsMadeTerm (prime a) names = IsMadeTerm a names
    IsMadeTerm (choose_term f a b) names = IsMade f names × IsMadeTerm a names × IsMadeTerm b names
    IsMadeTerm (comprehension vs f) names = AreMadeVariables vs names × IsMade f (with_all vs names)
    IsMadeTerm (number n place) names = numbers n ≡ true
    IsMadeTerm (count a) names = IsMadeTerm a names
    IsMadeTerm (arithmetic op a b) names = IsMadeTerm a names × IsMadeTerm b names
    IsMadeTerm (sum_over vs a) names = AreMadeVariables vs names × IsMadeTerm a (with_all vs names)
    IsMadeTerm (let_term x a b) names = IsMadeTerm a names × IsMadeTerm b (with_bound names x)
    IsMadeTerm (call_term body es) names = AreMadeTerms es names

    pub AreMadeTerms : Terms → Allowed → Type 0
    AreMadeTerms no_terms names = Unit {0}
    AreMadeTerms (more_terms e rest) names = IsMadeTerm e names × AreMadeTerms rest names

    -- a bound sees the variables before it
    pub AreMadeVariables : Variables → Allowed → Type 0
    AreMadeVariables no_variables names = Unit {0}
    AreMadeVariables (more_variables x apart e rest) names = IsMadeTerm e names × AreMadeVariables rest (with_bound names x)

    pub IsMade : Claim → Allowed → Type 0
    IsMade (inside a b) names = IsMadeTerm a names × IsMadeTerm b names
    IsMade (equal a b) names = IsMadeTerm a names × IsMadeTerm b names
    IsMade (within a m b) names = IsMadeTerm a names × IsMadeTerm b names
    IsMade (test q a) names = IsMadeTerm a names
    IsMade (compare op a b) names = IsMadeTerm a names × IsMadeTerm b names
    IsMade (negation f) names = IsMade f names
    IsMade (every fs) names = AreMade fs names
    IsMade (connect op f g) names = IsMade f names × IsMade g names
    IsMade (choose_claim f g h) names = IsMade f names × IsMade g names × IsMade h names
    IsMade (for_all vs f) names = AreMadeVariables vs names × IsMade f (with_all vs names)
    IsMade (counted q vs f) names = AreMadeVariables vs names × IsMade f (with_all vs names)
    IsMade (temporal op f) names = IsMade f names
    IsMade (temporal_pair op f g) names = IsMade f names × IsMade g names
    IsMade (let_claim x e f) names = IsMadeTerm e names × IsMade f (with_bound names x)
    IsMade (call_claim body es) names = AreMadeTerms es names

    pub AreMade : Claims → Allowed → Type 0
    AreMade no_claims names = Unit {0}
    AreMade (more_claims f rest) names = IsMade f names × AreMade rest names
