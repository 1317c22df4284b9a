-- Which numbers stand in formulas and expressions, and which bodies these call.
use Rattle.std.specs.Prelude.{ℕ, List, [], ◌∷◌, ◌++◌}
use Rattle.core_tree.specs.declared.model.Body.{Body}
use Rattle.core_tree.specs.declared.model.BodyForm.{BodyForm}
use Rattle.core_tree.specs.declared.model.BodyForm.TheVariants.{Test, Term as Value}
use Rattle.core_tree.specs.Trees.{Term, Terms, Variables, Claim, Claims, term_of, claim_of, sig, field, name, univ, iden, empty, int, combine, product, unary, prime, choose_term, comprehension, number, count, arithmetic, sum_over, let_term, call_term, no_terms, more_terms, no_variables, more_variables, inside, equal, within, test, compare, negation, every, connect, choose_claim, for_all, counted, temporal, temporal_pair, let_claim, call_claim, no_claims, more_claims}
use Rattle.bound_definitions.specs.declared.mention.Mention.{Mention}
use Rattle.bound_definitions.specs.declared.mention.Mention.TheVariants as mention

-- what a tree of an instance mentions: its numbers with their places, and the bodies that it calls
module _ (instance : ℕ) where
  abbrev mutual
    pub mentions_in : Term → List Mention
    mentions_in (sig s) = []
    mentions_in (field f) = []
    mentions_in (name x) = []
    mentions_in univ = []
    mentions_in iden = []
    mentions_in empty = []
    mentions_in int = []
    mentions_in (combine op a b) = mentions_in a ++ mentions_in b
    mentions_in (product a m k b) = mentions_in a ++ mentions_in b
    mentions_in (unary op a) = mentions_in a
    mentions_in (prime a) = mentions_in a
    mentions_in (choose_term f a b) = mentions_of f ++ (mentions_in a ++ mentions_in b)
    mentions_in (comprehension vs f) = mentions_under vs ++ mentions_of f
    mentions_in (number n place) = mention.Number n (record { instance = instance; place = place }) ∷ []
    mentions_in (count a) = mentions_in a
    mentions_in (arithmetic op a b) = mentions_in a ++ mentions_in b
    mentions_in (sum_over vs a) = mentions_under vs ++ mentions_in a
    mentions_in (let_term x a b) = mentions_in a ++ mentions_in b
    mentions_in (call_term body es) = mention.Call body ∷ mentions_in_each es

    pub mentions_in_each : Terms → List Mention
    mentions_in_each no_terms = []
    mentions_in_each (more_terms e rest) = mentions_in e ++ mentions_in_each rest

    pub mentions_under : Variables → List Mention
    mentions_under no_variables = []
    mentions_under (more_variables x apart e rest) = mentions_in e ++ mentions_under rest

    pub mentions_of : Claim → List Mention
    mentions_of (inside a b) = mentions_in a ++ mentions_in b
    mentions_of (equal a b) = mentions_in a ++ mentions_in b
    mentions_of (within a m b) = mentions_in a ++ mentions_in b
    mentions_of (test q a) = mentions_in a
    mentions_of (compare op a b) = mentions_in a ++ mentions_in b
    mentions_of (negation f) = mentions_of f
    mentions_of (every fs) = mentions_of_each fs
    mentions_of (connect op f g) = mentions_of f ++ mentions_of g
    mentions_of (choose_claim f g h) = mentions_of f ++ (mentions_of g ++ mentions_of h)
    mentions_of (for_all vs f) = mentions_under vs ++ mentions_of f
    mentions_of (counted q vs f) = mentions_under vs ++ mentions_of f
    mentions_of (temporal op f) = mentions_of f
    mentions_of (temporal_pair op f g) = mentions_of f ++ mentions_of g
    mentions_of (let_claim x e f) = mentions_in e ++ mentions_of f
    mentions_of (call_claim body es) = mention.Call body ∷ mentions_in_each es

    pub mentions_of_each : Claims → List Mention
    mentions_of_each no_claims = []
    mentions_of_each (more_claims f rest) = mentions_of f ++ mentions_of_each rest

  abbrev pub mentions_of_form : BodyForm → List Mention
  mentions_of_form (Test f) = mentions_of (claim_of f)
  mentions_of_form (Value e bound) = mentions_in (term_of e)

-- those of a body; the bounds of its parameters and of its result say nothing of a call
abbrev pub mentions_of_body : Body → List Mention
mentions_of_body body = mentions_of_form body.instance body.form
