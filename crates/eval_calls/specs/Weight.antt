-- How many past operators a formula nests at most: its weight.
-- It is counted without replacing names by what they stand for: what a `let` value or an argument
-- nests is added to what the rest does.
use Rattle.std.specs.Prelude.{◌≡◌, ℕ, ◌+◌, ◌-◌, ◌^◌, ◌<◌, nat_lt, if◌then◌else◌, max, List, length, Option, Some, None, slice_get}
use Rattle.core_tree.specs.declared.operators.TemporalUnary.{TemporalUnary}
use Rattle.core_tree.specs.declared.operators.TemporalUnary.TheVariants.{After, Always, Eventually, Before, Historically, Once}
use Rattle.core_tree.specs.declared.operators.TemporalBinary.{TemporalBinary}
use Rattle.core_tree.specs.declared.operators.TemporalBinary.TheVariants.{Until, Releases, Since, Triggered, Then}
use Rattle.core_tree.specs.declared.model.Body.{Body}
use Rattle.core_tree.specs.declared.model.BodyForm.{BodyForm}
use Rattle.core_tree.specs.declared.model.BodyForm.TheVariants.{Test, Term as Value}
use Rattle.core_tree.specs.Trees.{Term, Terms, Variables, Claim, Claims, sig, field, name, univ, iden, empty, int, combine, product, unary, prime, choose_term, comprehension, number, count, arithmetic, sum_over, let_term, call_term, no_terms, more_terms, no_variables, more_variables, inside, equal, within, test, compare, negation, every, connect, choose_claim, for_all, counted, temporal, temporal_pair, let_claim, call_claim, no_claims, more_claims, term_of, claim_of}

-- the weight that says nothing
abbrev pub most : ℕ
most = 2 ^ 32 - 1

-- the sum, as far as there are numbers
abbrev pub both : ℕ → ℕ → ℕ
both a b = if nat_lt (a + b) most then a + b else most

abbrev pub on_one : TemporalUnary → ℕ → ℕ
on_one After n = n
on_one Always n = n
on_one Eventually n = n
on_one Before n = both n 1
on_one Historically n = both n 1
on_one Once n = both n 1

abbrev pub on_two : TemporalBinary → ℕ → ℕ
on_two Until n = n
on_two Releases n = n
on_two Since n = both n 1
on_two Triggered n = both n 1
on_two Then n = n

-- `calls` is what each body weighs where it is called
module _ (calls : ℕ → ℕ) where
  abbrev mutual
    pub weight_in : Term → ℕ
    weight_in (sig s) = 0
    weight_in (field f) = 0
    weight_in (name x) = 0
    weight_in univ = 0
    weight_in iden = 0
    weight_in empty = 0
    weight_in int = 0
    weight_in (combine op a b) = max (weight_in a) (weight_in b)
    weight_in (product a m n b) = max (weight_in a) (weight_in b)
    weight_in (unary op a) = weight_in a
    weight_in (prime a) = weight_in a
    weight_in (choose_term f a b) = max (weight_of f) (max (weight_in a) (weight_in b))
    weight_in (comprehension vs f) = max (weight_of_bounds vs) (weight_of f)
    weight_in (number n place) = 0
    weight_in (count a) = weight_in a
    weight_in (arithmetic op a b) = max (weight_in a) (weight_in b)
    weight_in (sum_over vs a) = max (weight_of_bounds vs) (weight_in a)
    weight_in (let_term x a b) = both (weight_in b) (weight_in a)
    weight_in (call_term body es) = both (calls body) (weight_of_terms es)

    pub weight_of_terms : Terms → ℕ
    weight_of_terms no_terms = 0
    weight_of_terms (more_terms e rest) = max (weight_in e) (weight_of_terms rest)

    pub weight_of_bounds : Variables → ℕ
    weight_of_bounds no_variables = 0
    weight_of_bounds (more_variables x apart e rest) = max (weight_in e) (weight_of_bounds rest)

    pub weight_of : Claim → ℕ
    weight_of (inside a b) = max (weight_in a) (weight_in b)
    weight_of (equal a b) = max (weight_in a) (weight_in b)
    weight_of (within a m b) = max (weight_in a) (weight_in b)
    weight_of (test q a) = weight_in a
    weight_of (compare op a b) = max (weight_in a) (weight_in b)
    weight_of (negation f) = weight_of f
    weight_of (every fs) = weight_of_each fs
    weight_of (connect op f g) = max (weight_of f) (weight_of g)
    weight_of (choose_claim f g h) = max (weight_of f) (max (weight_of g) (weight_of h))
    weight_of (for_all vs f) = max (weight_of_bounds vs) (weight_of f)
    weight_of (counted q vs f) = max (weight_of_bounds vs) (weight_of f)
    weight_of (temporal op f) = on_one op (weight_of f)
    weight_of (temporal_pair op f g) = on_two op (max (weight_of f) (weight_of g))
    weight_of (let_claim x e f) = both (weight_of f) (weight_in e)
    weight_of (call_claim body es) = both (calls body) (weight_of_terms es)

    pub weight_of_each : Claims → ℕ
    weight_of_each no_claims = 0
    weight_of_each (more_claims f rest) = max (weight_of f) (weight_of_each rest)

  abbrev pub weight_of_form : BodyForm → ℕ
  weight_of_form (Test f) = weight_of (claim_of f)
  weight_of_form (Value e bound) = weight_in (term_of e)

-- what a call weighs, apart from its arguments: the body's weight where the body is below a rank,
-- else the weight that says nothing
abbrev pub weight_of_called : Option Body → Option ℕ → ℕ → ℕ
weight_of_called None weight rank = 0
weight_of_called (Some b) None rank = most
weight_of_called (Some b) (Some weight) rank = if nat_lt b.rank rank then weight else most

abbrev pub calls_below : List Body → List ℕ → ℕ → ℕ → ℕ
calls_below list weights rank body = weight_of_called (slice_get list body) (slice_get weights body) rank

-- each body has its weight, which says something, calls only bodies of lower rank, and has a rank
-- below the number of bodies
pub record IsWeighed (list : List Body) (weights : List ℕ) (body : ℕ) (b : Body) : Type 0 where
  pub weight : slice_get weights body ≡ Some (weight_of_form (calls_below list weights b.rank) b.form)
  pub few : weight_of_form (calls_below list weights b.rank) b.form < most
  pub low : b.rank < length list

abbrev pub AreWeighed : List Body → List ℕ → Type 0
AreWeighed list weights = (body : ℕ) (b : Body) → slice_get list body ≡ Some b → IsWeighed list weights body b
