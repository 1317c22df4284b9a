-- How many past operators an expression or a formula nests: its past depth.
-- It is counted as if calls were replaced by bodies and `let` names by their values.
use Rattle.std.specs.Prelude.{ℕ, zero, suc, ◌+◌, ◌-◌, ◌^◌, nat_lt, eqb, if◌then◌else◌, max, List, length, Option, Some, None, slice_get}
use Rattle.core_tree.specs.declared.operators.TemporalUnary.{TemporalUnary}
use Rattle.core_tree.specs.declared.operators.TemporalUnary.TheVariants.{After, Always, Eventually, Before, Historically, Once}
use Rattle.core_tree.specs.declared.operators.TemporalBinary.{TemporalBinary}
use Rattle.core_tree.specs.declared.operators.TemporalBinary.TheVariants.{Until, Releases, Since, Triggered, Then}
use Rattle.core_tree.specs.declared.model.Body.{Body}
use Rattle.core_tree.specs.declared.model.BodyForm.{BodyForm}
use Rattle.core_tree.specs.declared.model.BodyForm.TheVariants.{Test, Term as Value}
use Rattle.core_tree.specs.Trees.{Term, Terms, Variables, Claim, Claims, sig, field, name, univ, iden, empty, int, combine, product, unary, prime, choose_term, comprehension, number, count, arithmetic, sum_over, let_term, call_term, no_terms, more_terms, no_variables, more_variables, inside, equal, within, test, compare, negation, every, connect, choose_claim, for_all, counted, temporal, temporal_pair, let_claim, call_claim, no_claims, more_claims, term_of, claim_of}

-- what each name nests
abbrev pub Depths : Type 0
Depths = ℕ → ℕ

abbrev pub no_depths : Depths
no_depths x = 0

-- the names with one more, which hides an earlier one of its number
abbrev pub with_depth : Depths → ℕ → ℕ → Depths
with_depth d x n y = if eqb y x then n else d y

-- one past operator more, counted up to the greatest 32-bit number
abbrev pub one_more : ℕ → ℕ
one_more n = if nat_lt n (2 ^ 32 - 1) then n + 1 else n

-- a temporal operator over what nests so many
abbrev pub under_unary : TemporalUnary → ℕ → ℕ
under_unary After n = n
under_unary Always n = n
under_unary Eventually n = n
under_unary Before n = one_more n
under_unary Historically n = one_more n
under_unary Once n = one_more n

abbrev pub under_binary : TemporalBinary → ℕ → ℕ
under_binary Until n = n
under_binary Releases n = n
under_binary Since n = one_more n
under_binary Triggered n = one_more n
under_binary Then n = n

-- what a called body nests, by its number and by what its parameters nest
abbrev pub BodyDepths : Type 0
BodyDepths = ℕ → Depths → ℕ

module _ (bodies : BodyDepths) where
  abbrev mutual
    pub past_in : Term → Depths → ℕ
    past_in (sig s) d = 0
    past_in (field f) d = 0
    past_in (name x) d = d x
    past_in univ d = 0
    past_in iden d = 0
    past_in empty d = 0
    past_in int d = 0
    past_in (combine op a b) d = max (past_in a d) (past_in b d)
    past_in (product a m n b) d = max (past_in a d) (past_in b d)
    past_in (unary op a) d = past_in a d
    past_in (prime a) d = past_in a d
    past_in (choose_term f a b) d = max (past_of f d) (max (past_in a d) (past_in b d))
    past_in (comprehension vs f) d = past_under vs d (λ inner. past_of f inner)
    past_in (number n place) d = 0
    past_in (count a) d = past_in a d
    past_in (arithmetic op a b) d = max (past_in a d) (past_in b d)
    past_in (sum_over vs a) d = past_under vs d (λ inner. past_in a inner)
    past_in (let_term x a b) d = past_in b (with_depth d x (past_in a d))
    past_in (call_term body es) d = bodies body (past_of_arguments es d)

    -- variables stand for atoms, which nest none
    pub past_under : Variables → Depths → (Depths → ℕ) → ℕ
    past_under no_variables d inner = inner d
    past_under (more_variables x apart e rest) d inner = max (past_in e d) (past_under rest (with_depth d x 0) inner)

    -- what the parameters 0, 1 and on nest: what their arguments do
    pub past_of_arguments : Terms → Depths → Depths
    past_of_arguments no_terms d x = 0
    past_of_arguments (more_terms e rest) d x = if eqb x 0 then past_in e d else past_of_arguments rest d (x - 1)

    pub past_of : Claim → Depths → ℕ
    past_of (inside a b) d = max (past_in a d) (past_in b d)
    past_of (equal a b) d = max (past_in a d) (past_in b d)
    past_of (within a m b) d = max (past_in a d) (past_in b d)
    past_of (test q a) d = past_in a d
    past_of (compare op a b) d = max (past_in a d) (past_in b d)
    past_of (negation f) d = past_of f d
    past_of (every fs) d = past_of_each fs d
    past_of (connect op f g) d = max (past_of f d) (past_of g d)
    past_of (choose_claim f g h) d = max (past_of f d) (max (past_of g d) (past_of h d))
    past_of (for_all vs f) d = past_under vs d (λ inner. past_of f inner)
    past_of (counted q vs f) d = past_under vs d (λ inner. past_of f inner)
    past_of (temporal op f) d = under_unary op (past_of f d)
    past_of (temporal_pair op f g) d = under_binary op (max (past_of f d) (past_of g d))
    past_of (let_claim x e f) d = past_of f (with_depth d x (past_in e d))
    past_of (call_claim body es) d = bodies body (past_of_arguments es d)

    pub past_of_each : Claims → Depths → ℕ
    past_of_each no_claims d = 0
    past_of_each (more_claims f rest) d = max (past_of f d) (past_of_each rest d)

-- what a body nests
abbrev pub past_of_form : BodyDepths → BodyForm → Depths → ℕ
past_of_form bodies (Test f) d = past_of bodies (claim_of f) d
past_of_form bodies (Value e bound) d = past_in bodies (term_of e) d

abbrev pub past_of_body : BodyDepths → Option Body → Depths → ℕ
past_of_body bodies None d = 0
past_of_body bodies (Some body) d = past_of_form bodies body.form d

-- what the bodies nest where calls nest at most this deep
abbrev pub called_depths : List Body → ℕ → BodyDepths
called_depths list zero = λ body d. 0
called_depths list (suc n) = λ body d. past_of_body (called_depths list n) (slice_get list body) d

-- what the bodies nest: no body calls itself, so calls nest no deeper than there are bodies
abbrev pub body_depths : List Body → BodyDepths
body_depths list = called_depths list (length list)
