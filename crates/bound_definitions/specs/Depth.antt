-- How deep formulas and expressions are.
-- It is counted as if calls were replaced by bodies and `let` names by their values.
use Rattle.std.specs.Prelude.{ℕ, zero, suc, ◌+◌, ◌-◌, eqb, if◌then◌else◌, max, List, length, Option, Some, None, slice_get}
use Rattle.core_tree.specs.declared.operators.RelationOp.{RelationOp}
use Rattle.core_tree.specs.declared.operators.RelationOp.TheVariants.{Union, Difference, Intersection, Join, Override, LeftRestrict, RightRestrict}
use Rattle.core_tree.specs.declared.operators.Connective.TheVariants.{Or, Iff}
use Rattle.core_tree.specs.declared.operators.TemporalBinary.TheVariants.{Then}
use Rattle.core_tree.specs.declared.model.Body.{Body}
use Rattle.core_tree.specs.declared.model.BodyForm.{BodyForm}
use Rattle.core_tree.specs.declared.model.BodyForm.TheVariants.{Test, Term as Value}
use Rattle.core_tree.specs.Trees.{Term, Terms, Variables, Claim, Claims, term_of, claim_of, sig, field, name, univ, iden, empty, int, combine, product, unary, prime, choose_term, comprehension, number, count, arithmetic, sum_over, let_term, call_term, no_terms, more_terms, no_variables, more_variables, inside, equal, within, test, compare, negation, every, connect, choose_claim, for_all, counted, temporal, temporal_pair, let_claim, call_claim, no_claims, more_claims}
use Rattle.core_tree.specs.Past.{Depths, BodyDepths, with_depth}

-- the level of an operator between relations, all of which group to the left
abbrev pub level_between : RelationOp → ℕ
level_between Union = 10
level_between Difference = 10
level_between Override = 12
level_between Intersection = 13
level_between LeftRestrict = 15
level_between RightRestrict = 15
level_between Join = 16

-- the level of an expression's operator where operators of that level group to the left, and else 0
abbrev pub level_in : Term → ℕ
level_in (combine op a b) = level_between op
level_in (product a m n b) = 14
level_in (arithmetic op a b) = 10
level_in _ = 0

-- the same of a formula; a row of conjunctions, as it is written, is one list already
abbrev pub level_of : Claim → ℕ
level_of (connect Or f g) = 2
level_of (connect Iff f g) = 3
level_of (temporal_pair Then f g) = 0
level_of (temporal_pair op f g) = 6
level_of _ = 0

-- An operator of a level over a first operand, of its own level, and the others, by their depths. A row of
-- operators of one level is one part, however long it is: there the first operand is no part by itself.
abbrev pub in_row : (level own first others : ℕ) → ℕ
in_row zero own first others = 1 + max first others
in_row (suc level) own first others = max (if eqb own (suc level) then first else 1 + first) (1 + others)

module _ (bodies : BodyDepths) where
  abbrev mutual
    pub depth_in : Term → Depths → ℕ
    depth_in (sig s) d = 0
    depth_in (field f) d = 0
    depth_in (name x) d = d x
    depth_in univ d = 0
    depth_in iden d = 0
    depth_in empty d = 0
    depth_in int d = 0
    depth_in (combine op a b) d = in_row (level_between op) (level_in a) (depth_in a d) (depth_in b d)
    depth_in (product a m n b) d = in_row 14 (level_in a) (depth_in a d) (depth_in b d)
    depth_in (unary op a) d = 1 + depth_in a d
    depth_in (prime a) d = 1 + depth_in a d
    depth_in (choose_term f a b) d = 1 + max (depth_of f d) (max (depth_in a d) (depth_in b d))
    depth_in (comprehension vs f) d = 1 + depth_under vs d (λ inner. depth_of f inner)
    depth_in (number n place) d = 0
    depth_in (count a) d = 1 + depth_in a d
    depth_in (arithmetic op a b) d = in_row 10 (level_in a) (depth_in a d) (depth_in b d)
    depth_in (sum_over vs a) d = 1 + depth_under vs d (λ inner. depth_in a inner)
    depth_in (let_term x a b) d = 1 + max (depth_in a d) (depth_in b (with_depth d x (depth_in a d)))
    depth_in (call_term body es) d = 1 + bodies body (depth_of_arguments es d)

    -- variables stand for atoms, which have no parts
    pub depth_under : Variables → Depths → (Depths → ℕ) → ℕ
    depth_under no_variables d inner = inner d
    depth_under (more_variables x apart e rest) d inner = max (depth_in e d) (depth_under rest (with_depth d x 0) inner)

    -- how deep the parameters 0, 1 and on are: as deep as their arguments
    pub depth_of_arguments : Terms → Depths → Depths
    depth_of_arguments no_terms d x = 0
    depth_of_arguments (more_terms e rest) d x = if eqb x 0 then depth_in e d else depth_of_arguments rest d (x - 1)

    pub depth_of : Claim → Depths → ℕ
    depth_of (inside a b) d = 1 + max (depth_in a d) (depth_in b d)
    depth_of (equal a b) d = 1 + max (depth_in a d) (depth_in b d)
    depth_of (within a m b) d = 1 + max (depth_in a d) (depth_in b d)
    depth_of (test q a) d = 1 + depth_in a d
    depth_of (compare op a b) d = 1 + max (depth_in a d) (depth_in b d)
    depth_of (negation f) d = 1 + depth_of f d
    depth_of (every fs) d = depth_of_each fs d
    depth_of (connect op f g) d = in_row (level_of (connect op f g)) (level_of f) (depth_of f d) (depth_of g d)
    depth_of (choose_claim f g h) d = 1 + max (depth_of f d) (max (depth_of g d) (depth_of h d))
    depth_of (for_all vs f) d = 1 + depth_under vs d (λ inner. depth_of f inner)
    depth_of (counted q vs f) d = 1 + depth_under vs d (λ inner. depth_of f inner)
    depth_of (temporal op f) d = 1 + depth_of f d
    depth_of (temporal_pair op f g) d = in_row (level_of (temporal_pair op f g)) (level_of f) (depth_of f d) (depth_of g d)
    depth_of (let_claim x e f) d = 1 + max (depth_in e d) (depth_of f (with_depth d x (depth_in e d)))
    depth_of (call_claim body es) d = 1 + bodies body (depth_of_arguments es d)

    -- a conjunction of nothing has no parts
    pub depth_of_each : Claims → Depths → ℕ
    depth_of_each no_claims d = 0
    depth_of_each (more_claims f rest) d = max (1 + depth_of f d) (depth_of_each rest d)

-- how deep a body is
abbrev pub depth_of_form : BodyDepths → BodyForm → Depths → ℕ
depth_of_form bodies (Test f) d = depth_of bodies (claim_of f) d
depth_of_form bodies (Value e bound) d = depth_in bodies (term_of e) d

abbrev pub depth_of_body : BodyDepths → Option Body → Depths → ℕ
depth_of_body bodies None d = 0
depth_of_body bodies (Some body) d = depth_of_form bodies body.form d

-- how deep the bodies are where calls nest at most this deep
abbrev pub depths_within : List Body → ℕ → BodyDepths
depths_within list zero = λ body d. 0
depths_within list (suc n) = λ body d. depth_of_body (depths_within list n) (slice_get list body) d

-- how deep the bodies are: no body calls itself, so calls nest no deeper than there are bodies
abbrev pub inlined_depths : List Body → BodyDepths
inlined_depths list = depths_within list (length list)
