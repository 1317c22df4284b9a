-- What quantifiers over several variables are written out as, with one variable at a time.
use Rattle.std.specs.Prelude.{ℕ, suc, Bool, true, false, nat_lt, ◌&&◌, if◌then◌else◌, List, [], ◌∷◌, take, length}
use Rattle.core_tree.specs.declared.operators.Quantity.{Quantity}
use Rattle.core_tree.specs.declared.operators.Quantity.TheVariants.{Some, No, One, Lone}
use Rattle.core_tree.specs.declared.operators.RelationOp.TheVariants.{Difference}
use Rattle.core_tree.specs.Trees.{Term, Claim, Binder, name, combine, comprehension, test, negation, for_all, variable_list}
use Rattle.form_kernel.specs.Operators.{both}

-- an expression without the atoms of some variables
abbrev pub without : Term → List ℕ → Term
without e [] = e
without e (x ∷ xs) = without (combine Difference e (name x)) xs

-- each variable by itself: where its atom differs from those of variables before it, its bound is without these.
-- `before` has their names, the latest first
abbrev pub alone : List ℕ → List Binder → List Binder
alone before [] = []
alone before (v ∷ vs) = record { name = v.name; apart = 0; bound = without v.bound (take v.apart before) } ∷ alone (v.name ∷ before) vs

-- no name stands twice: each is above the one before, the first not below `least`
abbrev pub is_rising : ℕ → List Binder → Bool
is_rising least [] = true
is_rising least (v ∷ vs) = if nat_lt v.name least then false else is_rising (suc v.name) vs

-- `all` with one of the variables after another
abbrev pub one_by_one : List Binder → Claim → Claim
one_by_one [] f = f
one_by_one (v ∷ vs) f = for_all (variable_list (v ∷ [])) (one_by_one vs f)

-- the formula holds for all values of the variables. Variables of which two may have one name stay together
abbrev pub under : List Binder → Claim → Claim
under vs f = if is_rising 0 vs then one_by_one (alone [] vs) f else for_all (variable_list vs) f

-- at most one choice of values has the property
abbrev pub lone_values : List Binder → Claim → Claim
lone_values vs f = test Lone (comprehension (variable_list vs) f)

-- more variables than a relation has columns
abbrev pub are_many : List Binder → Bool
are_many vs = nat_lt 9 (length vs)

-- the same for variables each by itself: of many, for at most one value of the first there are values of the others, and
-- at each value of the first at most one choice of values of the others
abbrev pub lone_by_one : List Binder → Claim → Claim
lone_by_one [] f = lone_values [] f
lone_by_one (v ∷ vs) f = if are_many (v ∷ vs) then both (lone_values (v ∷ []) (negation (one_by_one vs (negation f)))) (for_all (variable_list (v ∷ [])) (lone_by_one vs f)) else lone_values (v ∷ vs) f

abbrev pub are_many_rising : List Binder → Bool
are_many_rising vs = are_many vs && is_rising 0 vs

abbrev pub lone_under : List Binder → Claim → Claim
lone_under vs f = if are_many_rising vs then lone_by_one (alone [] vs) f else lone_values vs f

abbrev pub one_under : List Binder → Claim → Claim
one_under vs f = if are_many_rising vs then both (negation (under vs (negation f))) (lone_by_one (alone [] vs) f) else negation (negation (test One (comprehension (variable_list vs) f)))

-- the quantifiers other than `all`
abbrev pub counting : Quantity → List Binder → Claim → Claim
counting Some vs f = negation (under vs (negation f))
counting No vs f = under vs (negation f)
counting One vs f = one_under vs f
counting Lone vs f = lone_under vs f
