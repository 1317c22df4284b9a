-- What a command asks of the fields that stand for relation parameters of its predicate.
use Rattle.std.specs.Prelude.{ℕ, suc, List, [], ◌∷◌, ◌++◌, take, Option, Some, None}
use Rattle.core_tree.specs.declared.model.Parameter.{Parameter}
use Rattle.core_tree.specs.declared.operators.Quantity.TheVariants.{Some as SomeOf, No as NoneOf}
use Rattle.core_tree.specs.declared.operators.RelationOp.TheVariants.{Intersection}
use Rattle.core_tree.specs.Trees.{Term, Claim, Binder, field, name, combine, within, test, every, counted, let_claim, call_claim, term_of, term_list, claim_list, variable_list}

-- What a parameter is called with: its field, or its own name. A parameter's name is its number.
abbrev pub argument : ℕ → Option ℕ → Term
argument k None = name k
argument k (Some f) = field f

-- the arguments for the parameters from number k on
abbrev pub arguments : ℕ → List (Option ℕ) → List Term
arguments k [] = []
arguments k (f ∷ fs) = argument k f ∷ arguments (suc k) fs

-- a parameter that stands for an atom, as a variable
abbrev pub binder : ℕ → Parameter → Binder
binder k p = record { name = k; apart = p.apart; bound = term_of p.bound.expr }

-- there are atoms for variables, if any, for which something holds
abbrev pub some_of : List Binder → Claim → Claim
some_of [] claim = claim
some_of (v ∷ vs) claim = counted SomeOf (variable_list (v ∷ vs)) claim

-- a field lies in the bound of its parameter, with the bound's multiplicities
abbrev pub lies_in : ℕ → Parameter → Claim
lies_in f p = within (field f) p.bound.multiplicity (term_of p.bound.expr)

-- two fields share no tuple
abbrev pub are_apart : ℕ → ℕ → Claim
are_apart g f = test NoneOf (combine Intersection (field g) (field f))

-- a field shares no tuple with those of some parameters
abbrev pub apart_from : ℕ → List (Option ℕ) → List Claim
apart_from f [] = []
apart_from f (None ∷ gs) = apart_from f gs
apart_from f (Some g ∷ gs) = are_apart g f ∷ apart_from f gs

-- what is asked of parameter k's field, and of what follows, in which its name stands for the field
abbrev pub field_claim : ℕ → ℕ → Parameter → List (Option ℕ) → Claim → Claim
field_claim k f p earlier rest = every (claim_list (lies_in f p ∷ (apart_from f (take p.apart earlier) ++ let_claim k (field f) rest ∷ [])))

module _ (body : ℕ) (all : List (Option ℕ)) where
  -- the body of the predicate, called with all its parameters
  abbrev pub call : Claim
  call = call_claim body (term_list (arguments 0 all))

  -- The parameters from number k on, with a field for each that stands for a relation. `earlier` has the fields of those before
  -- it, the latest first, and `picked` the atom parameters just before it, which are picked together with those that follow them.
  abbrev pub claim_from : ℕ → List Parameter → List (Option ℕ) → List (Option ℕ) → List Binder → Claim
  claim_from k [] fs earlier picked = some_of picked call
  claim_from k (p ∷ ps) [] earlier picked = some_of picked call
  claim_from k (p ∷ ps) (None ∷ fs) earlier picked = claim_from (suc k) ps fs (None ∷ earlier) (picked ++ binder k p ∷ [])
  claim_from k (p ∷ ps) (Some f ∷ fs) earlier picked =
      some_of picked (field_claim k f p earlier (claim_from (suc k) ps fs (Some f ∷ earlier) []))

-- what a command asks that runs the predicate of this number with these parameters and fields
abbrev pub run_claim : ℕ → List Parameter → List (Option ℕ) → Claim
run_claim body ps fs = claim_from body fs 0 ps fs [] []
