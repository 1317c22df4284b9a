-- What it is for a predicate to run with atoms and relations for its parameters, in the words of the language.
use Rattle.std.specs.Prelude.{◌↔◌, ℕ, suc, ◌+◌, ◌-◌, eqb, List, [], ◌∷◌, take, length, Option, Some, None, ⊤}
use Rattle.core_tree.specs.declared.model.Body.{Body}
use Rattle.core_tree.specs.declared.model.Parameter.{Parameter}
use Rattle.core_tree.specs.Trees.{term_of}
use Rattle.core_meaning.specs.World.{World, InRelation}
use Rattle.core_meaning.specs.Operators.{Tuples, IsInside, HasSome, HasMultiplicity}
use Rattle.core_meaning.specs.Meaning.{Names, Bodies, no_names, one_of, with_name, atom, IsApart, InTerm, Fits, Holds}
use Rattle.core_meaning.specs.Called.{called}
use Rattle.form_skolem.specs.Claims.{run_claim}

-- the relation that a field has at a position
abbrev pub relation : World → ℕ → ℕ → Tuples
relation w f i t = InRelation w (length w.top + f) i t

-- two sets share no tuple
abbrev pub ShareNone : Tuples → Tuples → Type 0
ShareNone A B = ¬ HasSome (λ t. A t × B t)

-- a field's relation shares no tuple at position 0 with those of some parameters
abbrev pub SharesNone : World → ℕ → List (Option ℕ) → Type 0
SharesNone w f [] = ⊤
SharesNone w f (None ∷ gs) = SharesNone w f gs
SharesNone w f (Some g ∷ gs) = ShareNone (relation w g 0) (relation w f 0) × SharesNone w f gs

-- What the parameters of the body stand for, from number k on: the relations of their fields, or what their names stand for.
abbrev pub given : World → ℕ → List (Option ℕ) → Names → Names
given w k [] names x i t = ⊥
given w k (None ∷ fs) names x i t = one_of (eqb x 0) (names k i) (given w (suc k) fs names (x - 1) i) t
given w k (Some f ∷ fs) names x i t = one_of (eqb x 0) (relation w f i) (given w (suc k) fs names (x - 1) i) t

module _ (w : World) (bodies : Bodies) where
  -- a relation lies in a parameter's bound at position 0, with the bound's multiplicities
  pub record LiesIn (p : Parameter) (names : Names) (R : Tuples) : Type 0 where
    pub inside : IsInside R (InTerm w bodies (term_of p.bound.expr) names 0)
    pub multiplicity : HasMultiplicity p.bound.multiplicity R
    pub arrows : Fits w bodies (term_of p.bound.expr) names 0 R

  -- an atom lies in a parameter's bound at position 0, and differs from those before it in its `disj` list
  pub record IsAtomFor (p : Parameter) (names : Names) (earlier : List ℕ) (a : ℕ) : Type 0 where
    pub inside : InTerm w bodies (term_of p.bound.expr) names 0 (a ∷ [])
    pub apart : IsApart p.apart a earlier

  module _ (body : ℕ) (all : List (Option ℕ)) where
    -- The parameters from number k on stand for atoms and relations for which the body holds at position 0. There is an atom for an
    -- atom parameter: not each lets the rest fail. A parameter with a field stands for the relation of that field at each position.
    -- `fields` has the fields of the parameters before, and `atoms` the atoms of those before since the last relation, the latest first.
    abbrev pub RunsFrom : ℕ → List Parameter → List (Option ℕ) → List (Option ℕ) → List ℕ → Names → Type 0
    RunsFrom k [] fs fields atoms names = bodies.claim body (given w 0 all names) 0
    RunsFrom k (p ∷ ps) [] fields atoms names = bodies.claim body (given w 0 all names) 0
    RunsFrom k (p ∷ ps) (None ∷ fs) fields atoms names =
        ¬ ((a : ℕ) → IsAtomFor p names atoms a → ¬ RunsFrom (suc k) ps fs (None ∷ fields) (a ∷ atoms) (with_name names k (atom a)))
    RunsFrom k (p ∷ ps) (Some f ∷ fs) fields atoms names =
        LiesIn p names (relation w f 0) × SharesNone w f (take p.apart fields)
        × RunsFrom (suc k) ps fs (Some f ∷ fields) [] (with_name names k (relation w f))

  -- a predicate runs with these parameters, of which those with fields stand for relations
  abbrev pub Runs : ℕ → List Parameter → List (Option ℕ) → Type 0
  Runs body ps fs = RunsFrom body fs 0 ps fs [] [] no_names

-- What a command asks holds just where its predicate runs, whatever the bodies of the model are and however deep calls may nest.
abbrev pub AsksForRun : Type 0
AsksForRun = (w : World) (list : List Body) (depth body : ℕ) (ps : List Parameter) (fs : List (Option ℕ)) →
    Holds w (called w list depth) (run_claim body ps fs) no_names 0 ↔ Runs w (called w list depth) body ps fs
