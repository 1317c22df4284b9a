-- The numbers of atoms that sigs have, and what targets are satisfied by, stay under a renaming.
use Rattle.std.proofs.Common.{ℕ, [], ◌∷◌, map, get_or, Option, Some, None, IfSome, sym, ap, ◌∙◌, subst}
use Rattle.std.proofs.lemmas.List.{length-map}
use Rattle.core_tree.specs.Trees.{claim_of}
use Rattle.core_meaning.specs.declared.scopes.Scopes.{Scopes}
use Rattle.core_meaning.specs.declared.target.Target.{Target}
use Rattle.core_meaning.specs.Sequence.{LassoValue}
use Rattle.core_meaning.specs.Meaning.{no_names}
use Rattle.core_meaning.specs.Called.{no_bodies}
use Rattle.core_meaning.specs.Kept.{world_of, IsEverIn, IsWithin, KeepsNumbers}
use Rattle.core_meaning.specs.Satisfied.{SatisfiesTarget}
use Rattle.core_renaming.specs.Renamings.{Renaming, inverse, KeepsIntegers, ShowsRenamed}
use Rattle.core_renaming.specs.Targets.{TargetsKeepTruth}
use Rattle.core_renaming.proofs.Moves.{alike, turn}
use Rattle.core_renaming.proofs.Numbers.{list_to}
use Rattle.core_renaming.proofs.Meanings.{relation_moved, no_names_moved, holds_moved, bodies_moved}

pub some_to : {X : Type 0} {P Q : X → Type 0} (o : Option X) → ((x : X) → P x → Q x) → IfSome o P → IfSome o Q
some_to None f h = tt
some_to (Some x) f h = f x h

pub inverse_integers : (scopes : Scopes) (r : Renaming) → KeepsIntegers scopes r → KeepsIntegers scopes (inverse r)
inverse_integers scopes r stay a high = sym (ap r.from (stay a high)) ∙ r.from_to a

pub inverse_shows : (scopes : Scopes) (r : Renaming) (one two : LassoValue) → KeepsIntegers scopes r → ShowsRenamed scopes r one two → ShowsRenamed scopes (inverse r) two one
inverse_shows scopes r one two stay shows relation i = alike (turn (relation_moved scopes r one two stay shows relation i))

module _ (scopes : Scopes) (r : Renaming) (one two : LassoValue) (stay : KeepsIntegers scopes r) (shows : ShowsRenamed scopes r one two) where
  ever_to : (s a : ℕ) → IsEverIn (world_of scopes one) s a → IsEverIn (world_of scopes two) s (r.to a)
  ever_to s a (i, has) = (i, (relation_moved scopes r one two stay shows s i).to (a ∷ []) has)

  ever_from : (s a : ℕ) → IsEverIn (world_of scopes two) s a → IsEverIn (world_of scopes one) s (r.from a)
  ever_from s a (i, has) = (i, (relation_moved scopes r one two stay shows s i).from (a ∷ []) has)

  pub numbers_to : KeepsNumbers scopes one → KeepsNumbers scopes two
  numbers_to keeps s scope get = some_to scope.number (λ n (atoms, list, within). (
    map r.to atoms,
    list_to r.to r.from r.to_from r.from_to (ever_to s) (ever_from s) atoms list,
    subst (IsWithin scope.exact n) (sym (length-map atoms r.to)) within,
  )) (keeps s scope get)

target_to : (target : Target) (r : Renaming) (one two : LassoValue) → KeepsIntegers target.scopes r → ShowsRenamed target.scopes r one two → SatisfiesTarget target one → SatisfiesTarget target two
target_to target r one two stay shows h = record {
  numbers = numbers_to target.scopes r one two stay shows h.numbers;
  formulas = λ k d lt. (holds_moved target.scopes r one two stay shows no_bodies no_bodies (bodies_moved target.scopes r one two stay shows []) (claim_of (get_or target.formulas k d)) no_names no_names (no_names_moved target.scopes r one two stay shows) 0).0 (h.formulas k d lt);
}

pub targets_kept : TargetsKeepTruth
targets_kept target r one two stay shows = (
  target_to target r one two stay shows,
  target_to target (inverse r) two one (inverse_integers target.scopes r stay) (inverse_shows target.scopes r one two stay shows),
)
