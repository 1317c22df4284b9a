-- In environments renamed alike names stand for the same, renamed.
use Rattle.std.proofs.Common.{◌≡◌, ℕ, subst}
use Rattle.core_tree.specs.Trees.{Term, term_of}
use Rattle.core_meaning.specs.declared.scope.Environment.{Environment}
use Rattle.core_meaning.specs.declared.scope.Environment.TheVariants.{Empty, Atom', Written'}
use Rattle.core_meaning.specs.declared.scopes.Scopes.{Scopes}
use Rattle.core_meaning.specs.Sequence.{LassoValue}
use Rattle.core_meaning.specs.Operators.{Tuples}
use Rattle.core_meaning.specs.Meaning.{Names, Bodies, with_name, atom, InTerm}
use Rattle.core_meaning.specs.Called.{bodies_of, names_of}
use Rattle.core_meaning.specs.Kept.{world_of}
use Rattle.core_renaming.specs.Renamings.{Renaming, KeepsIntegers, ShowsRenamed}
use Rattle.core_renaming.specs.Environments.{AreRenamedAlike, FormulasKeepTruthIn, TermsKeepTuplesIn}
use Rattle.core_renaming.proofs.Moves.{Moved, alike, atom_moved}
use Rattle.core_renaming.proofs.Meanings.{MovedNames, MovedBodies, more_moved, no_names_moved, term_moved, holds_moved, bodies_moved}

module _ (scopes : Scopes) (r : Renaming) (one two : LassoValue) (stay : KeepsIntegers scopes r) (shows : ShowsRenamed scopes r one two) (first second : Bodies) (bodies : MovedBodies scopes r one two stay shows first second) where
  abbrev Goes : Names → Names → Type 0
  Goes m n = MovedNames scopes r one two stay shows m n

  written : (e d : Term) → e ≡ d → (m n : Names) → Goes m n → (i : ℕ) → Moved r (InTerm (world_of scopes one) first e m i) (InTerm (world_of scopes two) second d n i)
  written e d same m n names i =
      subst (λ c. Moved r (InTerm (world_of scopes one) first e m i) (InTerm (world_of scopes two) second c n i)) same (term_moved scopes r one two stay shows first second bodies e m n names i)

  named : (m n : Names) (x y : ℕ) → x ≡ y → (A B : ℕ → Tuples) → Goes m n → ((i : ℕ) → Moved r (A i) (B i)) → Goes (with_name m x A) (with_name n y B)
  named m n x y same A B names own = subst (λ z. Goes (with_name m x A) (with_name n z B)) same (more_moved scopes r one two stay shows m n x A B names own)

  an_atom : (a b : ℕ) → r.to a ≡ b → (i : ℕ) → Moved r (atom a i) (atom b i)
  an_atom a b same i = subst (λ c. Moved r (atom a i) (atom c i)) same (atom_moved r a i)

  pub alike_names : (f s : Environment) → AreRenamedAlike r f s → Goes (names_of (world_of scopes one) first f) (names_of (world_of scopes two) second s)
  alike_names Empty Empty same = no_names_moved scopes r one two stay shows
  alike_names (Atom' x a p rest) (Atom' y b q others) same =
      named (names_of (world_of scopes one) first rest) (names_of (world_of scopes two) second others) x y same.0 (atom a) (atom b) (alike_names rest others same.2) (an_atom a b same.1)
  alike_names (Written' x e p outer q rest) (Written' y d o inner s others) same =
      named (names_of (world_of scopes one) first rest) (names_of (world_of scopes two) second others) x y same.0
      (λ i. InTerm (world_of scopes one) first (term_of e.now) (names_of (world_of scopes one) first outer) i) (λ i. InTerm (world_of scopes two) second (term_of d.now) (names_of (world_of scopes two) second inner) i)
      (alike_names rest others same.3)
      (written (term_of e.now) (term_of d.now) same.1 (names_of (world_of scopes one) first outer) (names_of (world_of scopes two) second inner) (alike_names outer inner same.2))
  alike_names Empty (Atom' y b q others) same = elim same [ ]
  alike_names Empty (Written' y d o inner s others) same = elim same [ ]
  alike_names (Atom' x a p rest) Empty same = elim same [ ]
  alike_names (Atom' x a p rest) (Written' y d o inner s others) same = elim same [ ]
  alike_names (Written' x e p outer q rest) Empty same = elim same [ ]
  alike_names (Written' x e p outer q rest) (Atom' y b z others) same = elim same [ ]

pub formulas_kept_in : FormulasKeepTruthIn
formulas_kept_in scopes r one two stay shows list f first second same i =
    holds_moved scopes r one two stay shows (bodies_of (world_of scopes one) list) (bodies_of (world_of scopes two) list) (bodies_moved scopes r one two stay shows list) f
    (names_of (world_of scopes one) (bodies_of (world_of scopes one) list) first) (names_of (world_of scopes two) (bodies_of (world_of scopes two) list) second)
    (alike_names scopes r one two stay shows (bodies_of (world_of scopes one) list) (bodies_of (world_of scopes two) list) (bodies_moved scopes r one two stay shows list) first second same) i

pub terms_kept_in : TermsKeepTuplesIn
terms_kept_in scopes r one two stay shows list e first second same i =
    alike (term_moved scopes r one two stay shows (bodies_of (world_of scopes one) list) (bodies_of (world_of scopes two) list) (bodies_moved scopes r one two stay shows list) e
    (names_of (world_of scopes one) (bodies_of (world_of scopes one) list) first) (names_of (world_of scopes two) (bodies_of (world_of scopes two) list) second)
    (alike_names scopes r one two stay shows (bodies_of (world_of scopes one) list) (bodies_of (world_of scopes two) list) (bodies_moved scopes r one two stay shows list) first second same) i)
