-- Renamings that keep the sigs of a model, and what such renamings keep: declarations, scopes, and what is satisfied.
use Rattle.std.specs.Prelude.{◌≡◌, ◌↔◌, ℕ, ◌+◌, ◌-◌, ◌<◌, ◌≤◌, true, List, Some, slice_get}
use Rattle.core_tree.specs.declared.model.Model.{Model}
use Rattle.core_tree.specs.declared.model.Sig.{Sig}
use Rattle.core_tree.specs.declared.model.Fact.{Fact}
use Rattle.core_tree.specs.Models.{IsModel}
use Rattle.core_tree.specs.Trees.{Claim}
use Rattle.core_tree.specs.Columns.{or_zero}
use Rattle.core_meaning.specs.declared.scopes.SigScope.{SigScope}
use Rattle.core_meaning.specs.declared.scopes.Scopes.{Scopes}
use Rattle.core_meaning.specs.Sequence.{LassoValue}
use Rattle.core_meaning.specs.Kept.{Keeps, IsAtomOf, IsLiteral, first_atom}
use Rattle.core_meaning.specs.Satisfied.{DeclaresAt, SatisfiesWith}
use Rattle.core_laws.specs.Typed.{ExtendsPlain, AreScopesOf}
use Rattle.core_renaming.specs.Renamings.{Renaming, KeepsIntegers, ShowsRenamed}

-- an atom of a top-level sig, of which the scopes say this
abbrev pub IsTopSigAtom : List SigScope → ℕ → SigScope → ℕ → Type 0
IsTopSigAtom numbers s e a = (first_atom numbers s ≤ a) × (a < first_atom numbers s + or_zero e.number)

-- the atom of a literal's sig, which has this number, under its parent
abbrev pub literal_atom : Scopes → ℕ → ℕ → ℕ
literal_atom scopes s p = first_atom scopes.numbers p + (s - p - 1)

-- The atoms of each top-level sig change places among themselves. Integers stay as they are, and so does the atom of each literal
-- that is one of the top-level sig above the literal's sig.
pub record KeepsSigs (model : Model) (scopes : Scopes) (r : Renaming) : Type 0 where
  pub sigs : (s : ℕ) (e : SigScope) → slice_get scopes.numbers s ≡ Some e → e.top ≡ true → (a : ℕ) → IsTopSigAtom scopes.numbers s e a ↔ IsTopSigAtom scopes.numbers s e (r.to a)
  pub integers : KeepsIntegers scopes r
  pub literals : (s : ℕ) (d : Sig) (p : ℕ) → slice_get model.sigs s ≡ Some d → IsLiteral model scopes d p → IsAtomOf model scopes s (literal_atom scopes s p) → r.to (literal_atom scopes s p) ≡ literal_atom scopes s p

-- The declarations of a model hold at a position of a lasso exactly where they hold there in the renamed one.
abbrev pub DeclarationsKeepTruth : Type 0
DeclarationsKeepTruth =
    (model : Model) (scopes : Scopes) (r : Renaming) (one two : LassoValue) → KeepsIntegers scopes r → ShowsRenamed scopes r one two →
    (i : ℕ) → DeclaresAt model scopes one i ↔ DeclaresAt model scopes two i

-- what is asked of a model and its scopes
pub record IsWellFormed (model : Model) (scopes : Scopes) : Type 0 where
  pub kept : IsModel model
  pub plain : ExtendsPlain model.sigs
  pub rightly : AreScopesOf model scopes

-- A lasso keeps the scopes of a model exactly where the renamed one does.
abbrev pub ScopesAreKept : Type 0
ScopesAreKept =
    (model : Model) (scopes : Scopes) (r : Renaming) (one two : LassoValue) → IsWellFormed model scopes → KeepsSigs model scopes r → ShowsRenamed scopes r one two →
    Keeps model scopes one ↔ Keeps model scopes two

-- A lasso satisfies a model with some facts, and a command's formula, exactly where the renamed one does.
abbrev pub SatisfactionIsKept : Type 0
SatisfactionIsKept =
    (model : Model) (scopes : Scopes) (r : Renaming) (one two : LassoValue) → IsWellFormed model scopes → KeepsSigs model scopes r → ShowsRenamed scopes r one two →
    (facts : List Fact) (command : Claim) → SatisfiesWith model scopes one facts command ↔ SatisfiesWith model scopes two facts command
