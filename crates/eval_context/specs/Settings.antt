-- What formulas are judged in, and what a name is found to stand for.
use Rattle.std.specs.Prelude.{◌≡◌, ◌↔◌, ℕ, ◌+◌, ◌^◌, ◌≤◌, List, [], ◌∷◌}
use Rattle.core_tree.specs.declared.model.Model.{Model}
use Rattle.core_tree.specs.Trees.{term_of}
use Rattle.core_meaning.specs.declared.scopes.Scopes.{Scopes}
use Rattle.core_meaning.specs.Sequence.{LassoValue}
use Rattle.core_meaning.specs.World.{World, IsTop, InRelation}
use Rattle.core_meaning.specs.Kept.{world_of, atom_count}
use Rattle.core_meaning.specs.Meaning.{Bodies, InTerm}
use Rattle.core_meaning.specs.Called.{names_of}
use Rattle.eval_context.specs.declared.names.Meant.{Meant}
use Rattle.eval_context.specs.declared.names.Meant.TheVariants.{Atom, Written, Unknown}

-- a model, its scopes, a lasso, and how deep past operators nest at most
pub record SettingValue : Type 0 where
  pub model : Model
  pub scopes : Scopes
  pub lasso : LassoValue
  pub depth : ℕ

-- the world of a setting
abbrev pub world : SettingValue → World
world s = world_of s.scopes s.lasso

-- past operators nest at most eight deep, there is some integer but zero, and the universe has at
-- most 16,384 numbers
pub record IsSetting (s : SettingValue) : Type 0 where
  pub few : s.depth ≤ 8
  pub least : 1 ≤ s.scopes.bits
  pub room : atom_count s.scopes.numbers + 2 ^ s.scopes.bits ≤ 16384

-- what a name was found to stand for is what it stands for at a position
abbrev pub Stands : World → Bodies → Meant → (ℕ → List ℕ → Type 0) → ℕ → List ℕ → Type 0
Stands w bodies (Atom a) means i t = means i t ↔ (t ≡ a ∷ [])
Stands w bodies (Written e outer) means i t = means i t ↔ InTerm w bodies (term_of e.now) (names_of w bodies outer.now) i t
Stands w bodies Unknown means i t = ¬ means i t

-- the single number t is a member of a top-level sig at a position
abbrev pub IsOfTop : World → ℕ → ℕ → List ℕ → Type 0
IsOfTop w i s t = (a : ℕ) × IsTop w s × InRelation w s i (a ∷ []) × (t ≡ a ∷ [])
