-- Numbers outside the bitwidth among what is mentioned, and how what is mentioned grows.
use Rattle.std.specs.Prelude.{◌≡◌, ◌⊎◌, ℕ, Bool, true, false, List, [], ◌++◌, length, get_or, Contains, Some, slice_get}
use Rattle.core_tree.specs.declared.model.Origin.{Origin}
use Rattle.core_tree.specs.declared.model.Body.{Body}
use Rattle.bound_definitions.specs.declared.mention.Mention.{Mention}
use Rattle.bound_definitions.specs.declared.mention.Mention.TheVariants as mention
use Rattle.bound_definitions.specs.Mentions.{mentions_of_body}
use Rattle.bound_definitions.specs.Places.{place_if}
use Rattle.bound_definitions.specs.Trees.{is_outside}

-- the place of a number outside -half to half - 1
abbrev pub wide_places : ℕ → Mention → List Origin
wide_places half (mention.Number n at) = place_if (is_outside half n) at
wide_places half (mention.Call b) = []

-- a call is followed: what the body mentions is added, unless the body is marked as one that was followed
pub record IsFollowed (bodies : List Body) (m : Mention) (old new : List Mention) (marks now : List Bool) : Type 0 where
  pub more : List Mention
  pub adds : new ≡ old ++ more
  pub sound : (x : Mention) → Contains more x → (b : ℕ) × (body : Body) × (m ≡ mention.Call b) × (slice_get bodies b ≡ Some body) × Contains (mentions_of_body body) x
  pub count : length now ≡ length marks
  pub kept : (b : ℕ) → get_or marks b false ≡ true → get_or now b false ≡ true
  pub marked : (b : ℕ) (body : Body) → m ≡ mention.Call b → slice_get bodies b ≡ Some body → get_or now b false ≡ true
  pub said : (b : ℕ) (body : Body) → get_or now b false ≡ true → slice_get bodies b ≡ Some body →
      (get_or marks b false ≡ true) ⊎ ((x : Mention) → Contains (mentions_of_body body) x → Contains new x)
