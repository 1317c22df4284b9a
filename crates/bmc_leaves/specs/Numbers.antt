-- Which lassos keep the numbers of the scopes.
use Rattle.std.specs.Prelude.{◌≡◌, ℕ, List, Some, slice_get}
use Rattle.core_meaning.specs.declared.scopes.SigScope.{SigScope}
use Rattle.core_meaning.specs.World.{World}
use Rattle.core_meaning.specs.Kept.{KeepsNumber}

-- each sig keeps its number
abbrev pub KeepsAll : List SigScope → World → Type 0
KeepsAll numbers w = (s : ℕ) (scope : SigScope) → slice_get numbers s ≡ Some scope → KeepsNumber w s scope
