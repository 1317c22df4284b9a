-- Where the roots of predicates and functions stand.
use Rattle.std.specs.Prelude.{◌≡◌, ℕ, List}
use Rattle.resolve_names.specs.declared.table.Namespace.{Namespace}
use Rattle.resolve_read.specs.declared.types.Ground.TheVariants as stands
use Rattle.resolve_read.specs.declared.types.Readings.{Readings}
use Rattle.resolve_read.specs.At.{at_of}
use Rattle.resolve_told_sigs.specs.Says.{read_outside}
use Rattle.resolve_told.specs.declared.spots.Spots.{Spots}

-- in instance k, outside of all sigs: in a bound, and inside
pub record AreSpots (scopes : List Namespace) (readings : Readings) (k : ℕ) (s : Spots) : Type 0 where
  pub bounds : at_of s.bounds ≡ read_outside scopes readings k stands.BodyBound
  pub inside : at_of s.inside ≡ read_outside scopes readings k stands.Anywhere
