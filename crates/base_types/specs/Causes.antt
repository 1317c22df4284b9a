-- What stands behind a fault: a count that has risen, or stands at its last value.
use Rattle.std.specs.Prelude.{◌≡◌, ◌≢◌, ◌⊎◌, ℕ, ◌+◌, ◌-◌, ◌^◌, ◌≤◌, min, List, [], ◌∷◌, ◌++◌, take, Option, option_map, Result, Ok, Err, ⊤}
use Rattle.base_types.specs.declared.library.Fetch.{Fetch}
use Rattle.base_types.specs.declared.library.FetchFault.{FetchFault}
use Rattle.base_types.specs.declared.library.FetchFault.TheVariants.{Failed}
use Rattle.base_types.specs.declared.sink.SinkFault.{SinkFault}

-- the count has risen, or stands at its last value
abbrev pub Rose : ℕ → ℕ → Type 0
Rose before now = min (before + 1) (2 ^ 64 - 1) ≤ now

-- the count never falls, rises where a library fails, and stays where it doesn't
pub record FetchCause (before now : ℕ) (result : Result Fetch FetchFault) : Type 0 where
  pub later : before ≤ now
  pub failed : result ≡ Err Failed → Rose before now
  pub other : result ≢ Err Failed → now ≡ before

-- all of the bytes after Ok, some from the front after a fault
abbrev pub Writes : Option (List ℕ) → Option (List ℕ) → Result (Unit {0}) SinkFault → List ℕ → Type 0
Writes old new (Ok done) bytes = new ≡ option_map (λ got. got ++ bytes) old
Writes old new (Err fault) bytes = (n : ℕ) × (new ≡ option_map (λ got. got ++ take n bytes) old)

-- the count never falls, rises where a write fails, and stays where it doesn't
abbrev pub WriteCause : ℕ → ℕ → Result (Unit {0}) SinkFault → Type 0
WriteCause before now (Ok done) = now ≡ before
WriteCause before now (Err fault) = (before ≤ now) × Rose before now

-- no count has fallen
abbrev pub NoneFell : List ℕ → List ℕ → Type 0
NoneFell [] [] = ⊤
NoneFell (before ∷ rest) (now ∷ later) = (before ≤ now) × NoneFell rest later
NoneFell [] (now ∷ later) = ⊥
NoneFell (before ∷ rest) [] = ⊥

-- some count has risen, or stands at its last value
abbrev pub SomeRose : List ℕ → List ℕ → Type 0
SomeRose [] now = ⊥
SomeRose (before ∷ rest) [] = ⊥
SomeRose (before ∷ rest) (now ∷ later) = Rose before now ⊎ SomeRose rest later

-- the same as for one library, of the counts of a list of libraries
pub record ListCause (before now : List ℕ) (result : Result Fetch FetchFault) : Type 0 where
  pub later : NoneFell before now
  pub failed : result ≡ Err Failed → SomeRose before now
  pub other : result ≢ Err Failed → now ≡ before
