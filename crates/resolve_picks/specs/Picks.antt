-- What the names of a text are taken to stand for, by their places.
use Rattle.std.specs.Prelude.{ℕ, ◌+◌, ◌*◌, nat_eq, Option}
use Rattle.std.specs.Map.{lookup}
use Rattle.base_types.specs.declared.place.Position.{Position}
use Rattle.resolve_picks.specs.declared.target.Target.{Target}
use Rattle.resolve_picks.specs.declared.picks.Picks.{Picks}

-- the line and the column of a place in one number; all places are of one text
abbrev pub key_of : Position → ℕ
key_of place = place.line * 4294967296 + place.column

-- what the name at a place is taken to stand for, if anything
abbrev pub picked_in : Picks → Position → Option Target
picked_in picks place = lookup (nat_eq (key_of place)) picks.found.entries
