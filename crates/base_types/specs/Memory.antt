-- What contracts see of a library and of a sink in memory.
use Rattle.std.specs.Prelude.{ℕ, ◌+◌, ◌-◌, ◌/◌, ◌^◌, min, Bool, cond, ◌||◌, ltb, nat_eq, List, [], ◌∷◌, ◌++◌, length, take, Vec, String, string_bytes}
use Rattle.std.specs.List.{list_any}
use Rattle.std.specs.declared.alloc.Global.{Global}
use Rattle.base_types.specs.Texts.{Texts}

-- a library: its texts, the numbers of the calls that fail, the calls so far and the failures so far
pub record Shelf : Type 0 where
  pub texts : Texts
  pub failing : List ℕ
  pub calls : ℕ
  pub faults : ℕ

-- names and texts of files
abbrev pub texts_of : List (String Global × Vec ℕ Global) → Texts
texts_of [] = []
texts_of (file ∷ files) = (string_bytes file.0, file.1.items) ∷ texts_of files

-- the list names this call
abbrev pub names_call : List ℕ → ℕ → Bool
names_call failing call = list_any (λ n. nat_eq n call) failing

-- one more, up to the last value
abbrev pub next_count : ℕ → ℕ
next_count n = min (n + 1) (2 ^ 64 - 1)

-- the next fetch is one that was named to fail
abbrev pub fetch_fails : Shelf → Bool
fetch_fails shelf = names_call shelf.failing (next_count shelf.calls)

-- the library after a fetch
abbrev pub after_fetch : Shelf → Shelf
after_fetch shelf = record {
  texts = shelf.texts;
  failing = shelf.failing;
  calls = next_count shelf.calls;
  faults = cond (fetch_fails shelf) (next_count shelf.faults) shelf.faults;
}

-- a sink: its bytes and its room, the numbers of the calls that fail, the calls so far and the failures so far
pub record Tape : Type 0 where
  pub got : List ℕ
  pub room : ℕ
  pub failing : List ℕ
  pub calls : ℕ
  pub faults : ℕ

-- how much of a piece of n bytes the next call means to take
abbrev pub part_of : Tape → ℕ → ℕ
part_of tape n = cond (names_call tape.failing (next_count tape.calls)) (n / 2) n

-- how much it takes
abbrev pub taken_of : Tape → ℕ → ℕ
taken_of tape n = min (part_of tape n) (tape.room - length tape.got)

-- the next write is one that was named to fail, or goes past the room
abbrev pub write_fails : Tape → List ℕ → Bool
write_fails tape piece = names_call tape.failing (next_count tape.calls) || ltb (taken_of tape (length piece)) (part_of tape (length piece))

-- the sink after a write
abbrev pub after_write : Tape → List ℕ → Tape
after_write tape piece = record {
  got = tape.got ++ take (taken_of tape (length piece)) piece;
  room = tape.room;
  failing = tape.failing;
  calls = next_count tape.calls;
  faults = cond (write_fails tape piece) (next_count tape.faults) tape.faults;
}
