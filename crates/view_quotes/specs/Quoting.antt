-- The bytes that mean something between quotes, and which of them a text has.
use Rattle.std.specs.Prelude.{ℕ, Bool, ◌||◌, ◌==◌, List}
use Rattle.std.specs.List.{filter}

-- a quote, an apostrophe, a backslash, or an angle bracket
abbrev pub is_mark : ℕ → Bool
is_mark byte = (byte == 34) || (byte == 39) || (byte == 92) || (byte == 60) || (byte == 62)

-- the marks of a text, in order
abbrev pub marks : List ℕ → List ℕ
marks text = filter is_mark text

-- a quote, an angle bracket, or an ampersand: what ends a JSON string or a script
abbrev pub is_end : ℕ → Bool
is_end byte = (byte == 34) || (byte == 38) || (byte == 60) || (byte == 62)

-- the ends of a text, in order
abbrev pub ends : List ℕ → List ℕ
ends text = filter is_end text
