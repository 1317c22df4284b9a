-- What is left of a text that is read line by line.
use Rattle.std.specs.Prelude.{ℕ, List}

-- the bytes that are left, and how many lines were taken before them
pub record Unread : Type 0 where
  pub bytes : List ℕ
  pub lines : ℕ
