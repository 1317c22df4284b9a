-- The tokens that spell a part, where there is one.
use Rattle.std.specs.Prelude.{[], Option, Some, None}
use Rattle.syntax_tree.specs.Words.{Spelled}

abbrev pub words_of : {A : Type 0} → (A → Spelled) → Option A → Spelled
words_of words None = []
words_of words (Some part) = words part
