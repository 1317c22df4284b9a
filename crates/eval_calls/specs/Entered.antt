-- The names that a called body sees.
use Rattle.std.specs.Prelude.{ℕ, ◌+◌}
use Rattle.core_tree.specs.Trees.{Terms, no_terms, more_terms}
use Rattle.core_meaning.specs.World.{World}
use Rattle.core_meaning.specs.Meaning.{Names, Bodies, with_name, InTerm}

-- the parameters from number k on stand for expressions with these outer names; `inner` are the
-- names of the parameters before them
abbrev pub entered : World → Bodies → ℕ → Terms → Names → Names → Names
entered w bodies k no_terms outer inner = inner
entered w bodies k (more_terms e rest) outer inner = entered w bodies (k + 1) rest outer (with_name inner k (λ i. InTerm w bodies e outer i))
