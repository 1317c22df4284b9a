use Rattle.std.proofs.Common.{◌≡◌, ◌++◌, length, string_bytes, IsUtf8}
use Rattle.load_state.specs.Names.{folder_of}
use Rattle.load_state.proofs.names.folder_of.Given as goal

abbrev pub invariant-loop-front : goal.invariant-loop-front
invariant-loop-front l = (folder_of l.fn.name ≡ string_bytes l.folder ++ folder_of l.rest) × IsUtf8 l.rest

abbrev pub decreases-loop-front : goal.decreases-loop-front
decreases-loop-front l = length l.rest
