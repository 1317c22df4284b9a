use Rattle.std.proofs.Common.{◌≡◌, take}
use Rattle.syntax_tree.specs.Spelling.{kinds}
use Rattle.syntax_completion.proofs.copy.copied.Given as goal

abbrev pub invariant-loop-token : goal.invariant-loop-token
invariant-loop-token l = kinds l.copy ≡ kinds (take l.token-index l.tokens)
