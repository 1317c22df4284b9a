use Rattle.std.proofs.Common.{ℕ, List, drop}
use Rattle.syntax_tree.specs.declared.instance.Instance.{Instance}
use Rattle.syntax_tree.specs.declared.instance.Text.{Text}
use Rattle.load_state.specs.Doors.{StandsAt}
use Rattle.load_state.specs.Named.{IsBehind}
use Rattle.load_state.proofs.Through.{IsOnTheWay}
use Rattle.load_state.proofs.argument.through.Given as goal

abbrev pub invariant-loop-alias : goal.invariant-loop-alias
invariant-loop-alias l = (instances : List Instance) (texts : List Text) (k : ℕ) → StandsAt instances texts k l.opener →
    IsOnTheWay instances texts l.opener.finished.now l.among (drop l.alias-index l.rest) (IsBehind instances texts l.opener.number k l.first l.rest)
