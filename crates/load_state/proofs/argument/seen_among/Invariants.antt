use Rattle.std.proofs.Common.{ℕ, ◌<◌, List}
use Rattle.syntax_tree.specs.declared.instance.Instance.{Instance}
use Rattle.syntax_tree.specs.declared.instance.Text.{Text}
use Rattle.load_state.specs.Doors.{StandsAt, TellsOf}
use Rattle.load_state.specs.Named.{IsSeen}
use Rattle.load_state.specs.Sets.{IsIn}
use Rattle.load_state.proofs.argument.seen_among.Given as goal

abbrev pub invariant-loop-place : goal.invariant-loop-place
invariant-loop-place l = (instances : List Instance) (texts : List Text) (k : ℕ) → StandsAt instances texts k l.opener →
    TellsOf (IsSeen instances texts (λ n. IsIn l.among n × (n < l.place)) l.name) l.opener.arguments.now l.found.count l.found.last
