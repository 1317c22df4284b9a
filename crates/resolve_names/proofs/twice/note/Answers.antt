use Rattle.resolve_names.specs.Noted.{has_text}
use Rattle.resolve_names.proofs.Noting.{one_noted}
use Rattle.resolve_names.proofs.twice.note.Goals as goal

pub returns : goal.returns
returns c =
    one_noted c.args.name.now c.text.result.now (has_text c.args.known.now) (has_text c.is_again.new.known) c.args.least _ c.in_ok-again.again
    c.text.ensures c.in_ok-again.ensures.told c.in_ok-again.ensures.known c.least_with.ensures
