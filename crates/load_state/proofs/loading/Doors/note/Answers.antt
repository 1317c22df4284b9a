use Rattle.load_state.proofs.Noted.{wider_as}
use Rattle.load_state.proofs.loading.Doors.note.Goals as goal

pub returns-clause-noted : goal.returns-clause-noted
returns-clause-noted c = record { reach = wider_as c.args.self.now.reach c.add.new.self c.args.is_private c.adding.ensures c.add.ensures; aliased = c.in_ok-note_alias.ensures }
