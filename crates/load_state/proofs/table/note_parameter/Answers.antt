use Rattle.std.specs.HashMap.{get_by_text}
use Rattle.load_state.proofs.Counts.{parameter_noted}
use Rattle.load_state.proofs.table.note_parameter.Goals as goal

pub returns : goal.returns
returns c =
    parameter_noted (get_by_text c.args.known.now) (get_by_text c.put_known.new.known) c.args.name.now c.args.number c.known_of-found.result c.add_parameter.new.self c.known_of-found.ensures c.add_parameter.ensures
    c.in_ok-put_known.ensures
