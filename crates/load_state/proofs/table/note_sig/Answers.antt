use Rattle.std.specs.HashMap.{get_by_text}
use Rattle.load_state.proofs.Counts.{sig_noted}
use Rattle.load_state.proofs.table.note_sig.Goals as goal

pub returns : goal.returns
returns c =
    sig_noted (get_by_text c.args.known.now) (get_by_text c.put_known.new.known) c.args.name.now c.args.is_private c.args.number c.known_of-found.result c.add_sig.new.self c.known_of-found.ensures c.add_sig.ensures
    c.in_ok-put_known.ensures
