use Rattle.std.proofs.Common.{rules}
use Rattle.std.specs.HashMap.{get_by_text}
use Rattle.load_state.proofs.Counts.{stays_next}
use Rattle.load_state.proofs.table.Table.add_sig.Goals as goal

pub returns-clause-tells : goal.returns-clause-tells
returns-clause-tells c =
    stays_next (get_by_text c.args.self.now.known) (get_by_text c.note_sig.new.known) c.args.self.now.declared.items c.push.new.self.items c.text.result.now c.args.named.now.name c.args.is_private c.args.self.now.sigs
    c.in_ok-next.next c.in_ok-note_sig.ensures (search rules) (search rules) (search rules)
