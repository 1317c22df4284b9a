use Rattle.bound_uppers.proofs.Giving.{atom_added}
use Rattle.bound_uppers.proofs.given.add_given.Goals as goal

pub returns-then-is_given : goal.returns-then-is_given
returns-then-is_given c = atom_added c.args.set.now c.add_number.new.set c.args.atom c.args.is_given c.if-is_given.true c.in_ok-add_number.ensures
