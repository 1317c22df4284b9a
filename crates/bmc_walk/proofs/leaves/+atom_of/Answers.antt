use Rattle.std.proofs.Common.{arith}
use Rattle.bmc_walk.specs.Walked.{atoms_of}
use Rattle.bmc_walk.proofs.NameLaws.{atom_first, atom_later}
use Rattle.bmc_walk.proofs.leaves.+atom_of.Goals as goal

pub returns-then-name-other : goal.returns-then-name-other
returns-then-name-other t c = rw c.in-Atom.is (atom_first (atoms_of c.in-Atom.rest.now) c.args.name c.in-Atom.other c.in-Atom.atom (omega (arith, c.if-name-other.true)))

pub returns-else-name-other : goal.returns-else-name-other
returns-else-name-other t c = rw c.in-Atom.is (atom_later (atoms_of c.in-Atom.rest.now) c.args.name c.in-Atom.other c.in-Atom.atom c.atom_of.result (λ e. omega (arith, e, c.if-name-other.false)) c.atom_of.ensures)
