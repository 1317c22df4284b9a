use Rattle.bmc_walk.specs.Walked.{atoms_of}
use Rattle.bmc_places.proofs.StoreLaws.{grows_extends}
use Rattle.bmc_walk.proofs.leaves.name_leaf.Goals as goal

pub returns-clause-extends : goal.returns-clause-extends
returns-clause-extends g c = grows_extends c.args.store.now c.name_sets.new.store c.in_ok-value.ensures.grows

pub returns-clause-right : goal.returns-clause-right
returns-clause-right g c = record { right = λ n is le. c.in_ok-value.ensures.right n (atoms_of c.args.known.now) c.args.name is.reading c.atom_of-atom.ensures }
