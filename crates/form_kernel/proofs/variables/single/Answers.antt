use Rattle.std.proofs.Common.{refl}
use Rattle.core_tree.specs.Trees.{term_of}
use Rattle.core_tree.specs.declared.tree.Variable.{roll-Variable}
use Rattle.form_kernel.proofs.Lists.{single_is}
use Rattle.form_kernel.proofs.variables.single.Goals as goal

pub returns : goal.returns
returns c =
    single_is c.args.list.now c.args.place c.index-list-place.result (roll-Variable record { name = c.index-list-place.result.name; apart = 0; bound = c.in_ok-bound.bound }) (term_of c.in_ok-copy.copy) c.requires.place c.index-list-place.is refl refl c.in_ok-copy.ensures c.in_ok-bound.ensures
