-- Sets that lie in a bound with a multiplicity.
use Rattle.core_tree.specs.declared.operators.Multiplicity.{Multiplicity}
use Rattle.core_tree.specs.declared.operators.Multiplicity.TheVariants.{Set}
use Rattle.core_tree.specs.Trees.{Term, product}

abbrev pub IsFree : Multiplicity → Type 0
IsFree Set = Unit {0}
IsFree m = ⊥

-- the arrows of a bound, if it has any, have no multiplicities
abbrev pub AsksNothing : Term → Type 0
AsksNothing (product a m n b) = IsFree m × IsFree n × AsksNothing a × AsksNothing b
AsksNothing e = Unit {0}
