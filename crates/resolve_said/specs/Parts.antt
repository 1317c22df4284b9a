-- What the parts of a resolved tree are, as what is said.
use Rattle.std.specs.Prelude.{map}
use Rattle.core_tree.specs.Trees.{term_of, claim_of}
use Rattle.resolve_said.specs.declared.part.Part.{Part}
use Rattle.resolve_said.specs.declared.part.Part.TheVariants as part
use Rattle.resolve_said.specs.Operators.{Said, a_set, a_formula, a_call}

abbrev pub said_by : Part → Said
said_by (part.Set e) = a_set (term_of e.now)
said_by (part.Formula f) = a_formula (claim_of f.now)
said_by (part.Call b es) = a_call b (map term_of es.now)
