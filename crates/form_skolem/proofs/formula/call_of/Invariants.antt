use Rattle.std.proofs.Common.{◌≡◌, ◌++◌, map, drop}
use Rattle.core_tree.specs.Trees.{term_of}
use Rattle.form_skolem.specs.Claims.{arguments}
use Rattle.form_skolem.proofs.formula.call_of.Given as goal

abbrev pub invariant-loop-place : goal.invariant-loop-place
invariant-loop-place l = map term_of l.all.items ++ arguments l.place (drop l.place l.fields) ≡ arguments 0 l.fields
