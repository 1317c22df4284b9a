use Rattle.std.proofs.Common.{◌≡◌, ◌++◌, map, take, reverse}
use Rattle.core_tree.specs.Trees.{claim_of}
use Rattle.form_skolem.specs.Claims.{apart_from}
use Rattle.form_skolem.proofs.formula.add_all_apart.Given as goal

abbrev pub invariant-loop-back : goal.invariant-loop-back
invariant-loop-back l = map claim_of l.parts.items ≡ map claim_of l.fn.parts.items ++ apart_from l.field (take l.back (reverse l.before))
