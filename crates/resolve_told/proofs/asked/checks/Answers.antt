use Rattle.core_tree.specs.Trees.{claim_of}
use Rattle.resolve_told.proofs.asked.checks.Goals as goal

pub returns-in_ok-is_right-in-Some : goal.returns-in_ok-is_right-in-Some
returns-in_ok-is_right-in-Some c = λ same. (claim_of c.in-Some.inner.now, c.in-Some.ensures, c.in_ok-is_right-in-Some.ensures same)
