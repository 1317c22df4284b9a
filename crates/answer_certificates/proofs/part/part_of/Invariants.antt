use Rattle.std.proofs.Common.{◌≡◌, ◌++◌, map, drop}
use Rattle.core_tree.specs.Trees.{claim_of}
use Rattle.answer_certificates.specs.Parts.{staying, stays}
use Rattle.answer_certificates.proofs.part.part_of.Given as goal

abbrev pub invariant-loop-place : goal.invariant-loop-place
invariant-loop-place l = map claim_of l.formulas ++ staying (stays l.first l.dropped) l.place (drop l.place l.target.formulas) ≡ staying (stays l.first l.dropped) 0 l.target.formulas
