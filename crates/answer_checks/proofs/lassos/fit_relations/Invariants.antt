use Rattle.std.proofs.Common.{All, take}
use Rattle.answer_laws.specs.Form.{FitsRelation}
use Rattle.answer_checks.proofs.lassos.fit_relations.Given as goal

abbrev pub invariant-loop-relation : goal.invariant-loop-relation
invariant-loop-relation l = All (FitsRelation l.labels l.state) (take l.relation-index l.relations)
