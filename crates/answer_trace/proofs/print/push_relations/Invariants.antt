use Rattle.std.proofs.Common.{◌≡◌, ◌++◌, flat_map, take}
use Rattle.answer_trace.specs.Text.{relation_text}
use Rattle.answer_trace.proofs.print.push_relations.Given as goal

abbrev pub invariant-loop-relation : goal.invariant-loop-relation
invariant-loop-relation l = l.out.items ≡ l.initial.out.items ++ flat_map (λ r. relation_text l.atoms l.state r) (take l.relation-index l.relations)
