use Rattle.std.proofs.Common.{◌≡◌, ◌++◌, flat_map, take}
use Rattle.answer_texts.specs.Kept.{kept_first}
use Rattle.answer_texts.specs.Table.{relation_rows}
use Rattle.answer_texts.proofs.rows.push_relations.Given as goal

abbrev pub invariant-loop-relation : goal.invariant-loop-relation
invariant-loop-relation l = l.table ≡ l.initial.table ++ flat_map (relation_rows (kept_first l.layout) l.atoms l.bounds l.state) (take l.relation-index l.relations)
