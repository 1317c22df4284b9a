use Rattle.std.proofs.Common.{◌≡◌, [], drop}
use Rattle.base_words.specs.Words.{parts}
use Rattle.answer_trace.specs.Reading.{relations_way}
use Rattle.answer_trace.proofs.read.read_relations.Given as goal

abbrev pub invariant-loop-relation : goal.invariant-loop-relation
invariant-loop-relation l = relations_way l.index l.sets.items (drop l.relation-index l.relations) (parts l.left.bytes) l.left.lines ≡ relations_way l.index [] l.relations (parts l.fn.left.bytes) l.fn.left.lines
