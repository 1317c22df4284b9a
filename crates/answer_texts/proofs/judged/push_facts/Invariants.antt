use Rattle.std.proofs.Common.{◌≡◌, ◌++◌, flat_map, take}
use Rattle.answer_texts.specs.Judged.{fact_line}
use Rattle.answer_texts.proofs.judged.push_facts.Given as goal

abbrev pub invariant-loop-judged : goal.invariant-loop-judged
invariant-loop-judged l = l.out.items ≡ l.initial.out.items ++ flat_map fact_line (take l.judged-index l.facts)
