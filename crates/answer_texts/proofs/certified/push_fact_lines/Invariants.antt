use Rattle.std.proofs.Common.{◌≡◌, ◌++◌, take}
use Rattle.answer_texts.specs.Certified.{facts_lines}
use Rattle.answer_texts.proofs.certified.push_fact_lines.Given as goal

abbrev pub invariant-loop-fact : goal.invariant-loop-fact
invariant-loop-fact l = l.out.items ≡ l.initial.out.items ++ facts_lines (take l.fact-index l.facts)
