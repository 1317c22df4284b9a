use Rattle.answer_analysis.proofs.ready.kept.Goals as goal

pub returns-then-extends_plain-clause-kept : goal.returns-then-extends_plain-clause-kept
returns-then-extends_plain-clause-kept c = c.in_ok-is_kept.ensures c.if-not-is_kept.false

pub returns-then-extends_plain-clause-plain : goal.returns-then-extends_plain-clause-plain
returns-then-extends_plain-clause-plain c = c.extends_plain.ensures c.if-extends_plain.true
