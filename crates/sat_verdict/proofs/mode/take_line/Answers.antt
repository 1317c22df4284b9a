use Rattle.std.proofs.Common.{◌≡◌, ◌+◌, ℕ, sym, ◌∙◌, ap, subst, arith, add-zero}
use Rattle.sat_checker.specs.Answers.{rule_of}
use Rattle.sat_verdict.specs.Mode.{Ends, refuted, more, lemmas_of}
use Rattle.sat_verdict.proofs.Turning.{empty_lemma, added_lemma, deletion, rejected_result}
use Rattle.sat_verdict.proofs.mode.take_line.Goals as goal

pub returns-in-Ok-Refuted-clause-turn : goal.returns-in-Ok-Refuted-clause-turn
returns-in-Ok-Refuted-clause-turn c = λ from read.
    let passed = c.in-Ok-Refuted.ensures.passes in
    refuted from c.args.lemmas c.args.start c.args.next c.args.checker.now _ c.args.line.now read passed.0 (empty_lemma c.args.line.now (sym passed.1 ∙ c.in-Ok-Refuted.field-0-is))

pub returns-in-Ok-Added-clause-turn : goal.returns-in-Ok-Added-clause-turn
returns-in-Ok-Added-clause-turn c = λ from read verdict ends.
    let passed = c.in-Ok-Added.ensures.passes in
    let kind = added_lemma c.args.line.now (sym passed.1 ∙ c.in-Ok-Added.field-0-is) in
    more from c.args.lemmas c.args.start c.args.next c.args.checker.now _ c.args.line.now verdict read passed.0 kind.0
    (subst (λ n. Ends c.args.proof.now c.args.next (c.args.lemmas + n) c.add.new.self verdict) (sym kind.1) ends)

pub returns-in-Ok-Deleted-clause-turn : goal.returns-in-Ok-Deleted-clause-turn
returns-in-Ok-Deleted-clause-turn c = λ from read verdict ends.
    let passed = c.in-Ok-Deleted.ensures.passes in
    let kind = deletion c.args.line.now (sym passed.1 ∙ c.in-Ok-Deleted.field-0-is) in
    let none : c.args.lemmas ≡ c.args.lemmas + lemmas_of c.args.line.now = let zero = kind.1 in omega arith in
    more from c.args.lemmas c.args.start c.args.next c.args.checker.now _ c.args.line.now verdict read passed.0 kind.0
    (subst (λ n. Ends c.args.proof.now c.args.next n c.add.new.self verdict) none ends)

pub returns-in-Err-clause-turn : goal.returns-in-Err-clause-turn
returns-in-Err-clause-turn c = λ from read.
    rejected_result c.args.proof.now from c.args.lemmas c.args.start c.args.next c.args.checker.now _ c.args.line.now read (rule_of c.in-Err.fault) c.in-Err.ensures.fault c.rejected.result c.rejected.ensures.rule c.rejected.ensures.turn
