use Rattle.std.proofs.lemmas.Result.{IfOk-weaker}
use Rattle.core_tree.specs.Trees.{Term, term_of}
use Rattle.answer_analysis.specs.declared.ready.Ready.{Ready}
use Rattle.answer_judge.specs.Judged.{IsJudgement, IsValue}
use Rattle.cli_model.specs.Model.{IsAsked}
use Rattle.cli_model.specs.Ready.{OfModel}
use Rattle.cli_model.proofs.traced.said_of.Goals as goal

pub returns-in-Replay : goal.returns-in-Replay
returns-in-Replay c =
    rw c.in-Replay.is (IfOk-weaker c.judge_trace.result (IsJudgement c.args.ready.now c.args.trace.now) (λ said. OfModel c.args.ready.now.loaded c.args.settings.now.command (λ (p : Ready). IsJudgement p c.args.trace.now said))
    (λ said judged. (c.args.ready.now, c.requires.made, judged)) c.judge_trace.ensures)

pub returns-in-Some : goal.returns-in-Some
returns-in-Some c =
    let asked = rw c.in-Some.is at c.requires.asked in
    rw c.in-Eval.is (IfOk-weaker c.value_on_trace.result (IsValue c.args.ready.now (term_of c.in-Some.value.now) c.args.settings.now.position c.args.trace.now) (λ said. OfModel c.args.ready.now.loaded c.args.settings.now.command (λ (p : Ready). (value : Term) × IsAsked p c.args.settings.now.expression value × IsValue p value c.args.settings.now.position c.args.trace.now said))
    (λ said valued. (c.args.ready.now, c.requires.made, (term_of c.in-Some.value.now, asked, valued))) c.value_on_trace.ensures)

pub judge_trace-requires : goal.judge_trace-requires
judge_trace-requires c = c.requires.made.ready.read

pub value_on_trace-requires : goal.value_on_trace-requires
value_on_trace-requires c = c.requires.made.ready.read
