use Rattle.std.proofs.Common.{◌≤◌, ℕ, length, subst}
use Rattle.answer_analysis.specs.Found as outcome
use Rattle.answer_analysis.specs.declared.answer.Answer.TheVariants.{Trace, Refuted, Unknown}
use Rattle.answer_certificates.specs.Certificate.{IsShort, ShowsNone, ShowsSpent, SayAll}
use Rattle.cli_model.proofs.analysis.found_text.Goals as goal

pub returns-in_ok-text-in-Trace : goal.returns-in_ok-text-in-Trace
returns-in_ok-text-in-Trace c prepared made is =
    let found : outcome.IsFoundIn prepared c.args.settings.now.conflicts (Trace c.in-Trace.labels c.in-Trace.lasso) = rw c.in-Trace.is at is in
    let short : IsShort prepared c.in-Trace.lasso = record {
      few = λ number searched. subst (λ (n : ℕ). length c.in-Trace.lasso.states ≤ n) searched.ready.states found.3;
      fewest = found.4;
    } in
    (prepared, made, c.in_ok-text-in-Trace.ensures prepared found.0 found.1 found.2 short)

pub returns-in_ok-text-in-Refuted : goal.returns-in_ok-text-in-Refuted
returns-in_ok-text-in-Refuted c prepared made is =
    let found : outcome.IsFoundIn prepared c.args.settings.now.conflicts (Refuted c.in-Refuted.table c.in-Refuted.states c.in-Refuted.cnf c.in-Refuted.lines) = rw c.in-Refuted.is at is in
    let shown : ShowsNone (outcome.RowsOf prepared) (SayAll prepared) prepared.ready.bounds.states c.args.settings.now.conflicts c.args.settings.now.part c.from_vec.result = record {
      cnf = c.in-Refuted.cnf;
      says = found.3;
      shows = record {
        table = c.in-Refuted.table;
        lined = found.5;
        lines = c.in-Refuted.lines;
        refutes = found.1;
        fresh = found.4;
        text_is = cc (c.from_vec.ensures, c.in_ok-text-in-Refuted.ensures, found.0);
      };
    } in
    (prepared, made, (shown, found.2 c.args.settings.now.command made.prepared))

pub returns-in_ok-text-in-Unknown : goal.returns-in_ok-text-in-Unknown
returns-in_ok-text-in-Unknown c prepared made is =
    let found : outcome.IsFoundIn prepared c.args.settings.now.conflicts (Unknown c.in-Unknown.table c.in-Unknown.cnf c.in-Unknown.lines) = rw c.in-Unknown.is at is in
    let shown : ShowsSpent (outcome.RowsOf prepared) (SayAll prepared) c.args.settings.now.conflicts c.from_vec-in-Unknown.result = record {
      cnf = c.in-Unknown.cnf;
      says = found.3;
      shows = record {
        table = c.in-Unknown.table;
        lined = found.4;
        lines = c.in-Unknown.lines;
        spent = found.0;
        lemmas = found.1;
        few = found.2;
        text_is = cc (c.from_vec-in-Unknown.ensures, c.in_ok-text-in-Unknown.ensures (length c.in-Unknown.lines) found.0);
      };
    } in
    (prepared, made, shown)
