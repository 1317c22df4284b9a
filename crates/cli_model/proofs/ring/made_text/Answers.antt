use Rattle.std.proofs.Common.{◌≤◌, ◌∙◌, ℕ, ap, length, subst, inl, inr, refl}
use Rattle.answer_analysis.specs.Found as outcome
use Rattle.answer_analysis.specs.declared.answer.Answer.TheVariants.{Trace, Refuted, Unknown}
use Rattle.answer_certificates.specs.Certificate.{IsShort, ShowsSpent, SayAll}
use Rattle.answer_texts.specs.Answers.{unknown_text}
use Rattle.answer_texts.specs.Ring.{made_none}
use Rattle.cli_model.proofs.ring.made_text.Goals as goal

pub returns-in_ok-text-in-Trace : goal.returns-in_ok-text-in-Trace
returns-in_ok-text-in-Trace c prepared made is =
    let found : outcome.IsFoundIn prepared c.args.settings.now.conflicts (Trace c.in-Trace.labels c.in-Trace.lasso) = rw c.in-Trace.is at is in
    let short : IsShort prepared c.in-Trace.lasso = record {
      few = λ number searched. subst (λ (n : ℕ). length c.in-Trace.lasso.states ≤ n) searched.ready.states found.3;
      fewest = found.4;
    } in
    (prepared, made, inl (record { lasso = c.in-Trace.lasso; trace = found.1; fits = found.2; short = short; text_is = c.in_ok-text-in-Trace.ensures }))

pub returns-in_ok-text-in-Refuted : goal.returns-in_ok-text-in-Refuted
returns-in_ok-text-in-Refuted c prepared made is =
    let found : outcome.IsFoundIn prepared c.args.settings.now.conflicts (Refuted c.in-Refuted.table c.in-Refuted.states c.in-Refuted.cnf c.in-Refuted.lines) = rw c.in-Refuted.is at is in (
      prepared,
      made,
      inr (inl (record {
        none = found.2 c.args.settings.now.command made.prepared;
        text_is = c.in_ok-text-in-Refuted.ensures ∙ ap (λ (n : ℕ). made_none c.args.nodes n) found.0;
      })),
    )

pub returns-in_ok-text-in-Unknown : goal.returns-in_ok-text-in-Unknown
returns-in_ok-text-in-Unknown c prepared made is =
    let found : outcome.IsFoundIn prepared c.args.settings.now.conflicts (Unknown c.in-Unknown.table c.in-Unknown.cnf c.in-Unknown.lines) = rw c.in-Unknown.is at is in
    let shown : ShowsSpent (outcome.RowsOf prepared) (SayAll prepared) c.args.settings.now.conflicts (unknown_text (length c.in-Unknown.lines) c.in-Unknown.table c.in-Unknown.cnf c.in-Unknown.lines) = record {
      cnf = c.in-Unknown.cnf;
      says = found.3;
      shows = record { table = c.in-Unknown.table; lined = found.4; lines = c.in-Unknown.lines; spent = found.0; lemmas = found.1; few = found.2; text_is = refl };
    } in
    (prepared, made, inr (inr (record { rest = _; spent = shown; text_is = c.in_ok-text-in-Unknown.ensures (length c.in-Unknown.lines) found.0 })))
