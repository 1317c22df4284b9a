use Rattle.std.proofs.Common.{ap, ◌∙◌}
use Rattle.answer_analysis.specs.declared.ready.Ready.{Ready}
use Rattle.answer_analysis.proofs.ready.prepare_loaded.Goals as goal

pub returns-clause-prepared : goal.returns-clause-prepared
returns-clause-prepared c = c.in_ok-prepared.ensures.prepared c.args.command c.in_ok-ready.ensures.ready

pub returns-clause-loaded : goal.returns-clause-loaded
returns-clause-loaded c = ap (λ (r : Ready). r.loaded) c.in_ok-prepared.ensures.same ∙ c.in_ok-ready.ensures.loaded
