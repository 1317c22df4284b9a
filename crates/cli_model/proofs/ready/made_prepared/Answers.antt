use Rattle.std.proofs.Common.{ap, ◌∙◌, sym, subst}
use Rattle.answer_analysis.specs.declared.ready.Ready.{Ready}
use Rattle.cli_model.specs.Ready.{IsModelOf}
use Rattle.cli_model.proofs.ready.made_prepared.Goals as goal

pub returns-clause-made : goal.returns-clause-made
returns-clause-made c = record {
  model = subst (λ (r : Ready). IsModelOf r.loaded c.args.command r) (sym c.in_ok-prepared.ensures.same) c.in_ok-ready.ensures.made;
  prepared = c.in_ok-prepared.ensures.prepared c.args.command c.in_ok-ready.ensures.made.ready;
}

pub returns-clause-loaded : goal.returns-clause-loaded
returns-clause-loaded c = ap (λ (r : Ready). r.loaded) c.in_ok-prepared.ensures.same ∙ c.in_ok-ready.ensures.loaded
