use Rattle.std.proofs.Common.{subst}
use Rattle.core_tree.specs.Trees.{claim_of}
use Rattle.core_tree.specs.declared.model.Command.{Command}
use Rattle.form_target.specs.Targets.{IsTargetOf}
use Rattle.answer_analysis.proofs.NoneLaw.{same_item}
use Rattle.answer_analysis.proofs.ready.with_target.Goals as goal

pub returns-clause-prepared : goal.returns-clause-prepared
returns-clause-prepared c number is =
    let ready = c.args.ready in
    let same = same_item ready.model.commands ready.command number c.get-chosen.result.now is.command is.asked c.get-chosen.ensures is.chosen in
    record {
      ready = is;
      target_is = subst (λ (d : Command). IsTargetOf ready.model ready.scopes (claim_of d.formula) c.in_ok-target.target c.in_ok-target.first_fact) same c.in_ok-target.ensures.target;
      scoped = c.in_ok-target.ensures.scopes;
    }
