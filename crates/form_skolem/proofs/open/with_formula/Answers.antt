use Rattle.form_skolem.proofs.Opening.{asked_over}
use Rattle.form_skolem.proofs.open.with_formula.Goals as goal

pub returns : goal.returns
returns c = λ command chosen. asked_over c.args.commands c.into_vec-all.result.items c.from_vec-2.result c.args.command c.index_mut.result.now command c.args.formula c.into_vec-all.ensures c.index_mut.ensures.value c.from_vec-2.ensures chosen
