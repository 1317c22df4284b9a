use Rattle.std.proofs.Common.{length, ap, sym, ◌∙◌}
use Rattle.form_skolem.proofs.Opening.{fields_count}
use Rattle.form_skolem.proofs.open.formula_of.Goals as goal

pub run_formula-requires : goal.run_formula-requires
run_formula-requires c = sym (ap length (c.as_slice.ensures.value ∙ c.in_ok-numbers.ensures.numbers) ∙ fields_count (length c.args.fields.now) c.args.parameters.now)
