use Rattle.std.proofs.Common.{◌∙◌}
use Rattle.bound_numbers.proofs.listed.overall_number.Goals as goal

pub returns : goal.returns
returns c = c.number_or.ensures ∙ c.first_entry-given.ensures.number 3
