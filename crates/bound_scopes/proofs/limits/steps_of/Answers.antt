use Rattle.std.proofs.Common.{Contains, sym, ap, ◌∙◌}
use Rattle.base_types.specs.declared.place.Rule.TheVariants as rule
use Rattle.bound_definitions.specs.Numbers.{is_steps}
use Rattle.bound_definitions.specs.Rules.{first_entry, bad_steps}
use Rattle.bound_numbers.specs.Listed.{outside_of}
use Rattle.bound_scopes.specs.Limits.{IsAt, IsFaultOf}
use Rattle.bound_scopes.proofs.Answering.{handed, none_kept}
use Rattle.bound_scopes.proofs.Ranges.{one_refused, outside_same}
use Rattle.bound_scopes.proofs.limits.steps_of.Goals as goal

pub returns-clause-is : goal.returns-clause-is
returns-clause-is c = c.in_ok-steps.ensures.is ∙ c.first_entry-given.ensures.number 10

pub returns-clause-ok : goal.returns-clause-ok
returns-clause-ok c =
    none_kept (bad_steps c.args.entries.now) (outside_same 32 (first_entry is_steps c.args.entries.now) ∙ sym (ap (outside_of 32) c.first_entry-given.ensures.entry) ∙ c.in_ok-steps.ensures.ok)

pub returns-in_err-steps-clause-refused : goal.returns-in_err-steps-clause-refused
returns-in_err-steps-clause-refused c =
    let why = c.in_err-steps.ensures.refused in
    handed (IsFaultOf (IsAt rule.Steps (Contains (bad_steps c.args.entries.now)))) c.from_residual.result c.in_err-steps.field-0.0 c.from_residual.ensures.1
    (one_refused rule.Steps (bad_steps c.args.entries.now) c.in_err-steps.field-0.0 (why.0, outside_same 32 (first_entry is_steps c.args.entries.now) ∙ sym (ap (outside_of 32) c.first_entry-given.ensures.entry) ∙ why.1, why.2))
