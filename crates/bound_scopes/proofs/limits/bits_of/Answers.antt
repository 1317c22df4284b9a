use Rattle.std.proofs.Common.{Contains, sym, ap, ◌∙◌}
use Rattle.base_types.specs.declared.place.Rule.TheVariants as rule
use Rattle.bound_definitions.specs.Numbers.{is_int}
use Rattle.bound_definitions.specs.Rules.{first_entry, bad_bitwidth}
use Rattle.bound_numbers.specs.Listed.{outside_of}
use Rattle.bound_scopes.specs.Limits.{IsAt, IsFaultOf}
use Rattle.bound_scopes.proofs.Answering.{handed, none_kept}
use Rattle.bound_scopes.proofs.Ranges.{one_refused, outside_same}
use Rattle.bound_scopes.proofs.limits.bits_of.Goals as goal

pub returns-clause-is : goal.returns-clause-is
returns-clause-is c = c.in_ok-bits.ensures.is ∙ c.first_entry-given.ensures.number 4

pub returns-clause-ok : goal.returns-clause-ok
returns-clause-ok c =
    none_kept (bad_bitwidth c.args.entries.now) (outside_same 12 (first_entry is_int c.args.entries.now) ∙ sym (ap (outside_of 12) c.first_entry-given.ensures.entry) ∙ c.in_ok-bits.ensures.ok)

pub returns-in_err-bits-clause-refused : goal.returns-in_err-bits-clause-refused
returns-in_err-bits-clause-refused c =
    let why = c.in_err-bits.ensures.refused in
    handed (IsFaultOf (IsAt rule.Bitwidth (Contains (bad_bitwidth c.args.entries.now)))) c.from_residual.result c.in_err-bits.field-0.0 c.from_residual.ensures.1
    (one_refused rule.Bitwidth (bad_bitwidth c.args.entries.now) c.in_err-bits.field-0.0 (why.0, outside_same 12 (first_entry is_int c.args.entries.now) ∙ sym (ap (outside_of 12) c.first_entry-given.ensures.entry) ∙ why.1, why.2))
