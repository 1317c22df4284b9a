use Rattle.std.proofs.Common.{◌+◌, sym, ◌∙◌, eqb-true}
use Rattle.resolve_check.specs.Names.{names_of}
use Rattle.resolve_check.proofs.Ends.{field_bound_end}
use Rattle.resolve_check.proofs.fields.is_right_bound.Goals as goal

pub returns-in-Some : goal.returns-in-Some
returns-in-Some c = λ t. field_bound_end c.args.model.now c.args.shape.now c.requires.shape c.args.place c.args.columns c.in-Some.count (names_of c.args.this.now) c.args.declared.now c.requires.this (sym c.in_ok-bound_columns.ensures ∙ c.in-Some.is) (eqb-true (c.in-Some.count + 1) c.args.columns t)
