use Rattle.core_tree.specs.Trees.{term_of}
use Rattle.resolve_type_check.specs.Names.{names_of}
use Rattle.answer_checks.proofs.Placings.{rows_end}
use Rattle.answer_checks.proofs.fields.has_rows_of.Goals as goal

pub returns-in-Some : goal.returns-in-Some
returns-in-Some c = λ t.
    rows_end c.args.model.now c.args.known (names_of c.args.names.now) (term_of c.args.bound.now) c.args.next.now c.in_ok-known_type.field-0 c.in-Some.rows c.as_slice.result.now c.as_slice-in-Some.result.now c.if-varies.false c.in-Some.is c.in_ok-known_type.ensures c.as_slice.ensures c.as_slice-in-Some.ensures (c.are_within.ensures t)
