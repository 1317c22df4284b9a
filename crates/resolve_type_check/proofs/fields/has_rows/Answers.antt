use Rattle.core_tree.specs.Trees.{term_of}
use Rattle.resolve_type_check.proofs.FieldEnds.{rows_end}
use Rattle.resolve_type_check.proofs.fields.has_rows.Goals as goal

pub returns-in-Some : goal.returns-in-Some
returns-in-Some c = λ t. rows_end c.args.model.now c.args.owner (term_of c.args.bound.now) c.args.field.now.rows c.as_slice.result.now c.in-Some.rows c.as_slice-in-Some.result.now c.in_ok-rows_of_declaration.field-0 c.as_slice.ensures c.as_slice-in-Some.ensures c.in-Some.is c.in_ok-rows_of_declaration.ensures (c.have_same.ensures t)
