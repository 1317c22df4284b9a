use Rattle.std.proofs.Common.{◌≡◌, ap, ◌∙◌}
use Rattle.core_tree.specs.Trees.{term_of}
use Rattle.core_tree.specs.Types.{TypeRows, with_rows}
use Rattle.resolve_type_check.specs.Names.{names_of}
use Rattle.answer_checks.proofs.Placings.{with_name_end}
use Rattle.answer_checks.proofs.fields.names_with.Goals as goal

pub returns-in_ok-with_name-in-Some : goal.returns-in_ok-with_name-in-Some
returns-in_ok-with_name-in-Some c =
    let names = names_of c.args.names.now in
    let named : names_of c.in_ok-with_name-in-Some.field-0 ≡ with_rows names c.args.name c.in-Some.rows = ap names_of c.in_ok-with_name-in-Some.ensures ∙ ap (λ (r : TypeRows). with_rows names c.args.name r) c.as_slice.ensures in
    with_name_end c.args.model.now c.args.known c.args.name (term_of c.args.value.now) names c.in_ok-with_name-in-Some.field-0 c.in_ok-known_type.field-0 c.in-Some.rows c.in-Some.is c.in_ok-known_type.ensures named
