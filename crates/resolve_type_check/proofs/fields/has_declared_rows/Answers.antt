use Rattle.std.proofs.Common.{IsTrue}
use Rattle.core_tree.specs.Trees.{term_of}
use Rattle.core_tree.specs.Models.{declared_rows}
use Rattle.resolve_type_check.specs.Typed.{HasDeclaredRows}
use Rattle.resolve_type_check.specs.Same.{SameRows}
use Rattle.resolve_type_check.proofs.Results.{if_ok}
use Rattle.resolve_type_check.proofs.FieldEnds.{has_end}
use Rattle.resolve_type_check.proofs.fields.has_declared_rows.Goals as goal

pub returns-in-Some-declared : goal.returns-in-Some-declared
returns-in-Some-declared c =
    let model = c.args.model.now in
    let field = c.args.field.now in
    let owner = c.in-Some.owner in
    let declared = c.in-Some-declared.declared in
    if_ok c.has_rows.result (λ b. IsTrue b → SameRows field.rows (declared_rows model owner (term_of declared.bound.expr))) (λ b. IsTrue b → HasDeclaredRows model field)
    (λ b h t. has_end model field owner declared c.in-Some.is c.in-Some-declared.is (h t)) c.has_rows.ensures
