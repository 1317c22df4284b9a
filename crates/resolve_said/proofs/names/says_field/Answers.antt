use Rattle.std.proofs.Common.{sym, subst, List}
use Rattle.resolve_said.proofs.Candidates.{field_says}
use Rattle.resolve_names.specs.declared.table.Decl.{Decl}
use Rattle.resolve_names.specs.Visible.{AreCandidates}
use Rattle.resolve_said.specs.Said.{standing_of}
use Rattle.resolve_said.proofs.names.says_field.Goals as goal

pub returns-in_ok-found-in-Some : goal.returns-in_ok-found-in-Some
returns-in_ok-found-in-Some c = λ h. (c.in-Some.number, field_says (standing_of c.args.site.now) c.args.name.now c.as_slice.result.now c.in-Some.number (subst (λ (l : List Decl). AreCandidates c.args.site.now.names.now.scopes c.args.site.now.instance c.args.name.now l) (sym c.as_slice.ensures.value) c.in_ok-found-in-Some.ensures) (c.is_picked_field.ensures c.if-not-is_picked_field.false) (c.has_field.ensures h), c.in-Some.ensures)
