use Rattle.std.proofs.Common.{◌∙◌, sym, subst, List}
use Rattle.resolve_said.proofs.Candidates.{declared_says}
use Rattle.resolve_names.specs.declared.table.Decl.{Decl}
use Rattle.resolve_names.specs.Visible.{AreCandidates}
use Rattle.resolve_said.specs.Said.{standing_of}
use Rattle.resolve_said.specs.Parts.{said_by}
use Rattle.resolve_said.proofs.names.is_declared.Goals as goal

pub returns-in_ok-found-in-Some : goal.returns-in_ok-found-in-Some
returns-in_ok-found-in-Some c = λ h. declared_says (standing_of c.args.site.now) c.args.name.now c.as_slice.result.now c.in-Some.picked (said_by c.args.part.now) (subst (λ (l : List Decl). AreCandidates c.args.site.now.names.now.scopes c.args.site.now.instance c.args.name.now l) (sym c.as_slice.ensures.value) c.in_ok-found-in-Some.ensures) (sym c.picked.ensures ∙ c.in-Some.is) (c.any_picked.ensures h)
