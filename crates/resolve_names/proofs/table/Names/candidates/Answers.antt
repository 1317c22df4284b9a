use Rattle.std.proofs.Common.{ℕ, List, subst, ◌∙◌, ap}
use Rattle.resolve_names.specs.Marks.{AreLed}
use Rattle.resolve_names.specs.Visible.{path_of}
use Rattle.resolve_names.proofs.Listed.{candidates_of}
use Rattle.resolve_names.proofs.table.Names.candidates.Goals as goal

pub returns : goal.returns
returns c =
    candidates_of c.args.self.now.scopes c.args.instance c.args.name.now c.in_ok-marks.marks.items c.in_ok-all.all.items
    (subst (λ (p : List (List ℕ)). AreLed c.args.self.now.scopes c.args.instance c.args.name.now.is_own p c.in_ok-marks.marks.items) (c.path_before.ensures ∙ ap path_of c.as_slice-parts.ensures) c.in_ok-marks.ensures)
    (let found = c.in_ok-all.ensures in let marks = c.as_slice.ensures.value in let name = c.last_part.ensures in let parts = c.as_slice-parts.ensures in let scopes = c.as_slice-scopes.ensures in cc)
