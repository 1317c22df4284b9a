use Rattle.std.proofs.Common.{List, None, map, subst}
use Rattle.syntax_tree.specs.declared.module.Parameter.{Parameter}
use Rattle.resolve_names.specs.Noted.{has_text, Notes}
use Rattle.resolve_names.proofs.twice.note_header.Goals as goal

pub returns-in_ok-noted-in-Some : goal.returns-in_ok-noted-in-Some
returns-in_ok-noted-in-Some c =
    rw c.in-Some.is (subst (λ (ps : List Parameter). Notes (map (λ (p : Parameter). p.name) ps) (has_text c.args.known.now) None (has_text c.note_parameters.new.known) c.in_ok-noted-in-Some.noted)
    c.as_slice.ensures c.in_ok-noted-in-Some.ensures)
