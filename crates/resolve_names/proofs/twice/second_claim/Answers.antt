use Rattle.std.proofs.Common.{List, None, flat_map, subst}
use Rattle.syntax_tree.specs.declared.module.Paragraph.{Paragraph}
use Rattle.resolve_names.specs.Twice.{claim_named, assertion_names}
use Rattle.resolve_names.specs.Noted.{has_text, Notes}
use Rattle.resolve_names.proofs.Noting.{least_noted}
use Rattle.resolve_names.proofs.twice.second_claim.Goals as goal

pub returns : goal.returns
returns c =
    least_noted c.new-known.result (assertion_names c.args.tree.now) (has_text c.note_claims.new.known) c.in_ok-all.all c.new-known.ensures.empty
    (subst (λ (ps : List Paragraph). Notes (flat_map claim_named ps) (has_text c.new-known.result) None (has_text c.note_claims.new.known) c.in_ok-all.all)
    c.as_slice.ensures c.in_ok-all.ensures)
