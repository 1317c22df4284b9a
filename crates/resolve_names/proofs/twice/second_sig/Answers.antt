use Rattle.std.proofs.Common.{List, None, map, flat_map, subst}
use Rattle.syntax_tree.specs.declared.module.Parameter.{Parameter}
use Rattle.syntax_tree.specs.declared.module.Paragraph.{Paragraph}
use Rattle.resolve_names.specs.Gathered.{parameters_of}
use Rattle.resolve_names.specs.Twice.{sigs_named, sig_names}
use Rattle.resolve_names.specs.Noted.{has_text, Notes}
use Rattle.resolve_names.proofs.Noting.{notes_then, least_noted}
use Rattle.resolve_names.proofs.twice.second_sig.Goals as goal

pub returns : goal.returns
returns c =
    let sigs : Notes (flat_map sigs_named c.args.tree.now.paragraphs) (has_text c.note_header.new.known) c.in_ok-parameters.parameters (has_text c.note_sigs.new.known) c.in_ok-all.all =
    subst (λ (ps : List Paragraph). Notes (flat_map sigs_named ps) (has_text c.note_header.new.known) c.in_ok-parameters.parameters (has_text c.note_sigs.new.known) c.in_ok-all.all)
    c.as_slice.ensures c.in_ok-all.ensures in
    least_noted c.new-known.result (sig_names c.args.tree.now) (has_text c.note_sigs.new.known) c.in_ok-all.all c.new-known.ensures.empty
    (notes_then (has_text c.new-known.result) None (has_text c.note_header.new.known) c.in_ok-parameters.parameters (has_text c.note_sigs.new.known) c.in_ok-all.all
    (map (λ (p : Parameter). p.name) (parameters_of c.args.tree.now.header)) (flat_map sigs_named c.args.tree.now.paragraphs) c.in_ok-parameters.ensures sigs)
