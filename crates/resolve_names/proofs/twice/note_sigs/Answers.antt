use Rattle.std.proofs.Common.{List, flat_map, subst, ap}
use Rattle.std.proofs.lemmas.List.{take_all}
use Rattle.syntax_tree.specs.declared.expr.Named.{Named}
use Rattle.resolve_names.specs.Twice.{sigs_named}
use Rattle.resolve_names.specs.Noted.{has_text, Notes}
use Rattle.resolve_names.proofs.Noting.{notes_none, flat_turn}
use Rattle.resolve_names.proofs.twice.note_sigs.Goals as goal

pub loop-paragraph-init : goal.loop-paragraph-init
loop-paragraph-init c = notes_none (has_text c.args.known.now) c.args.least

pub loop-paragraph-preserved : goal.loop-paragraph-preserved
loop-paragraph-preserved c =
    flat_turn (has_text c.args.known.now) c.args.least (has_text c.loop-paragraph.known) c.loop-paragraph.so_far (has_text c.note_sig.new.known) c.in_ok-so_far.so_far sigs_named c.args.paragraphs.now
    c.loop-paragraph.paragraph-index c.paragraph-item.result c.loop-paragraph-test.true c.paragraph-item.is c.loop-paragraph.invariant c.in_ok-so_far.ensures

pub returns : goal.returns
returns c =
    subst (λ (ns : List Named). Notes ns (has_text c.args.known.now) c.args.least (has_text c.loop-paragraph.known) c.loop-paragraph.so_far)
    (ap (flat_map sigs_named) (take_all c.loop-paragraph.paragraph-index c.args.paragraphs.now c.loop-paragraph-test.false)) c.loop-paragraph.invariant
