use Rattle.std.proofs.Common.{List, subst}
use Rattle.std.proofs.lemmas.List.{take_all}
use Rattle.syntax_tree.specs.declared.expr.Named.{Named}
use Rattle.resolve_names.specs.Noted.{has_text, Notes}
use Rattle.resolve_names.proofs.Noting.{notes_none, items_turn}
use Rattle.resolve_names.proofs.twice.note_all.Goals as goal

pub loop-name-init : goal.loop-name-init
loop-name-init c = notes_none (has_text c.args.known.now) c.args.least

pub loop-name-preserved : goal.loop-name-preserved
loop-name-preserved c =
    items_turn (has_text c.args.known.now) c.args.least (has_text c.loop-name.known) c.loop-name.so_far (has_text c.note.new.known) c.in_ok-so_far.so_far c.args.names.now
    c.loop-name.name-index c.name-item.result c.loop-name-test.true c.name-item.is c.loop-name.invariant c.in_ok-so_far.ensures

pub returns : goal.returns
returns c =
    subst (λ (ns : List Named). Notes ns (has_text c.args.known.now) c.args.least (has_text c.loop-name.known) c.loop-name.so_far)
    ((take_all c.loop-name.name-index c.args.names.now c.loop-name-test.false)) c.loop-name.invariant
