use Rattle.std.proofs.Common.{List, map, subst, ap}
use Rattle.std.proofs.lemmas.List.{take_all}
use Rattle.syntax_tree.specs.declared.expr.Named.{Named}
use Rattle.syntax_tree.specs.declared.module.Parameter.{Parameter}
use Rattle.resolve_names.specs.Noted.{has_text, Notes}
use Rattle.resolve_names.proofs.Noting.{notes_none, map_turn}
use Rattle.resolve_names.proofs.twice.note_parameters.Goals as goal

pub loop-parameter-init : goal.loop-parameter-init
loop-parameter-init c = notes_none (has_text c.args.known.now) c.args.least

pub loop-parameter-preserved : goal.loop-parameter-preserved
loop-parameter-preserved c =
    map_turn (has_text c.args.known.now) c.args.least (has_text c.loop-parameter.known) c.loop-parameter.so_far (has_text c.note.new.known) c.in_ok-so_far.so_far (λ (p : Parameter). p.name) c.args.parameters.now
    c.loop-parameter.parameter-index c.parameter-item.result c.loop-parameter-test.true c.parameter-item.is c.loop-parameter.invariant c.in_ok-so_far.ensures

pub returns : goal.returns
returns c =
    subst (λ (ns : List Named). Notes ns (has_text c.args.known.now) c.args.least (has_text c.loop-parameter.known) c.loop-parameter.so_far)
    (ap (map (λ (p : Parameter). p.name)) (take_all c.loop-parameter.parameter-index c.args.parameters.now c.loop-parameter-test.false)) c.loop-parameter.invariant
