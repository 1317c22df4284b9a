use Rattle.std.proofs.Common.{subst}
use Rattle.resolve_told_opens.specs.Told.{AreOpensTold}
use Rattle.resolve_told_sigs.specs.Told.{AreSigsTold}
use Rattle.resolve_told.specs.Bodies.{AreBodiesTold}
use Rattle.resolve_told.specs.Commands.{AreCommandsTold}
use Rattle.resolve_told.proofs.whole.is_of_texts.Goals as goal

pub returns : goal.returns
returns c = λ same.
    let l = c.args.loaded.now in
    let m = c.args.model.now in
    let r = c.args.readings.now in
    record {
      placed = c.in_ok-placed.ensures c.if-not-placed.false;
      sigs = subst (λ ns. AreSigsTold l.texts l.instances ns m r) c.in_ok-names.ensures (c.in_ok-sigs.ensures c.if-not-sigs.false);
      bodies = subst (λ ns. AreBodiesTold l.texts l.instances ns m r) c.in_ok-names.ensures (c.in_ok-bodies.ensures c.if-not-bodies.false);
      commands = subst (λ ns. AreCommandsTold l.texts l.instances ns m r) c.in_ok-names.ensures (c.in_ok-commands.ensures c.if-not-commands.false);
      literals = c.in_ok-literals.ensures c.if-not-literals.false;
      opens = subst (λ ns. AreOpensTold l.texts l.instances ns m.sigs) c.in_ok-names.ensures (c.in_ok-opens.ensures same);
    }
