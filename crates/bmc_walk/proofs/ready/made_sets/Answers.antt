use Rattle.gate_trait.proofs.KeptLemmas.{keeps_trans}
use Rattle.bmc_places.proofs.StoreLaws.{extends_trans}
use Rattle.bmc_walk.proofs.ReadyLaws.{made_more}
use Rattle.bmc_walk.proofs.ready.made_sets.Goals as goal

pub loop-place-preserved : goal.loop-place-preserved
loop-place-preserved g c =
    let value = g.G.Gates.node_value in
    let belongs = g.G.Gates.belongs in
    let ground = c.args.walk.now.ground.now in
    let known = c.args.known.now in
    let before = c.loop-place.invariant in
    let first = c.args.gates.now in
    let now = c.loop-place.gates in
    let later = c.made_of.new.gates in
    let a = c.args.store.now in
    let b = c.loop-place.store in
    let d = c.made_of.new.store in
    record {
      keeps = keeps_trans belongs value first now later before.keeps c.made_of.ensures.keeps;
      stored = c.in_ok-made.ensures.stored;
      extends = extends_trans a b d before.extends c.in_ok-made.ensures.extends;
      made = made_more belongs value ground known first now later a b d before.keeps c.made_of.ensures.keeps c.requires.stored before.stored before.extends c.in_ok-made.ensures.extends c.loop-place.all.items c.push.new.self.items c.in_ok-made.made c.in_ok-push.ensures.items before.made c.in_ok-made.ensures.right;
    }
