use Rattle.std.proofs.Common.{refl}
use Rattle.bmc_places.proofs.StoreLaws.{extends_trans}
use Rattle.bmc_walk.proofs.ReadyLaws.{ready_ground}
use Rattle.bmc_walk.proofs.once.inner_integers.Goals as goal

pub returns-clause-extends : goal.returns-clause-extends
returns-clause-extends g c = extends_trans c.args.store.now c.made_sets.new.store c.integers_at.new.store c.in_ok-all.ensures.extends c.in_ok-made.ensures.extends

pub returns-clause-right : goal.returns-clause-right
returns-clause-right g c =
    let value = g.G.Gates.node_value in
    let belongs = g.G.Gates.belongs in
    let outer = c.args.walk.now.ground.now in
    let known = c.args.known.now in
    let first = c.args.gates.now in
    let now = c.made_sets.new.gates in
    let a = c.args.store.now in
    let b = c.made_sets.new.store in
    record {
      right = λ n is le. c.in_ok-made.ensures.right.right n (ready_ground belongs value outer known first now a b c.made_sets.ensures.keeps c.requires.stored c.in_ok-all.ensures.extends _ c.in_ok-all.all.items refl refl
          (λ r m made before. (made, before)) c.in_ok-all.ensures.right n is) le;
    }
