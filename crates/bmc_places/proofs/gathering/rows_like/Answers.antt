use Rattle.std.proofs.Common.{◌≡◌, ◌≤◌, List, All, length, refl, subst, arith, slice_get}
use Rattle.std.proofs.lemmas.Option.{slice_get_read}
use Rattle.bmc_places.specs.declared.gathering.Choice.{Choice}
use Rattle.bmc_places.proofs.ListLaws.{all_more, take_all}
use Rattle.bmc_places.proofs.gathering.rows_like.Goals as goal

pub loop-choice-preserved : goal.loop-choice-preserved
loop-choice-preserved c =
    let cs = c.args.choices.now in
    let one = c.choice-item.result in
    all_more (λ (d : Choice). slice_get d.row c.args.i ≡ slice_get d.row c.args.j) cs c.loop-choice.choice-index one (slice_get_read cs (length cs) c.loop-choice.choice-index one refl c.loop-choice-test.true c.choice-item.is) c.loop-choice.invariant (c.node_same_at-same.ensures c.if-not-same.false)

pub returns : goal.returns
returns c = λ same. (let high : length c.args.choices.now ≤ c.loop-choice.choice-index = omega (arith, c.loop-choice-test.false) in
    subst (λ (cs : List Choice). All (λ (d : Choice). slice_get d.row c.args.i ≡ slice_get d.row c.args.j) cs) (take_all c.args.choices.now c.loop-choice.choice-index high) c.loop-choice.invariant)
