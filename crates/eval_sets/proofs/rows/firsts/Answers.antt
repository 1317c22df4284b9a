use Rattle.std.proofs.Common.{◌≡◌, ◌∷◌, [], ℕ, List, arith, refl, subst}
use Rattle.core_tuples.specs.Sets.{In, TupleList}
use Rattle.eval_sets.specs.Rows.{GivesFirst}
use Rattle.eval_sets.proofs.Gather.{gathers_none, gathers_more, gathered}
use Rattle.eval_sets.proofs.Members.{contains_none}
use Rattle.eval_sets.proofs.RowLaw.{first_means}
use Rattle.eval_sets.proofs.rows.firsts.Goals as goal

pub loop-tuple-init : goal.loop-tuple-init
loop-tuple-init c =
    gathers_none c.empty-all.result GivesFirst (λ t h. contains_none t (subst (λ (v : TupleList). In t v) c.empty-all.ensures h))

pub loop-tuple-preserved : goal.loop-tuple-preserved
loop-tuple-preserved c =
    gathers_more c.loop-tuple.all c.add_first.new.all GivesFirst c.keyed-tuples.result.now c.loop-tuple.tuple-index c.tuple-item.result c.tuple-item.result c.loop-tuple-test.true c.tuple-item.is refl c.loop-tuple.invariant c.in_ok-add_first.ensures

pub returns : goal.returns
returns c =
    gathered c.args.set.now c.loop-tuple.all GivesFirst c.keyed-tuples.result.now c.loop-tuple.tuple-index (λ t. (x : ℕ) × (r : List ℕ) × In (x ∷ r) c.args.set.now × (t ≡ x ∷ [])) (omega arith) c.keyed-tuples.ensures.all c.loop-tuple.invariant (first_means c.args.set.now)
