use Rattle.std.proofs.Common.{refl, ◌⊎◌, true}
use Rattle.core_tuples.specs.Sets.{In}
use Rattle.core_tuples.proofs.JustLaw.{merged_made, union_means}
use Rattle.core_tuples.proofs.merge.union.Goals as goal

pub returns : goal.returns
returns c =
    merged_made c.merge.result c.arity.result c.keyed.result.now c.keyed-2.result.now c.args.a.now c.args.b.now (record { first = true; both = true; second = true }) (λ t. In t c.args.a.now ⊎ In t c.args.b.now)
    c.arity.ensures.columns c.keyed.ensures.all c.keyed-2.ensures.all c.merge.ensures.arity c.merge.ensures.truth
    (λ t. union_means (record { first = true; both = true; second = true }) c.args.a.now.tuples c.args.b.now.tuples t refl refl refl)
