use Rattle.eval_sets.proofs.SizeLaw.{places_differ}
use Rattle.eval_sets.proofs.sizes.size_of.Goals as goal

pub returns-clause-listed : goal.returns-clause-listed
returns-clause-listed c = record { distinct = places_differ c.args.set.now c.len.ensures.set; all_and_only = λ t. ((λ h. h), (λ h. h)) }
