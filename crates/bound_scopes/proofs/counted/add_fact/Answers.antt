use Rattle.std.proofs.Common.{refl}
use Rattle.bound_definitions.specs.Trees.{counted_fact}
use Rattle.bound_scopes.proofs.Roots.{added_root}
use Rattle.bound_scopes.proofs.counted.add_fact.Goals as goal

pub returns : goal.returns
returns c = added_root c.args.all.now.items c.push.new.self.items _ (counted_fact c.args.fact.now) c.in_ok-push.ensures.items refl
