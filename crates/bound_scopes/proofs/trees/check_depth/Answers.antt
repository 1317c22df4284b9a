use Rattle.std.proofs.Common.{map}
use Rattle.base_types.specs.declared.place.Rule.TheVariants as rule
use Rattle.bound_definitions.specs.Trees.{deep_calls}
use Rattle.bound_scopes.specs.Roots.{counted_root}
use Rattle.bound_scopes.proofs.Answering.{places_kept, places_refused}
use Rattle.bound_scopes.proofs.trees.check_depth.Goals as goal

pub returns-clause-ok : goal.returns-clause-ok
returns-clause-ok c = places_kept (deep_calls c.args.model.now.bodies (map counted_root c.args.roots.now)) rule.DeepCalls c.in_ok-found.found c.ask.result c.in_ok-found.ensures c.ask.ensures

pub returns-clause-refused : goal.returns-clause-refused
returns-clause-refused c = places_refused (deep_calls c.args.model.now.bodies (map counted_root c.args.roots.now)) rule.DeepCalls c.in_ok-found.found c.ask.result c.in_ok-found.ensures c.ask.ensures
