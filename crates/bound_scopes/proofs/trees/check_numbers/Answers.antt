use Rattle.std.proofs.Common.{map}
use Rattle.base_types.specs.declared.place.Rule.TheVariants as rule
use Rattle.bound_definitions.specs.Trees.{IsWideAt}
use Rattle.bound_scopes.specs.Roots.{counted_root}
use Rattle.bound_scopes.proofs.Answering.{asked_kept, asked_refused}
use Rattle.bound_scopes.proofs.trees.check_numbers.Goals as goal

pub returns-clause-ok : goal.returns-clause-ok
returns-clause-ok c = asked_kept (IsWideAt c.args.model.now.bodies (map counted_root c.args.roots.now) c.args.bits) rule.Literal c.in_ok-found.found c.ask.result c.in_ok-found.ensures c.ask.ensures

pub returns-clause-refused : goal.returns-clause-refused
returns-clause-refused c = asked_refused (IsWideAt c.args.model.now.bodies (map counted_root c.args.roots.now) c.args.bits) rule.Literal c.in_ok-found.found c.ask.result c.in_ok-found.ensures c.ask.ensures
