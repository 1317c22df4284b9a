use Rattle.std.proofs.Common.{refl}
use Rattle.bound_definitions.specs.Trees.{counted_command}
use Rattle.bound_scopes.proofs.Roots.{added_root}
use Rattle.bound_scopes.proofs.counted.add_command.Goals as goal

pub returns : goal.returns
returns c = added_root c.args.all.now.items c.push.new.self.items _ (counted_command c.args.command.now) c.in_ok-push.ensures.items refl
