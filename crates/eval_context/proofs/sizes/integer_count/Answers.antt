use Rattle.std.proofs.Common.{◌^◌, ◌≤◌, arith}
use Rattle.eval_context.proofs.PowLaw.{pow_few}
use Rattle.eval_context.proofs.sizes.integer_count.Goals as goal

pub pow-requires : goal.pow-requires
pow-requires c = let few : 2 ^ c.args.bits ≤ 16384 = pow_few c.args.bits c.requires in omega arith
