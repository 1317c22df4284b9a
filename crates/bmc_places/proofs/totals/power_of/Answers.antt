use Rattle.std.proofs.Common.{◌^◌, ◌≤◌, arith}
use Rattle.bmc_places.proofs.BitLaws.{pow_few}
use Rattle.bmc_places.proofs.totals.power_of.Goals as goal

pub pow-requires : goal.pow-requires
pow-requires c = let few : 2 ^ c.args.bits ≤ 4096 = pow_few c.args.bits c.requires in omega arith
