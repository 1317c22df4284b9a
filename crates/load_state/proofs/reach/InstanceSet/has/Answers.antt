use Rattle.std.proofs.Common.{arith, bit_and, ◌/◌, ◌^◌, ◌-◌}
use Rattle.std.proofs.lemmas.Bool.Decides.{Decides-eqb}
use Rattle.load_state.proofs.Sets.{decides_in}
use Rattle.load_state.proofs.reach.InstanceSet.has.Goals as goal

pub returns : goal.returns
returns c =
    decides_in c.args.self c.args.instance _ (omega (arith, c.if-instance-eq0.false)) (omega (arith, c.if-instance-gt64.false))
    (Decides-eqb (bit_and (c.args.self.bits / 2 ^ (c.args.instance - 1)) 1) 1)
