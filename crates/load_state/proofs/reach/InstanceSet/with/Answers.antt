use Rattle.std.proofs.Common.{refl, bit_or}
use Rattle.load_state.proofs.Sets.{in_with}
use Rattle.load_state.proofs.reach.InstanceSet.with.Goals as goal

pub returns : goal.returns
returns c = λ n. in_with c.args.self c.args.other (record { bits = bit_or c.args.self.bits c.args.other.bits }) n refl
