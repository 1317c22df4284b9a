use Rattle.core_meaning.specs.Kept.{atom_count}
use Rattle.eval_context.proofs.PowLaw.{pow_bound}
use Rattle.eval_context.proofs.setting.Setting.bits.Goals as goal

pub returns-clause-most : goal.returns-clause-most
returns-clause-most c =
    pow_bound (atom_count c.self.inside.scopes.now.numbers) c.self.inside.scopes.now.bits c.self.invariant.1.room
