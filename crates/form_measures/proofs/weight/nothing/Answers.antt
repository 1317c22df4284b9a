use Rattle.std.proofs.Common.{refl}
use Rattle.form_measures.proofs.Uses.{nothing_weight}
use Rattle.form_measures.proofs.weight.nothing.Goals as goal

pub returns : goal.returns
returns c = λ d. nothing_weight d (record { own = 0; uses = c.new.result }) refl c.new.ensures.items
