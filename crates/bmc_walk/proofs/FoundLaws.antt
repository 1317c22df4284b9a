-- What a value says of a fact.
use Rattle.std.proofs.Common.{◌≡◌, ◌↔◌, Bool, true, false, IsTrue, sym, ◌∙◌}

pub said_true : {P : Type 0} (b : Bool) → IsTrue b ↔ P → b ≡ true → P
said_true b is e = is.0 e

pub said_false : {P : Type 0} (b : Bool) → IsTrue b ↔ P → b ≡ false → ¬ P
said_false b is e p = (let clash : false ≡ true = sym e ∙ is.1 p in absurd cc)
