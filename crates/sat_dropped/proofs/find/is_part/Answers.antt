use Rattle.std.proofs.Common.{◌-◌, ◌∙◌, ℕ, sym, ap}
use Rattle.std.specs.Int.Bits.{bit_or}
use Rattle.sat_trail.specs.State.{clause_at}
use Rattle.sat_dropped.specs.Part.{signature_of}
use Rattle.sat_dropped.proofs.Signing.{part_bits}
use Rattle.sat_dropped.proofs.find.is_part.Goals as goal

pub returns-then-signature-bits-clause-other : goal.returns-then-signature-bits-clause-other
returns-then-signature-bits-clause-other c = λ _ part.
    let clause = clause_at c.args.trail.now (c.args.number - 1) in
    c.if-signature-bits.true
    (ap (λ (x : ℕ). bit_or x c.args.bits) c.requires.signed.signature_is ∙ (ap (λ (y : ℕ). bit_or (signature_of clause) y) c.requires.bits ∙ (part_bits clause c.args.literals.now part ∙ sym c.requires.bits)))
