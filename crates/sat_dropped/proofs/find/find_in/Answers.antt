use Rattle.std.proofs.Common.{◌≡◌, ◌-◌, ℕ, false, get_or, rules, below_more}
use Rattle.sat_trail.specs.State.{clause_at}
use Rattle.sat_dropped.specs.Part.{IsPart}
use Rattle.sat_dropped.proofs.find.find_in.Goals as goal

pub loop-at-preserved : goal.loop-at-preserved
loop-at-preserved c =
    let no : c.is_part.result ≡ false = search rules in
    below_more (λ (k : ℕ). IsPart (clause_at c.args.trail.now (get_or c.args.numbers.now k 0 - 1)) c.args.literals.now → ⊥) c.loop-at.at c.loop-at.invariant (c.is_part.ensures.other no)
