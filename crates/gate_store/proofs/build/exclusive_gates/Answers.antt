use Rattle.std.proofs.Common.{◌∙◌, ap, sym, ℕ, Bool, false, not, get_or}
use Rattle.gate_trait.specs.NodeWords.{number_of}
use Rattle.gate_trait.specs.Built.{xor}
use Rattle.gate_trait.specs.Circuit.{values}
use Rattle.gate_store.proofs.Laws.{first_value}
use Rattle.gate_store.proofs.build.exclusive_gates.Goals as goal

pub returns-then-low-eq0-clause-ok : goal.returns-then-low-eq0-clause-ok
returns-then-low-eq0-clause-ok c =
    let old = c.args.store.now in
    let n = c.of_gate-other.result in
    record {
      there = c.negation.ensures.there;
      gives = λ x.
          c.negation.ensures.gives x
          ∙ ap (λ (b : Bool). not (xor b (get_or (values old x) (number_of n) false))) c.of_gate-other.ensures.positive
          ∙ ap (λ (k : ℕ). not (get_or (values old x) k false)) c.of_gate-other.ensures.number
          ∙ ap (λ (b : Bool). xor b (get_or (values old x) c.args.high false)) (sym (first_value old c.gates-count.ensures.layered c.gates-count.ensures.first x))
          ∙ ap (λ (k : ℕ). xor (get_or (values old x) k false) (get_or (values old x) c.args.high false)) (sym c.if-low-eq0.true);
    }
