use Rattle.std.proofs.Common.{◌≡◌, ◌↔◌, ℕ, Bool, true, IfOk, sym, subst}
use Rattle.gate_operators.specs.Sets.{set_of}
use Rattle.gate_sets.specs.declared.questions.Question.{Question}
use Rattle.gate_sets.specs.Sets.{IsAnswered}
use Rattle.gate_sets.proofs.questions.ask.Goals as goal

pub returns-in-Lone-clause-means : goal.returns-in-Lone-clause-means
returns-in-Lone-clause-means g c =
    let old = g.G.Gates.node_value c.args.gates.now in
    let new = g.G.Gates.node_value c.at_most_one.new.gates in
    subst (λ (q : Question). IfOk c.at_most_one.result (λ n. (x : ℕ → Bool) → (new x n ≡ true) ↔ IsAnswered q (set_of (old x) c.args.a.now) (set_of (old x) c.args.b.now))) (sym c.in-Lone.is) c.at_most_one.ensures.means
