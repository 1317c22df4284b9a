use Rattle.gate_trait.specs.Circuit.{value_in}
use Rattle.gate_store.proofs.Laws.{either_value}
use Rattle.gate_store.proofs.build.either.Goals as goal

pub returns-clause-ok : goal.returns-clause-ok
returns-clause-ok c =
    let old = c.args.store.now in
    record {
      there = c.negation.ensures.there;
      gives = λ x. either_value (value_in old x c.args.a) (value_in old x c.args.b) _ _ _ _
          (c.negation-not_a.ensures.gives x) (c.negation-not_b.ensures.gives x) (c.in_ok-neither.ensures.ok.gives x) (c.negation.ensures.gives x);
    }
