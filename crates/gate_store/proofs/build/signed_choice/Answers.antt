use Rattle.gate_trait.specs.Circuit.{value_in}
use Rattle.gate_store.proofs.Laws.{choice_value}
use Rattle.gate_store.proofs.build.signed_choice.Goals as goal

pub returns-clause-ok : goal.returns-clause-ok
returns-clause-ok c =
    let old = c.args.store.now in
    record {
      there = c.negation.ensures.there;
      gives = λ x. choice_value (value_in old x c.args.c) (value_in old x c.args.a) (value_in old x c.args.b) _ _ _ _
          (c.negation-not_a.ensures.gives x) (c.negation-not_b.ensures.gives x) (c.in_ok-node.ensures.ok.gives x) (c.negation.ensures.gives x);
    }
