use Rattle.form_skolem.proofs.Opening.{found_at, some_found}
use Rattle.form_skolem.proofs.open.relation_body.Goals as goal

pub returns-in-Some-clause-some : goal.returns-in-Some-clause-some
returns-in-Some-clause-some c =
    some_found c.args.model.now c.args.command c.in-Some.chosen.now
    (found_at c.args.model.now.commands c.as_slice.result.now c.args.command c.in-Some.chosen.now c.as_slice.ensures (c.in-Some.ensures.lookup.3).0 (c.in-Some.ensures.lookup.1))
    c.body_with_relations.result c.body_with_relations.ensures.some
