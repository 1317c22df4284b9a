use Rattle.std.proofs.Common.{rules}
use Rattle.load_state.proofs.Pairs.{distinct_push}
use Rattle.load_state.proofs.placing.placed.Goals as goal

pub returns-clause-distinct : goal.returns-clause-distinct
returns-clause-distinct c =
    distinct_push c.args.loading.now.keys.items c.add_instance.new.keys.items c.deref-4.result.now (c.args.text, c.args.request.now.arguments) (search rules)
    c.in_ok-added.ensures.pairs c.in_default.ensures
