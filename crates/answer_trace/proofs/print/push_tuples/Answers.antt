use Rattle.std.proofs.lemmas.Result.{on_ok_weaker}
use Rattle.answer_trace.proofs.Tuples.{behind}
use Rattle.answer_trace.proofs.print.push_tuples.Goals as goal

pub returns : goal.returns
returns c =
    on_ok_weaker c.push_further_tuples.result
    (λ more. behind c.args.atoms.now c.args.tuples.now c.first-item.result c.numbers.result.now c.args.out.now.items c.push_first_tuple.new.out.items c.push_further_tuples.new.out.items c.in-len1-up.len_at_least c.first-item.is c.numbers.ensures.same c.in_ok-push_first_tuple.ensures more)
    c.push_further_tuples.ensures
