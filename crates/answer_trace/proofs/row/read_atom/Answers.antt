use Rattle.std.proofs.Common.{◌≡◌, Some}
use Rattle.answer_trace.specs.Reading.{number_of}
use Rattle.answer_trace.proofs.Found.{number_small}
use Rattle.answer_trace.proofs.row.read_atom.Goals as goal

pub returns-in-Some-clause-bound : goal.returns-in-Some-clause-bound
returns-in-Some-clause-bound c =
    let e : Some c.in-Some.number ≡ number_of c.args.index.now c.split_at.result.0.now = cc (c.in-Some.ensures, c.find.ensures, c.in-Some.is) in
    number_small c.args.index.now c.split_at.result.0.now (Some c.in-Some.number) e
