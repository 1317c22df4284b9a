use Rattle.std.proofs.Common.{◌≡◌}
use Rattle.std.proofs.lemmas.Result.{IfOk-weaker}
use Rattle.answer_trace.specs.Faults.{IsRead}
use Rattle.answer_trace.proofs.Ways.{was_read}
use Rattle.answer_trace.proofs.read.read_trace.Goals as goal

pub returns-in-Ok-Some-clause-read : goal.returns-in-Ok-Some-clause-read
returns-in-Ok-Some-clause-read c =
    IfOk-weaker c.checked.result (λ l. l ≡ c.in-Ok-Some.lasso) (λ l. IsRead c.args.labels.now c.args.bytes.now l)
    (λ l same. was_read c.args.labels.now c.read_lasso.new.left c.new-left.result c.args.bytes.now c.in-Ok-Some.lasso l c.in-Ok-Some.field-0 c.in-Ok-Some.ensures c.in-Ok-Some.field-0-is c.new-left.ensures same)
    c.checked.ensures.lasso
