use Rattle.std.proofs.Common.{◌∙◌, ◌≤◌, length, arith}
use Rattle.cli_model.proofs.Questions.{named_at, beside_all}
use Rattle.cli_model.proofs.traced.refused_value.Goals as goal

pub returns-then-number-len : goal.returns-then-number-len
returns-then-number-len c =
    let past : length c.args.ready.now.loaded.texts ≤ c.args.refusal.place.module = omega (arith, c.if-number-len.true, c.len.ensures) in
    beside_all c.args.ready.now.loaded c.args.refusal _ past c.in_ok-copy.ensures

pub returns : goal.returns
returns c = named_at c.args.ready.now.loaded c.args.refusal c.get.result.now _ c.get.ensures (c.in_ok-copy-2.ensures ∙ c.text-name.ensures)
