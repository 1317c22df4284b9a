use Rattle.std.proofs.Common.{◌≡◌, ◌↔◌, ℕ, List, subst}
use Rattle.eval_steps.specs.Judged.{GivesHead}
use Rattle.eval_steps.proofs.Gather.{gains_put}
use Rattle.eval_steps.proofs.StepLaw.{head_row}
use Rattle.eval_steps.proofs.sides.add_head.Goals as goal

pub returns : goal.returns
returns c =
    gains_put c.put.result c.args.all.now c.put.new.set (GivesHead c.args.columns) c.args.tuple.now c.in_ok-row.row
    (subst (λ (v : List ℕ). (t : List ℕ) → (t ≡ c.in_ok-row.row) ↔ GivesHead c.args.columns v t) c.numbers-numbers.ensures.same (head_row c.numbers-numbers.result.now c.args.columns c.in_ok-row.row c.if-columns-numbers.false _ c.in_ok-row.ensures c.split_at.ensures.front))
    c.put.ensures.ok
