use Rattle.std.proofs.Common.{◌≡◌, ◌↔◌, ℕ, List, get_or, arith, refl, subst}
use Rattle.eval_sets.specs.Rows.{GivesTwice}
use Rattle.eval_sets.proofs.Gather.{gains_put}
use Rattle.eval_sets.proofs.RowLaw.{twice_row}
use Rattle.eval_sets.proofs.rows.add_twice.Goals as goal

pub returns : goal.returns
returns c =
    let n = c.numbers-numbers.result.now in
    gains_put c.put.result c.args.all.now c.put.new.set GivesTwice c.args.tuple.now c.in_ok-row.row
    (subst (λ (v : List ℕ). (t : List ℕ) → (t ≡ c.in_ok-row.row) ↔ GivesTwice v t) c.numbers-numbers.ensures.same (twice_row n c.in_ok-row.row (get_or n 0 0) 0 (omega arith) refl c.in_ok-row.ensures))
    c.put.ensures.ok
