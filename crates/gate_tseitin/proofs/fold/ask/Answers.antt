use Rattle.std.proofs.Common.{◌∙◌, ◌+◌, ℕ, min, set, get_or, ap}
use Rattle.gate_tseitin.proofs.Asked.{ask_law}
use Rattle.gate_tseitin.proofs.fold.ask.Goals as goal

pub returns : goal.returns
returns c = λ k.
    let old = c.args.asked.now in
    ask_law old _ c.args.node c.args.much c.sum_to_two.result c.requires
    (ap (λ (j : ℕ). set old j c.sum_to_two.result) c.number-place.ensures)
    (c.sum_to_two.ensures ∙ ap (λ (j : ℕ). min (get_or old j 0 + c.args.much) 2) c.number-place.ensures) k
