use Rattle.std.proofs.Common.{◌≡◌, ◌∙◌, ℕ, zero, List, replicate, min, get_or, ap, arith}
use Rattle.std.proofs.lemmas.List.{take_at}
use Rattle.gate_tseitin.proofs.Asked.{asked_first}
use Rattle.gate_tseitin.proofs.fold.asked_of.Goals as goal

pub returns-clause-asked : goal.returns-clause-asked
returns-clause-asked c = λ k.
    let start : c.deref_mut.result.now ≡ replicate c.gates.result zero = c.deref_mut.ensures.value ∙ c.in_ok-asked.ensures.items_if_clones_equal (λ y e. e) in
    ap (λ (xs : List ℕ). min (get_or xs k 0) 2) (take_at c.ask_all.new.asked _ c.in_ok-asked.asked.len (omega (arith, c.ask_all.auto.asked, c.deref_mut.ensures.len)))
    ∙ asked_first c.deref_mut.result.now c.ask_all.new.asked c.gates.result k _ start (c.ask_all.ensures k)
