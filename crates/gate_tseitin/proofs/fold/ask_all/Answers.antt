use Rattle.gate_tseitin.proofs.Asked.{ask_both}
use Rattle.gate_tseitin.proofs.fold.ask_all.Goals as goal

pub returns : goal.returns
returns c = λ k. ask_both _ _ _ k _ _ (ask_both _ _ _ k _ _ (c.ask.ensures k) (c.ask_nodes.ensures k)) (c.ask_gates.ensures k)
