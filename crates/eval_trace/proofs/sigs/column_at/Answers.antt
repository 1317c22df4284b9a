use Rattle.eval_trace.proofs.sigs.column_at.Goals as goal

pub returns-in-Sig : goal.returns-in-Sig
returns-in-Sig c =
    rw c.in-Sig.is c.relation_at.ensures

pub returns-in-Int : goal.returns-in-Int
returns-in-Int c =
    rw c.in-Int.is c.integers_at.ensures
