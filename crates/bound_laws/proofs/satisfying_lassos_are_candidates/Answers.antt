use Rattle.bound_laws.proofs.Candidates.{candidates_of, owning_are_candidates}
use Rattle.bound_laws.proofs.Renaming.{owners_can_have}
use Rattle.bound_laws.proofs.satisfying_lassos_are_candidates.Goals as goal

pub returns : goal.returns
returns c =
    let rows = c.relations_have_rows.ensures in
    candidates_of c.lassos_unroll.ensures c.same_sequences_satisfy_the_same.ensures (owners_can_have rows.atoms rows.one_atom) c.lassos_have_renamed.ensures c.renaming_keeps_models.ensures.satisfied (owning_are_candidates rows.atoms rows.sigs rows.fields rows.one_atom)
