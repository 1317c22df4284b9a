use Rattle.core_laws.proofs.Fields.{columns_have_atoms, sigs_have_rows, fields_have_rows, sigs_of_one_atom}
use Rattle.core_laws.proofs.relations_have_rows.Goals as goal

pub returns-clause-atoms : goal.returns-clause-atoms
returns-clause-atoms c = columns_have_atoms

pub returns-clause-sigs : goal.returns-clause-sigs
returns-clause-sigs c = sigs_have_rows

pub returns-clause-fields : goal.returns-clause-fields
returns-clause-fields c = fields_have_rows

pub returns-clause-one_atom : goal.returns-clause-one_atom
returns-clause-one_atom c = sigs_of_one_atom
