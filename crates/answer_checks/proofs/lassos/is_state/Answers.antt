use Rattle.answer_checks.proofs.lassos.is_state.Goals as goal

pub returns : goal.returns
returns c = λ t. record { fits = c.fits_state.ensures t; sets = c.have_sets.ensures }
