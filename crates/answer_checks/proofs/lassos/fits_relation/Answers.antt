use Rattle.answer_checks.proofs.lassos.fits_relation.Goals as goal

pub returns : goal.returns
returns c = λ t.
    let fits = c.fits_label.ensures t in
    record {
      set = c.get-set.result.now;
      there = c.get-set.ensures;
      columns = fits.columns;
      lengths = fits.lengths;
      numbers = fits.numbers;
      hidden = fits.hidden;
    }
