use Rattle.resolve_told_types.proofs.told.are_sig_types.Goals as goal

pub returns : goal.returns
returns c = λ t.
    let types = c.in_ok-are_right.ensures c.if-not-are_right.false in
    record {
      lines = c.are_lines.ensures c.if-not-are_lines.false;
      every = types.every;
      each = types.each;
      univ = c.is_univ.ensures c.if-not-is_univ.false;
      iden = c.is_iden.ensures t;
    }
