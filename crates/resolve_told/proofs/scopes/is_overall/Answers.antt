use Rattle.resolve_told.proofs.scopes.is_overall.Goals as goal

pub returns : goal.returns
returns c = λ yes. record {
  number_place = c.is_same.ensures c.if-not-is_same.false;
  name_place = c.is_same-2.ensures c.if-not-is_same-2.false;
  number = c.same_number.ensures c.if-not-same_number.false;
  exactly = c.same_flag.ensures c.if-not-same_flag.false;
  subject = c.is_for_all.ensures yes;
}
