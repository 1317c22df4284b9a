use Rattle.std.proofs.Common.{◌∙◌}
use Rattle.resolve_told.proofs.scopes.is_entry.Goals as goal

pub returns : goal.returns
returns c = λ same. record {
  number_place = c.is_same.ensures c.if-not-is_same.false;
  name_place = c.is_same-2.ensures c.if-not-is_same-2.false ∙ c.target_place-place.ensures;
  number = c.same_number.ensures c.if-not-same_number.false;
  exactly = c.same_flag.ensures c.if-not-same_flag.false;
  subject = c.in_ok-is_right.ensures same;
}
