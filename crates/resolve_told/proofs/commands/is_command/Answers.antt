use Rattle.std.proofs.Common.{subst}
use Rattle.resolve_told.specs.Commands.{IsScope}
use Rattle.resolve_told.proofs.commands.is_command.Goals as goal

pub returns : goal.returns
returns c = λ same. record {
  kind = c.in_ok-is_there.ensures.kind c.if-not-is_there.false;
  keyword = c.in_ok-is_there.ensures.keyword c.if-not-is_there.false;
  first = c.in_ok-is_there.ensures.first c.if-not-is_there.false;
  name_place = c.in_ok-is_there.ensures.name_place c.if-not-is_there.false;
  label = c.in_ok-is_there.ensures.label c.if-not-is_there.false;
  scope = subst (IsScope c.args.sources.now.names.now.scopes c.args.written.now.scope) c.as_slice-entries.ensures (c.in_ok-is_counted.ensures c.if-not-is_counted.false);
  asks = c.in_ok-is_right.ensures same;
}
