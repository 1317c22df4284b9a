use Rattle.std.proofs.Common.{List, sym, subst}
use Rattle.resolve_names.specs.declared.table.Namespace.{Namespace}
use Rattle.resolve_names.specs.Marks.{IsLinked, AreBehind}
use Rattle.resolve_names.proofs.follow.path_marks.Goals as goal

pub follow-requires-clause-linked : goal.follow-requires-clause-linked
follow-requires-clause-linked c = subst (λ (s : List Namespace). IsLinked s) (sym c.as_slice.ensures) c.args.names.now.linked

pub returns : goal.returns
returns c = subst (λ (s : List Namespace). AreBehind s c.args.from c.args.path.now c.in_ok-marks.marks.items) c.as_slice.ensures c.in_ok-marks.ensures
