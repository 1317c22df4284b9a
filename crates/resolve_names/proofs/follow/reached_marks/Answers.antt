use Rattle.std.proofs.Common.{List, sym, subst}
use Rattle.resolve_names.specs.declared.table.Namespace.{Namespace}
use Rattle.resolve_names.specs.Marks.{IsLinked}
use Rattle.resolve_names.proofs.follow.reached_marks.Goals as goal

pub reached-requires-clause-linked : goal.reached-requires-clause-linked
reached-requires-clause-linked c = subst (λ (s : List Namespace). IsLinked s) (sym c.as_slice.ensures) c.args.names.now.linked
