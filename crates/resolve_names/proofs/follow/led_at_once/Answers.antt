use Rattle.std.proofs.Common.{Bool, true, List, [], sym, subst}
use Rattle.resolve_names.specs.declared.table.Namespace.{Namespace}
use Rattle.resolve_names.specs.Marks.{AreLed}
use Rattle.resolve_names.proofs.follow.led_at_once.Goals as goal

pub returns-then-is_own : goal.returns-then-is_own
returns-then-is_own c =
    subst (λ (b : Bool). AreLed c.args.names.now.scopes c.args.from b [] c.in_ok-own.own.items) (sym c.if-is_own.true)
    (subst (λ (s : List Namespace). AreLed s c.args.from true [] c.in_ok-own.own.items) c.as_slice.ensures c.in_ok-own.ensures)

pub returns : goal.returns
returns c =
    subst (λ (b : Bool). AreLed c.args.names.now.scopes c.args.from b [] c.in_ok-marks.marks.items) (sym c.if-is_own.false) c.in_ok-marks.ensures
