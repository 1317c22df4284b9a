use Rattle.std.proofs.Common.{map, subst}
use Rattle.resolve_told.specs.Commands.{IsCount}
use Rattle.resolve_told.specs.CommandViews.{seen_count}
use Rattle.resolve_told.specs.Lists.{OneByOne}
use Rattle.resolve_told.proofs.scopes.is_scope.Goals as goal

pub returns : goal.returns
returns c = λ same.
    subst (λ ds. OneByOne (λ n d e. IsCount c.args.names.now.scopes d e) ds c.args.entries.now) c.in_ok-counts.ensures
    (subst (λ all. OneByOne (λ n d e. IsCount c.args.names.now.scopes d e) (map seen_count all) c.args.entries.now) c.as_slice.ensures.value (c.in_ok-is_right.ensures same))
