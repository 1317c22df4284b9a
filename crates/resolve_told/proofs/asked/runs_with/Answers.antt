use Rattle.std.proofs.Common.{◌∙◌, sym, map}
use Rattle.core_tree.specs.Trees.{claim_of}
use Rattle.resolve_said.specs.Said.{standing_of}
use Rattle.resolve_told.specs.Views.{declared}
use Rattle.resolve_told.proofs.Running.{none_there, some_there, runs_none, runs_more}
use Rattle.resolve_told.proofs.asked.runs_with.Goals as goal

pub returns-then-is_none : goal.returns-then-is_none
returns-then-is_none c = λ yes.
    runs_none (standing_of c.args.site.now) c.args.body (map declared c.args.all.now) (claim_of c.args.formula.now) (none_there declared c.args.all.now (sym c.is_none.ensures ∙ c.if-is_none.true)) (c.is_call-is_right.ensures yes)

pub returns : goal.returns
returns c = λ same.
    runs_more (standing_of c.args.site.now) c.args.body (map declared c.args.all.now) (claim_of c.args.formula.now) (some_there declared c.args.all.now (sym c.is_none.ensures ∙ c.if-is_none.false)) (c.in_ok-is_right.ensures same)
