use Rattle.std.proofs.Common.{map}
use Rattle.resolve_told.specs.Bodies.{this_scope}
use Rattle.resolve_told.specs.Views.{declared}
use Rattle.resolve_told.proofs.Walk.{decls_next}
use Rattle.resolve_told.proofs.parameters.add_decls.Goals as goal

pub loop-place-preserved : goal.loop-place-preserved
loop-place-preserved c =
    decls_next (this_scope c.args.has_this) c.args.decls.now c.loop-place.place c.index-decls-place.result (map declared c.loop-place.all.items) (map declared c.add_decl.new.all.items) _
    c.loop-place-test.true c.index-decls-place.is c.loop-place.invariant c.in_ok-add_decl.ensures
