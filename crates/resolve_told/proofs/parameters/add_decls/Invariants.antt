use Rattle.std.proofs.Common.{◌≡◌, ◌++◌, map, take, drop}
use Rattle.resolve_said.specs.Locals.{under_decls}
use Rattle.resolve_told.specs.Bodies.{named_by, this_scope}
use Rattle.resolve_told.specs.Views.{declared}
use Rattle.resolve_told.proofs.parameters.add_decls.Given as goal

abbrev pub invariant-loop-place : goal.invariant-loop-place
invariant-loop-place l = map declared l.all.items ++ named_by (under_decls (this_scope l.has_this) (take l.place l.decls)) (drop l.place l.decls)
    ≡ map declared l.initial.all.items ++ named_by (this_scope l.has_this) l.decls
