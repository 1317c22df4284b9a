use Rattle.std.proofs.Common.{◌≡◌, ◌++◌, map, drop}
use Rattle.resolve_said.specs.Locals.{under_decls}
use Rattle.resolve_told.specs.Bodies.{named_from, this_scope}
use Rattle.resolve_told.specs.Views.{declared}
use Rattle.resolve_told.proofs.parameters.add_decl.Given as goal

abbrev pub invariant-loop-place : goal.invariant-loop-place
invariant-loop-place l = map declared l.all.items ++ named_from (under_decls (this_scope l.has_this) l.before) l.decl l.place (drop l.place l.decl.names)
    ≡ map declared l.initial.all.items ++ named_from (under_decls (this_scope l.has_this) l.before) l.decl 0 l.decl.names
