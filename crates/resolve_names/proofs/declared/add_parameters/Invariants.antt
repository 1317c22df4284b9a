use Rattle.std.proofs.Common.{◌≡◌, ◌++◌, drop}
use Rattle.resolve_names.specs.Gathered.{parameters_with}
use Rattle.resolve_names.proofs.declared.add_parameters.Given as goal

-- what was added, and the parameters that are left
abbrev pub invariant-loop-place : goal.invariant-loop-place
invariant-loop-place l = l.declared ++ parameters_with (drop l.place l.parameters) (drop l.place l.arguments) ≡ l.initial.declared ++ parameters_with l.parameters l.arguments
