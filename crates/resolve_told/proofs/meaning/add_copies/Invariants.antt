use Rattle.std.proofs.Common.{◌≡◌, ◌++◌, map, take}
use Rattle.syntax_tree.specs.declared.expr.Named.{Named}
use Rattle.resolve_told.proofs.meaning.add_copies.Given as goal

abbrev pub invariant-loop-name : goal.invariant-loop-name
invariant-loop-name l = l.all ≡ l.initial.all ++ map (λ (n : Named). l.columns) (take l._name-index l.names)
