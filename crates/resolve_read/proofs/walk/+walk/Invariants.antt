use Rattle.std.proofs.Common.{take}
use Rattle.syntax_tree.specs.declared.expr.Expr.{Expr}
use Rattle.resolve_rules.specs.Prepared.{tree_of}
use Rattle.resolve_read.specs.At.{at_of, scope_of}
use Rattle.resolve_read.specs.Reads.{Reads, RowReads, StepsRead, ArgumentsRead, DeclsRead, ValuesRead, AreRead, LinksRead}
use Rattle.resolve_read.proofs.walk.+walk.Given as goal

abbrev pub invariant-reads_links-loop-place : goal.invariant-reads_links-loop-place
invariant-reads_links-loop-place l = (first : Expr) → Reads (at_of l.spot) (scope_of l.locals) first (tree_of l.fn.begun.part) l.fn.begun.choice → RowReads (at_of l.spot) (scope_of l.locals) first (take l.place l.links) (tree_of l.so_far.part) l.so_far.choice

abbrev pub invariant-reads_steps-loop-place : goal.invariant-reads_steps-loop-place
invariant-reads_steps-loop-place l = (first : Expr) → Reads (at_of l.spot) (scope_of l.locals) first (tree_of l.fn.begun.part) l.fn.begun.choice → StepsRead (at_of l.spot) (scope_of l.locals) first (take l.place l.steps) (tree_of l.so_far.part) l.so_far.choice

abbrev pub invariant-reads_step-loop-number : goal.invariant-reads_step-loop-number
invariant-reads_step-loop-number l = ArgumentsRead (at_of l.spot) (scope_of l.locals) (tree_of l.fn.before.part) l.fn.before.choice (take l.number l.arguments) (tree_of l.so_far.part) l.so_far.choice

abbrev pub invariant-decl_types-loop-place : goal.invariant-decl_types-loop-place
invariant-decl_types-loop-place l = DeclsRead (at_of l.spot) (scope_of l.locals) (take l.place l.decls) l.types

abbrev pub invariant-values_read-loop-place : goal.invariant-values_read-loop-place
invariant-values_read-loop-place l = ValuesRead (at_of l.spot) (scope_of l.locals) (take l.place l.bindings) l.types

abbrev pub invariant-are_read-loop-place : goal.invariant-are_read-loop-place
invariant-are_read-loop-place l = AreRead (at_of l.spot) (scope_of l.locals) (take l.place l.items)

abbrev pub invariant-links_are_read-loop-place : goal.invariant-links_are_read-loop-place
invariant-links_are_read-loop-place l = LinksRead (at_of l.spot) (scope_of l.locals) (take l.place l.links)
