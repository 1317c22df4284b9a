use Rattle.std.proofs.Common.{◌≡◌, ◌-◌, [], length, refl, arith}
use Rattle.std.proofs.lemmas.Option.{slice_get_read}
use Rattle.syntax_machine.specs.Stacks.{stack_at, stacks_of}
use Rattle.syntax_machine.proofs.Shared.{if_none, node_past, node_below, node_alone}
use Rattle.syntax_machine.proofs.stacks.node_at.Goals as goal

pub returns-in_err-node-clause-none : goal.returns-in_err-node-clause-none
returns-in_err-node-clause-none c = if_none c.from_residual.result (stack_at (stacks_of c.args.nodes.now) c.args.at ≡ [])
    (node_past c.args.nodes.now c.args.at (omega (arith, c.if-at-eq0.false)) c.in_err-node.ensures.lookup.3)

pub returns-then-node-at-clause-some : goal.returns-then-node-at-clause-some
returns-then-node-at-clause-some c =
    let nodes = c.args.nodes.now in
    let node = c.in_ok-node.field-0.now in
    let got = slice_get_read nodes (length nodes) (c.args.at - 1) node refl c.in_ok-node.ensures.lookup.3.0 c.in_ok-node.ensures.lookup.1 in
    node_below nodes c.args.at node (omega (arith, c.if-at-eq0.false)) got c.if-node-at.true

pub returns-clause-some : goal.returns-clause-some
returns-clause-some c =
    let nodes = c.args.nodes.now in
    let node = c.in_ok-node.field-0.now in
    let got = slice_get_read nodes (length nodes) (c.args.at - 1) node refl c.in_ok-node.ensures.lookup.3.0 c.in_ok-node.ensures.lookup.1 in
    node_alone nodes c.args.at node (omega (arith, c.if-at-eq0.false)) got (omega (arith, c.if-node-at.false))
