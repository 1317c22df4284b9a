use Rattle.std.proofs.Common.{◌≡◌, ◌∙◌, ◌<◌, ◌&&◌, List, ap, refl, length, get_or, arith}
use Rattle.gate_trait.specs.declared.node.Node.{Node}
use Rattle.gate_trait.specs.NodeWords.{number_of}
use Rattle.gate_tseitin.specs.Named.{satisfied, named_values, any_node}
use Rattle.gate_tseitin.proofs.Clauses.{two_there, said_first, said_more, long_first, long_more, said_all, there_first, there_more}
use Rattle.gate_tseitin.proofs.define.define_and.Goals as goal

pub loop-node-init : goal.loop-node-init
loop-node-init c =
    let names = c.args.names.now.list.items in
    record {
      variables = refl;
      there = there_first (length names) _ _ c.args.output c.new-long.ensures.items c.in_ok-push.ensures.items c.requires.output_there;
      said = λ v. said_first _ _;
      long = λ v. long_first (named_values v names) c.args.output _ _ c.new-long.ensures.items c.in_ok-push.ensures.items;
    }

pub add_clause-requires-clause-there : goal.add_clause-requires-clause-there
add_clause-requires-clause-there c =
    let names = c.args.names.now.list.items in
    let node = get_or c.args.nodes.now c.loop-node.node-index (record { code = 0 }) in
    let first : number_of c.opposite.result < length names = omega (arith, c.opposite.ensures.number, c.requires.output_there) in
    two_there c.opposite.result node (length names) first (c.requires.there c.loop-node.node-index (record { code = 0 }) c.loop-node-test.true)

pub loop-node-preserved : goal.loop-node-preserved
loop-node-preserved c =
    let names = c.args.names.now.list.items in
    let i = c.loop-node.node-index in
    let node = get_or c.args.nodes.now i (record { code = 0 }) in
    let before = c.loop-node.invariant in
    let lt : number_of c.opposite-in-loop-node.result < length names = omega (arith, c.opposite-in-loop-node.ensures.number, c.requires.there i (record { code = 0 }) c.loop-node-test.true) in
    record {
      variables = c.in_ok-add_clause.ensures.variables ∙ before.variables;
      there = there_more (length names) c.loop-node.long.items _ c.opposite-in-loop-node.result c.in_ok-push-2.ensures.items lt before.there;
      said = λ v. said_more (named_values v names) c.args.output c.opposite.result c.args.nodes.now i (record { code = 0 }) _ _ _ c.loop-node-test.true c.opposite.ensures.number c.opposite.ensures.negated (before.said v) (c.in_ok-add_clause.ensures.value v);
      long = λ v. long_more (named_values v names) c.args.output c.opposite-in-loop-node.result c.loop-node.long.items _ c.args.nodes.now i (record { code = 0 }) c.loop-node-test.true c.opposite-in-loop-node.ensures.number c.opposite-in-loop-node.ensures.negated c.in_ok-push-2.ensures.items (before.long v);
    }

pub returns-clause-value : goal.returns-clause-value
returns-clause-value c = λ v.
    let vs = named_values v c.args.names.now.list.items in
    let before = c.loop-node.invariant in
    let said : satisfied v c.add_clause-2.new.cnf.clauses ≡ satisfied v c.loop-node.cnf.clauses && any_node vs c.loop-node.long.items = c.in_ok-add_clause-2.ensures.value v ∙ ap (λ (ns : List Node). satisfied v c.loop-node.cnf.clauses && any_node vs ns) c.deref.ensures.value in
    said_all vs c.args.output c.loop-node.long.items c.args.nodes.now c.loop-node.node-index (satisfied v c.args.cnf.now.clauses) _ _ (omega arith) (before.said v) (before.long v) said
