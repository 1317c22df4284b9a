use Rattle.std.proofs.Common.{◌≡◌, ◌<◌, length, get_or, sym, ap, ◌∙◌, arith}
use Rattle.std.specs.Prelude.{count_by}
use Rattle.std.proofs.lemmas.List.Sums.{count_by-le-length}
use Rattle.std.proofs.lemmas.Option.{get_or_from_slice_get}
use Rattle.gate_trait.specs.declared.node.Node.{Node}
use Rattle.gate_trait.proofs.KeptLemmas.{all_get}
use Rattle.gate_integers.proofs.Finals.{most_law}
use Rattle.gate_integers.proofs.limit.at_most.Goals as goal

pub returns-then-limit-nodes-clause-value : goal.returns-then-limit-nodes-clause-value
returns-then-limit-nodes-clause-value g c = λ x. (
  (λ e. let few = count_by-le-length (g.G.Gates.node_value c.args.gates.now x) c.args.nodes.now in omega arith),
  (λ h. c.constant.ensures.gives x),
)

pub not-requires : goal.not-requires
not-requires g c = all_get (g.G.Gates.belongs c.last_row.new.gates) c.in_ok-row.row c.args.limit c.node-more.result c.in_ok-row.ensures.belongs c.node-more.ensures

pub returns-clause-value : goal.returns-clause-value
returns-clause-value g c = λ x.
    let value = g.G.Gates.node_value in
    let after = c.last_row.new.gates in
    let row = c.in_ok-row.row in
    let more = c.node-more.result in
    let lt : c.args.limit < length row = omega (arith, c.in_ok-row.ensures.entries) in
    let at : get_or row c.args.limit more ≡ more = get_or_from_slice_get row c.args.limit more more c.node-more.ensures in
    most_law _ (value after x more) c.args.limit (count_by (value c.args.gates.now x) c.args.nodes.now)
    (ap (λ (n : Node). value after x n) (sym at) ∙ c.in_ok-row.ensures.tells x c.args.limit more lt) (c.not.ensures.gives x)
