use Rattle.std.proofs.Common.{not, List, sym, ◌∙◌, ap, subst}
use Rattle.gate_trait.specs.declared.node.Node.{Node}
use Rattle.gate_temporal.specs.Rows.{row_value}
use Rattle.gate_trait.specs.Built.{AllIn}
use Rattle.gate_temporal.proofs.Kept.{value_get, values_push, long_more, all_push}
use Rattle.gate_temporal.proofs.pointwise.negated.Goals as goal

pub loop-place-preserved : goal.loop-place-preserved
loop-place-preserved g c =
    let value = g.G.Gates.node_value in
    let belongs = g.G.Gates.belongs in
    let before = c.loop-place.invariant in
    let now = c.args.gates.now in
    let place = c.loop-place.place in
    let p = c.in_ok-push.ensures.ok in
    record {
      there = subst (λ (s : List Node). AllIn (belongs now) s) (sym p) (all_push (belongs now) c.loop-place.row _ before.there c.not.ensures.there);
      long = long_more c.loop-place.row c.push.new.self _ place p before.long;
      values = λ x. values_push (value now x) c.loop-place.row c.push.new.self c.not.result place (λ i. not (row_value (value now x) c.args.f.now i)) p before.long (before.values x)
          (c.not.ensures.gives x ∙ ap not (sym (value_get (value now x) c.args.f.now place c.node.result c.node.ensures)));
    }
