use Rattle.std.proofs.Common.{◌≡◌, nat_lt, false, List, [], length, sym, ap, ◌∙◌, arith}
use Rattle.std.proofs.lemmas.Bool.Decides.{nat_tests}
use Rattle.gate_trait.specs.declared.node.Node.{Node}
use Rattle.gate_trait.proofs.KeptLemmas.{keeps_refl, all_more, all_same, length_push, all_none}
use Rattle.gate_integers.proofs.RowLemmas.{told_more}
use Rattle.gate_integers.proofs.limit.first_row.Goals as goal

pub loop-entry-init : goal.loop-entry-init
loop-entry-init g c =
    let value = g.G.Gates.node_value in
    let belongs = g.G.Gates.belongs in
    let first = c.args.gates.now in
    record {
      belongs = all_same (belongs first) [] c.new-row.result c.new-row.ensures (all_none (belongs first));
      entries = ap (λ (ns : List Node). length ns) c.new-row.ensures;
      tells = λ x j d lt. let long = ap (λ (ns : List Node). length ns) c.new-row.ensures in absurd (omega (arith, long, lt));
    }

pub loop-entry-preserved : goal.loop-entry-preserved
loop-entry-preserved g c =
    let value = g.G.Gates.node_value in
    let belongs = g.G.Gates.belongs in
    let before = c.loop-entry.invariant in
    let now = c.args.gates.now in
    let same = keeps_refl belongs value now in
    let p = c.in_ok-push.ensures.ok in
    let i = c.loop-entry._entry in
    let none : false ≡ nat_lt i 0 = (let t : nat_lt i 0 ≡ false = grind (arith, nat_tests) in sym t) in
    let long = ap (λ (ns : List Node). length ns) p ∙ length_push c.loop-entry.row _ in
    record {
      belongs = all_more belongs value now now same c.loop-entry.row c.push.new.self _ p before.belongs c.constant.ensures.there;
      entries = long ∙ omega (arith, before.entries);
      tells = λ x k d lt. told_more belongs value now now same c.loop-entry.row c.push.new.self _ p before.belongs x i before.entries
          (λ k. nat_lt k 0) (λ k d l. before.tells x k d (omega (arith, l, before.entries))) (c.constant.ensures.gives x ∙ none) k d (omega (arith, lt, long, before.entries));
    }
