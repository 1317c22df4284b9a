use Rattle.std.proofs.Common.{◌≡◌, ◌+◌, ◌<◌, nat_lt, true, List, [], length, sym, ap, ◌∙◌, arith}
use Rattle.std.proofs.lemmas.Bool.Decides.{nat_tests}
use Rattle.gate_trait.specs.declared.node.Node.{Node}
use Rattle.gate_trait.proofs.KeptLemmas.{keeps_refl, keeps_trans, all_more, all_same, length_push, all_none}
use Rattle.gate_integers.specs.Numbers.{bit}
use Rattle.gate_integers.proofs.RowLemmas.{told_more, choice_same}
use Rattle.gate_integers.proofs.Finals.{entry_law, test_next}
use Rattle.gate_integers.proofs.limit.count_one.Goals as goal

pub loop-entry-init : goal.loop-entry-init
loop-entry-init g c =
    let value = g.G.Gates.node_value in
    let belongs = g.G.Gates.belongs in
    let first = c.args.gates.now in
    record {
      keeps = keeps_refl belongs value first;
      belongs = all_same (belongs first) [] c.new-next.result c.new-next.ensures (all_none (belongs first));
      entries = ap (λ (ns : List Node). length ns) c.new-next.ensures;
      below = c.constant-below.ensures.there;
      before = λ x n told. c.constant-below.ensures.gives x ∙ (let t : nat_lt 0 (n + 1) ≡ true = grind (arith, nat_tests) in sym t);
      counted = λ x n told k d lt. absurd (omega arith);
    }

pub loop-entry-preserved : goal.loop-entry-preserved
loop-entry-preserved g c =
    let value = g.G.Gates.node_value in
    let belongs = g.G.Gates.belongs in
    let before = c.loop-entry.invariant in
    let first = c.args.gates.now in
    let now = c.loop-entry.gates in
    let after = c.choose.new.self in
    let k1 = c.choose.ensures.keeps in
    let row = c.args.row.now in
    let i = c.loop-entry.entry-index in
    let p = c.in_ok-push.ensures.ok in
    let lt : i < length row = omega arith in
    let kept = keeps_trans belongs value first now after before.keeps k1 in
    let more = c.in_ok-more.ensures.ok in
    record {
      keeps = kept;
      belongs = all_more belongs value now after k1 c.loop-entry.next c.push.new.self _ p before.belongs more.there;
      entries = ap (λ (ns : List Node). length ns) p ∙ length_push c.loop-entry.next _ ∙ omega (arith, before.entries);
      below = kept.belong _ (c.requires.row_belongs i _ lt);
      before = λ x n t. kept.values _ (c.requires.row_belongs i _ lt) x ∙ t i _ lt ∙ test_next i n;
      counted = λ x n t. told_more belongs value now after k1 c.loop-entry.next c.push.new.self _ p before.belongs x i before.entries
          (λ k. nat_lt k (n + bit (value first x c.args.node))) (before.counted x n t)
          (choice_same _ _ _ _ _ _ _ (more.gives x) (before.keeps.values c.args.node c.requires.node_belongs x) (before.before x n t) (before.keeps.values _ (c.requires.row_belongs i _ lt) x ∙ t i _ lt)
          ∙ entry_law (value first x c.args.node) i n);
    }
