use Rattle.std.proofs.Common.{◌&&◌, ℕ, Bool, ◌∙◌, ap}
use Rattle.gate_temporal.specs.Rows.{row_value}
use Rattle.gate_temporal.proofs.Kept.{keeps_trans, here_value}
use Rattle.gate_temporal.proofs.LoopLaws.{one_more, none_more}
use Rattle.gate_temporal.proofs.loops.only_one.Goals as goal

pub loop-place-preserved : goal.loop-place-preserved
loop-place-preserved g c =
    let value = g.G.Gates.node_value in
    let belongs = g.G.Gates.belongs in
    let before = c.loop-place.invariant in
    let first = c.args.gates.now in
    let now = c.loop-place.gates in
    let middle = c.choose.new.self in
    let after = c.and.new.self in
    let place = c.loop-place.place in
    let s = c.in_ok-one.ensures.ok in
    let t = c.in_ok-none.ensures.ok in
    let choices = c.args.choices.now in
    let later = keeps_trans belongs value first now middle before.keeps c.choose.ensures.keeps in
    let here = λ (x : ℕ → Bool). here_value belongs value first now before.keeps choices c.requires.belongs place c.node.result c.node.ensures x in
    let there = λ (x : ℕ → Bool). here_value belongs value first middle later choices c.requires.belongs place c.node-in-loop-place.result c.node-in-loop-place.ensures x in
    record {
      keeps = keeps_trans belongs value first middle after later c.and.ensures.keeps;
      one = c.and.ensures.keeps.belong _ s.there;
      none = t.there;
      says_one = λ x. one_more (row_value (value first x) choices) place _ _ _ _ (here x) (before.says_none x) (before.says_one x) (c.and.ensures.keeps.values _ s.there x ∙ s.gives x);
      says_none = λ x. none_more (row_value (value first x) choices) place _ _ _ (there x) (before.says_none x)
          (t.gives x ∙ ap (λ (b : Bool). b && value middle x c.not-other.result) (c.choose.ensures.keeps.values _ before.none x) ∙ ap (λ (b : Bool). value now x c.loop-place.none && b) (c.not-other.ensures.gives x));
    }
