use Rattle.std.proofs.Common.{◌∙◌, List, ℕ, sym, ap}
use Rattle.std.specs.Str.{bytes_eq}
use Rattle.resolve_said.proofs.Sums.{own_next, own_here, own_end}
use Rattle.resolve_said.proofs.names.has_own.Goals as goal

pub loop-one-preserved : goal.loop-one-preserved
loop-one-preserved c = own_next c.args.own.now c.args.text.now c.loop-one.one-index c.one-item.result _ c.loop-one-test.true c.one-item.is (ap (λ (t : List ℕ). bytes_eq t c.args.text.now) (sym c.text.ensures) ∙ sym c.same_text.ensures ∙ c.if-same_text.false) c.loop-one.invariant

pub returns-then-same_text : goal.returns-then-same_text
returns-then-same_text c = own_here c.args.own.now c.args.text.now c.loop-one.one-index c.one-item.result _ c.loop-one-test.true c.one-item.is (ap (λ (t : List ℕ). bytes_eq t c.args.text.now) (sym c.text.ensures) ∙ sym c.same_text.ensures ∙ c.if-same_text.true) c.loop-one.invariant

pub returns : goal.returns
returns c = own_end c.args.own.now c.args.text.now c.loop-one.one-index _ c.loop-one-test.false c.loop-one.invariant
