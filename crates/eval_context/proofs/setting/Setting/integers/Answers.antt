use Rattle.std.proofs.Common.{◌≡◌, ◌+◌, ◌^◌, ◌∷◌, [], ℕ, ap, ◌∙◌, arith}
use Rattle.eval_context.specs.Settings.{world}
use Rattle.eval_context.proofs.SetLaw.{counts_more, counts_all}
use Rattle.eval_context.proofs.setting.Setting.integers.Goals as goal

pub loop-place-preserved : goal.loop-place-preserved
loop-place-preserved c =
    counts_more (world c.args.self.now) c.loop-place.place c.loop-place.all c.put.new.set c.in_ok-of.field-0 c.loop-place.invariant (c.in_ok-of.ensures ∙ ap (λ (k : ℕ). (k + c.loop-place.place) ∷ []) c.atoms-first.ensures.number) c.in_ok-put.ensures.ok

pub returns : goal.returns
returns c =
    let e : c.loop-place.place ≡ c.integer_count-place-end.result = omega arith in
    counts_all (world c.args.self.now) c.loop-place.place c.loop-place.all (e ∙ c.integer_count-place-end.ensures.number ∙ ap (λ (k : ℕ). 2 ^ k) c.bits.ensures.number) c.loop-place.invariant
