use Rattle.std.proofs.Common.{◌≡◌, length, sym, ap, ◌∙◌, arith}
use Rattle.std.proofs.lemmas.List.{length-map}
use Rattle.core_meaning.specs.declared.scopes.Scopes.{Scopes}
use Rattle.core_meaning.specs.declared.scopes.SigScope.{SigScope}
use Rattle.eval_context.specs.Settings.{world}
use Rattle.eval_context.proofs.SetLaw.{reaches_more, reaches_all}
use Rattle.eval_context.proofs.setting.Setting.universe.Goals as goal

pub loop-sig-preserved : goal.loop-sig-preserved
loop-sig-preserved c =
    reaches_more (world c.args.self.now) c.args.position c.loop-sig.sig c.loop-sig.all c.in_ok-all-2.all c.loop-sig.invariant c.in_ok-all-2.ensures

pub returns : goal.returns
returns c =
    let e : length (world c.args.self.now).top ≡ c.len-sig-end.result = length-map c.args.self.now.scopes.numbers (λ (d : SigScope). d.top) ∙ ap (λ (x : Scopes). length x.numbers) (sym c.scopes.ensures.now) ∙ sym c.len-sig-end.ensures in
    reaches_all (world c.args.self.now) c.args.position c.loop-sig.sig c.loop-sig.all (omega (arith, e)) c.loop-sig.invariant
