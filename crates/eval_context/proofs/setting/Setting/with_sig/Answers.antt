use Rattle.std.proofs.Common.{rules, ◌≡◌, map, Some, true, slice_get, sym, ◌∙◌, subst}
use Rattle.core_meaning.specs.declared.scopes.Scopes.{Scopes}
use Rattle.core_meaning.specs.declared.scopes.SigScope.{SigScope}
use Rattle.eval_context.specs.Settings.{world}
use Rattle.eval_context.proofs.SetLaw.{other_as_before, not_as_before, with_members, is_top}
use Rattle.eval_context.proofs.setting.Setting.with_sig.Goals as goal

pub returns-then-arity-ne1 : goal.returns-then-arity-ne1
returns-then-arity-ne1 c =
    other_as_before (world c.args.self.now) c.args.position c.args.sig c.in-Some.set.now c.args.all c.arity.ensures.set (λ e. c.if-arity-ne1.true (c.arity.ensures.columns ∙ e)) c.in-Some.ensures.some

pub returns-in_ok-combine-in-Some : goal.returns-in_ok-combine-in-Some
returns-in_ok-combine-in-Some c =
    let on : c.get.result.now.top ≡ true = search rules in
    let top = subst (λ (x : Scopes). slice_get (map (λ (d : SigScope). d.top) x.numbers) c.args.sig ≡ Some true) c.scopes.ensures.now (is_top c.scopes.result.now.numbers c.args.sig c.get.result.now c.get.ensures on) in
    with_members (world c.args.self.now) c.args.position c.args.sig c.in-Some.set.now c.args.all c.in_ok-combine-in-Some.field-0 top c.arity.ensures.set (sym c.arity.ensures.columns ∙ c.if-arity-ne1.false) c.in-Some.ensures.some c.in_ok-combine-in-Some.ensures

pub returns-in-None : goal.returns-in-None
returns-in-None c =
    not_as_before (world c.args.self.now) c.args.position c.args.sig c.args.all c.in-None.ensures.none
