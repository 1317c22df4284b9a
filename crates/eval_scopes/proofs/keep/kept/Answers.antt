use Rattle.std.proofs.Common.{◌≡◌, ◌↔◌, length, false, IsTrue, IfOk, sym, subst, arith}
use Rattle.core_meaning.specs.Kept.{Keeps}
use Rattle.eval_context.specs.Settings.{SettingValue}
use Rattle.eval_scopes.proofs.KeepLaw.{both_off, both_on}
use Rattle.eval_scopes.proofs.keep.kept.Goals as goal

pub returns-then-not-sigs : goal.returns-then-not-sigs
returns-then-not-sigs c =
    let even : length c.args.model.now.sigs ≡ length c.args.scopes.now.numbers = omega arith in
    let size = subst (λ (z : SettingValue). length z.model.sigs ≡ length z.scopes.numbers) (sym c.in_ok-setting.ensures) even in
    subst (λ (z : SettingValue). IsTrue false ↔ Keeps z.model z.scopes z.lasso) c.in_ok-setting.ensures (both_off c.in_ok-setting.setting c.in_ok-sigs.sigs size c.in_ok-sigs.ensures c.if-not-sigs.true)

pub returns : goal.returns
returns c =
    let even : length c.args.model.now.sigs ≡ length c.args.scopes.now.numbers = omega arith in
    let size = subst (λ (z : SettingValue). length z.model.sigs ≡ length z.scopes.numbers) (sym c.in_ok-setting.ensures) even in
    subst (λ (z : SettingValue). IfOk c.fields_keep.result (λ b. IsTrue b ↔ Keeps z.model z.scopes z.lasso)) c.in_ok-setting.ensures (both_on c.in_ok-setting.setting c.in_ok-sigs.sigs size c.in_ok-sigs.ensures c.fields_keep.result c.if-not-sigs.false c.fields_keep.ensures)
