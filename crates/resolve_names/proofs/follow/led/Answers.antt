use Rattle.std.proofs.Common.{◌≡◌, ℕ, ◌==◌, true, List, length, sym, subst, refl}
use Rattle.resolve_names.proofs.Path.{led_behind}
use Rattle.resolve_names.proofs.follow.led.Goals as goal

pub returns : goal.returns
returns c =
    led_behind c.args.names.now.scopes c.args.from c.args.is_own c.args.path.now c.in_ok-marks.marks.items
    (λ e. let f = c.is_empty.ensures in let g = c.if-is_empty.false in
    let h : (length c.args.path.now == 0) ≡ true = subst (λ (p : List (List ℕ)). (length p == 0) ≡ true) (sym e) refl in cc)
    c.in_ok-marks.ensures
