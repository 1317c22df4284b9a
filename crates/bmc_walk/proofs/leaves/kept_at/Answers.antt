use Rattle.std.proofs.Common.{◌≡◌, ◌∙◌, ℕ, List, Some, length, sym, ap, arith}
use Rattle.std.proofs.lemmas.Option.{slice_get-get_or}
use Rattle.bmc_walk.proofs.leaves.kept_at.Goals as goal

pub returns : goal.returns
returns c =
    let all = c.args.ground.now.kept.now in
    let kept = all.items in
    let number = c.args.number in
    let n = c.index-kept.result.now in
    let at = slice_get-get_or kept number n (omega (arith, c.if-number-len.false, c.len.ensures, all.ok.0)) ∙ ap Some (sym c.index-kept.ensures) in
    let same : c.in_ok-value.value.items ≡ n.items = c.in_ok-value.ensures.items_if_clones_equal (λ x y e. e) ∙ c.deref.ensures.value in
    let long = ap (λ (items : List ℕ). length items) same in
    (n, at, same, omega (arith, long, n.ok.0, c.len-count.ensures, c.if-count-eq0.false))
