use Rattle.std.proofs.Common.{◌<◌, length, Contains, rules, sym, subst}
use Rattle.std.proofs.lemmas.List.Elements.{Contains-get_or}
use Rattle.resolve_told_sigs.proofs.Ancestors.{above_added}
use Rattle.resolve_told_sigs.proofs.above.gathered.Goals as goal

pub loop-place-preserved : goal.loop-place-preserved
loop-place-preserved c =
    let inside : c.loop-place.place < length c.loop-place.list.items = search rules in
    let number = c.index-number.result.now in
    let there : Contains c.loop-place.list.items number = subst (λ m. Contains c.loop-place.list.items m) (sym c.index-number.ensures) (Contains-get_or c.loop-place.list.items c.loop-place.place number inside) in (
      c.in_ok-add_parents.ensures.kept c.args.sig c.loop-place.invariant.0,
      above_added c.args.sigs.now c.args.sig number c.loop-place.list.items c.add_parents.new.list.items (c.loop-place.invariant.1 number there) c.loop-place.invariant.1 c.in_ok-add_parents.ensures,
    )
