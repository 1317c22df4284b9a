use Rattle.std.proofs.Common.{◌<◌, Bool, List, sym, subst}
use Rattle.resolve_names.specs.Marks.{IsBegun, IsNext}
use Rattle.resolve_names.proofs.Walk.{begun_next, count_free, fewer_free}
use Rattle.resolve_names.proofs.reach.spread.Goals as goal

pub loop-target-smaller : goal.loop-target-smaller
loop-target-smaller c =
    let next : IsNext c.args.scopes.now c.loop-target.marks.items c.in-Some.target = subst (λ (ms : List Bool). IsNext c.args.scopes.now ms c.in-Some.target) c.as_slice.ensures.value c.in-Some.ensures.some in
    subst (λ (ms : List Bool). count_free ms < count_free c.loop-target.marks.items) (sym c.mark.ensures) (fewer_free c.loop-target.marks.items c.in-Some.target next.6)

pub loop-target-preserved : goal.loop-target-preserved
loop-target-preserved c =
    let next : IsNext c.args.scopes.now c.loop-target.marks.items c.in-Some.target = subst (λ (ms : List Bool). IsNext c.args.scopes.now ms c.in-Some.target) c.as_slice.ensures.value c.in-Some.ensures.some in
    subst (λ (ms : List Bool). IsBegun c.args.scopes.now c.args.from c.args.opens.now ms) (sym c.mark.ensures) (begun_next c.args.scopes.now c.args.from c.args.opens.now c.loop-target.marks.items c.in-Some.target c.loop-target.invariant next)
