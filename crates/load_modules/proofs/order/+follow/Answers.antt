use Rattle.std.proofs.Common.{◌≡◌, ◌+◌, ℕ, List, refl, subst, arith}
use Rattle.load_modules.specs.Numbered.{HasOpens, Walks}
use Rattle.load_modules.specs.Steps.{IsNext, Leaves}
use Rattle.load_modules.specs.declared.order.Next.{Next}
use Rattle.load_modules.proofs.Walking.{some_of, walk_known, walk_new, walk_ends}
use Rattle.load_modules.proofs.order.+follow.Goals as goal

pub loop-place-preserved-then-not-next : goal.loop-place-preserved-then-not-next
loop-place-preserved-then-not-next t c =
    let i = c.args.instances.now in
    let ts = c.args.texts.now in
    let w = c.loop-place.walk in
    let n = c.in-Some-2.next in
    let is : IsNext i ts c.args.number c.args.way.now c.loop-place.place w.met w.passed.items n.number n.is_new n.way =
    some_of (λ (x : Next). IsNext i ts c.args.number c.args.way.now c.loop-place.place w.met w.passed.items x.number x.is_new x.way) c.in_ok-next.field-0 n c.in-Some-2.is c.in_ok-next.ensures in record {
      within = c.loop-place.invariant.within;
      grows = c.loop-place.invariant.grows;
      leaves = walk_known i ts c.args.number c.args.way.now c.args.walk.now.met c.args.walk.now.passed.items c.loop-place.place w.met w.passed.items n.number n.is_new n.way c.loop-place.invariant.leaves is c.if-not-next.true;
    }

pub loop-place-preserved : goal.loop-place-preserved
loop-place-preserved t c =
    let i = c.args.instances.now in
    let ts = c.args.texts.now in
    let w = c.loop-place.walk in
    let n = c.in-Some-2.next in
    let is : IsNext i ts c.args.number c.args.way.now c.loop-place.place w.met w.passed.items n.number n.is_new n.way =
    some_of (λ (x : Next). IsNext i ts c.args.number c.args.way.now c.loop-place.place w.met w.passed.items x.number x.is_new x.way) c.in_ok-next.field-0 n c.in-Some-2.is c.in_ok-next.ensures in
    let walks = subst (λ (way : List ℕ). Walks i ts n.number way 0 (w.met + 1) w.passed.items c.follow.new.walk.met c.follow.new.walk.passed.items) c.text.ensures (c.in_ok-is.ensures.walks c.if-not-is.false) in record {
      within = c.follow.ensures.within;
      grows = (let more = c.follow.ensures.grows in let before = c.loop-place.invariant.grows in omega (arith, more, before));
      leaves = walk_new i ts c.args.number c.args.way.now c.args.walk.now.met c.args.walk.now.passed.items c.loop-place.place w.met w.passed.items n.number n.is_new n.way (w.met + 1) c.follow.new.walk.met c.follow.new.walk.passed.items
          c.push.new.self.items c.loop-place.invariant.leaves is c.if-not-next.false refl walks c.in_ok-push.ensures.items;
    }

pub returns-clause-walks : goal.returns-clause-walks
returns-clause-walks t c = λ yes.
    let i = c.args.instances.now in
    let ts = c.args.texts.now in
    let w = c.loop-place.walk in
    let all : c.loop-place.place ≡ c.in-Some.count = omega arith in
    let has : HasOpens i ts c.args.number c.in-Some.count = some_of (HasOpens i ts c.args.number) c.in_ok-count.field-0 c.in-Some.count c.in-Some.is c.in_ok-count.ensures in
    walk_ends i ts c.args.number c.args.way.now c.args.walk.now.met c.args.walk.now.passed.items c.in-Some.count w.met w.passed.items
    (subst (λ (k : ℕ). Leaves i ts c.args.number c.args.way.now 0 c.args.walk.now.met c.args.walk.now.passed.items k w.met w.passed.items) all c.loop-place.invariant.leaves) has
