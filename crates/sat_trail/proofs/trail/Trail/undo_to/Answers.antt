use Rattle.std.proofs.Common.{ℕ, List, ◌≡◌, ◌<◌, ◌∙◌, ap, sym, subst, length, take, get_or, arith}
use Rattle.std.proofs.lemmas.List.{get_or_default, get_or-take, take-take, length-take-le}
use Rattle.sat_trail.specs.State.{Search}
use Rattle.sat_trail.specs.Search.{net, search_of}
use Rattle.sat_trail.specs.Reasons.{AreReasoned}
use Rattle.sat_trail.proofs.Reasoning.{reasoned_cut}
use Rattle.sat_trail.proofs.Sounding.{IsSound-cut}
use Rattle.sat_trail.proofs.trail.Trail.undo_to.Goals as goal

pub index-requires : goal.index-requires
index-requires c = let s = c.self.invariant.sound in omega (arith, s.room.0, s.levels, c.self.inside.lens.ok.0)

pub cut-requires : goal.cut-requires
cut-requires c =
    let s = c.self.invariant.sound in
    let level : c.args.level < c.self.inside.top = c.if-level-self.true in
    let here = c.index.ensures ∙ get_or_default c.self.inside.lens.items c.args.level c.index.result.now 0 (omega (arith, s.room.0, s.levels)) in
    omega (arith, here, (s.opened c.args.level level).within)

pub index-requires-then-level-self : goal.index-requires-then-level-self
index-requires-then-level-self c = let s = c.self.invariant.sound in omega (arith, s.room.1, s.levels, c.self.inside.dones.ok.0)

pub index-requires-then-level-self-2 : goal.index-requires-then-level-self-2
index-requires-then-level-self-2 c = let s = c.self.invariant.sound in omega (arith, s.room.2, s.levels, c.self.inside.short_dones.ok.0)

pub invariant_of-self : goal.invariant_of-self
invariant_of-self c =
    let i = c.self.invariant in
    let level : c.args.level < c.self.inside.top = c.if-level-self.true in
    let len = c.index.ensures ∙ get_or_default c.self.inside.lens.items c.args.level c.index.result.now 0 (omega (arith, i.sound.room.0, i.sound.levels)) in
    let done = c.index-then-level-self.ensures ∙ get_or_default c.self.inside.dones.items c.args.level c.index-then-level-self.result.now 0 (omega (arith, i.sound.room.1, i.sound.levels)) in
    let short_done = c.index-then-level-self-2.ensures ∙ get_or_default c.self.inside.short_dones.items c.args.level c.index-then-level-self-2.result.now 0 (omega (arith, i.sound.room.2, i.sound.levels)) in
    let trail = c.cut.ensures.trail ∙ ap (λ (n : ℕ). take n c.self.inside.assigned.trail) len in
    record {
      copied = i.copied;
      variables = c.cut.ensures.variables ∙ i.variables;
      reasoned =
          let s = search_of c.self.inside in
          let top = c.self.inside.top in
          let lens = c.self.inside.lens.items in
          let size : length s.limits ≡ top = length-take-le top lens (omega (arith, i.sound.levels, i.sound.room.0)) in
          let limit : get_or s.limits c.args.level 0 ≡ get_or lens c.args.level 0 = get_or-take top lens c.args.level 0 level in
          let back : c.cut.new.self.trail ≡ take (get_or s.limits c.args.level 0) s.assignment.trail = trail ∙ ap (λ (n : ℕ). take n s.assignment.trail) (sym limit) in
          let cut = reasoned_cut s c.cut.new.self c.args.level i.reasoned (omega (arith, size, level)) back c.cut.ensures.levels c.cut.ensures.reasons in
          subst (λ (xs : List ℕ). AreReasoned (record s { assignment = c.cut.new.self; limits = xs })) (take-take c.args.level top lens (omega (arith, level))) cut;
      sound = rw (trail, done, short_done) (IsSound-cut (net c.self.inside) c.args.level i.sound level);
    }

pub returns-then-level-self-clause-trail : goal.returns-then-level-self-clause-trail
returns-then-level-self-clause-trail c =
    let i = c.self.invariant in
    let old = c.self.inside in
    let level : c.args.level < old.top = c.if-level-self.true in
    let inside : c.args.level < length old.lens.items = omega (arith, i.sound.room.0, i.sound.levels) in
    let len = c.index.ensures ∙ get_or_default old.lens.items c.args.level c.index.result.now (length old.assigned.trail) inside in
    let limit = get_or-take old.top old.lens.items c.args.level (length old.assigned.trail) level in
    subst (λ (x : Search). c.cut.new.self.trail ≡ take (get_or x.limits c.args.level (length x.assignment.trail)) x.assignment.trail) c.self.view_is
    (c.cut.ensures.trail ∙ ap (λ (n : ℕ). take n old.assigned.trail) (len ∙ sym limit))
