use Rattle.std.proofs.Common.{ℕ, sym, take, arith, ℤ, List, ◌≡◌, ◌++◌, ◌∙◌, ap, subst, length}
use Rattle.sat_trail.specs.State.{Search}
use Rattle.std.proofs.lemmas.List.{length-take-le}
use Rattle.sat_trail.specs.Search.{net, search_of}
use Rattle.sat_trail.specs.Reasons.{ForcesMore}
use Rattle.sat_trail.proofs.Reasoning.{forces_trans, reasoned_more}
use Rattle.sat_trail.proofs.Weaving.{kept_watched, longer-trans}
use Rattle.sat_trail.proofs.Sounding.{grown, IsKept-longer, sound_short, sound_advance, none_left, IfOk-none, IfNone-at, IfSome-map, IfOk-some, IsFalseShort, IsFalsePair, IsFalseAttached, short_attached, pair_attached}
use Rattle.sat_trail.proofs.trail.Trail.propagate.Goals as goal

pub invariant_of-self : goal.invariant_of-self
invariant_of-self c =
    let m = net c.self.inside in
    let a = c.advance_short-short_done in
    let i = c.self.invariant in
    let sound = sound_short m a.new.assigned.trail a.result.0 c.as_slice.result.now c.as_slice.ensures.value i.sound a.ensures.longer a.ensures.reached.1 a.ensures.holds in
    let top = c.self.inside.top in
    let lens = c.self.inside.lens.items in
    let size : length (take top lens) ≡ top = length-take-le top lens (omega (arith, i.sound.levels, i.sound.room.0)) in
    let forced = subst (λ (n : ℕ). ForcesMore c.self.inside.arena.literals.items c.self.inside.arena.ends.items n c.self.inside.assigned a.new.assigned) (sym size) a.ensures.forced in
    record { variables = a.ensures.variables ∙ i.variables; sound = sound; copied = i.copied; reasoned = reasoned_more (search_of c.self.inside) a.new.assigned i.reasoned forced }

pub advance-done-requires-clause-watched : goal.advance-done-requires-clause-watched
advance-done-requires-clause-watched c =
    let a = c.advance_short-short_done in
    let s = c.self.invariant.sound in
    kept_watched _ _ _ _ _ _ _ s.now.done (IsKept-longer _ _ _ _ _ a.ensures.longer) s.now.watched

pub invariant_of-self-2 : goal.invariant_of-self-2
invariant_of-self-2 c =
    let m = net c.self.inside in
    let a = c.advance_short-short_done in
    let i = c.self.invariant in
    let sound = sound_short m a.new.assigned.trail a.result.0 c.as_slice.result.now c.as_slice.ensures.value i.sound a.ensures.longer a.ensures.reached.1 a.ensures.holds in
    let t = c.advance-done in
    let more = grown m m.at m.lists a.new.assigned.trail m.done a.result.0 in
    let sound_now = sound_advance more t.new.watches.at.items t.new.watches.lists t.new.assigned.trail t.result.0 sound t.ensures.kept t.ensures.woven t.ensures.at_rest t.ensures.reached t.ensures.watched in
    let top = c.self.inside.top in
    let lens = c.self.inside.lens.items in
    let size : length (take top lens) ≡ top = length-take-le top lens (omega (arith, i.sound.levels, i.sound.room.0)) in
    let both = forces_trans _ _ _ _ _ _ a.ensures.forced t.ensures.forced in
    let forced = subst (λ (n : ℕ). ForcesMore c.self.inside.arena.literals.items c.self.inside.arena.ends.items n c.self.inside.assigned t.new.assigned) (sym size) both in
    record { variables = t.ensures.variables ∙ (a.ensures.variables ∙ i.variables); sound = sound_now; copied = t.ensures.copied; reasoned = reasoned_more (search_of c.self.inside) t.new.assigned i.reasoned forced }

pub returns-clause-longer : goal.returns-clause-longer
returns-clause-longer c =
    let a = c.advance_short-short_done in
    let t = c.advance-done in
    subst (λ (x : Search). (ts : List ℤ) × (t.new.assigned.trail ≡ x.assignment.trail ++ ts)) c.self.view_is (longer-trans _ _ _ a.ensures.longer t.ensures.kept.longer)

pub returns-clause-none : goal.returns-clause-none
returns-clause-none c =
    let m = net c.self.inside in
    let a = c.advance_short-short_done in
    let i = c.self.invariant in
    let sound = sound_short m a.new.assigned.trail a.result.0 c.as_slice.result.now c.as_slice.ensures.value i.sound a.ensures.longer a.ensures.reached.1 a.ensures.holds in
    let t = c.advance-done in
    let more = grown m m.at m.lists a.new.assigned.trail m.done a.result.0 in
    let sound_now = sound_advance more t.new.watches.at.items t.new.watches.lists t.new.assigned.trail t.result.0 sound t.ensures.kept t.ensures.woven t.ensures.at_rest t.ensures.reached t.ensures.watched in
    let last = grown more t.new.watches.at.items t.new.watches.lists t.new.assigned.trail t.result.0 a.result.0 in
    let shorts = IfNone-at _ c.if-is_some.ensures a.ensures.all ∙ ap length c.as_slice.ensures.value in
    IfOk-none _ (λ (all : t.result.0 ≡ length t.new.assigned.trail). λ n on. none_left last n sound_now all shorts on) t.ensures.all

pub returns-clause-forced : goal.returns-clause-forced
returns-clause-forced c =
    let a = c.advance_short-short_done in
    let t = c.advance-done in
    let top = c.self.inside.top in
    let lens = c.self.inside.lens.items in
    let size : length (take top lens) ≡ top = length-take-le top lens (omega (arith, c.self.invariant.sound.levels, c.self.invariant.sound.room.0)) in
    let forced = forces_trans _ _ _ _ _ _ a.ensures.forced t.ensures.forced in
    subst (λ (x : Search). ForcesMore c.self.inside.arena.literals.items c.self.inside.arena.ends.items (length x.limits) x.assignment t.new.assigned) c.self.view_is
    (subst (λ (n : ℕ). ForcesMore c.self.inside.arena.literals.items c.self.inside.arena.ends.items n c.self.inside.assigned t.new.assigned) (sym size) forced)

pub returns-then-is_some-clause-false_clause : goal.returns-then-is_some-clause-false_clause
returns-then-is_some-clause-false_clause c =
    let m = net c.self.inside in
    let a = c.advance_short-short_done in
    IfSome-map (IsFalseShort m c.as_slice.result.now a.new.assigned.trail) (IsFalseAttached m a.new.assigned.trail) _
    (λ n f. short_attached m c.as_slice.result.now a.new.assigned.trail n c.as_slice.ensures.value c.self.invariant.sound f) a.ensures.false_clause

pub returns-clause-false_clause : goal.returns-clause-false_clause
returns-clause-false_clause c =
    let m = net c.self.inside in
    let a = c.advance_short-short_done in
    let sound = sound_short m a.new.assigned.trail a.result.0 c.as_slice.result.now c.as_slice.ensures.value c.self.invariant.sound a.ensures.longer a.ensures.reached.1 a.ensures.holds in
    let t = c.advance-done in
    let more = grown m m.at m.lists a.new.assigned.trail m.done a.result.0 in
    let sound_now = sound_advance more t.new.watches.at.items t.new.watches.lists t.new.assigned.trail t.result.0 sound t.ensures.kept t.ensures.woven t.ensures.at_rest t.ensures.reached t.ensures.watched in
    let last = grown more t.new.watches.at.items t.new.watches.lists t.new.assigned.trail t.result.0 a.result.0 in
    IfOk-some (IsFalsePair last) (IsFalseAttached last last.trail) _ (λ n f. pair_attached last n sound_now f) t.ensures.false_clause

pub advance_short-short_done-requires-clause-alike : goal.advance_short-short_done-requires-clause-alike
advance_short-short_done-requires-clause-alike c = rw c.as_slice.ensures.value (λ j l. c.self.invariant.sound.alike j l)
