use Rattle.std.proofs.Common.{◌≢◌, ◌∙◌, ℕ, Some, ap, subst}
use Rattle.sat_solver.proofs.Searching.{spent_turn, room_more}
use Rattle.sat_solver.proofs.round.take_lemma.Goals as goal

pub returns-then-is_spent-clause-turn : goal.returns-then-is_spent-clause-turn
returns-then-is_spent-clause-turn g c = λ formula h.
    spent_turn c.args.trail.now formula c.args.log.now.lines c.args.log.now.checker c.args.store.now.first c.args.store.now.dropped c.args.analysis.now.literals.items c.args.analysis.now.hints.items c.args.analysis.now.back_to c.args.budget (c.is_spent.ensures.spent c.if-is_spent.true ∙ ap Some c.len.ensures) h c.requires.none
    c.requires.learnt c.requires.literals

pub go_on-requires : goal.go_on-requires
go_on-requires g c = record { indexed = c.in_ok-taken.ensures.indexed c.args.store.now.dropped c.requires.indexed }

pub returns-in_ok-go_on-in-Added-clause-turn : goal.returns-in_ok-go_on-in-Added-clause-turn
returns-in_ok-go_on-in-Added-clause-turn g c = λ formula h.
    c.in_ok-go_on-in-Added.ensures.search formula c.keep.new.log.lines c.keep.new.log.checker (rw c.in-Added.is at (c.in_ok-taken.ensures.taken formula c.args.store.now.first c.args.store.now.dropped h c.requires.none))

pub returns-in-Refuted-clause-turn : goal.returns-in-Refuted-clause-turn
returns-in-Refuted-clause-turn g c = λ formula h. rw c.in-Refuted.is at (c.in_ok-taken.ensures.taken formula c.args.store.now.first c.args.store.now.dropped h c.requires.none)

pub returns-in_ok-go_on-in-Added-clause-fewer : goal.returns-in_ok-go_on-in-Added-clause-fewer
returns-in_ok-go_on-in-Added-clause-fewer g c = λ formula h is. c.in_ok-taken.ensures.fewer formula c.args.store.now.first c.args.store.now.dropped h c.requires.none c.in-Added.is

pub returns-in_ok-go_on-in-Added-clause-room : goal.returns-in_ok-go_on-in-Added-clause-room
returns-in_ok-go_on-in-Added-clause-room g c =
    room_more c.args.budget c.args.log.now.lines c.keep.new.log.lines (subst (λ (n : ℕ). c.args.budget ≢ Some n) c.len.ensures (c.is_spent.ensures.left c.if-is_spent.false)) c.in_ok-taken.ensures.more c.requires.room

pub returns-in-Refuted-clause-room : goal.returns-in-Refuted-clause-room
returns-in-Refuted-clause-room g c =
    room_more c.args.budget c.args.log.now.lines c.keep.new.log.lines (subst (λ (n : ℕ). c.args.budget ≢ Some n) c.len.ensures (c.is_spent.ensures.left c.if-is_spent.false)) c.in_ok-taken.ensures.more c.requires.room
