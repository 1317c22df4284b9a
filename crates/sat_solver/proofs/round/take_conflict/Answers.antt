use Rattle.std.proofs.Common.{ℤ, List, sym, subst, refl, inl, inr, arith}
use Rattle.std.specs.List.{All}
use Rattle.sat_trail.specs.Literal.{IsLiteral}
use Rattle.sat_dropped.specs.Entries.{Entries}
use Rattle.sat_solver.specs.Covered.{HasNoPart}
use Rattle.sat_solver.proofs.Searching.{indexed_by, none_by, search_by}
use Rattle.sat_solver.proofs.round.take_conflict.Goals as goal

pub take_part-requires-clause-variables : goal.take_part-requires-clause-variables
take_part-requires-clause-variables g c = c.requires.indexed.variables

pub take_part-requires-clause-literals : goal.take_part-requires-clause-literals
take_part-requires-clause-literals g c = subst (λ (xs : List ℤ). All (IsLiteral c.args.trail.now.variables) xs) (sym c.as_slice.ensures.value) c.in_ok-learn.ensures.literals

pub take_part-requires-clause-filed : goal.take_part-requires-clause-filed
take_part-requires-clause-filed g c = c.requires.indexed.filed

pub take_back-requires : goal.take_back-requires
take_back-requires g c = record { number = (c.in-Some.ensures.part.0, c.in-Some.ensures.part.1) }

pub returns-in_ok-take_back-in-Some-clause-turn : goal.returns-in_ok-take_back-in-Some-clause-turn
returns-in_ok-take_back-in-Some-clause-turn g c = λ formula h.
    c.in_ok-take_back-in-Some.ensures.search formula c.args.log.now.lines c.args.log.now.checker c.args.store.now.first c.args.store.now.dropped c.take_part.new.self h
    (indexed_by c.args.trail.now c.args.store.now.dropped c.take_part.new.self c.requires.indexed c.in-Some.ensures.variables c.in-Some.ensures.filed) c.in-Some.ensures.others

pub returns-in_ok-take_back-in-Some-clause-on : goal.returns-in_ok-take_back-in-Some-clause-on
returns-in_ok-take_back-in-Some-clause-on g c = λ formula h is. inr (refl, omega (arith, c.in-Some.ensures.fewer))

pub take_lemma-requires-clause-indexed : goal.take_lemma-requires-clause-indexed
take_lemma-requires-clause-indexed g c = indexed_by c.args.trail.now c.args.store.now.dropped c.take_part.new.self c.requires.indexed c.in-None.ensures.variables c.in-None.ensures.filed

pub take_lemma-requires-clause-none : goal.take_lemma-requires-clause-none
take_lemma-requires-clause-none g c =
    subst (λ (d : Entries). HasNoPart c.args.trail.now d c.learn.new.self.literals.items) (sym c.in-None.ensures.same)
    (none_by c.args.trail.now c.args.store.now.dropped c.as_slice.result.now c.learn.new.self.literals.items c.as_slice.ensures.value c.in-None.ensures.none)

pub returns-in_ok-turn-in-None-clause-turn : goal.returns-in_ok-turn-in-None-clause-turn
returns-in_ok-turn-in-None-clause-turn g c = λ formula h.
    c.in_ok-turn-in-None.ensures.turn formula (search_by formula c.args.log.now.lines c.args.log.now.checker c.args.trail.now c.args.store.now.first c.args.store.now.dropped c.take_part.new.self c.in-None.ensures.same h)

pub returns-in_ok-turn-in-None-clause-on : goal.returns-in_ok-turn-in-None-clause-on
returns-in_ok-turn-in-None-clause-on g c = λ formula h is.
    inl (c.in_ok-turn-in-None.ensures.fewer formula (search_by formula c.args.log.now.lines c.args.log.now.checker c.args.trail.now c.args.store.now.first c.args.store.now.dropped c.take_part.new.self c.in-None.ensures.same h) is)
