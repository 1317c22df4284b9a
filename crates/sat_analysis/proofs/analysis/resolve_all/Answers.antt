use Rattle.std.proofs.Common.{ℤ, List, ◌-◌, ◌≤◌, length, sym, subst, arith}
use Rattle.std.specs.List.{All}
use Rattle.sat_trail.specs.Literal.{IsLiteral}
use Rattle.sat_analysis.specs.Resolved.{AllFail}
use Rattle.sat_analysis.proofs.Noting.{longer_length}
use Rattle.sat_analysis.proofs.Trailing.{false_member}
use Rattle.sat_analysis.proofs.Parting.{asserts, closed_apart, all_literals, point_within}
use Rattle.sat_analysis.proofs.Taking.{all_fail_literals, dropped_fail, analysed_step}
use Rattle.sat_analysis.proofs.analysis.resolve_all.Goals as goal

pub find_point-requires-clause-none : goal.find_point-requires-clause-none
find_point-requires-clause-none c = (c.requires.none.0, c.requires.none.1)

pub part-requires-clause-fails : goal.part-requires-clause-fails
part-requires-clause-fails c = c.in_ok-point.ensures.found.fails

pub part-requires-clause-none : goal.part-requires-clause-none
part-requires-clause-none c = (c.requires.none.2, c.requires.none.3)

pub gather_places-requires-clause-literals : goal.gather_places-requires-clause-literals
gather_places-requires-clause-literals c =
    subst (All (IsLiteral c.args.trail.now.variables)) (sym c.as_slice.ensures.value) (all_fail_literals c.args.trail.now c.part.new.dropped.items c.requires.trail (dropped_fail _ _ _ _ _ _ c.in_ok-part.ensures.parted))

pub gather_places-requires-clause-fails : goal.gather_places-requires-clause-fails
gather_places-requires-clause-fails c = subst (AllFail c.args.trail.now) (sym c.as_slice.ensures.value) (dropped_fail _ _ _ _ _ _ c.in_ok-part.ensures.parted)

pub gather_places-requires-2-clause-literals : goal.gather_places-requires-2-clause-literals
gather_places-requires-2-clause-literals c =
    subst (All (IsLiteral c.args.trail.now.variables)) (sym c.literals.ensures.value) (all_fail_literals c.args.trail.now c.part.new.noted.literals c.requires.trail c.in_ok-part.ensures.parted.fails)

pub gather_places-requires-2-clause-within : goal.gather_places-requires-2-clause-within
gather_places-requires-2-clause-within c =
    subst (λ (xs : List ℤ). c.len-met.result ≤ length xs) (sym c.literals.ensures.value) (omega (arith, c.len-met.ensures, longer_length c.find_point.new.noted.literals c.part.new.noted.literals c.in_ok-part.ensures.longer))

pub gather_places-requires-2-clause-fails : goal.gather_places-requires-2-clause-fails
gather_places-requires-2-clause-fails c = subst (AllFail c.args.trail.now) (sym c.literals.ensures.value) c.in_ok-part.ensures.parted.fails

pub close-requires : goal.close-requires
close-requires c = point_within c.args.trail.now _ _ _ c.in_ok-point.ensures.found.point_is

pub returns-clause-analysed : goal.returns-clause-analysed
returns-clause-analysed c =
    analysed_step c.args.trail.now _ c.find_point.new.noted.literals c.part.new.noted.literals c.part.new.learnt.items c.part.new.dropped.items c.as_slice.result.now c.literals.result.now c.close.new.learnt.items c.find_point.new.places.items
    c.gather_places.new.places.items c.gather_places-2.new.places.items _ c.len-met.result c.requires.trail c.literals.ensures.apart c.len-met.ensures c.in_ok-part.ensures.longer c.in_ok-point.ensures.found c.in_ok-part.ensures.parted
    c.as_slice.ensures.value c.in_ok-gather_places.ensures c.literals.ensures.value c.in_ok-gather_places-2.ensures c.in_ok-close.ensures (λ l m. false_member c.args.trail.now (c.args.conflict - 1) l c.requires.conflict.2 m)

pub returns-clause-asserting : goal.returns-clause-asserting
returns-clause-asserting c = asserts c.args.trail.now _ _ _ _ _ _ _ _ _ c.requires.trail c.in_ok-point.ensures.found c.in_ok-part.ensures.parted c.in_ok-close.ensures

pub returns-clause-literals : goal.returns-clause-literals
returns-clause-literals c = all_literals c.args.trail.now _ _ _ _ c.requires.trail (returns-clause-analysed c)

pub returns-clause-apart : goal.returns-clause-apart
returns-clause-apart c = closed_apart c.args.trail.now _ _ _ _ _ _ _ _ _ c.requires.trail c.in_ok-point.ensures.found c.in_ok-part.ensures.parted c.in_ok-close.ensures
