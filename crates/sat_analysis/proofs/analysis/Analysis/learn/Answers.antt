use Rattle.std.proofs.Common.{ℤ, List, sym, subst}
use Rattle.std.specs.List.{All}
use Rattle.sat_trail.specs.Literal.{IsLiteral}
use Rattle.sat_analysis.specs.Learnt.{IsSecond}
use Rattle.sat_analysis.proofs.Newness.{learnt_new, learnt_two_free}
use Rattle.sat_analysis.proofs.Taking.{stands_by, analysed_places}
use Rattle.sat_analysis.proofs.analysis.Analysis.learn.Goals as goal

pub resolve_all-requires-clause-trail : goal.resolve_all-requires-clause-trail
resolve_all-requires-clause-trail c =
    stands_by c.args.trail.now c.trail-literals.result.now c.trail-literals.ensures.trail c.trail-literals.ensures.literals c.trail-literals.ensures.apart c.trail-literals.ensures.reasoned

pub second_level-self-requires : goal.second_level-self-requires
second_level-self-requires c = subst (All (IsLiteral c.args.trail.now.variables)) (sym c.as_slice.ensures.value) c.in_ok-self.ensures.literals

pub gather_hints-requires-clause-trail : goal.gather_hints-requires-clause-trail
gather_hints-requires-clause-trail c =
    stands_by c.args.trail.now c.trail-literals.result.now c.trail-literals.ensures.trail c.trail-literals.ensures.literals c.trail-literals.ensures.apart c.trail-literals.ensures.reasoned

pub gather_hints-requires-clause-places : goal.gather_hints-requires-clause-places
gather_hints-requires-clause-places c = analysed_places _ _ _ _ _ c.in_ok-self.ensures.analysed

pub returns-clause-learnt : goal.returns-clause-learnt
returns-clause-learnt c =
    let s = c.args.trail.now in
    let stands = stands_by s c.trail-literals.result.now c.trail-literals.ensures.trail c.trail-literals.ensures.literals c.trail-literals.ensures.apart c.trail-literals.ensures.reasoned in
    let fails = c.in_ok-self.ensures.analysed.fails in
    let asserting = c.in_ok-self.ensures.asserting in
    let back = subst (λ (xs : List ℤ). IsSecond s xs c.second_level-self.result) c.as_slice.ensures.value c.second_level-self.ensures in
    record {
      fails = fails;
      passes = c.in_ok-gather_hints.ensures _ _ c.in_ok-self.ensures.analysed;
      asserting = asserting;
      back_to = back;
      apart = c.in_ok-self.ensures.apart;
      fresh = learnt_new s _ stands c.trail-literals.ensures.arena fails asserting;
      two_free = learnt_two_free s _ c.second_level-self.result stands fails asserting back;
    }
