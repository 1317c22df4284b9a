use Rattle.std.proofs.Common.{◌≡◌, ◌≢◌, ◌<◌, ◌+◌, ◌-◌, ◌∙◌, ⊎_elim, refl, length, get_or, arith}
use Rattle.std.proofs.lemmas.List.Elements.{Contains-get_or}
use Rattle.std.proofs.lemmas.Bool.{cases_eq}
use Rattle.sat_trail.proofs.Weaving.{IsTrueIn-longer, longer-trans}
use Rattle.sat_trail.proofs.Reasoning.{forces_trans}
use Rattle.sat_trail.proofs.propagate.advance_short.Goals as goal

pub returns-then-not-satisfy-clause-holds : goal.returns-then-not-satisfy-clause-holds
returns-then-not-satisfy-clause-holds c =
    λ j l k. IsTrueIn-longer _ _ _ _ (get_or c.args.short.now j 0) c.satisfy.ensures.longer (c.clauses.invariant.holds j l k)

pub clauses-preserved : goal.clauses-preserved
clauses-preserved c =
    let t = c.if-not-satisfy.ensures in
    let i = c.clauses.invariant in
    record {
      variables = c.satisfy.ensures.variables ∙ i.variables;
      longer = longer-trans _ _ _ i.longer c.satisfy.ensures.longer;
      forced = forces_trans _ _ _ _ _ _ i.forced c.satisfy.ensures.forced;
      reached = (omega (arith, i.reached.0), omega arith);
      holds = λ j l k. ⊎_elim
          (λ (e : j ≡ c.clauses.done). rw e (t.holds refl))
          (λ (ne : j ≢ c.clauses.done). IsTrueIn-longer _ _ _ _ (get_or c.args.short.now j 0) c.satisfy.ensures.longer (i.holds j l (omega arith)))
          (cases_eq j c.clauses.done);
    }

pub returns-then-not-satisfy-clause-forced : goal.returns-then-not-satisfy-clause-forced
returns-then-not-satisfy-clause-forced c = forces_trans _ _ _ _ _ _ c.clauses.invariant.forced c.satisfy.ensures.forced

pub returns-then-not-satisfy-clause-false_clause : goal.returns-then-not-satisfy-clause-false_clause
returns-then-not-satisfy-clause-false_clause c =
    let short = c.args.short.now in
    let done = c.clauses.done in
    let here : get_or short done 0 + 1 - 1 ≡ get_or short done 0 = omega arith in
    let inside : done < length short = c.clauses-test.true in
    let its = c.requires.alike done inside in
    (omega arith, omega (arith, its.0), rw here (Contains-get_or short done 0 inside), rw here (c.satisfy.ensures.false_clause c.if-not-satisfy.true))
