use Rattle.std.proofs.Common.{◌≡◌, ◌≤◌, ◌∙◌, List, sym, ap, subst, arith}
use Rattle.resolve_readings.specs.Readings.{Decides, IsDecided, IsWithin, count_choices}
use Rattle.resolve_readings.specs.Found.{chosen_by, outcome_of, found, picked, IsMeant}
use Rattle.resolve_readings.specs.declared.part.Found.{Found}
use Rattle.resolve_readings.specs.declared.part.Outcome.{Outcome}
use Rattle.resolve_readings.specs.declared.part.Outcome.TheVariants as outcome
use Rattle.resolve_readings.proofs.Chosen.{picked_same}
use Rattle.resolve_readings.proofs.Decided.{decided}
use Rattle.resolve_readings.proofs.Meant.{meant}
use Rattle.resolve_readings.proofs.root.decide.Goals as goal

within : (o : Outcome) (n : _) → IsDecided o → n ≤ 4096 → IsWithin n o
within outcome.TooMany n is few = absurd is
within (outcome.Read choice) n is few = few
within outcome.NoReading n is few = few
within outcome.Ambiguous n is few = few

pub returns-clause-decided : goal.returns-clause-decided
returns-clause-decided c =
    let is : c.in_ok-decision.decision.outcome ≡ picked (found c.args.typing.now c.args.root.now) =
    c.in_ok-decision.ensures.picked
    ∙ ap (λ all. outcome_of all (chosen_by all)) (c.as_slice.ensures ∙ c.in_ok-all.ensures)
    ∙ picked_same (found c.args.typing.now c.args.root.now) in
    subst (λ (o : Outcome). Decides c.args.typing.now c.args.root.now o) (sym is) (decided c.args.typing.now c.args.root.now)

pub returns-clause-limit : goal.returns-clause-limit
returns-clause-limit c =
    within c.in_ok-decision.decision.outcome (count_choices c.args.root.now) c.in_ok-decision.ensures.few (omega arith)

pub returns-clause-meaning : goal.returns-clause-meaning
returns-clause-meaning c =
    meant c.args.typing.now c.args.root.now c.in_ok-decision.decision
    (subst (λ (all : List Found). IsMeant all c.in_ok-decision.decision) (c.as_slice.ensures ∙ c.in_ok-all.ensures) c.in_ok-decision.ensures.meaning)
