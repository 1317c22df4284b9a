use Rattle.std.proofs.Common.{ℕ, ◌≡◌, ◌<◌, ◌-◌, ◌⊎◌, inl, inr, subst, length, arith}
use Rattle.std.specs.List.{Contains}
use Rattle.sat_trail.specs.Literal.{index}
use Rattle.sat_trail.specs.Assignment.{value_at}
use Rattle.sat_trail.specs.State.{Search}
use Rattle.sat_trail.specs.Search.{search_of}
use Rattle.sat_trail.proofs.Reasoning.{no_reason, some_reason}
use Rattle.sat_trail.proofs.trail.Trail.reason.Goals.{then-clause-eq0-via-then-clause-eq0, then-clause-eq0-via-else-clause-eq0+then-clause-len}
use Rattle.sat_trail.proofs.trail.Trail.reason.Goals as goal

pub returns-then-clause-eq0-clause-chosen : goal.returns-then-clause-eq0-clause-chosen
returns-then-clause-eq0-clause-chosen c =
    let none : (c.reason-clause.result ≡ 0) ⊎ (length c.self.inside.arena.ends.items < c.reason-clause.result) = elim c.then-clause-eq0.branch [
      | then-clause-eq0-via-then-clause-eq0 w ↦ inl w.if-clause-eq0.true
      | then-clause-eq0-via-else-clause-eq0+then-clause-len w ↦ inr (omega (arith, w.len.ensures, w.if-clause-len.true, c.self.inside.arena.ends.ok.0))
    ] in
    subst (λ (x : Search). (j : ℕ) → j < length x.assignment.trail → index (value_at x.assignment.trail j) ≡ c.args.variable - 1 → Contains x.limits j) c.self.view_is
    (no_reason (search_of c.self.inside) c.reason-clause.result (c.args.variable - 1) c.self.invariant.reasoned c.reason-clause.ensures none)

pub returns-clause-forced : goal.returns-clause-forced
returns-clause-forced c =
    subst (λ (x : Search). (j : ℕ) → j < length x.assignment.trail → index (value_at x.assignment.trail j) ≡ c.args.variable - 1 → Contains x.limits j → ⊥) c.self.view_is
    (some_reason (search_of c.self.inside) c.reason-clause.result (c.args.variable - 1) c.self.invariant.reasoned c.reason-clause.ensures (omega (arith, c.if-clause-eq0.false)))
