use Rattle.std.proofs.Common.{◌≡◌, ◌<◌, ◌≤◌, ◌+◌, ℕ, subst, arith, refl, inl, inr, Some}
use Rattle.std.proofs.lemmas.Bool.{false≢true}
use Rattle.std.specs.List.{slice_get}
use Rattle.std.proofs.lemmas.Bool.{cases_lt}
use Rattle.std.proofs.lemmas.Option.{slice_get_within}
use Rattle.gate_trait.specs.declared.gate.Gate.TheVariants.{Input}
use Rattle.gate_tseitin.specs.Named.{input_count}
use Rattle.gate_tseitin.proofs.names.are_numbered.Goals as goal

pub returns-in-None : goal.returns-in-None
returns-in-None c = (
  (λ h. absurd (false≢true h)),
  (λ n. let few : c.loop-variable.variable + 1 ≤ input_count c.args.store.now = omega (arith, c.count_inputs-count.ensures.count, c.loop-variable-test.true) in
      let e = n.each (c.loop-variable.variable + 1) (omega arith) few in
      absurd (c.in-None.ensures.absent e.0 e.1)),
)

pub loop-variable-preserved : goal.loop-variable-preserved
loop-variable-preserved c = λ w above most.
    elim (cases_lt c.loop-variable.variable w) [
      | inl last ↦ (let e : c.loop-variable.variable + 1 ≡ w = omega arith in
          (c.in-Some.field-0, subst (λ (v : ℕ). slice_get c.args.store.now c.in-Some.field-0 ≡ Some (Input v)) e c.in-Some.ensures.found))
      | inr before ↦ c.loop-variable.invariant w above before
    ]

pub returns : goal.returns
returns c = (
  (λ h. record {
    within = λ k w at.
        let lt : k < c.loop-number.number = omega (arith, slice_get_within c.args.store.now k (Input w) at) in
        let b = c.loop-number.invariant k w lt at in
        (b.0, omega (arith, b.1, c.count_inputs-count.ensures.count));
    each = λ w above most. c.loop-variable.invariant w above (omega (arith, most, c.count_inputs-count.ensures.count));
  }),
  (λ n. refl),
)
