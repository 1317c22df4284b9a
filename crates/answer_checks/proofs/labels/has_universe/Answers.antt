use Rattle.std.proofs.Common.{◌≡◌, ◌+◌, ◌∙◌, ℕ, sym, ap, ap₂, eqb-true}
use Rattle.core_meaning.specs.Kept.{atom_count}
use Rattle.answer_checks.proofs.labels.has_universe.Goals as goal

pub returns-in-Some : goal.returns-in-Some
returns-in-Some c = λ t.
    let counted : c.in-Some.count ≡ atom_count c.args.scopes.now.numbers = c.in-Some.ensures.0 ∙ ap atom_count c.as_slice.ensures in
    sym c.len.ensures ∙ eqb-true c.len.result (c.in-Some.count + c.integer_count.result) t ∙ ap₂ (λ (a b : ℕ). a + b) counted c.integer_count.ensures.number
