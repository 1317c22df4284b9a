use Rattle.std.proofs.Common.{ℕ, ◌+◌, ◌-◌, ◌^◌, ◌<◌, ◌≤◌, sym, ◌∙◌, subst}
use Rattle.base_types.specs.declared.place.Rule.TheVariants as rule
use Rattle.core_meaning.specs.Kept.{atom_count}
use Rattle.bound_definitions.specs.Rules.{in_root, too_many_atoms}
use Rattle.bound_scopes.proofs.Answering.{none_kept}
use Rattle.bound_scopes.proofs.Ranges.{few_together, many_together, no_place, one_place, one_refused}
use Rattle.bound_scopes.proofs.limits.check_atoms.Goals as goal

pub returns-clause-few : goal.returns-clause-few
returns-clause-few c =
    subst (λ (n : ℕ). atom_count c.args.numbers.now + n ≤ 16384) c.integers_of-integers.ensures.value
    (few_together (atom_count c.args.numbers.now) c.integers_of-integers.result c.integers_of-integers.ensures.few
    (sym c.fits-few.ensures ∙ c.if-not-few.false))

pub returns-clause-ok : goal.returns-clause-ok
returns-clause-ok c =
    none_kept (too_many_atoms (atom_count c.args.numbers.now + 2 ^ c.args.bits) c.args.keyword) (no_place (atom_count c.args.numbers.now + 2 ^ c.args.bits) c.args.keyword (returns-clause-few c))

pub returns-then-not-few-clause-refused : goal.returns-then-not-few-clause-refused
returns-then-not-few-clause-refused c =
    let many : 16384 < atom_count c.args.numbers.now + 2 ^ c.args.bits =
    subst (λ (n : ℕ). 16384 < atom_count c.args.numbers.now + n) c.integers_of-integers.ensures.value
    (many_together (atom_count c.args.numbers.now) c.integers_of-integers.result c.integers_of-integers.ensures.few
    (sym c.fits-few.ensures ∙ c.if-not-few.true)) in
    one_refused rule.Atoms (too_many_atoms (atom_count c.args.numbers.now + 2 ^ c.args.bits) c.args.keyword) c.refused.result
    (in_root c.args.keyword, one_place (atom_count c.args.numbers.now + 2 ^ c.args.bits) c.args.keyword many, c.refused.ensures)
