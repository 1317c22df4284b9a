use Rattle.std.proofs.Common.{ℕ, ◌≡◌, ◌∙◌, length, refl, subst, arith}
use Rattle.sat_analysis.specs.Resolved.{IsParted}
use Rattle.sat_analysis.proofs.Noting.{longer_nil, longer_trans, longer_length}
use Rattle.sat_analysis.proofs.Parting.{parted_none}
use Rattle.sat_analysis.proofs.minimise.part.Goals as goal

pub loop-place-init : goal.loop-place-init
loop-place-init c = record {
  variables = c.requires.variables;
  longer = longer_nil c.args.noted.now.literals;
  parted = parted_none c.args.trail.now (length c.args.noted.now.literals) c.args.noted.now.literals c.args.learnt.now.items c.args.dropped.now.items refl c.requires.none.0 c.requires.none.1 c.requires.fails;
}

pub part_one-requires-clause-within : goal.part_one-requires-clause-within
part_one-requires-clause-within c = omega (arith, c.loop-place-test.true, c.len-place-end.ensures, longer_length c.args.noted.now.literals c.loop-place.noted.literals c.loop-place.invariant.longer)

pub part_one-requires-clause-fails : goal.part_one-requires-clause-fails
part_one-requires-clause-fails c = c.loop-place.invariant.parted.fails

pub loop-place-preserved : goal.loop-place-preserved
loop-place-preserved c = record {
  variables = c.in_ok-part_one.ensures.variables ∙ c.loop-place.invariant.variables;
  longer = longer_trans c.args.noted.now.literals c.loop-place.noted.literals c.part_one.new.noted.literals c.loop-place.invariant.longer c.in_ok-part_one.ensures.longer;
  parted =
      c.in_ok-part_one.ensures.parted (length c.args.noted.now.literals) (omega (arith, c.loop-place-test.true, c.len-place-end.ensures))
      (longer_length c.args.noted.now.literals c.loop-place.noted.literals c.loop-place.invariant.longer) c.loop-place.invariant.parted;
}

pub returns-clause-parted : goal.returns-clause-parted
returns-clause-parted c =
    let last : c.loop-place.place ≡ length c.args.noted.now.literals = omega (arith, c.loop-place-test.false, c.loop-place.auto.place-end, c.len-place-end.ensures) in
    subst (λ (n : ℕ). IsParted c.args.trail.now (length c.args.noted.now.literals) n c.loop-place.noted.literals c.loop-place.learnt.items c.loop-place.dropped.items) last c.loop-place.invariant.parted
