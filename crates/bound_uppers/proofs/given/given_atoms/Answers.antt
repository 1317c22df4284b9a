use Rattle.std.proofs.Common.{ℕ, Option, ap, arith, ◌∙◌, slice_get}
use Rattle.bound_owners.specs.Own.{is_given_by}
use Rattle.bound_uppers.proofs.Giving.{given_more, given_all}
use Rattle.bound_uppers.proofs.given.given_atoms.Goals as goal

pub loop-place-preserved : goal.loop-place-preserved
loop-place-preserved c =
    let sigs = c.args.sigs.now in
    let owns = c.args.owns in
    let sig = c.args.sig in
    let own = ap (λ (o : Option ℕ). is_given_by sigs owns o sig) c.owner_at.ensures in
    given_more (λ k. is_given_by sigs owns (slice_get c.args.owners.now k) sig) c.args.span.first c.loop-place.place c.gives-is_given.result c.loop-place.set c.add_given.new.set (c.gives-is_given.ensures ∙ own) c.loop-place.invariant c.in_ok-add_given.ensures

pub returns : goal.returns
returns c = given_all (λ k. is_given_by c.args.sigs.now c.args.owns (slice_get c.args.owners.now k) c.args.sig) c.args.span c.loop-place.set c.loop-place.place (omega arith) (omega arith) c.loop-place.invariant
