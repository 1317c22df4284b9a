use Rattle.std.proofs.Common.{slice_get}
use Rattle.core_tuples.specs.Sets.{HasJust}
use Rattle.bound_owners.specs.Own.{is_given_by}
use Rattle.bound_uppers.proofs.Giving.{InGivenFirst}
use Rattle.bound_uppers.proofs.given.given_atoms.Given as goal

abbrev pub invariant-loop-place : goal.invariant-loop-place
invariant-loop-place l = HasJust l.set 1 (InGivenFirst (λ k. is_given_by l.sigs l.owns (slice_get l.owners k) l.sig) l.span.first l.place)
