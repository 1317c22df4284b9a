use Rattle.std.proofs.Common.{◌≡◌, ◌<◌, ℕ}
use Rattle.bound_owners.specs.Tops.{top_at}
use Rattle.bound_uppers.proofs.given.are_tops.Given as goal

abbrev pub invariant-loop-place : goal.invariant-loop-place
invariant-loop-place l = (s : ℕ) → s < l.place → top_at l.ups (top_at l.ups s) ≡ top_at l.ups s
