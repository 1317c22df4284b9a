use Rattle.std.proofs.Common.{◌≡◌, ◌<◌, length, rules, arith, w64, SFits}
use Rattle.std.proofs.lemmas.Int.{to_z-of_z}
use Rattle.std.proofs.lemmas.Bool.{false≢true}
use Rattle.sat_trail.specs.Assignment.{value_at}
use Rattle.sat_trail.proofs.watches.find_first.Goals as goal

pub returns-then-not-is_false-clause-not_false : goal.returns-then-not-is_false-clause-not_false
returns-then-not-is_false-clause-not_false c =
    let literal_fits : SFits w64 c.literal_at-literal.result = search rules in
    λ l h.
    let inside : c.loop-place.place < length c.args.arena.now.literals.items = omega (arith, c.requires.in_range) in
    let is : c.literal_at-literal.result ≡ value_at c.args.arena.now.literals.items c.loop-place.place = c.literal_at-literal.ensures in
    false≢true (c.if-not-is_false.ensures.1 (simp to_z-of_z (rw is h)))
