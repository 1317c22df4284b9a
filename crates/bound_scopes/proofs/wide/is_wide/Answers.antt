use Rattle.std.proofs.Common.{◌≡◌, nat_le, ap, w64, SFits}
use Rattle.std.proofs.lemmas.Int.{to_z-of_z}
use Rattle.bound_definitions.specs.Trees.{distance}
use Rattle.bound_scopes.proofs.wide.is_wide.Goals as goal

pub returns : goal.returns
returns c =
    let f : SFits w64 c.args.number = c.ranges.number in
    let far : c.distance.result ≡ distance c.args.number = simp to_z-of_z at c.distance.ensures in
    ap (nat_le c.args.half) far
