use Rattle.std.proofs.Common.{rules, w64, SFits}
use Rattle.std.proofs.lemmas.Int.{to_z-of_z}
use Rattle.sat_solver.proofs.Sharing.{fits_literal}
use Rattle.sat_solver.proofs.load.push_literal.Goals as goal

pub push-requires : goal.push-requires
push-requires c =
    let literal_fits : SFits w64 c.args.literal.now = search rules in
    simp to_z-of_z (fits_literal c.args.variables c.args.literal.now c.requires.fits c.requires.literal)
