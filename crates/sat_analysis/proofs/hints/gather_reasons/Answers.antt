use Rattle.std.proofs.Common.{get_or}
use Rattle.std.proofs.lemmas.List.Elements.{Contains-get_or}
use Rattle.sat_analysis.proofs.hints.gather_reasons.Goals as goal

pub gather_one-requires : goal.gather_one-requires
gather_one-requires c = c.requires (get_or c.args.places.now c.loop-place.place-index 0) (Contains-get_or c.args.places.now c.loop-place.place-index 0 c.loop-place-test.true)
