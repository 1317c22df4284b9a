use Rattle.std.proofs.Common.{◌≤◌, length, ap, sym, rules}
use Rattle.std.proofs.lemmas.Option.{slice_get_past}
use Rattle.resolve_names.specs.Gathered.{module_in}
use Rattle.resolve_told_sigs.specs.Integers.{opens_before}
use Rattle.resolve_told_sigs.proofs.integers.opens_before.Goals as goal

pub returns-in-None : goal.returns-in-None
returns-in-None c = let past : length c.args.texts.now ≤ c.args.text = search rules in sym (ap (λ t. opens_before (module_in t)) (slice_get_past c.args.texts.now c.args.text past))
