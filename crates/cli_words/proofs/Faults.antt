-- A command line with a fault gives no settings.
use Rattle.std.proofs.Common.{◌≡◌, ◌≢◌, List, [], ◌∷◌, None, refl}
use Rattle.clap.specs.Kinds.{Kinds}
use Rattle.clap.specs.Walk.{Row}
use Rattle.cli_words.specs.Settings.{settings_unless}

pub none_given : (faults : Kinds) (rows : List Row) → faults ≢ [] → settings_unless faults rows ≡ None
none_given [] rows some = absurd (some refl)
none_given (fault ∷ faults) rows some = refl
