use Rattle.std.proofs.Common.{map, string_bytes, sym}
use Rattle.clap.specs.Faults.{fault_of}
use Rattle.clap.specs.Simple.{matches_of}
use Rattle.cli_words.specs.Line.{alloyc_app}
use Rattle.cli_words.specs.Settings.{settings_of}
use Rattle.cli_words.proofs.Faults.{none_given}
use Rattle.cli_words.proofs.settings.settings_of_words.Goals as goal

pub returns-in-None : goal.returns-in-None
unfolding settings_of
returns-in-None c =
    let words = map string_bytes c.args.words.now in
    let faulty = rw c.in-None.is at c.in_ok-texts_given.ensures in
    sym (none_given (fault_of alloyc_app words) (matches_of alloyc_app words) faulty)
