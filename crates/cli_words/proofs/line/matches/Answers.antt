use Rattle.std.proofs.Common.{map, string_bytes}
use Rattle.std.proofs.lemmas.Result.{IfOk-weaker}
use Rattle.clap.specs.Words.{app_of}
use Rattle.cli_words.specs.Line.{alloyc_app}
use Rattle.cli_words.proofs.Simple.{simple, simple_and_free, rows_at, fails_at}
use Rattle.cli_words.proofs.line.matches.Goals as goal

pub returns-clause-rows : goal.returns-clause-rows
returns-clause-rows c =
    IfOk-weaker c.try_get_matches_from.result _ _
    (λ m h. rows_at (app_of c.in_ok-command.command) alloyc_app (map string_bytes c.args.words.now) m c.in_ok-command.ensures simple h)
    c.try_get_matches_from.ensures.matches

pub returns-clause-fails : goal.returns-clause-fails
returns-clause-fails c =
    fails_at (app_of c.in_ok-command.command) alloyc_app (map string_bytes c.args.words.now) c.try_get_matches_from.result c.in_ok-command.ensures simple_and_free
    c.try_get_matches_from.ensures.kinds
