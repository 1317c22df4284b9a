-- The command line as clap's contracts see it.
use Rattle.std.specs.Prelude.{ℕ, List, true, [], ◌∷◌, Some, codes}
use Rattle.clap.specs.Words.{App, Rule, new_app, new_rule, with_rule}

-- a word that has to be there
abbrev pub needed_rule : List ℕ → Rule
needed_rule id = record (new_rule id) { required = true }

-- an option with its value
abbrev pub option_rule : List ℕ → Rule
option_rule id = record (new_rule id) { long = Some id }

-- the same, and the value where it isn't given
abbrev pub option_rule_or : List ℕ → List ℕ → Rule
option_rule_or id value = record (option_rule id) { defaults = value ∷ [] }

abbrev pub with_words : App → App
with_words app = with_rule (with_rule (with_rule app (needed_rule (codes "mode"))) (needed_rule (codes "file"))) (new_rule (codes "second"))

abbrev pub with_work : App → App
with_work app = with_rule (with_rule app (option_rule_or (codes "command") (codes "0"))) (option_rule (codes "conflicts"))

abbrev pub with_choices : App → App
with_choices app = with_rule (with_rule app (option_rule_or (codes "part") (codes "all"))) (option_rule_or (codes "chooser") (codes "0"))

abbrev pub with_value : App → App
with_value app = with_rule (with_rule app (option_rule (codes "expr"))) (option_rule_or (codes "at") (codes "0"))

-- two words and perhaps a third, and six options
unfoldable pub alloyc_app : App
alloyc_app = with_value (with_choices (with_work (with_words (new_app (codes "alloyc")))))
