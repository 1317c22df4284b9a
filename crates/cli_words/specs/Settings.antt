-- The settings that the words give, and whether they fit their mode.
use Rattle.std.specs.Prelude.{ℕ, ◌==◌, ◌&&◌, ◌||◌, not, Bool, cond, List, [], ◌∷◌, Option, Some, None, is_some, option_and_then, option_map, codes, nat_le, nat_lt, true, false}
use Rattle.clap.specs.Faults.{fault_of}
use Rattle.clap.specs.Kinds.{Kinds}
use Rattle.clap.specs.Simple.{matches_of}
use Rattle.clap.specs.Walk.{Row, first_of}
use Rattle.cli_words.specs.Line.{alloyc_app}
use Rattle.cli_words.specs.Named.{mode_named, part_named, takes_second, searches}
use Rattle.cli_words.specs.Numbers.{number_in}
use Rattle.cli_words.specs.declared.named.Mode.{Mode}
use Rattle.cli_words.specs.declared.named.Mode.TheVariants.{Exec, Commands, Lrat, Make, Replay, Eval, Least, Core}
use Rattle.cli_words.specs.declared.named.Part.{Part}
use Rattle.cli_words.specs.declared.choices.Choices.{Choices}
use Rattle.cli_words.specs.declared.settings.Settings.{Settings}

-- a budget; without a text there is none
abbrev pub budget_in : Option (List ℕ) → Option (Option ℕ)
budget_in None = Some None
budget_in (Some text) = option_map (λ n. Some n) (number_in 64 text)

-- all choices, where each is there
abbrev pub gathered : Option Mode → Option ℕ → Option (Option ℕ) → Option Part → Option ℕ → Option ℕ → Option Choices
gathered mode command conflicts part chooser position =
    option_and_then (λ m. option_and_then (λ n. option_and_then (λ c. option_and_then (λ p. option_and_then (λ k. option_and_then (λ i.
    Some (record { mode = m; command = n; conflicts = c; part = p; chooser = k; position = i }))
    position) chooser) part) conflicts) command) mode

-- the choices among what was found for the arguments
abbrev pub choices_in : List Row → Option Choices
choices_in rows = gathered
    (option_and_then mode_named (first_of (codes "mode") rows))
    (option_and_then (number_in 32) (first_of (codes "command") rows))
    (budget_in (first_of (codes "conflicts") rows))
    (option_and_then part_named (first_of (codes "part") rows))
    (option_and_then (number_in 32) (first_of (codes "chooser") rows))
    (option_and_then (number_in 64) (first_of (codes "at") rows))

-- the settings of these choices and texts
abbrev pub settings_from : Choices → List ℕ → Option (List ℕ) → Option (List ℕ) → Settings
settings_from choices file second expression = record {
  mode = choices.mode;
  file = file;
  second = second;
  command = choices.command;
  conflicts = choices.conflicts;
  part = choices.part;
  chooser = choices.chooser;
  expression = expression;
  position = choices.position;
}

-- the settings in what was found for the arguments
abbrev pub settings_in : List Row → Option Settings
settings_in rows =
    option_and_then (λ choices. option_map (λ file. settings_from choices file (first_of (codes "second") rows) (first_of (codes "expr") rows))
    (first_of (codes "file") rows)) (choices_in rows)

-- where the command line has no fault, the settings in its matches
abbrev pub settings_unless : Kinds → List Row → Option Settings
settings_unless [] rows = settings_in rows
settings_unless (fault ∷ faults) rows = None

-- the settings that the words give
unfoldable pub settings_of : List (List ℕ) → Option Settings
settings_of words = settings_unless (fault_of alloyc_app words) (matches_of alloyc_app words)

-- the text is a decimal from 1 to 15
abbrev pub is_ring_size : List ℕ → Bool
is_ring_size [] = false
is_ring_size (digit ∷ []) = nat_le 49 digit && nat_le digit 57
is_ring_size (ten ∷ digit ∷ []) = (ten == 49) && (nat_le 48 digit && nat_le digit 53)
is_ring_size (ten ∷ digit ∷ more ∷ rest) = false

-- what the mode asks of the file and of the expression
abbrev pub has_input_of : Mode → List ℕ → Option (List ℕ) → Bool
has_input_of Exec file expression = true
has_input_of Commands file expression = true
has_input_of Lrat file expression = true
has_input_of Make file expression = is_ring_size file
has_input_of Replay file expression = true
has_input_of Eval file expression = is_some expression
has_input_of Least file expression = true
has_input_of Core file expression = true

-- what the mode asks of them is there
abbrev pub has_input : Settings → Bool
has_input settings = has_input_of settings.mode settings.file settings.expression

-- a second file is there just where the mode takes one
abbrev pub has_second : Settings → Bool
has_second settings = cond (takes_second settings.mode) (is_some settings.second) (not (is_some settings.second))

-- the settings fit, where there are so many choosers: a second file is there just where the mode takes one, the size of a ring
-- is one that can be made, an expression is there for `eval`, and a mode that searches has the chooser that it names
abbrev pub fits : ℕ → Settings → Bool
fits choosers settings = has_second settings && (has_input settings && (not (searches settings.mode) || nat_lt settings.chooser choosers))

-- the settings, where they fit
abbrev pub if_fitting : ℕ → Settings → Option Settings
if_fitting choosers settings = cond (fits choosers settings) (Some settings) None

-- the settings that the words give, where they fit
abbrev pub fitting : ℕ → List (List ℕ) → Option Settings
fitting choosers words = option_and_then (if_fitting choosers) (settings_of words)
