-- What the words give: for each name the first text that stands under it, or none.
use Rattle.std.specs.Prelude.{◌≡◌, ◌≢◌, ℕ, List, [], Option, option_map, MatchOption, codes}
use Rattle.std.specs.Borrow.{Bor}
use Rattle.clap.specs.Faults.{fault_of}
use Rattle.clap.specs.Simple.{matches_of}
use Rattle.clap.specs.Walk.{Row, first_of}
use Rattle.cli_words.specs.Line.{alloyc_app}
use Rattle.cli_words.specs.declared.given.Given.{Given}

-- the text that a reference lends
abbrev pub lent : Option (Bor (List ℕ)) → Option (List ℕ)
lent = option_map (λ s. s.now)

-- each text is the first one that stands under its name
pub record IsGiven (given : Given) (rows : List Row) : Type 0 where
  pub mode : lent given.mode ≡ first_of (codes "mode") rows
  pub file : lent given.file ≡ first_of (codes "file") rows
  pub second : lent given.second ≡ first_of (codes "second") rows
  pub command : lent given.command ≡ first_of (codes "command") rows
  pub conflicts : lent given.conflicts ≡ first_of (codes "conflicts") rows
  pub part : lent given.part ≡ first_of (codes "part") rows
  pub chooser : lent given.chooser ≡ first_of (codes "chooser") rows
  pub expression : lent given.expression ≡ first_of (codes "expr") rows
  pub position : lent given.position ≡ first_of (codes "at") rows

-- a command line that isn't refused gives the texts of its matches, one that is refused gives none
abbrev pub GivesTexts : Option Given → List (List ℕ) → Type 0
GivesTexts given words = MatchOption given (fault_of alloyc_app words ≢ []) (λ texts. (fault_of alloyc_app words ≡ []) × IsGiven texts (matches_of alloyc_app words))
