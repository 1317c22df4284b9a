-- What a caller sees of a run, and what a run may come to: one record for each way to end, with the
-- reason for it and with what was written. Promises.antt says when each of them comes.
use Rattle.std.specs.Prelude.{◌≡◌, ℕ, ◌⊎◌, List, [], ◌∷◌, map, Option, Some}
use Rattle.base_types.specs.Causes.{Rose, SomeRose}
use Rattle.base_types.specs.Texts.{Texts}
use Rattle.base_types.specs.declared.place.Refusal.{Refusal}
use Rattle.syntax_tree.specs.declared.loaded.Loaded.{Loaded}
use Rattle.answer_judge.specs.Answer as traced
use Rattle.answer_judge.specs.declared.answer.TraceAnswer.{TraceAnswer}
use Rattle.cli_words.specs.declared.named.Mode.{Mode}
use Rattle.cli_words.specs.declared.named.Mode.TheVariants.{Exec, Commands, Make, Lrat}
use Rattle.cli_words.specs.declared.named.Mode.TheVariants.{Replay, Eval, Least, Core}
use Rattle.cli_words.specs.declared.settings.Settings.{Settings}
use Rattle.sat_verdict.specs.Mode as lrat
use Rattle.sat_verdict.specs.declared.mode.Verdict.{Verdict}
use Rattle.cli_model.specs.Answer.{text_of, refused_line, fault_line, checked_line}
use Rattle.cli_model.specs.Files.{asked}
use Rattle.cli_run.specs.Allowed.{Allows, Written, Begun, IsRefused, IsSearched, IsListed, IsOnModule}
use Rattle.cli_model.specs.Made.{MakesRing}
use Rattle.cli_model.specs.Model.{IsReadTrace, ShownTrace, ShownNone, ShownSpent}
use Rattle.cli_run.specs.Allowed.{IsSought, IsProof}
use Rattle.cli_model.specs.declared.answer.Answer.{Answer}

-- what a caller sees of a run
pub record Run : Type 0 where
  -- the settings that the words give, where they fit
  pub settings : Option Settings
  -- what each library holds, where it tells
  pub held : List (Option Texts)
  -- how often each library has failed
  pub faults_before : List ℕ
  pub faults_after : List ℕ
  -- what the sink has got, where it tells
  pub got_before : Option (List ℕ)
  pub got_after : Option (List ℕ)
  -- how often the sink has failed
  pub write_faults_before : ℕ
  pub write_faults_after : ℕ
  -- the status that the run gives
  pub status : ℕ

-- the run has these settings, and its libraries tell that they hold these texts
pub record RunsOn (r : Run) (settings : Settings) (told : List Texts) : Type 0 where
  pub fit : r.settings ≡ Some settings
  pub tells : r.held ≡ map (λ t. Some t) told

-- the number is one of these
abbrev pub IsOneOf : ℕ → List ℕ → Type 0
IsOneOf n [] = ⊥
IsOneOf n (m ∷ ms) = (n ≡ m) ⊎ IsOneOf n ms

-- the run gives one of these statuses
abbrev pub EndsWith : Run → List ℕ → Type 0
EndsWith r statuses = IsOneOf r.status statuses

-- the statuses with which a mode answers what it is asked
abbrev pub statuses_of : Mode → List ℕ
statuses_of Exec = 10 ∷ 20 ∷ 30 ∷ []
statuses_of Commands = 0 ∷ []
statuses_of Lrat = 0 ∷ 1 ∷ []
statuses_of Make = 0 ∷ []
statuses_of Replay = 0 ∷ 1 ∷ []
statuses_of Eval = 0 ∷ []
statuses_of Least = 10 ∷ 20 ∷ 30 ∷ []
statuses_of Core = 10 ∷ 20 ∷ 30 ∷ []

-- this whole text was written, and nothing else
abbrev pub Wrote : Run → List ℕ → Type 0
Wrote r text = Written r.got_before r.got_after text

-- The line of a rule that a text breaks was written. Where a file is absent or too large, it is the
-- line of the first such file; and else, where the text of the model that the mode reads can't be
-- cut into tokens, it is the line of its first break. Where it spells a module, it is the line of a
-- rule of loading, in the text that the line names; or of a later rule, at a place of the loaded
-- text that it names; or of the expression, or of the file of a trace. Of a model that is made it is
-- the line of a rule of loading, or of a later one.
pub record RefusesText (r : Run) : Type 0 where
  pub settings : Settings
  pub refusal : Refusal
  pub name : List ℕ
  pub fit : r.settings ≡ Some settings
  pub cause : IsRefused r.held (asked settings) settings refusal name
  pub line : Wrote r (refused_line refusal name)

-- A proof was checked, and the line of the verdict was written: the verdict on the texts of the two
-- files.
pub record ChecksProof (r : Run) : Type 0 where
  pub settings : Settings
  pub verdict : Verdict
  pub clauses : List ℕ
  pub lines : List ℕ
  pub fit : r.settings ≡ Some settings
  pub cause : IsProof r.held (asked settings) settings verdict clauses lines
  pub line : Wrote r (checked_line verdict clauses lines)
  pub has : r.status ≡ lrat.status_of verdict

-- A trace was read: whether everything holds in it, or the tuples of an expression, were written,
-- by the model of what is loaded; or the line that the second file is no text of a trace.
pub record ReadsTrace (r : Run) : Type 0 where
  pub settings : Settings
  pub said : TraceAnswer
  pub second : List ℕ
  pub fit : r.settings ≡ Some settings
  pub loaded : Loaded
  pub model : IsOnModule r.held (asked settings) settings loaded
  pub cause : IsReadTrace r.held loaded settings said second
  pub line : Wrote r (traced.text_of said second)
  pub has : r.status ≡ traced.status_of said

-- The commands of a module were listed, with status 0.
pub record ListsCommands (r : Run) : Type 0 where
  pub settings : Settings
  pub list : List ℕ
  pub fit : r.settings ≡ Some settings
  pub cause : IsListed r.held (asked settings) settings list
  pub line : Wrote r list
  pub has : r.status ≡ 0

-- The model of a ring was made and analysed, with status 0, and what was found was summed up.
pub record MakesModel (r : Run) : Type 0 where
  pub settings : Settings
  pub text : List ℕ
  pub fit : r.settings ≡ Some settings
  pub mode : settings.mode ≡ Make
  pub cause : MakesRing r.held settings text
  pub line : Wrote r text
  pub has : r.status ≡ 0

-- Some library failed in this call at a name that the run asks for, that of a file or that of a
-- module, and the line that says so was written.
pub record FailsToRead (r : Run) : Type 0 where
  pub settings : Settings
  pub name : List ℕ
  pub fit : r.settings ≡ Some settings
  pub asked_for : IsSought settings name (asked settings)
  pub rose : SomeRose r.faults_before r.faults_after
  pub line : Wrote r (fault_line name)

-- The sink failed in this call, and has got a part from the front of an answer that the words and
-- the libraries allow.
pub record FailsToWrite (r : Run) : Type 0 where
  pub answer : Answer
  pub rose : Rose r.write_faults_before r.write_faults_after
  pub allowed : Allows r.settings r.held r.faults_before r.faults_after answer
  pub front : Begun r.got_before r.got_after (text_of answer)

-- The words ask for a search, no file breaks a rule as a whole, the text of the model spells a
-- module, and the part that is asked for was written of a trace of the model of what is loaded. In
-- a search for the fewest states the trace has one state, or the part is of clauses of one state
-- less too, and of lines that refute them.
pub record FindsTrace (r : Run) : Type 0 where
  pub settings : Settings
  pub text : List ℕ
  pub fit : r.settings ≡ Some settings
  pub loaded : Loaded
  pub searched : IsSearched r.held (asked settings) settings loaded
  pub shown : ShownTrace loaded settings.mode settings.command settings.part settings.conflicts text
  pub line : Wrote r text

-- The same, and the part that is asked for was written of clauses and of lines that refute them. In
-- a search for facts that rule out every trace, it is of such facts too.
pub record FindsNone (r : Run) : Type 0 where
  pub settings : Settings
  pub text : List ℕ
  pub fit : r.settings ≡ Some settings
  pub loaded : Loaded
  pub searched : IsSearched r.held (asked settings) settings loaded
  pub absent : ShownNone loaded settings.mode settings.command settings.part settings.conflicts text
  pub line : Wrote r text

-- The same, and the budget is spent: clauses were written with as many lemmas as it has.
pub record LeavesOpen (r : Run) : Type 0 where
  pub settings : Settings
  pub text : List ℕ
  pub fit : r.settings ≡ Some settings
  pub loaded : Loaded
  pub searched : IsSearched r.held (asked settings) settings loaded
  pub open_at : ShownSpent loaded settings.mode settings.command settings.conflicts text
  pub line : Wrote r text
