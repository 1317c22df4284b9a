-- What a run may answer, and why.
use Rattle.std.specs.Prelude.{◌≡◌, ℕ, ◌⊎◌, ◌≤◌, List, ◌++◌, take, map, IsTrue, Option, Some, None, option_map, Result, Ok}
use Rattle.std.specs.declared.alloc.AllocError.{AllocError}
use Rattle.base_types.specs.Causes.{Rose, SomeRose}
use Rattle.base_types.specs.Texts as texts
use Rattle.base_types.specs.Texts.{Texts}
use Rattle.base_types.specs.declared.place.Refusal.{Refusal}
use Rattle.base_types.specs.declared.place.Rule.{Rule}
use Rattle.syntax_tree.specs.declared.loaded.Loaded.{Loaded}
use Rattle.cli_words.specs.declared.named.Mode.{Mode}
use Rattle.cli_words.specs.declared.named.Mode.TheVariants.{Commands, Make, Lrat}
use Rattle.cli_words.specs.declared.settings.Settings.{Settings}
use Rattle.sat_dimacs.specs.Text.{formula_of}
use Rattle.sat_verdict.specs.Mode as lrat
use Rattle.sat_verdict.specs.declared.mode.Verdict.{Verdict}
use Rattle.sat_verdict.specs.declared.mode.Verdict.TheVariants as says
use Rattle.cli_model.specs.Answer.{text_of, status_of}
use Rattle.cli_model.specs.Files.{Asked, IsAsked, asked, at_start, first_broken}
use Rattle.cli_model.specs.Loads.{IsLoadedIn}
use Rattle.cli_model.specs.Made.{MakesRing}
use Rattle.cli_model.specs.Modes.{looks}
use Rattle.cli_model.specs.Refused.{RefusedIn}
use Rattle.cli_model.specs.Root.{ListsModule}
use Rattle.cli_model.specs.declared.answer.Answer.{Answer}
use Rattle.cli_model.specs.declared.answer.Answer.TheVariants.{Usage, Refused, ReadFault, Trace, Refuted, Unknown, Made, Listed, Checked, Traced}
use Rattle.cli_model.specs.Model.{IsOpened, ShownTrace, ShownNone, ShownSpent, IsReadTrace}

-- the text of the model that a mode reads, if it reads one
abbrev pub model_in : Mode → Option (List ℕ) → Option (List ℕ)
model_in Make text = None
model_in Lrat text = None
model_in _ text = text

abbrev pub model_of : List Texts → Settings → Option (List ℕ)
model_of told settings = model_in settings.mode (texts.text_of told settings.file)

-- why a run with these settings refuses a text: a file that it asks for breaks a rule as a whole, and it is the first of them;
-- or all are whole, and the run refuses it
abbrev pub RefusedFor : List (Option Texts) → Option (Rule × List ℕ) → Option (List ℕ) → Settings → Refusal → List ℕ → Type 0
RefusedFor held (Some broken) model settings refusal name = (refusal ≡ at_start broken.0) × (name ≡ broken.1)
RefusedFor held None model settings refusal name = RefusedIn held model settings refusal name

-- a run that asks for these files refuses this text, where the libraries tell what they hold
abbrev pub IsRefused : List (Option Texts) → List Asked → Settings → Refusal → List ℕ → Type 0
IsRefused held files settings refusal name =
    (told : List Texts) → held ≡ map (λ t. Some t) told → RefusedFor held (first_broken told files) (model_of told settings) settings refusal name

-- the run searches, none of the files that it asks for breaks a rule as a whole, and this is what is loaded of its model
pub record IsSearched (held : List (Option Texts)) (files : List Asked) (settings : Settings) (loaded : Loaded) : Type 0 where
  pub mode : IsTrue (looks settings.mode)
  pub whole : (told : List Texts) → held ≡ map (λ t. Some t) told → first_broken told files ≡ None
  pub loads : (told : List Texts) → held ≡ map (λ t. Some t) told → IsLoadedIn held settings.file (model_of told settings) loaded

-- the run lists commands, none of the files that it asks for breaks a rule as a whole, and this is the list of its model
pub record IsListed (held : List (Option Texts)) (files : List Asked) (settings : Settings) (list : List ℕ) : Type 0 where
  pub mode : settings.mode ≡ Commands
  pub whole : (told : List Texts) → held ≡ map (λ t. Some t) told → first_broken told files ≡ None
  pub lists : (told : List Texts) → held ≡ map (λ t. Some t) told → ListsModule (model_of told settings) list

-- none of the files that the run asks for breaks a rule as a whole, and this is what is loaded of its model
pub record IsOnModule (held : List (Option Texts)) (files : List Asked) (settings : Settings) (loaded : Loaded) : Type 0 where
  pub whole : (told : List Texts) → held ≡ map (λ t. Some t) told → first_broken told files ≡ None
  pub loads : (told : List Texts) → held ≡ map (λ t. Some t) told → IsLoadedIn held settings.file (model_of told settings) loaded

-- a name that the run asks for: that of one of these files, or of a module
abbrev pub IsSought : Settings → List ℕ → List Asked → Type 0
IsSought settings name files = IsAsked name files ⊎ IsOpened settings name

-- what the lines of a text come to for the clauses of another; where they refute, no assignment satisfies the clauses
pub record IsChecked (clauses lines : List ℕ) (verdict : Verdict) : Type 0 where
  pub verdict_on : lrat.IsVerdict clauses lines verdict
  pub refutes : verdict ≡ says.Refuted → lrat.NoneSatisfies (formula_of clauses)

-- the same of two texts that may be there
abbrev pub IsCheckedIn : Option (List ℕ) → Option (List ℕ) → Verdict → Type 0
IsCheckedIn (Some clauses) (Some lines) verdict = IsChecked clauses lines verdict
IsCheckedIn (Some clauses) None verdict = ⊥
IsCheckedIn None lines verdict = ⊥

-- the run checks a proof: of these two files, neither of which breaks a rule as a whole, the verdict is that on their texts
pub record IsProof (held : List (Option Texts)) (files : List Asked) (settings : Settings) (verdict : Verdict) (clauses lines : List ℕ) : Type 0 where
  pub mode : settings.mode ≡ Lrat
  pub first : clauses ≡ settings.file
  pub second : settings.second ≡ Some lines
  pub whole : (told : List Texts) → held ≡ map (λ t. Some t) told → first_broken told files ≡ None
  pub checked : (told : List Texts) → held ≡ map (λ t. Some t) told → IsCheckedIn (texts.text_of told clauses) (texts.text_of told lines) verdict

-- the settings ask for a check of two files that break no rule as a whole, and this is the verdict on their texts
pub record IsProofOf (told : List Texts) (settings : Settings) (name clauses lines : List ℕ) (verdict : Verdict) : Type 0 where
  pub mode : settings.mode ≡ Lrat
  pub second : settings.second ≡ Some name
  pub whole : first_broken told (asked settings) ≡ None
  pub clauses_are : texts.text_of told settings.file ≡ Some clauses
  pub lines_are : texts.text_of told name ≡ Some lines
  pub verdict_on : lrat.IsVerdict clauses lines verdict

-- an answer that the settings, these files, what the libraries hold, and their counts of faults allow
abbrev pub AllowsFiles : List Asked → Settings → List (Option Texts) → List ℕ → List ℕ → Answer → Type 0
AllowsFiles files settings held before now Usage = ⊥
AllowsFiles files settings held before now (Refused refusal name) = (now ≡ before) × IsRefused held files settings refusal name
AllowsFiles files settings held before now (ReadFault name) = IsSought settings name files × SomeRose before now
AllowsFiles files settings held before now (Trace text) = (now ≡ before) × (loaded : Loaded) × IsSearched held files settings loaded × ShownTrace loaded settings.mode settings.command settings.part settings.conflicts text
AllowsFiles files settings held before now (Refuted text) = (now ≡ before) × (loaded : Loaded) × IsSearched held files settings loaded × ShownNone loaded settings.mode settings.command settings.part settings.conflicts text
AllowsFiles files settings held before now (Unknown text) = (now ≡ before) × (loaded : Loaded) × IsSearched held files settings loaded × ShownSpent loaded settings.mode settings.command settings.conflicts text
AllowsFiles files settings held before now (Made text) = (now ≡ before) × (settings.mode ≡ Make) × MakesRing held settings text
AllowsFiles files settings held before now (Listed list) = (now ≡ before) × IsListed held files settings list
AllowsFiles files settings held before now (Checked verdict clauses lines) = (now ≡ before) × IsProof held files settings verdict clauses lines
AllowsFiles files settings held before now (Traced said second) = (now ≡ before) × (loaded : Loaded) × IsOnModule held files settings loaded × IsReadTrace held loaded settings said second

-- the same of the files that the settings ask for
abbrev pub AllowsRun : Settings → List (Option Texts) → List ℕ → List ℕ → Answer → Type 0
AllowsRun settings held before now answer = AllowsFiles (asked settings) settings held before now answer

-- the answer on clauses and the lines of the file `second`
pub record IsOnProof (settings : Settings) (second clauses lines : List ℕ) (answer : Answer) : Type 0 where
  pub verdict : Verdict
  pub says_so : answer ≡ Checked verdict settings.file second
  pub checked : IsChecked clauses lines verdict

-- an answer that the settings allow, where there may be none that fit
abbrev pub Allows : Option Settings → List (Option Texts) → List ℕ → List ℕ → Answer → Type 0
Allows None held before now Usage = now ≡ before
Allows None held before now _ = ⊥
Allows (Some settings) held before now answer = AllowsRun settings held before now answer

-- the whole text was written
abbrev pub Written : Option (List ℕ) → Option (List ℕ) → List ℕ → Type 0
Written old new text = new ≡ option_map (λ got. got ++ text) old

-- a part of it from the front was
abbrev pub Begun : Option (List ℕ) → Option (List ℕ) → List ℕ → Type 0
Begun old new text = (n : ℕ) × (new ≡ option_map (λ got. got ++ take n text) old)

-- an answer that was written, or couldn't be
pub data Delivered (answer : Answer) (old new : Option (List ℕ)) (before now status : ℕ) : Type 0 where
  written : status ≡ status_of answer → Written old new (text_of answer) → now ≡ before → Delivered answer old new before now status
  no_memory : status ≡ 5 → new ≡ old → now ≡ before → Delivered answer old new before now status
  write_fault : status ≡ 6 → Begun old new (text_of answer) → before ≤ now → Rose before now → Delivered answer old new before now status

-- the answer was delivered, or there was no memory for one
pub data Finished (r : Result Answer AllocError) (old new : Option (List ℕ)) (before now status : ℕ) : Type 0 where
  delivered : (answer : Answer) → r ≡ Ok answer → Delivered answer old new before now status → Finished r old new before now status
  gave_up : status ≡ 5 → new ≡ old → now ≡ before → Finished r old new before now status

-- each answer that r is, is allowed
pub record Justified (settings : Option Settings) (held : List (Option Texts)) (before now : List ℕ) (r : Result Answer AllocError) : Type 0 where
  pub allowed : (answer : Answer) → r ≡ Ok answer → Allows settings held before now answer
