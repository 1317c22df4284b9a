-- The main theorem, on one page: what every run keeps, whatever its words, libraries, choosers and
-- sink are. `run_words` ensures it. docs/PROMISES.md has a line for each field, by its name and in
-- this order. Outcome.antt says what a caller sees of a run, and what it may come to.
use Rattle.std.specs.Prelude.{◌≡◌, ◌≢◌, ℕ, ◌⊎◌, List, [], ◌∷◌, ◌++◌, Option, Some, None}
use Rattle.std.specs.Prelude.{Err, IsTrue}
use Rattle.base_types.specs.Causes.{NoneFell}
use Rattle.base_types.specs.Texts.{Texts}
use Rattle.base_types.specs.declared.limits.TheConstants.{FILE_BYTES}
use Rattle.base_types.specs.declared.place.Refusal.{Refusal}
use Rattle.base_types.specs.declared.place.Rule.{Rule}
use Rattle.cli_words.specs.declared.settings.Settings.{Settings}
use Rattle.sat_verdict.specs.Mode as lrat
use Rattle.sat_verdict.specs.declared.mode.Verdict.{Verdict}
use Rattle.syntax_lexer.specs.Tokens.{tokens_of}
use Rattle.cli_model.specs.Answer.{usage_line}
use Rattle.cli_model.specs.Files.{asked, file_rule, first_broken}
use Rattle.cli_run.specs.Outcome.{Run, RunsOn, EndsWith, statuses_of, Wrote, RefusesText}
use Rattle.cli_run.specs.Outcome.{ChecksProof, ReadsTrace, ListsCommands, MakesModel, FailsToRead}
use Rattle.cli_run.specs.Outcome.{FailsToWrite, FindsTrace, FindsNone, LeavesOpen}
use Rattle.cli_model.specs.Modes.{reads_trace}
use Rattle.cli_run.specs.Allowed.{IsProofOf, model_of}

-- a run that keeps every promise
pub record IsRightRun (r : Run) : Type 0 where
  -- 2: the words give no settings that fit, and the usage line was written
  pub usage : r.status ≡ 2 → (r.settings ≡ None) × Wrote r usage_line
  -- where they give none, the status is 2, 5 or 6
  pub usage_always : r.settings ≡ None → EndsWith r (2 ∷ 5 ∷ 6 ∷ [])
  -- 0 and 1: a proof was checked or a trace read; or, with 0, commands were listed or a model made
  pub checked : EndsWith r (0 ∷ 1 ∷ []) →
      ChecksProof r ⊎ ReadsTrace r ⊎ ListsCommands r ⊎ MakesModel r
  -- where a proof is asked for and both files are whole, the status is that of their one verdict
  pub checked_always : (settings : Settings) (told : List Texts) (name clauses lines : List ℕ)
      (verdict : Verdict) → RunsOn r settings told →
      IsProofOf told settings name clauses lines verdict →
      EndsWith r (lrat.status_of verdict ∷ 4 ∷ 5 ∷ 6 ∷ [])
  -- 3: a text breaks a rule, and the line that says so was written
  pub refused : r.status ≡ 3 → RefusesText r ⊎ ChecksProof r ⊎ ReadsTrace r
  -- where a file of the words is absent or too large, the status is 3, 4, 5 or 6
  pub refused_always : (settings : Settings) (told : List Texts) (broken : Rule × List ℕ) →
      RunsOn r settings told → first_broken told (asked settings) ≡ Some broken →
      EndsWith r (3 ∷ 4 ∷ 5 ∷ 6 ∷ [])
  -- the same where the file of a trace is absent or too large
  pub second_always : (settings : Settings) (told : List Texts) (second : List ℕ) (rule : Rule) →
      RunsOn r settings told → IsTrue (reads_trace settings.mode) →
      settings.second ≡ Some second → file_rule told (second, FILE_BYTES) ≡ Some rule →
      EndsWith r (3 ∷ 4 ∷ 5 ∷ 6 ∷ [])
  -- the same where the text of the model can't be cut into tokens
  pub uncut_always : (settings : Settings) (told : List Texts) (text : List ℕ) (refusal : Refusal) →
      RunsOn r settings told → model_of told settings ≡ Some text →
      tokens_of 0 text ≡ Err refusal → EndsWith r (3 ∷ 4 ∷ 5 ∷ 6 ∷ [])
  -- 4: a library failed at a name that the run asks for, and the line that says so was written
  pub read_fault : r.status ≡ 4 → FailsToRead r
  -- where some library's count of faults changed, the status is 4, 5 or 6
  pub read_fault_always : r.faults_after ≢ r.faults_before → EndsWith r (4 ∷ 5 ∷ 6 ∷ [])
  -- no library's count of faults falls
  pub later : NoneFell r.faults_before r.faults_after
  -- 10: the words ask for a search, and what was written shows a trace
  pub trace : r.status ≡ 10 → FindsTrace r
  -- 20: the words ask for a search, and what was written shows that there is no trace
  pub absent : r.status ≡ 20 → FindsNone r
  -- 30: the words ask for a search, and what was written shows that its budget is spent
  pub unknown : r.status ≡ 30 → LeavesOpen r
  -- 5, of a run without memory: nothing was written
  pub memory : r.status ≡ 5 → r.got_after ≡ r.got_before
  -- 6: the sink failed, and got the front of the text of an answer that the run may have
  pub write_fault : r.status ≡ 6 → FailsToWrite r
  -- where the sink's count of faults changed, the status is 6
  pub write_fault_always : r.write_faults_after ≢ r.write_faults_before → r.status ≡ 6
  -- where the words give settings, the status is one of their mode's own, or 3, 4, 5 or 6
  pub modes : (settings : Settings) → r.settings ≡ Some settings →
      EndsWith r (statuses_of settings.mode ++ 3 ∷ 4 ∷ 5 ∷ 6 ∷ [])
  -- there is no other status than these
  pub status : EndsWith r (0 ∷ 1 ∷ 2 ∷ 3 ∷ 4 ∷ 5 ∷ 6 ∷ 10 ∷ 20 ∷ 30 ∷ [])
