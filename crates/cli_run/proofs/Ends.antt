-- How a run ends, status by status.
use Rattle.std.proofs.Common.{◌≡◌, ◌≢◌, ◌⊎◌, ℕ, List, [], ◌∷◌, ◌++◌, Option, Some, None, Result, Err, refl, sym, ap, ◌∙◌, subst, inl, inr, arith, map, append_assoc, true, false, IsTrue}
use Rattle.std.specs.declared.alloc.AllocError.{AllocError}
use Rattle.base_types.specs.Causes.{NoneFell}
use Rattle.base_types.specs.Texts as texts
use Rattle.base_types.specs.Texts.{Texts}
use Rattle.base_types.specs.declared.place.Rule.{Rule}
use Rattle.cli_words.specs.declared.settings.Settings.{Settings}
use Rattle.sat_verdict.specs.Mode as lrat
use Rattle.sat_verdict.specs.declared.mode.Verdict.{Verdict}
use Rattle.sat_verdict.specs.declared.mode.Verdict.TheVariants as says
use Rattle.answer_judge.specs.Answer as traced
use Rattle.answer_judge.specs.declared.answer.TraceAnswer.{TraceAnswer}
use Rattle.answer_judge.specs.declared.answer.TraceAnswer.TheVariants as tell
use Rattle.cli_model.specs.Answer.{text_of, status_of, usage_line}
use Rattle.cli_model.specs.Files.{asked, asked_in, file_rule, first_broken}
use Rattle.base_types.specs.declared.limits.TheConstants.{FILE_BYTES}
use Rattle.cli_run.specs.Outcome.{Run, RunsOn, IsOneOf, EndsWith, statuses_of, Wrote, RefusesText, ChecksProof, ReadsTrace, ListsCommands, MakesModel, FailsToRead, FailsToWrite, FindsTrace, FindsNone, LeavesOpen}
use Rattle.cli_run.specs.Promises.{IsRightRun}
use Rattle.cli_model.specs.Loads.{IsLoadedIn}
use Rattle.cli_model.specs.Model.{IsSaid}
use Rattle.cli_model.specs.Modes.{looks, reads_trace, analyses}
use Rattle.cli_run.specs.Allowed.{Allows, written, no_memory, write_fault, Finished, delivered, gave_up, Justified, IsProofOf, IsCheckedIn, RefusedFor, model_in, model_of}
use Rattle.cli_model.specs.Root.{SpellsModule, ListsModule, SpellIn}
use Rattle.syntax_lexer.specs.Tokens.{tokens_of}
use Rattle.syntax_tree.specs.declared.loaded.Loaded.{Loaded}
use Rattle.base_types.specs.declared.place.Refusal.{Refusal}
use Rattle.cli_words.specs.declared.named.Mode.{Mode}
use Rattle.cli_words.specs.declared.named.Mode.TheVariants.{Exec, Commands, Lrat, Make, Replay, Eval, Least, Core}
use Rattle.sat_verdict.proofs.Verdicts.{one_verdict}
use Rattle.cli_model.specs.declared.answer.Answer.{Answer}
use Rattle.cli_model.specs.declared.answer.Answer.TheVariants.{Usage, Refused, ReadFault, Trace, Refuted, Unknown, Made, Listed, Checked, Traced}

verdict_status : (v : Verdict) → (lrat.status_of v ≡ 0) ⊎ (lrat.status_of v ≡ 1) ⊎ (lrat.status_of v ≡ 3)
verdict_status says.Refuted = inl refl
verdict_status (says.Rejected rule line) = inr (inl refl)
verdict_status (says.Unfinished lemmas) = inr (inl refl)
verdict_status (says.BadCnf rule line) = inr (inr refl)
verdict_status (says.BadProof rule line) = inr (inr refl)

-- a verdict has no other status
other_status : (v : Verdict) (n : ℕ) → n ≢ 0 → n ≢ 1 → n ≢ 3 → lrat.status_of v ≡ n → ⊥
other_status v n zero one three is = elim (verdict_status v) [
  | inl e ↦ zero (sym is ∙ e)
  | inr rest ↦ elim rest [ inl e ↦ one (sym is ∙ e) | inr e ↦ three (sym is ∙ e) ]
]

traced_status : (s : TraceAnswer) → (traced.status_of s ≡ 0) ⊎ (traced.status_of s ≡ 1) ⊎ (traced.status_of s ≡ 3)
traced_status (tell.Judged true text) = inl refl
traced_status (tell.Judged false text) = inr (inl refl)
traced_status (tell.Valued text) = inl refl
traced_status (tell.BadTrace line) = inr (inr refl)

-- what is said of a trace has no other status
other_traced : (s : TraceAnswer) (n : ℕ) → n ≢ 0 → n ≢ 1 → n ≢ 3 → traced.status_of s ≡ n → ⊥
other_traced s n zero one three is = elim (traced_status s) [
  | inl e ↦ zero (sym is ∙ e)
  | inr rest ↦ elim rest [ inl e ↦ one (sym is ∙ e) | inr e ↦ three (sym is ∙ e) ]
]

-- a mode that reads a trace is none of the others
no_trace_lrat : (loaded : Loaded) (m : Mode) (settings : Settings) (trace : List ℕ) (s : TraceAnswer) → m ≡ Lrat → IsSaid loaded m settings trace s → ⊥
no_trace_lrat loaded m settings trace s is on = absurd (subst (λ k. IsSaid loaded k settings trace s) is on)

-- a mode that analyses a model checks no proof
no_lrat_analyses : (m : Mode) → m ≡ Lrat → IsTrue (analyses m) → ⊥
no_lrat_analyses m is on = let bad : false ≡ true = subst (λ k. IsTrue (analyses k)) is on in cc

no_lrat_looks : (m : Mode) → m ≡ Lrat → IsTrue (looks m) → ⊥
no_lrat_looks m is on = let bad : false ≡ true = subst (λ k. IsTrue (looks k)) is on in cc

-- a mode that looks for traces reads none
no_trace_looks : (m : Mode) → IsTrue (looks m) → IsTrue (reads_trace m) → ⊥
no_trace_looks Exec on reads = cc
no_trace_looks Least on reads = cc
no_trace_looks Core on reads = cc
no_trace_looks Commands on reads = cc
no_trace_looks Lrat on reads = cc
no_trace_looks Make on reads = cc
no_trace_looks Replay on reads = cc
no_trace_looks Eval on reads = cc

no_trace_in : (m k : Mode) → m ≡ k → IsTrue (reads_trace m) → IsTrue (reads_trace k)
no_trace_in m k is reads = subst (λ j. IsTrue (reads_trace j)) is reads

-- the statuses of a search
ten_of : (m : Mode) → IsTrue (looks m) → IsOneOf 10 (statuses_of m)
ten_of Exec on = inl refl
ten_of Least on = inl refl
ten_of Core on = inl refl
ten_of Commands on = cc
ten_of Lrat on = cc
ten_of Make on = cc
ten_of Replay on = cc
ten_of Eval on = cc

twenty_of : (m : Mode) → IsTrue (looks m) → IsOneOf 20 (statuses_of m)
twenty_of Exec on = inr (inl refl)
twenty_of Least on = inr (inl refl)
twenty_of Core on = inr (inl refl)
twenty_of Commands on = cc
twenty_of Lrat on = cc
twenty_of Make on = cc
twenty_of Replay on = cc
twenty_of Eval on = cc

thirty_of : (m : Mode) → IsTrue (looks m) → IsOneOf 30 (statuses_of m)
thirty_of Exec on = inr (inr (inl refl))
thirty_of Least on = inr (inr (inl refl))
thirty_of Core on = inr (inr (inl refl))
thirty_of Commands on = cc
thirty_of Lrat on = cc
thirty_of Make on = cc
thirty_of Replay on = cc
thirty_of Eval on = cc

-- a number of a list is one of each longer list
in_front : (n : ℕ) (ms ks : List ℕ) → IsOneOf n ms → IsOneOf n (ms ++ ks)
in_front n [] ks one = absurd one
in_front n (m ∷ ms) ks one = elim one [ inl same ↦ inl same | inr rest ↦ inr (in_front n ms ks rest) ]

behind : (n : ℕ) (ms ks : List ℕ) → IsOneOf n ks → IsOneOf n (ms ++ ks)
behind n [] ks one = one
behind n (m ∷ ms) ks one = inr (behind n ms ks one)

-- one of the statuses of a mode, or that of a refusal or of a library's fault
abbrev Among : Mode → ℕ → Type 0
Among m n = IsOneOf n (statuses_of m) ⊎ ((n ≡ 3) ⊎ (n ≡ 4))

listed_among : (m : Mode) (n : ℕ) → Among m n → IsOneOf n (statuses_of m ++ 3 ∷ 4 ∷ [])
listed_among m n among = elim among [
  | inl own ↦ in_front n (statuses_of m) (3 ∷ 4 ∷ []) own
  | inr either ↦ behind n (statuses_of m) (3 ∷ 4 ∷ []) (elim either [ inl three ↦ inl three | inr four ↦ inr (inl four) ])
]

verdict_among : (v : Verdict) → Among Lrat (lrat.status_of v)
verdict_among v = elim (verdict_status v) [
  | inl e ↦ inl (inl e)
  | inr rest ↦ elim rest [ inl e ↦ inl (inr (inl e)) | inr e ↦ inr (inl e) ]
]

said_among : (loaded : Loaded) (m : Mode) (settings : Settings) (trace : List ℕ) (s : TraceAnswer) → IsSaid loaded m settings trace s → Among m (traced.status_of s)
said_among loaded Replay settings trace (tell.Judged true text) on = inl (inl refl)
said_among loaded Replay settings trace (tell.Judged false text) on = inl (inr (inl refl))
said_among loaded Replay settings trace (tell.Valued text) (prepared, made, on) = absurd on
said_among loaded Replay settings trace (tell.BadTrace line) on = inr (inl refl)
said_among loaded Eval settings trace (tell.Judged satisfied text) (prepared, made, (value, asked, on)) = absurd on
said_among loaded Eval settings trace (tell.Valued text) on = inl (inl refl)
said_among loaded Eval settings trace (tell.BadTrace line) on = inr (inl refl)
said_among loaded Exec settings trace s on = absurd on
said_among loaded Least settings trace s on = absurd on
said_among loaded Core settings trace s on = absurd on
said_among loaded Commands settings trace s on = absurd on
said_among loaded Lrat settings trace s on = absurd on
said_among loaded Make settings trace s on = absurd on

-- an answer's own status is neither of the two that say that it couldn't be delivered
not_five : (a : Answer) → status_of a ≡ 5 → ⊥
not_five Usage is = omega arith
not_five (Refused refusal name) is = omega arith
not_five (ReadFault name) is = omega arith
not_five (Trace text) is = omega arith
not_five (Refuted text) is = omega arith
not_five (Unknown text) is = omega arith
not_five (Made text) is = omega arith
not_five (Listed list) is = omega arith
not_five (Checked v clauses lines) is = other_status v 5 (λ e. omega arith) (λ e. omega arith) (λ e. omega arith) is
not_five (Traced s second) is = other_traced s 5 (λ e. omega arith) (λ e. omega arith) (λ e. omega arith) is

not_six : (a : Answer) → status_of a ≡ 6 → ⊥
not_six Usage is = omega arith
not_six (Refused refusal name) is = omega arith
not_six (ReadFault name) is = omega arith
not_six (Trace text) is = omega arith
not_six (Refuted text) is = omega arith
not_six (Unknown text) is = omega arith
not_six (Made text) is = omega arith
not_six (Listed list) is = omega arith
not_six (Checked v clauses lines) is = other_status v 6 (λ e. omega arith) (λ e. omega arith) (λ e. omega arith) is
not_six (Traced s second) is = other_traced s 6 (λ e. omega arith) (λ e. omega arith) (λ e. omega arith) is

-- the statuses of the table
abbrev table : List ℕ
table = 0 ∷ 1 ∷ 2 ∷ 3 ∷ 4 ∷ 5 ∷ 6 ∷ 10 ∷ 20 ∷ 30 ∷ []

answer_status : (a : Answer) → IsOneOf (status_of a) table
answer_status Usage = inr (inr (inl refl))
answer_status (Refused refusal name) = inr (inr (inr (inl refl)))
answer_status (ReadFault name) = inr (inr (inr (inr (inl refl))))
answer_status (Trace text) = inr (inr (inr (inr (inr (inr (inr (inl refl)))))))
answer_status (Refuted text) = inr (inr (inr (inr (inr (inr (inr (inr (inl refl))))))))
answer_status (Unknown text) = inr (inr (inr (inr (inr (inr (inr (inr (inr (inl refl)))))))))
answer_status (Made text) = inl refl
answer_status (Listed list) = inl refl
answer_status (Checked v clauses lines) = elim (verdict_status v) [
  | inl e ↦ inl e
  | inr rest ↦ elim rest [ inl e ↦ inr (inl e) | inr e ↦ inr (inr (inr (inl e))) ]
]
answer_status (Traced s second) = elim (traced_status s) [
  | inl e ↦ inl e
  | inr rest ↦ elim rest [ inl e ↦ inr (inl e) | inr e ↦ inr (inr (inr (inl e))) ]
]

-- the run may have this answer, where its words give these settings, if any
abbrev pub May : Run → Option Settings → Answer → Type 0
May run o a = Allows o run.held run.faults_before run.faults_after a

-- each answer that the run has is one that it may have
abbrev pub Has : Run → Result Answer AllocError → Type 0
Has run r = Justified run.settings run.held run.faults_before run.faults_after r

-- the run ended with this answer, or without memory for one
abbrev pub Ended : Run → Result Answer AllocError → Type 0
Ended run r = Finished r run.got_before run.got_after run.write_faults_before run.write_faults_after run.status

module _ (run : Run) where
  usage_given : (o : Option Settings) (a : Answer) → May run o a → status_of a ≡ 2 → (o ≡ None) × (text_of a ≡ usage_line)
  usage_given None Usage allows is = (refl, refl)
  usage_given None (Refused refusal name) allows is = absurd allows
  usage_given None (ReadFault name) allows is = absurd allows
  usage_given None (Trace text) allows is = absurd allows
  usage_given None (Refuted text) allows is = absurd allows
  usage_given None (Unknown text) allows is = absurd allows
  usage_given None (Made text) allows is = absurd allows
  usage_given None (Listed list) allows is = absurd allows
  usage_given None (Checked v clauses lines) allows is = absurd allows
  usage_given None (Traced s second) allows is = absurd allows
  usage_given (Some settings) Usage allows is = absurd allows
  usage_given (Some settings) (Refused refusal name) allows is = absurd (omega arith)
  usage_given (Some settings) (ReadFault name) allows is = absurd (omega arith)
  usage_given (Some settings) (Trace text) allows is = absurd (omega arith)
  usage_given (Some settings) (Refuted text) allows is = absurd (omega arith)
  usage_given (Some settings) (Unknown text) allows is = absurd (omega arith)
  usage_given (Some settings) (Made text) allows is = absurd (omega arith)
  usage_given (Some settings) (Listed list) allows is = absurd (omega arith)
  usage_given (Some settings) (Checked v clauses lines) allows is = absurd (other_status v 2 (λ e. omega arith) (λ e. omega arith) (λ e. omega arith) is)
  usage_given (Some settings) (Traced s second) allows is = absurd (other_traced s 2 (λ e. omega arith) (λ e. omega arith) (λ e. omega arith) is)

  usage_where_none : (a : Answer) → May run None a → status_of a ≡ 2
  usage_where_none Usage allows = refl
  usage_where_none (Refused refusal name) allows = absurd allows
  usage_where_none (ReadFault name) allows = absurd allows
  usage_where_none (Trace text) allows = absurd allows
  usage_where_none (Refuted text) allows = absurd allows
  usage_where_none (Unknown text) allows = absurd allows
  usage_where_none (Made text) allows = absurd allows
  usage_where_none (Listed list) allows = absurd allows
  usage_where_none (Checked v clauses lines) allows = absurd allows
  usage_where_none (Traced s second) allows = absurd allows

  refused_given : (o : Option Settings) (a : Answer) → run.settings ≡ o → May run o a → status_of a ≡ 3 → run.status ≡ status_of a → Wrote run (text_of a) → RefusesText run ⊎ ChecksProof run ⊎ ReadsTrace run
  refused_given None Usage fit allows is same line = absurd (omega arith)
  refused_given None (Refused refusal name) fit allows is same line = absurd allows
  refused_given None (ReadFault name) fit allows is same line = absurd allows
  refused_given None (Trace text) fit allows is same line = absurd allows
  refused_given None (Refuted text) fit allows is same line = absurd allows
  refused_given None (Unknown text) fit allows is same line = absurd allows
  refused_given None (Made text) fit allows is same line = absurd allows
  refused_given None (Listed list) fit allows is same line = absurd allows
  refused_given None (Checked v clauses lines) fit allows is same line = absurd allows
  refused_given None (Traced s second) fit allows is same line = absurd allows
  refused_given (Some settings) Usage fit allows is same line = absurd allows
  refused_given (Some settings) (Refused refusal name) fit allows is same line =
      inl (record { settings = settings; refusal = refusal; name = name; fit = fit; cause = allows.1; line = line })
  refused_given (Some settings) (ReadFault name) fit allows is same line = absurd (omega arith)
  refused_given (Some settings) (Trace text) fit allows is same line = absurd (omega arith)
  refused_given (Some settings) (Refuted text) fit allows is same line = absurd (omega arith)
  refused_given (Some settings) (Unknown text) fit allows is same line = absurd (omega arith)
  refused_given (Some settings) (Made text) fit allows is same line = absurd (omega arith)
  refused_given (Some settings) (Listed list) fit allows is same line = absurd (omega arith)
  refused_given (Some settings) (Checked v clauses lines) fit allows is same line =
      inr (inl (record { settings = settings; verdict = v; clauses = clauses; lines = lines; fit = fit; cause = allows.1; line = line; has = same }))
  refused_given (Some settings) (Traced s second) fit allows is same line =
      inr (inr (record { settings = settings; said = s; second = second; fit = fit; loaded = allows.1; model = allows.2; cause = allows.3; line = line; has = same }))

  checked_given : (o : Option Settings) (a : Answer) → run.settings ≡ o → May run o a → run.status ≡ status_of a → (run.status ≡ 0) ⊎ (run.status ≡ 1) → Wrote run (text_of a) →
      ChecksProof run ⊎ ReadsTrace run ⊎ ListsCommands run ⊎ MakesModel run
  checked_given None Usage fit allows same low line = elim low [ inl e ↦ absurd (omega arith) | inr e ↦ absurd (omega arith) ]
  checked_given None (Refused refusal name) fit allows same low line = absurd allows
  checked_given None (ReadFault name) fit allows same low line = absurd allows
  checked_given None (Trace text) fit allows same low line = absurd allows
  checked_given None (Refuted text) fit allows same low line = absurd allows
  checked_given None (Unknown text) fit allows same low line = absurd allows
  checked_given None (Made text) fit allows same low line = absurd allows
  checked_given None (Listed list) fit allows same low line = absurd allows
  checked_given None (Checked v clauses lines) fit allows same low line = absurd allows
  checked_given None (Traced s second) fit allows same low line = absurd allows
  checked_given (Some settings) Usage fit allows same low line = absurd allows
  checked_given (Some settings) (Refused refusal name) fit allows same low line = elim low [ inl e ↦ absurd (omega arith) | inr e ↦ absurd (omega arith) ]
  checked_given (Some settings) (ReadFault name) fit allows same low line = elim low [ inl e ↦ absurd (omega arith) | inr e ↦ absurd (omega arith) ]
  checked_given (Some settings) (Trace text) fit allows same low line = elim low [ inl e ↦ absurd (omega arith) | inr e ↦ absurd (omega arith) ]
  checked_given (Some settings) (Refuted text) fit allows same low line = elim low [ inl e ↦ absurd (omega arith) | inr e ↦ absurd (omega arith) ]
  checked_given (Some settings) (Unknown text) fit allows same low line = elim low [ inl e ↦ absurd (omega arith) | inr e ↦ absurd (omega arith) ]
  checked_given (Some settings) (Made text) fit allows same low line =
      inr (inr (inr (record { settings = settings; text = text; fit = fit; mode = allows.1; cause = allows.2; line = line; has = same })))
  checked_given (Some settings) (Listed list) fit allows same low line =
      inr (inr (inl (record { settings = settings; list = list; fit = fit; cause = allows.1; line = line; has = same })))
  checked_given (Some settings) (Checked v clauses lines) fit allows same low line =
      inl (record { settings = settings; verdict = v; clauses = clauses; lines = lines; fit = fit; cause = allows.1; line = line; has = same })
  checked_given (Some settings) (Traced s second) fit allows same low line =
      inr (inl (record { settings = settings; said = s; second = second; fit = fit; loaded = allows.1; model = allows.2; cause = allows.3; line = line; has = same }))

  -- where the files of a proof are whole, the answer is the verdict on their texts, unless a library failed
  proof_given : (settings : Settings) (a : Answer) (told : List Texts) (name clauses lines : List ℕ) (verdict : Verdict) → May run (Some settings) a → run.held ≡ map (λ t. Some t) told →
      IsProofOf told settings name clauses lines verdict → IsOneOf (status_of a) (lrat.status_of verdict ∷ 4 ∷ [])
  proof_given settings Usage told name clauses lines verdict allows tells is = absurd allows
  proof_given settings (Refused refusal n) told name clauses lines verdict allows tells is =
      let why : RefusedFor run.held None (model_of told settings) settings refusal n = subst (λ o. RefusedFor run.held o (model_of told settings) settings refusal n) is.whole (allows.1 told tells) in
      elim why [
        | inl one ↦ absurd (one.2 is.mode)
        | inr other ↦ elim other [ inl searches ↦ absurd (no_lrat_analyses settings.mode is.mode searches.0) | inr makes ↦ cc (makes.0, is.mode) ]
      ]
  proof_given settings (ReadFault n) told name clauses lines verdict allows tells is = inr (inl refl)
  proof_given settings (Trace text) told name clauses lines verdict allows tells is = absurd (no_lrat_looks settings.mode is.mode allows.2.mode)
  proof_given settings (Refuted text) told name clauses lines verdict allows tells is = absurd (no_lrat_looks settings.mode is.mode allows.2.mode)
  proof_given settings (Unknown text) told name clauses lines verdict allows tells is = absurd (no_lrat_looks settings.mode is.mode allows.2.mode)
  proof_given settings (Made text) told name clauses lines verdict allows tells is = cc (allows.1, is.mode)
  proof_given settings (Listed list) told name clauses lines verdict allows tells is = cc (allows.1.mode, is.mode)
  proof_given settings (Checked v first second) told name clauses lines verdict allows tells is =
      let named : second ≡ name = cc (allows.1.second, is.second) in
      let one : texts.text_of told first ≡ Some clauses = ap (texts.text_of told) allows.1.first ∙ is.clauses_are in
      let two : texts.text_of told second ≡ Some lines = ap (texts.text_of told) named ∙ is.lines_are in
      let on : IsCheckedIn (Some clauses) (Some lines) v = subst (λ o. IsCheckedIn (Some clauses) o v) two (subst (λ o. IsCheckedIn o (texts.text_of told second) v) one (allows.1.checked told tells)) in
      inl (ap lrat.status_of (one_verdict clauses lines v verdict on.verdict_on is.verdict_on))
  proof_given settings (Traced s n) told name clauses lines verdict allows tells is = absurd (no_trace_lrat allows.1 settings.mode settings allows.3.trace s is.mode allows.3.on)

  read_fault_given : (o : Option Settings) (a : Answer) → run.settings ≡ o → May run o a → status_of a ≡ 4 → Wrote run (text_of a) → FailsToRead run
  read_fault_given None Usage fit allows is line = absurd (omega arith)
  read_fault_given None (Refused refusal name) fit allows is line = absurd allows
  read_fault_given None (ReadFault name) fit allows is line = absurd allows
  read_fault_given None (Trace text) fit allows is line = absurd allows
  read_fault_given None (Refuted text) fit allows is line = absurd allows
  read_fault_given None (Unknown text) fit allows is line = absurd allows
  read_fault_given None (Made text) fit allows is line = absurd allows
  read_fault_given None (Listed list) fit allows is line = absurd allows
  read_fault_given None (Checked v clauses lines) fit allows is line = absurd allows
  read_fault_given None (Traced s second) fit allows is line = absurd allows
  read_fault_given (Some settings) Usage fit allows is line = absurd allows
  read_fault_given (Some settings) (Refused refusal name) fit allows is line = absurd (omega arith)
  read_fault_given (Some settings) (ReadFault name) fit allows is line =
      record { settings = settings; name = name; fit = fit; asked_for = allows.0; rose = allows.1; line = line }
  read_fault_given (Some settings) (Trace text) fit allows is line = absurd (omega arith)
  read_fault_given (Some settings) (Refuted text) fit allows is line = absurd (omega arith)
  read_fault_given (Some settings) (Unknown text) fit allows is line = absurd (omega arith)
  read_fault_given (Some settings) (Made text) fit allows is line = absurd (omega arith)
  read_fault_given (Some settings) (Listed list) fit allows is line = absurd (omega arith)
  read_fault_given (Some settings) (Checked v clauses lines) fit allows is line = absurd (other_status v 4 (λ e. omega arith) (λ e. omega arith) (λ e. omega arith) is)
  read_fault_given (Some settings) (Traced s second) fit allows is line = absurd (other_traced s 4 (λ e. omega arith) (λ e. omega arith) (λ e. omega arith) is)

  trace_given : (o : Option Settings) (a : Answer) → run.settings ≡ o → May run o a → status_of a ≡ 10 → Wrote run (text_of a) → FindsTrace run
  trace_given None Usage fit allows is line = absurd (omega arith)
  trace_given None (Refused refusal name) fit allows is line = absurd allows
  trace_given None (ReadFault name) fit allows is line = absurd allows
  trace_given None (Trace text) fit allows is line = absurd allows
  trace_given None (Refuted text) fit allows is line = absurd allows
  trace_given None (Unknown text) fit allows is line = absurd allows
  trace_given None (Made text) fit allows is line = absurd allows
  trace_given None (Listed list) fit allows is line = absurd allows
  trace_given None (Checked v clauses lines) fit allows is line = absurd allows
  trace_given None (Traced s second) fit allows is line = absurd allows
  trace_given (Some settings) Usage fit allows is line = absurd allows
  trace_given (Some settings) (Refused refusal name) fit allows is line = absurd (omega arith)
  trace_given (Some settings) (ReadFault name) fit allows is line = absurd (omega arith)
  trace_given (Some settings) (Trace text) fit allows is line = record { settings = settings; text = text; fit = fit; loaded = allows.1; searched = allows.2; shown = allows.3; line = line }
  trace_given (Some settings) (Refuted text) fit allows is line = absurd (omega arith)
  trace_given (Some settings) (Unknown text) fit allows is line = absurd (omega arith)
  trace_given (Some settings) (Made text) fit allows is line = absurd (omega arith)
  trace_given (Some settings) (Listed list) fit allows is line = absurd (omega arith)
  trace_given (Some settings) (Checked v clauses lines) fit allows is line = absurd (other_status v 10 (λ e. omega arith) (λ e. omega arith) (λ e. omega arith) is)
  trace_given (Some settings) (Traced s second) fit allows is line = absurd (other_traced s 10 (λ e. omega arith) (λ e. omega arith) (λ e. omega arith) is)

  absent_given : (o : Option Settings) (a : Answer) → run.settings ≡ o → May run o a → status_of a ≡ 20 → Wrote run (text_of a) → FindsNone run
  absent_given None Usage fit allows is line = absurd (omega arith)
  absent_given None (Refused refusal name) fit allows is line = absurd allows
  absent_given None (ReadFault name) fit allows is line = absurd allows
  absent_given None (Trace text) fit allows is line = absurd allows
  absent_given None (Refuted text) fit allows is line = absurd allows
  absent_given None (Unknown text) fit allows is line = absurd allows
  absent_given None (Made text) fit allows is line = absurd allows
  absent_given None (Listed list) fit allows is line = absurd allows
  absent_given None (Checked v clauses lines) fit allows is line = absurd allows
  absent_given None (Traced s second) fit allows is line = absurd allows
  absent_given (Some settings) Usage fit allows is line = absurd allows
  absent_given (Some settings) (Refused refusal name) fit allows is line = absurd (omega arith)
  absent_given (Some settings) (ReadFault name) fit allows is line = absurd (omega arith)
  absent_given (Some settings) (Trace text) fit allows is line = absurd (omega arith)
  absent_given (Some settings) (Refuted text) fit allows is line = record { settings = settings; text = text; fit = fit; loaded = allows.1; searched = allows.2; absent = allows.3; line = line }
  absent_given (Some settings) (Unknown text) fit allows is line = absurd (omega arith)
  absent_given (Some settings) (Made text) fit allows is line = absurd (omega arith)
  absent_given (Some settings) (Listed list) fit allows is line = absurd (omega arith)
  absent_given (Some settings) (Checked v clauses lines) fit allows is line = absurd (other_status v 20 (λ e. omega arith) (λ e. omega arith) (λ e. omega arith) is)
  absent_given (Some settings) (Traced s second) fit allows is line = absurd (other_traced s 20 (λ e. omega arith) (λ e. omega arith) (λ e. omega arith) is)

  unknown_given : (o : Option Settings) (a : Answer) → run.settings ≡ o → May run o a → status_of a ≡ 30 → Wrote run (text_of a) → LeavesOpen run
  unknown_given None Usage fit allows is line = absurd (omega arith)
  unknown_given None (Refused refusal name) fit allows is line = absurd allows
  unknown_given None (ReadFault name) fit allows is line = absurd allows
  unknown_given None (Trace text) fit allows is line = absurd allows
  unknown_given None (Refuted text) fit allows is line = absurd allows
  unknown_given None (Unknown text) fit allows is line = absurd allows
  unknown_given None (Made text) fit allows is line = absurd allows
  unknown_given None (Listed list) fit allows is line = absurd allows
  unknown_given None (Checked v clauses lines) fit allows is line = absurd allows
  unknown_given None (Traced s second) fit allows is line = absurd allows
  unknown_given (Some settings) Usage fit allows is line = absurd allows
  unknown_given (Some settings) (Refused refusal name) fit allows is line = absurd (omega arith)
  unknown_given (Some settings) (ReadFault name) fit allows is line = absurd (omega arith)
  unknown_given (Some settings) (Trace text) fit allows is line = absurd (omega arith)
  unknown_given (Some settings) (Refuted text) fit allows is line = absurd (omega arith)
  unknown_given (Some settings) (Unknown text) fit allows is line = record { settings = settings; text = text; fit = fit; loaded = allows.1; searched = allows.2; open_at = allows.3; line = line }
  unknown_given (Some settings) (Made text) fit allows is line = absurd (omega arith)
  unknown_given (Some settings) (Listed list) fit allows is line = absurd (omega arith)
  unknown_given (Some settings) (Checked v clauses lines) fit allows is line = absurd (other_status v 30 (λ e. omega arith) (λ e. omega arith) (λ e. omega arith) is)
  unknown_given (Some settings) (Traced s second) fit allows is line = absurd (other_traced s 30 (λ e. omega arith) (λ e. omega arith) (λ e. omega arith) is)

  -- where a file breaks a rule as a whole, the answer is a refusal or a library's fault
  broken_given : (settings : Settings) (a : Answer) (told : List Texts) (broken : Rule × List ℕ) → May run (Some settings) a → run.held ≡ map (λ t. Some t) told →
      first_broken told (asked settings) ≡ Some broken → IsOneOf (status_of a) (3 ∷ 4 ∷ [])
  broken_given settings Usage told broken allows tells breaks = absurd allows
  broken_given settings (Refused refusal name) told broken allows tells breaks = inl refl
  broken_given settings (ReadFault name) told broken allows tells breaks = inr (inl refl)
  broken_given settings (Trace text) told broken allows tells breaks = cc (allows.2.whole told tells, breaks)
  broken_given settings (Refuted text) told broken allows tells breaks = cc (allows.2.whole told tells, breaks)
  broken_given settings (Unknown text) told broken allows tells breaks = cc (allows.2.whole told tells, breaks)
  broken_given settings (Made text) told broken allows tells breaks =
      let none : asked settings ≡ [] = ap (λ m. asked_in m settings.file settings.second) allows.1 in
      cc (ap (first_broken told) none, breaks)
  broken_given settings (Listed list) told broken allows tells breaks = cc (allows.1.whole told tells, breaks)
  broken_given settings (Checked v clauses lines) told broken allows tells breaks = cc (allows.1.whole told tells, breaks)
  broken_given settings (Traced s second) told broken allows tells breaks = cc (allows.2.whole told tells, breaks)

  -- where the file of a trace breaks a rule as a whole, the answer is a refusal or a library's fault
  second_given : (settings : Settings) (a : Answer) (told : List Texts) (second : List ℕ) (rule : Rule) → May run (Some settings) a → run.held ≡ map (λ t. Some t) told →
      IsTrue (reads_trace settings.mode) → settings.second ≡ Some second → file_rule told (second, FILE_BYTES) ≡ Some rule → IsOneOf (status_of a) (3 ∷ 4 ∷ [])
  second_given settings Usage told second rule allows tells mode named breaks = absurd allows
  second_given settings (Refused refusal name) told second rule allows tells mode named breaks = inl refl
  second_given settings (ReadFault name) told second rule allows tells mode named breaks = inr (inl refl)
  second_given settings (Trace text) told second rule allows tells mode named breaks = absurd (no_trace_looks settings.mode allows.2.mode mode)
  second_given settings (Refuted text) told second rule allows tells mode named breaks = absurd (no_trace_looks settings.mode allows.2.mode mode)
  second_given settings (Unknown text) told second rule allows tells mode named breaks = absurd (no_trace_looks settings.mode allows.2.mode mode)
  second_given settings (Made text) told second rule allows tells mode named breaks = let bad : false ≡ true = no_trace_in settings.mode Make allows.1 mode in cc
  second_given settings (Listed list) told second rule allows tells mode named breaks = let bad : false ≡ true = no_trace_in settings.mode Commands allows.1.mode mode in cc
  second_given settings (Checked v clauses lines) told second rule allows tells mode named breaks = let bad : false ≡ true = no_trace_in settings.mode Lrat allows.1.mode mode in cc
  second_given settings (Traced s n) told second rule allows tells mode named breaks =
      let same : n ≡ second = cc (allows.3.named, named) in
      let whole : file_rule told (second, FILE_BYTES) ≡ None = subst (λ x. file_rule told (x, FILE_BYTES) ≡ None) same (allows.3.tells told tells).1 in
      cc (whole, breaks)

  -- each mode has its own statuses
  mode_given : (settings : Settings) (a : Answer) → May run (Some settings) a → Among settings.mode (status_of a)
  mode_given settings Usage allows = absurd allows
  mode_given settings (Refused refusal name) allows = inr (inl refl)
  mode_given settings (ReadFault name) allows = inr (inr refl)
  mode_given settings (Trace text) allows = inl (ten_of settings.mode allows.2.mode)
  mode_given settings (Refuted text) allows = inl (twenty_of settings.mode allows.2.mode)
  mode_given settings (Unknown text) allows = inl (thirty_of settings.mode allows.2.mode)
  mode_given settings (Made text) allows = subst (λ m. Among m 0) (sym allows.1) (inl (inl refl))
  mode_given settings (Listed list) allows = subst (λ m. Among m 0) (sym allows.1.mode) (inl (inl refl))
  mode_given settings (Checked v clauses lines) allows = subst (λ m. Among m (lrat.status_of v)) (sym allows.1.mode) (verdict_among v)
  mode_given settings (Traced s n) allows = said_among allows.1 settings.mode settings allows.3.trace s allows.3.on

  -- a text that can't be cut into tokens spells no module
  uncut : (model : Option (List ℕ)) (text : List ℕ) (refusal : Refusal) → model ≡ Some text → tokens_of 0 text ≡ Err refusal → SpellsModule model → ⊥
  uncut None text refusal is cut spells = cc
  uncut (Some bytes) text refusal is cut spells =
      let same : bytes ≡ text = cc in
      let on : SpellsModule (Some text) = subst (λ b. SpellsModule (Some b)) same spells in
      absurd (subst (λ ts. SpellIn ts on.tree) cut on.spelled)

  -- a module whose commands are listed is one that the text spells
  listed_spells : (model : Option (List ℕ)) (list : List ℕ) → ListsModule model list → SpellsModule model
  listed_spells None list lists = absurd lists
  listed_spells (Some text) list lists = record { tree = lists.tree; spelled = lists.spelled }

  -- a module of which something is loaded is one that the text spells
  loaded_spells : (held : List (Option Texts)) (file : List ℕ) (model : Option (List ℕ)) (loaded : Loaded) → IsLoadedIn held file model loaded → SpellsModule model
  loaded_spells held file None loaded loads = absurd loads
  loaded_spells held file (Some text) loaded loads = record { tree = loads.tree; spelled = loads.spelled }

  -- a run that makes a model reads none
  no_model_made : (settings : Settings) (told : List Texts) (text : List ℕ) → settings.mode ≡ Make → model_of told settings ≡ Some text → ⊥
  no_model_made settings told text mode is =
      let none : model_of told settings ≡ None = ap (λ m. model_in m (texts.text_of told settings.file)) mode in
      cc

  -- a run that checks a proof reads no model
  no_model : (settings : Settings) (told : List Texts) (text : List ℕ) → settings.mode ≡ Lrat → model_of told settings ≡ Some text → ⊥
  no_model settings told text mode is =
      let none : model_of told settings ≡ None = ap (λ m. model_in m (texts.text_of told settings.file)) mode in
      cc

  -- where the model can't be cut into tokens, the answer is a refusal or a library's fault
  uncut_given : (settings : Settings) (a : Answer) (told : List Texts) (text : List ℕ) (refusal : Refusal) → May run (Some settings) a → run.held ≡ map (λ t. Some t) told →
      model_of told settings ≡ Some text → tokens_of 0 text ≡ Err refusal → IsOneOf (status_of a) (3 ∷ 4 ∷ [])
  uncut_given settings Usage told text refusal allows tells is cut = absurd allows
  uncut_given settings (Refused r name) told text refusal allows tells is cut = inl refl
  uncut_given settings (ReadFault name) told text refusal allows tells is cut = inr (inl refl)
  uncut_given settings (Trace bytes) told text refusal allows tells is cut = absurd (uncut (model_of told settings) text refusal is cut (loaded_spells run.held settings.file (model_of told settings) allows.1 (allows.2.loads told tells)))
  uncut_given settings (Refuted bytes) told text refusal allows tells is cut = absurd (uncut (model_of told settings) text refusal is cut (loaded_spells run.held settings.file (model_of told settings) allows.1 (allows.2.loads told tells)))
  uncut_given settings (Unknown bytes) told text refusal allows tells is cut = absurd (uncut (model_of told settings) text refusal is cut (loaded_spells run.held settings.file (model_of told settings) allows.1 (allows.2.loads told tells)))
  uncut_given settings (Made bytes) told text refusal allows tells is cut = absurd (no_model_made settings told text allows.1 is)
  uncut_given settings (Listed list) told text refusal allows tells is cut = absurd (uncut (model_of told settings) text refusal is cut (listed_spells (model_of told settings) list (allows.1.lists told tells)))
  uncut_given settings (Checked v clauses lines) told text refusal allows tells is cut = absurd (no_model settings told text allows.1.mode is)
  uncut_given settings (Traced s second) told text refusal allows tells is cut = absurd (uncut (model_of told settings) text refusal is cut (loaded_spells run.held settings.file (model_of told settings) allows.1 (allows.2.loads told tells)))

  -- where a count has changed, the answer is a library's fault
  risen_given : (o : Option Settings) (a : Answer) → May run o a → run.faults_after ≢ run.faults_before → status_of a ≡ 4
  risen_given None Usage allows other = absurd (other allows)
  risen_given None (Refused refusal name) allows other = absurd allows
  risen_given None (ReadFault name) allows other = absurd allows
  risen_given None (Trace text) allows other = absurd allows
  risen_given None (Refuted text) allows other = absurd allows
  risen_given None (Unknown text) allows other = absurd allows
  risen_given None (Made text) allows other = absurd allows
  risen_given None (Listed list) allows other = absurd allows
  risen_given None (Checked v clauses lines) allows other = absurd allows
  risen_given None (Traced s second) allows other = absurd allows
  risen_given (Some settings) Usage allows other = absurd allows
  risen_given (Some settings) (Refused refusal name) allows other = absurd (other allows.0)
  risen_given (Some settings) (ReadFault name) allows other = refl
  risen_given (Some settings) (Trace text) allows other = absurd (other allows.0)
  risen_given (Some settings) (Refuted text) allows other = absurd (other allows.0)
  risen_given (Some settings) (Unknown text) allows other = absurd (other allows.0)
  risen_given (Some settings) (Made text) allows other = absurd (other allows.0)
  risen_given (Some settings) (Listed list) allows other = absurd (other allows.0)
  risen_given (Some settings) (Checked v clauses lines) allows other = absurd (other allows.0)
  risen_given (Some settings) (Traced s second) allows other = absurd (other allows.0)

  -- an answer with this status was written
  pub record Said (status : ℕ) : Type 0 where
    pub answer : Answer
    pub allowed : May run run.settings answer
    pub has : status_of answer ≡ status
    pub same : run.status ≡ status_of answer
    pub line : Wrote run (text_of answer)

  said : (status : ℕ) (r : Result Answer AllocError) → Has run r → Ended run r → run.status ≡ status → status ≢ 5 → status ≢ 6 → Said status
  said status r justified (delivered a built (written is whole same)) at five six = record { answer = a; allowed = justified.allowed a built; has = sym is ∙ at; same = is; line = whole }
  said status r justified (delivered a built (no_memory is nothing same)) at five six = absurd (five (sym at ∙ is))
  said status r justified (delivered a built (write_fault is part later rose)) at five six = absurd (six (sym at ∙ is))
  said status r justified (gave_up is nothing same) at five six = absurd (five (sym at ∙ is))

  -- what holds of the status of each answer that is allowed, or one of the two statuses without an answer
  ends : (P : ℕ → Type 0) (r : Result Answer AllocError) → Has run r → Ended run r → ((a : Answer) → May run run.settings a → P (status_of a)) → P run.status ⊎ ((run.status ≡ 5) ⊎ (run.status ≡ 6))
  ends P r justified (delivered a built (written is whole same)) all = inl (subst P (sym is) (all a (justified.allowed a built)))
  ends P r justified (delivered a built (no_memory is nothing same)) all = inr (inl is)
  ends P r justified (delivered a built (write_fault is part later rose)) all = inr (inr is)
  ends P r justified (gave_up is nothing same) all = inr (inl is)

  -- where each answer that is allowed has one of these statuses, so has the run, or one of the two
  ends_with : (statuses : List ℕ) (r : Result Answer AllocError) → Has run r → Ended run r → ((a : Answer) → May run run.settings a → IsOneOf (status_of a) statuses) → EndsWith run (statuses ++ 5 ∷ 6 ∷ [])
  ends_with statuses r justified finished all = elim (ends (λ n. IsOneOf n statuses) r justified finished all) [
    | inl one ↦ in_front run.status statuses (5 ∷ 6 ∷ []) one
    | inr rest ↦ behind run.status statuses (5 ∷ 6 ∷ []) (elim rest [ inl five ↦ inl five | inr six ↦ inr (inl six) ])
  ]

  memory : (r : Result Answer AllocError) → Ended run r → run.status ≡ 5 → run.got_after ≡ run.got_before
  memory r (delivered a built (written is whole same)) five = absurd (not_five a (sym is ∙ five))
  memory r (delivered a built (no_memory is nothing same)) five = nothing
  memory r (delivered a built (write_fault is part later rose)) five = absurd (omega arith)
  memory r (gave_up is nothing same) five = nothing

  write_fault_always : (r : Result Answer AllocError) → Ended run r → run.write_faults_after ≢ run.write_faults_before → run.status ≡ 6
  write_fault_always r (delivered a built (written is whole same)) other = absurd (other same)
  write_fault_always r (delivered a built (no_memory is nothing same)) other = absurd (other same)
  write_fault_always r (delivered a built (write_fault is part later rose)) other = is
  write_fault_always r (gave_up is nothing same) other = absurd (other same)

  write_faulted : (r : Result Answer AllocError) → Has run r → Ended run r → run.status ≡ 6 → FailsToWrite run
  write_faulted r justified (delivered a built (written is whole same)) six = absurd (not_six a (sym is ∙ six))
  write_faulted r justified (delivered a built (no_memory is nothing same)) six = absurd (omega arith)
  write_faulted r justified (delivered a built (write_fault is part later rose)) six = record { answer = a; rose = rose; allowed = justified.allowed a built; front = part }
  write_faulted r justified (gave_up is nothing same) six = absurd (omega arith)

  usage : (r : Result Answer AllocError) → Has run r → Ended run r → run.status ≡ 2 → (run.settings ≡ None) × Wrote run usage_line
  usage r justified finished is =
      let told = said 2 r justified finished is (λ e. omega arith) (λ e. omega arith) in
      let both = usage_given run.settings told.answer told.allowed told.has in
      (both.0, subst (λ t. Wrote run t) both.1 told.line)

  usage_always : (r : Result Answer AllocError) → Has run r → Ended run r → run.settings ≡ None → EndsWith run (2 ∷ 5 ∷ 6 ∷ [])
  usage_always r justified finished none = ends_with (2 ∷ []) r justified finished (λ a allows. inl (usage_where_none a (subst (λ o. May run o a) none allows)))

  refused : (r : Result Answer AllocError) → Has run r → Ended run r → run.status ≡ 3 → RefusesText run ⊎ ChecksProof run ⊎ ReadsTrace run
  refused r justified finished is =
      let told = said 3 r justified finished is (λ e. omega arith) (λ e. omega arith) in
      refused_given run.settings told.answer refl told.allowed told.has told.same told.line

  -- a status that is 0 or 1
  low_one : EndsWith run (0 ∷ 1 ∷ []) → (run.status ≡ 0) ⊎ (run.status ≡ 1)
  low_one one = elim one [ inl zero ↦ inl zero | inr rest ↦ elim rest [ inl one ↦ inr one | inr none ↦ absurd none ] ]

  checked : (r : Result Answer AllocError) → Has run r → Ended run r → EndsWith run (0 ∷ 1 ∷ []) → ChecksProof run ⊎ ReadsTrace run ⊎ ListsCommands run ⊎ MakesModel run
  checked r justified finished one =
      let low = low_one one in
      let told = said run.status r justified finished refl (λ e. elim low [ inl z ↦ omega arith | inr o ↦ omega arith ]) (λ e. elim low [ inl z ↦ omega arith | inr o ↦ omega arith ]) in
      checked_given run.settings told.answer refl told.allowed told.same low told.line

  checked_always : (r : Result Answer AllocError) → Has run r → Ended run r → (settings : Settings) (told : List Texts) (name clauses lines : List ℕ) (verdict : Verdict) →
      RunsOn run settings told → IsProofOf told settings name clauses lines verdict → EndsWith run (lrat.status_of verdict ∷ 4 ∷ 5 ∷ 6 ∷ [])
  checked_always r justified finished settings told name clauses lines verdict on is =
      ends_with (lrat.status_of verdict ∷ 4 ∷ []) r justified finished (λ a allows. proof_given settings a told name clauses lines verdict (subst (λ o. May run o a) on.fit allows) on.tells is)

  refused_always : (r : Result Answer AllocError) → Has run r → Ended run r → (settings : Settings) (told : List Texts) (broken : Rule × List ℕ) →
      RunsOn run settings told → first_broken told (asked settings) ≡ Some broken → EndsWith run (3 ∷ 4 ∷ 5 ∷ 6 ∷ [])
  refused_always r justified finished settings told broken on breaks =
      ends_with (3 ∷ 4 ∷ []) r justified finished (λ a allows. broken_given settings a told broken (subst (λ o. May run o a) on.fit allows) on.tells breaks)

  second_always : (r : Result Answer AllocError) → Has run r → Ended run r → (settings : Settings) (told : List Texts) (second : List ℕ) (rule : Rule) →
      RunsOn run settings told → IsTrue (reads_trace settings.mode) → settings.second ≡ Some second → file_rule told (second, FILE_BYTES) ≡ Some rule → EndsWith run (3 ∷ 4 ∷ 5 ∷ 6 ∷ [])
  second_always r justified finished settings told second rule on mode named breaks =
      ends_with (3 ∷ 4 ∷ []) r justified finished (λ a allows. second_given settings a told second rule (subst (λ o. May run o a) on.fit allows) on.tells mode named breaks)

  uncut_always : (r : Result Answer AllocError) → Has run r → Ended run r → (settings : Settings) (told : List Texts) (text : List ℕ) (refusal : Refusal) →
      RunsOn run settings told → model_of told settings ≡ Some text → tokens_of 0 text ≡ Err refusal → EndsWith run (3 ∷ 4 ∷ 5 ∷ 6 ∷ [])
  uncut_always r justified finished settings told text refusal on is cut =
      ends_with (3 ∷ 4 ∷ []) r justified finished (λ a allows. uncut_given settings a told text refusal (subst (λ o. May run o a) on.fit allows) on.tells is cut)

  modes : (r : Result Answer AllocError) → Has run r → Ended run r → (settings : Settings) → run.settings ≡ Some settings → EndsWith run (statuses_of settings.mode ++ 3 ∷ 4 ∷ 5 ∷ 6 ∷ [])
  modes r justified finished settings fit =
      subst (λ ms. EndsWith run ms) (append_assoc (statuses_of settings.mode) (3 ∷ 4 ∷ []) (5 ∷ 6 ∷ []))
      (ends_with (statuses_of settings.mode ++ 3 ∷ 4 ∷ []) r justified finished
      (λ a allows. listed_among settings.mode (status_of a) (mode_given settings a (subst (λ o. May run o a) fit allows))))

  read_fault : (r : Result Answer AllocError) → Has run r → Ended run r → run.status ≡ 4 → FailsToRead run
  read_fault r justified finished is =
      let told = said 4 r justified finished is (λ e. omega arith) (λ e. omega arith) in
      read_fault_given run.settings told.answer refl told.allowed told.has told.line

  read_fault_always : (r : Result Answer AllocError) → Has run r → Ended run r → run.faults_after ≢ run.faults_before → EndsWith run (4 ∷ 5 ∷ 6 ∷ [])
  read_fault_always r justified finished other = ends_with (4 ∷ []) r justified finished (λ a allows. inl (risen_given run.settings a allows other))

  trace : (r : Result Answer AllocError) → Has run r → Ended run r → run.status ≡ 10 → FindsTrace run
  trace r justified finished is =
      let told = said 10 r justified finished is (λ e. omega arith) (λ e. omega arith) in
      trace_given run.settings told.answer refl told.allowed told.has told.line

  absent : (r : Result Answer AllocError) → Has run r → Ended run r → run.status ≡ 20 → FindsNone run
  absent r justified finished is =
      let told = said 20 r justified finished is (λ e. omega arith) (λ e. omega arith) in
      absent_given run.settings told.answer refl told.allowed told.has told.line

  unknown : (r : Result Answer AllocError) → Has run r → Ended run r → run.status ≡ 30 → LeavesOpen run
  unknown r justified finished is =
      let told = said 30 r justified finished is (λ e. omega arith) (λ e. omega arith) in
      unknown_given run.settings told.answer refl told.allowed told.has told.line

  listed_status : (r : Result Answer AllocError) → Has run r → Ended run r → EndsWith run table
  listed_status r justified finished =
      elim (ends (λ n. IsOneOf n table) r justified finished (λ a allows. answer_status a)) [
        | inl one ↦ one
        | inr rest ↦ elim rest [ inl five ↦ inr (inr (inr (inr (inr (inl five))))) | inr six ↦ inr (inr (inr (inr (inr (inr (inl six)))))) ]
      ]

  -- a run that ended with an answer that it may have keeps every promise
  pub right : (r : Result Answer AllocError) → Has run r → Ended run r → NoneFell run.faults_before run.faults_after → IsRightRun run
  right r justified finished later = record {
    usage = usage r justified finished;
    usage_always = usage_always r justified finished;
    checked = checked r justified finished;
    checked_always = checked_always r justified finished;
    refused = refused r justified finished;
    refused_always = refused_always r justified finished;
    second_always = second_always r justified finished;
    uncut_always = uncut_always r justified finished;
    read_fault = read_fault r justified finished;
    read_fault_always = read_fault_always r justified finished;
    later = later;
    trace = trace r justified finished;
    absent = absent r justified finished;
    unknown = unknown r justified finished;
    memory = memory r finished;
    write_fault = write_faulted r justified finished;
    write_fault_always = write_fault_always r finished;
    modes = modes r justified finished;
    status = listed_status r justified finished;
  }
