-- The answers on the text of a model.
use Rattle.std.proofs.Common.{◌≡◌, ◌≢◌, ℕ, List, Option, Result, Ok, Err, IfOk, IsTrue, Some, Vec, Global, cond, not, true, is_some, refl, sym, subst, inl, inr}
use Rattle.std.specs.declared.alloc.AllocError.{AllocError}
use Rattle.base_types.proofs.Counts.{none_fell_same}
use Rattle.base_types.specs.Causes.{NoneFell, SomeRose}
use Rattle.base_types.specs.declared.place.Refusal.{Refusal}
use Rattle.base_types.specs.Texts.{Texts}
use Rattle.syntax_lexer.specs.Tokens.{tokens_of}
use Rattle.syntax_tree.specs.declared.loaded.Loaded.{Loaded}
use Rattle.syntax_tree.specs.declared.module.Module.{Module}
use Rattle.answer_analysis.specs.Found.{IsLoadedFault, IsOfModel, IsOfText}
use Rattle.answer_analysis.specs.declared.fault.AnalyseFault.{AnalyseFault}
use Rattle.answer_analysis.specs.declared.fault.AnalyseFault.TheVariants as analyse
use Rattle.answer_texts.specs.Lines.{command_text}
use Rattle.cli_words.specs.Named.{takes_second}
use Rattle.cli_words.specs.Settings.{has_second}
use Rattle.cli_words.specs.declared.named.Mode.{Mode}
use Rattle.cli_words.specs.declared.named.Mode.TheVariants.{Exec, Commands, Lrat, Make, Replay, Eval, Least, Core}
use Rattle.cli_words.specs.declared.named.Part.{Part}
use Rattle.cli_words.specs.declared.settings.Settings.{Settings}
use Rattle.load_state.specs.Named.{AllNamed}
use Rattle.load_modules.specs.Led.{OpensTold}
use Rattle.load_modules.specs.Numbered.{NumberedTold}
use Rattle.load_modules.specs.Reached.{AreReached}
use Rattle.load_modules.specs.Refused.{RefusesTree}
use Rattle.load_modules.specs.Told.{LoadsTree}
use Rattle.load_state.specs.Causes.{Causes, FaultCause}
use Rattle.load_state.specs.Keys.{AreDistinct, pairs_of}
use Rattle.load_state.specs.declared.fault.LoadFault.{LoadFault}
use Rattle.load_state.specs.declared.fault.LoadFault.TheVariants as load
use Rattle.base_types.specs.declared.limits.TheConstants.{FILE_BYTES}
use Rattle.base_types.specs.declared.place.Rule.{Rule}
use Rattle.cli_model.specs.Files.{IsFile, at_start}
use Rattle.cli_model.specs.declared.files.File.TheVariants.{Whole, Broken}
use Rattle.cli_model.specs.Loads.{IsLoaded}
use Rattle.cli_model.specs.Modes.{looks, analyses, reads_trace}
use Rattle.cli_model.specs.Refused.{RefusesExpression, RefusesLoaded, loading, behind, reading, scoping, asking, tracing}
use Rattle.cli_model.specs.Root.{SpellIn, BreakIn}
use Rattle.cli_model.specs.Model.{IsOnModel, IsFound, IsFoundIn, IsAfter, IsSaidOf, RefusesAt, Says, Tells}
use Rattle.cli_model.specs.declared.answer.Answer.{Answer}
use Rattle.cli_model.specs.declared.answer.Answer.TheVariants.{Usage, Refused, ReadFault, Trace, Refuted, Unknown, Made, Listed, Checked, Traced}

-- the counts after loading haven't fallen
pub later_of : {T : Type 0} (root before now : List ℕ) (r : Result T LoadFault) → Causes root before now r → NoneFell before now
unfolding FaultCause
later_of root before now (Ok value) cause = subst (λ ns. NoneFell before ns) (sym cause) (none_fell_same before)
later_of root before now (Err (load.Refused refusal name)) cause = subst (λ ns. NoneFell before ns) (sym cause.0) (none_fell_same before)
later_of root before now (Err (load.Read name)) cause = cause.1
later_of root before now (Err load.Memory) cause = cause

-- a mode that looks for traces analyses a model, and so does one that reads a trace
looks_analyses : (m : Mode) → IsTrue (looks m) → IsTrue (analyses m)
looks_analyses Exec is = refl
looks_analyses Least is = refl
looks_analyses Core is = refl
looks_analyses Commands is = cc
looks_analyses Lrat is = cc
looks_analyses Make is = cc
looks_analyses Replay is = cc
looks_analyses Eval is = cc

trace_analyses : (m : Mode) → IsTrue (reads_trace m) → IsTrue (analyses m)
trace_analyses Replay is = refl
trace_analyses Eval is = refl
trace_analyses Exec is = cc
trace_analyses Least is = cc
trace_analyses Core is = cc
trace_analyses Commands is = cc
trace_analyses Lrat is = cc
trace_analyses Make is = cc

-- a refusal once a model is loaded, by its rule
refuses_loaded : (settings : Settings) (held : List (Option Texts)) (loaded : Loaded) (refusal : Refusal) (name : List ℕ) → IsOfText loaded refusal name → IsOfModel loaded settings.command refusal →
    RefusesLoaded held settings loaded refusal name
refuses_loaded settings held loaded refusal name placed why = elim why [ inl read ↦ reading placed read | inr asked ↦ scoping placed asked ]

module _ (settings : Settings) (held : List (Option Texts)) (text before now : List ℕ) where
  -- a text that breaks a rule is refused
  pub broken_on : (r : Result Answer AllocError) (refusal : Refusal) → now ≡ before → BreakIn (tokens_of 0 text) refusal → settings.mode ≢ Lrat →
      IfOk r (λ answer. answer ≡ Refused refusal settings.file) → IfOk r (IsOnModel settings held text before now)
  broken_on (Ok a) refusal same breaks lrat is = subst (λ x. IsOnModel settings held text before now x) (sym is) (same, inl (breaks, refl, lrat))
  broken_on (Err e) refusal same breaks lrat is = tt

  -- the commands are listed
  pub listed_on : (r : Result Answer AllocError) (tree : Module) → now ≡ before → SpellIn (tokens_of 0 text) tree → settings.mode ≡ Commands →
      IfOk r (λ answer. answer ≡ Listed (command_text tree)) → IfOk r (IsOnModel settings held text before now)
  listed_on (Ok a) tree same spells mode is =
      subst (λ x. IsOnModel settings held text before now x) (sym is) (same, mode, record { tree = tree; spelled = spells; list_is = refl })
  listed_on (Err e) tree same spells mode is = tt

  found_one : (a : Answer) (loaded : Loaded) → now ≡ before → IsLoaded held settings.file text loaded → IsTrue (looks settings.mode) → IsFound loaded settings a → IsOnModel settings held text before now a
  found_one Usage loaded same given mode is = absurd is
  found_one (Refused refusal name) loaded same given mode is = (same, inr (inl (looks_analyses settings.mode mode, behind loaded given (refuses_loaded settings held loaded refusal name is.0 is.1))))
  found_one (ReadFault name) loaded same given mode is = absurd is
  found_one (Trace bytes) loaded same given mode is = (same, mode, loaded, given, is)
  found_one (Refuted bytes) loaded same given mode is = (same, mode, loaded, given, is)
  found_one (Unknown bytes) loaded same given mode is = (same, mode, loaded, given, is)
  found_one (Made bytes) loaded same given mode is = absurd is
  found_one (Listed list) loaded same given mode is = absurd is
  found_one (Checked verdict clauses lines) loaded same given mode is = absurd is
  found_one (Traced said second) loaded same given mode is = absurd is

  -- a search that was made
  pub found_on : (r : Result Answer AllocError) (loaded : Loaded) → now ≡ before → IsLoaded held settings.file text loaded → IsTrue (looks settings.mode) →
      IfOk r (IsFound loaded settings) → IfOk r (IsOnModel settings held text before now)
  found_on (Ok a) loaded same given mode is = found_one a loaded same given mode is
  found_on (Err e) loaded same given mode is = tt

  after_one : (a : Answer) (loaded : Loaded) → IsLoaded held settings.file text loaded → IsTrue (reads_trace settings.mode) → IsAfter loaded settings held before now a → IsOnModel settings held text before now a
  after_one Usage loaded given mode is = absurd is
  after_one (Refused refusal name) loaded given mode is = (is.0, inr (inl (trace_analyses settings.mode mode, behind loaded given is.1)))
  after_one (ReadFault name) loaded given mode is = (inr (inr (mode, is.0)), is.1)
  after_one (Trace bytes) loaded given mode is = absurd is
  after_one (Refuted bytes) loaded given mode is = absurd is
  after_one (Unknown bytes) loaded given mode is = absurd is
  after_one (Made bytes) loaded given mode is = absurd is
  after_one (Listed list) loaded given mode is = absurd is
  after_one (Checked verdict clauses lines) loaded given mode is = absurd is
  after_one (Traced said second) loaded given mode is = (is.0, loaded, given, is.1)

  fault_one : (a : Answer) (fault : LoadFault) (tree : Module) → FaultCause settings.file before now fault → RefusesTree held settings.file tree fault → SpellIn (tokens_of 0 text) tree →
      IsTrue (analyses settings.mode) → Says fault a → IsOnModel settings held text before now a
  unfolding FaultCause
  fault_one a (load.Refused refusal name) tree cause refuses spells mode is =
      subst (λ x. IsOnModel settings held text before now x) (sym is) (cause.0, inr (inl (mode, loading tree spells cause.1 refuses)))
  fault_one a (load.Read name) tree cause refuses spells mode is = subst (λ x. IsOnModel settings held text before now x) (sym is) (inl (mode, cause.0), cause.2)
  fault_one a load.Memory tree cause refuses spells mode is = absurd is

  -- a model that could not be loaded
  fault_on : (r : Result Answer AllocError) (fault : LoadFault) (root : List ℕ) (tree : Module) → root ≡ settings.file → FaultCause root before now fault → RefusesTree held root tree fault →
      SpellIn (tokens_of 0 text) tree → IsTrue (analyses settings.mode) → IfOk r (Says fault) → IfOk r (IsOnModel settings held text before now)
  fault_on (Ok a) fault root tree at cause refuses spells mode is =
      fault_one a fault tree (subst (λ n. FaultCause n before now fault) at cause) (subst (λ n. RefusesTree held n tree fault) at refuses) spells mode is
  fault_on (Err e) fault root tree at cause refuses spells mode is = tt

  pub search_fault_on : (r : Result Answer AllocError) (fault : LoadFault) (root : List ℕ) (tree : Module) → root ≡ settings.file → FaultCause root before now fault → RefusesTree held root tree fault →
      SpellIn (tokens_of 0 text) tree → IsTrue (looks settings.mode) → IfOk r (Says fault) → IfOk r (IsOnModel settings held text before now)
  search_fault_on r fault root tree at cause refuses spells mode is = fault_on r fault root tree at cause refuses spells (looks_analyses settings.mode mode) is

  pub trace_fault_on : (r : Result Answer AllocError) (fault : LoadFault) (root : List ℕ) (tree : Module) → root ≡ settings.file → FaultCause root before now fault → RefusesTree held root tree fault →
      SpellIn (tokens_of 0 text) tree → IsTrue (reads_trace settings.mode) → IfOk r (Says fault) → IfOk r (IsOnModel settings held text before now)
  trace_fault_on r fault root tree at cause refuses spells mode is = fault_on r fault root tree at cause refuses spells (trace_analyses settings.mode mode) is

-- what is loaded of a tree that the text spells is what is loaded of the text
pub loaded_of : (held : List (Option Texts)) (root file text : List ℕ) (tree : Module) (loaded : Loaded) → root ≡ file → SpellIn (tokens_of 0 text) tree → LoadsTree held root tree loaded.texts →
    OpensTold held root loaded.texts loaded.instances → AllNamed loaded.instances loaded.texts → AreDistinct (pairs_of loaded.instances) → AreReached loaded.instances → NumberedTold held root loaded.texts loaded.instances → IsLoaded held file text loaded
loaded_of held root file text tree loaded at spells texts opens named distinct reached numbered = record {
  tree = tree;
  spelled = spells;
  texts = subst (λ n. LoadsTree held n tree loaded.texts) at texts;
  opens = subst (λ n. OpensTold held n loaded.texts loaded.instances) at opens;
  named = named;
  distinct = distinct;
  reached = reached;
  numbered = subst (λ n. NumberedTold held n loaded.texts loaded.instances) at numbered;
}

-- a trace is read of a model that was loaded
pub after_on : (settings : Settings) (held later : List (Option Texts)) (text before mid now : List ℕ) (r : Result Answer AllocError) (loaded : Loaded) → mid ≡ before → later ≡ held →
    IsLoaded held settings.file text loaded → IsTrue (reads_trace settings.mode) → IfOk r (IsAfter loaded settings later mid now) → IfOk r (IsOnModel settings held text before now)
after_on settings held later text before mid now (Ok a) loaded same keeps given mode is =
    after_one settings held text before now a loaded given mode (subst (λ h. IsAfter loaded settings h before now a) keeps (subst (λ ns. IsAfter loaded settings later ns now a) same is))
after_on settings held later text before mid now (Err e) loaded same keeps given mode is = tt

-- a loaded model that could not be analysed is refused by a search and by a mode that reads a trace
tells_found : (loaded : Loaded) (mode : Mode) (number : ℕ) (part : Part) (budget : Option ℕ) (a : Answer) (fault : AnalyseFault) → IsLoadedFault loaded number fault → Tells fault a →
    IsFoundIn loaded mode number part budget a
tells_found loaded mode number part budget a (analyse.Refused refusal name) why is = subst (λ x. IsFoundIn loaded mode number part budget x) (sym is) why
tells_found loaded mode number part budget a (analyse.Read name) why is = absurd is
tells_found loaded mode number part budget a analyse.Memory why is = absurd is

pub refusal_found : (loaded : Loaded) (mode : Mode) (number : ℕ) (part : Part) (budget : Option ℕ) (r : Result Answer AllocError) (fault : AnalyseFault) → IsLoadedFault loaded number fault → IfOk r (Tells fault) →
    IfOk r (IsFoundIn loaded mode number part budget)
refusal_found loaded mode number part budget (Ok a) fault why is = tells_found loaded mode number part budget a fault why is
refusal_found loaded mode number part budget (Err e) fault why is = tt

module _ (loaded : Loaded) (settings : Settings) (held : List (Option Texts)) (before now : List ℕ) where
  tells_after : (a : Answer) (fault : AnalyseFault) → now ≡ before → IsLoadedFault loaded settings.command fault → Tells fault a → IsAfter loaded settings held before now a
  tells_after a (analyse.Refused refusal name) same why is =
      subst (λ x. IsAfter loaded settings held before now x) (sym is) (same, refuses_loaded settings held loaded refusal name why.0 why.1)
  tells_after a (analyse.Read name) same why is = absurd is
  tells_after a analyse.Memory same why is = absurd is

  pub refusal_after : (r : Result Answer AllocError) (fault : AnalyseFault) → now ≡ before → IsLoadedFault loaded settings.command fault → IfOk r (Tells fault) → IfOk r (IsAfter loaded settings held before now)
  refusal_after (Ok a) fault same why is = tells_after a fault same why is
  refusal_after (Err e) fault same why is = tt

  -- the expression is refused
  pub expression_after : (r : Result Answer AllocError) (refusal : Refusal) → now ≡ before → RefusesExpression loaded settings refusal → IfOk r (RefusesAt loaded refusal) →
      IfOk r (IsAfter loaded settings held before now)
  expression_after (Ok a) refusal same why is = subst (λ x. IsAfter loaded settings held before now x) (sym is.is) (same, asking why is.named)
  expression_after (Err e) refusal same why is = tt

  -- the file of a trace breaks a rule as a whole
  pub refused_after : (r : Result Answer AllocError) (rule : Rule) (name : List ℕ) → IsTrue (reads_trace settings.mode) → settings.second ≡ Some name → IsFile held name FILE_BYTES before now (Broken rule) →
      IfOk r (λ answer. answer ≡ Refused (at_start rule) name) → IfOk r (IsAfter loaded settings held before now)
  refused_after (Ok a) rule name mode named file is =
      subst (λ x. IsAfter loaded settings held before now x) (sym is) (file.0, tracing (record { mode = mode; named = named; rule = rule; whole = refl; broken = file.1 }))
  refused_after (Err e) rule name mode named file is = tt

  -- a library failed at the file of a trace
  pub failed_after : (r : Result Answer AllocError) (name : List ℕ) → settings.second ≡ Some name → SomeRose before now → IfOk r (λ answer. answer ≡ ReadFault name) →
      IfOk r (IsAfter loaded settings held before now)
  failed_after (Ok a) name named rose is = subst (λ x. IsAfter loaded settings held before now x) (sym is) (named, rose)
  failed_after (Err e) name named rose is = tt

  -- the file of a trace is whole, and something is said of its text
  pub said_after : (r : Result Answer AllocError) (name : List ℕ) (text : Vec ℕ Global) → settings.second ≡ Some name → IsFile held name FILE_BYTES before now (Whole text) →
      IfOk r (IsSaidOf loaded settings name text.items) → IfOk r (IsAfter loaded settings held before now)
  said_after (Ok a) name text named file is =
      subst (λ x. IsAfter loaded settings held before now x) (sym is.says_so) (file.0, record { trace = text.items; on = is.on; named = named; tells = file.1 })
  said_after (Err e) name text named file is = tt

-- a mode that looks for traces is one of these three, and one that reads a trace is one of these two
pub looks_one : (m : Mode) → IsTrue (looks m) → m ≢ Exec → m ≢ Least → m ≢ Core → ⊥
looks_one Exec on exec least core = exec refl
looks_one Least on exec least core = least refl
looks_one Core on exec least core = core refl
looks_one Commands on exec least core = cc
looks_one Lrat on exec least core = cc
looks_one Make on exec least core = cc
looks_one Replay on exec least core = cc
looks_one Eval on exec least core = cc

pub reads_one : (m : Mode) → IsTrue (reads_trace m) → m ≢ Replay → m ≢ Eval → ⊥
reads_one Replay on replay eval = replay refl
reads_one Eval on replay eval = eval refl
reads_one Exec on replay eval = cc
reads_one Least on replay eval = cc
reads_one Core on replay eval = cc
reads_one Commands on replay eval = cc
reads_one Lrat on replay eval = cc
reads_one Make on replay eval = cc

-- nothing has happened to the counts before the next call
pub then_later : (before mid now : List ℕ) → mid ≡ before → NoneFell mid now → NoneFell before now
then_later before mid now same later = subst (λ ns. NoneFell ns now) same later

-- a mode that reads a trace has the name of its file
pub has_one_replay : (settings : Settings) → settings.mode ≡ Replay → has_second settings ≡ true → is_some settings.second ≡ true
has_one_replay settings mode has = subst (λ m. cond (takes_second m) (is_some settings.second) (not (is_some settings.second)) ≡ true) mode has

pub has_one_eval : (settings : Settings) → settings.mode ≡ Eval → has_second settings ≡ true → is_some settings.second ≡ true
has_one_eval settings mode has = subst (λ m. cond (takes_second m) (is_some settings.second) (not (is_some settings.second)) ≡ true) mode has
