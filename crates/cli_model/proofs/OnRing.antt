-- The answers on the model of a ring.
use Rattle.std.proofs.Common.{◌≡◌, ℕ, List, Option, Some, Result, Ok, Err, IfOk, sym, subst, codes}
use Rattle.std.specs.declared.alloc.AllocError.{AllocError}
use Rattle.base_types.specs.Texts.{Texts}
use Rattle.syntax_tree.specs.declared.loaded.Loaded.{Loaded}
use Rattle.answer_analysis.specs.Found.{IsLoadedFault}
use Rattle.answer_analysis.specs.declared.fault.AnalyseFault.{AnalyseFault}
use Rattle.answer_analysis.specs.declared.fault.AnalyseFault.TheVariants as analyse
use Rattle.answer_texts.specs.Ring.{ring_text}
use Rattle.cli_words.specs.Numbers.{number_in}
use Rattle.cli_words.specs.declared.settings.Settings.{Settings}
use Rattle.load_modules.specs.Refused.{RefusesGiven}
use Rattle.load_state.specs.Causes.{FaultCause}
use Rattle.load_state.specs.declared.fault.LoadFault.{LoadFault}
use Rattle.load_state.specs.declared.fault.LoadFault.TheVariants as load
use Rattle.cli_model.specs.Model.{Says, Tells}
use Rattle.cli_model.specs.Loads.{IsLoadedText}
use Rattle.cli_model.specs.Made.{IsMade, IsOnRing}
use Rattle.cli_model.specs.Refused.{ring_behind, ring_loading}
use Rattle.cli_model.specs.declared.answer.Answer.{Answer}
use Rattle.cli_model.specs.declared.answer.Answer.TheVariants.{Usage, Refused, ReadFault, Trace, Refuted, Unknown, Made, Listed, Checked, Traced}

-- a loaded model that could not be analysed is refused
module _ (loaded : Loaded) (number nodes : ℕ) (budget : Option ℕ) where
  tells_made : (a : Answer) (fault : AnalyseFault) → IsLoadedFault loaded number fault → Tells fault a → IsMade loaded number nodes budget a
  tells_made a (analyse.Refused refusal name) why is = subst (λ x. IsMade loaded number nodes budget x) (sym is) why
  tells_made a (analyse.Read name) why is = absurd is
  tells_made a analyse.Memory why is = absurd is

  pub refusal_made : (r : Result Answer AllocError) (fault : AnalyseFault) → IsLoadedFault loaded number fault → IfOk r (Tells fault) → IfOk r (IsMade loaded number nodes budget)
  refusal_made (Ok a) fault why is = tells_made a fault why is
  refusal_made (Err e) fault why is = tt

module _ (held : List (Option Texts)) (settings : Settings) (before now : List ℕ) where
  -- a model that was made and analysed
  made_one : (nodes : ℕ) (loaded : Loaded) (a : Answer) → now ≡ before → number_in 32 settings.file ≡ Some nodes → IsLoadedText held (codes "make") (ring_text nodes) loaded →
      IsMade loaded settings.command nodes settings.conflicts a → IsOnRing held settings before now a
  made_one nodes loaded Usage same named given is = absurd is
  made_one nodes loaded (Refused refusal name) same named given is = (same, ring_behind nodes loaded named given is.0 is.1)
  made_one nodes loaded (ReadFault name) same named given is = absurd is
  made_one nodes loaded (Trace bytes) same named given is = absurd is
  made_one nodes loaded (Refuted bytes) same named given is = absurd is
  made_one nodes loaded (Unknown bytes) same named given is = absurd is
  made_one nodes loaded (Made bytes) same named given is = (same, record { nodes = nodes; named = named; loaded = loaded; given = given; sums_up = is })
  made_one nodes loaded (Listed list) same named given is = absurd is
  made_one nodes loaded (Checked verdict clauses lines) same named given is = absurd is
  made_one nodes loaded (Traced said second) same named given is = absurd is

  pub made_on : (nodes : ℕ) (loaded : Loaded) (r : Result Answer AllocError) → now ≡ before → number_in 32 settings.file ≡ Some nodes → IsLoadedText held (codes "make") (ring_text nodes) loaded →
      IfOk r (IsMade loaded settings.command nodes settings.conflicts) → IfOk r (IsOnRing held settings before now)
  made_on nodes loaded (Ok a) same named given is = made_one nodes loaded a same named given is
  made_on nodes loaded (Err e) same named given is = tt

  ring_fault_one : (nodes : ℕ) (a : Answer) (fault : LoadFault) → number_in 32 settings.file ≡ Some nodes → RefusesGiven held (codes "make") (ring_text nodes) fault →
      FaultCause (codes "make") before now fault → Says fault a → IsOnRing held settings before now a
  unfolding FaultCause
  ring_fault_one nodes a (load.Refused refusal name) named why cause is = subst (λ x. IsOnRing held settings before now x) (sym is) (cause.0, ring_loading nodes named why)
  ring_fault_one nodes a (load.Read name) named why cause is = subst (λ x. IsOnRing held settings before now x) (sym is) (cause.0, cause.2)
  ring_fault_one nodes a load.Memory named why cause is = absurd is

  -- a model that was made and could not be loaded
  pub ring_fault_on : (nodes : ℕ) (r : Result Answer AllocError) (fault : LoadFault) → number_in 32 settings.file ≡ Some nodes → RefusesGiven held (codes "make") (ring_text nodes) fault →
      FaultCause (codes "make") before now fault → IfOk r (Says fault) → IfOk r (IsOnRing held settings before now)
  ring_fault_on nodes (Ok a) fault named why cause is = ring_fault_one nodes a fault named why cause is
  ring_fault_on nodes (Err e) fault named why cause is = tt
