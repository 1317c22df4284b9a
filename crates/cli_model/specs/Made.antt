-- What is written of the model of a ring, which mode make makes.
use Rattle.std.specs.Prelude.{◌≡◌, ℕ, ◌⊎◌, List, ◌++◌, length, codes, Option, Some}
use Rattle.base_types.specs.Causes.{SomeRose}
use Rattle.base_types.specs.Texts.{Texts}
use Rattle.syntax_tree.specs.declared.loaded.Loaded.{Loaded}
use Rattle.core_meaning.specs.Sequence.{LassoValue}
use Rattle.load_state.specs.Causes.{IsTried}
use Rattle.answer_laws.specs.Form.{IsLassoOf}
use Rattle.answer_texts.specs.Ring.{ring_text, made_trace, made_none, made_unknown}
use Rattle.answer_analysis.specs.Found.{IsOfModel, IsOfText, IsTraceOf, NoneSatisfies, RowsOf}
use Rattle.answer_analysis.specs.declared.ready.Prepared.{Prepared}
use Rattle.answer_certificates.specs.Certificate.{IsShort, ShowsSpent, SayAll}
use Rattle.cli_words.specs.Numbers.{number_in}
use Rattle.cli_words.specs.declared.settings.Settings.{Settings}
use Rattle.cli_model.specs.Loads.{IsLoadedText}
use Rattle.cli_model.specs.Ready.{OfPrepared}
use Rattle.cli_model.specs.Refused.{RefusesRing}
use Rattle.cli_model.specs.declared.answer.Answer.{Answer}
use Rattle.cli_model.specs.declared.answer.Answer.TheVariants.{Refused, ReadFault, Made}

-- a trace, of as many states as the line says and with its loop there, and no other shows its sequence in fewer
pub record SumsUpTrace (prepared : Prepared) (nodes : ℕ) (text : List ℕ) : Type 0 where
  pub lasso : LassoValue
  pub trace : IsTraceOf prepared.ready lasso
  pub fits : IsLassoOf prepared.ready.labels lasso
  pub short : IsShort prepared lasso
  pub text_is : text ≡ made_trace nodes (length lasso.states) lasso.loop_start

-- none of at most as many states as the line says
pub record SumsUpNone (prepared : Prepared) (nodes : ℕ) (text : List ℕ) : Type 0 where
  pub none : NoneSatisfies prepared
  pub text_is : text ≡ made_none nodes prepared.ready.bounds.states

-- a budget that is spent: its line, and then the clauses and the derivation, as a search for any trace writes them
pub record SumsUpSpent (prepared : Prepared) (nodes : ℕ) (budget : Option ℕ) (text : List ℕ) : Type 0 where
  pub rest : List ℕ
  pub spent : ShowsSpent (RowsOf prepared) (SayAll prepared) budget rest
  pub text_is : text ≡ made_unknown nodes ++ rest

-- what was found on a ring of so many nodes
abbrev pub SumsUp : Loaded → ℕ → ℕ → Option ℕ → List ℕ → Type 0
SumsUp loaded number nodes budget text =
    OfPrepared loaded number (λ prepared. SumsUpTrace prepared nodes text ⊎ (SumsUpNone prepared nodes text ⊎ SumsUpSpent prepared nodes budget text))

-- the answer on the model of such a ring, once it is loaded
abbrev pub IsMade : Loaded → ℕ → ℕ → Option ℕ → Answer → Type 0
IsMade loaded number nodes budget (Refused refusal name) = IsOfText loaded refusal name × IsOfModel loaded number refusal
IsMade loaded number nodes budget (Made bytes) = SumsUp loaded number nodes budget bytes
IsMade loaded number nodes budget _ = ⊥

-- the model of a ring of as many nodes as the settings name is loaded and searched, and this is written
pub record MakesRing (held : List (Option Texts)) (settings : Settings) (text : List ℕ) : Type 0 where
  pub nodes : ℕ
  pub named : number_in 32 settings.file ≡ Some nodes
  pub loaded : Loaded
  pub given : IsLoadedText held (codes "make") (ring_text nodes) loaded
  pub sums_up : SumsUp loaded settings.command nodes settings.conflicts text

-- the same by the counts of faults before its modules were asked for and after that
abbrev pub IsOnRing : List (Option Texts) → Settings → List ℕ → List ℕ → Answer → Type 0
IsOnRing held settings before now (Refused refusal name) = (now ≡ before) × RefusesRing held settings refusal name
IsOnRing held settings before now (ReadFault name) = IsTried (codes "make") name × SomeRose before now
IsOnRing held settings before now (Made bytes) = (now ≡ before) × MakesRing held settings bytes
IsOnRing held settings before now _ = ⊥
