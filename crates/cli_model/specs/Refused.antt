-- Why the text of a model, or one that it needs, is refused.
use Rattle.std.specs.Prelude.{◌≡◌, ◌≢◌, ◌⊎◌, ◌≤◌, ◌<◌, ℕ, List, length, map, codes, IsTrue, Option, Some, None, Ok, Err}
use Rattle.base_types.specs.Texts.{Texts}
use Rattle.base_types.specs.declared.limits.TheConstants.{FILE_BYTES, MODULE_BYTES}
use Rattle.base_types.specs.declared.place.Refusal.{Refusal}
use Rattle.base_types.specs.declared.place.Rule.{Rule}
use Rattle.syntax_lexer.specs.Tokens.{tokens_of}
use Rattle.syntax_tree.specs.declared.loaded.Loaded.{Loaded}
use Rattle.syntax_tree.specs.declared.module.Module.{Module}
use Rattle.syntax_tree.specs.declared.token.Token.{Token}
use Rattle.load_state.specs.Refusals.{is_of_loading}
use Rattle.load_state.specs.declared.fault.LoadFault.TheVariants as load
use Rattle.load_modules.specs.Refused.{RefusesGiven, RefusesTree}
use Rattle.resolve_model.specs.Refused.{IsOfReadings}
use Rattle.answer_analysis.specs.Found.{IsOfCommand, IsOfModel, IsOfText}
use Rattle.answer_analysis.specs.declared.ready.Ready.{Ready}
use Rattle.answer_texts.specs.Ring.{ring_text}
use Rattle.answer_judge.specs.Expression.{large_text, RefusesTokens}
use Rattle.cli_words.specs.Numbers.{number_in}
use Rattle.cli_words.specs.declared.named.Mode.TheVariants.{Eval, Lrat, Make}
use Rattle.cli_words.specs.declared.settings.Settings.{Settings}
use Rattle.cli_model.specs.Files.{at_start, file_rule}
use Rattle.cli_model.specs.Loads.{IsLoaded, IsLoadedText}
use Rattle.cli_model.specs.Modes.{analyses, reads_trace}
use Rattle.cli_model.specs.Ready.{IsModelOf}
use Rattle.cli_model.specs.Root.{Breaks, SpellIn}

-- How the text of an expression is refused in a model that was made ready: as a whole where it is too long, else by its first break
-- where it can't be cut into tokens, else as these tokens are.
pub record BreaksExpression (ready : Ready) (expression : List ℕ) (refusal : Refusal) : Type 0 where
  pub large : MODULE_BYTES < length expression → refusal ≡ large_text (length ready.loaded.texts)
  pub cut : (broken : Refusal) → length expression ≤ MODULE_BYTES → tokens_of (length ready.loaded.texts) expression ≡ Err broken → refusal ≡ broken
  pub told : (tokens : List Token) → length expression ≤ MODULE_BYTES → tokens_of (length ready.loaded.texts) expression ≡ Ok tokens → RefusesTokens ready.loaded ready.model ready.readings.types ready.scopes.bits tokens refusal

-- the mode evaluates an expression, and that of the settings is refused so in a model of what is loaded
pub record RefusesExpression (loaded : Loaded) (settings : Settings) (refusal : Refusal) : Type 0 where
  pub mode : settings.mode ≡ Eval
  pub expression : List ℕ
  pub given : settings.expression ≡ Some expression
  pub ready : Ready
  pub made : IsModelOf loaded settings.command ready
  pub breaks : BreaksExpression ready expression refusal

-- the name is that of the loaded text of the place; where there is none, the place is in the expression, whose text is `expr`
abbrev pub IsNamedIn : Loaded → Refusal → List ℕ → Type 0
IsNamedIn loaded refusal name = IsOfText loaded refusal name ⊎ ((length loaded.texts ≤ refusal.place.module) × (name ≡ codes "expr"))

-- the file of a trace has this name, and breaks this rule as a whole
pub record RefusesSecond (held : List (Option Texts)) (settings : Settings) (refusal : Refusal) (name : List ℕ) : Type 0 where
  pub mode : IsTrue (reads_trace settings.mode)
  pub named : settings.second ≡ Some name
  pub rule : Rule
  pub whole : refusal ≡ at_start rule
  pub broken : (told : List Texts) → held ≡ map (λ t. Some t) told → file_rule told (name, FILE_BYTES) ≡ Some rule

-- Why a run refuses a text once this is loaded. The first two are said at a place of the loaded text with this name.
pub data RefusesLoaded (held : List (Option Texts)) (settings : Settings) (loaded : Loaded) (refusal : Refusal) (name : List ℕ) : Type 0 where
  -- a rule on names, sigs, fields and readings is broken,
  reading : IsOfText loaded refusal name → IsOfReadings loaded.texts loaded.instances refusal → RefusesLoaded held settings loaded refusal name
  -- or one on the command and its scopes,
  scoping : IsOfText loaded refusal name → IsOfCommand loaded settings.command refusal → RefusesLoaded held settings loaded refusal name
  -- or one in the expression,
  asking : RefusesExpression loaded settings refusal → IsNamedIn loaded refusal name → RefusesLoaded held settings loaded refusal name
  -- or one of the file of a trace as a whole
  tracing : RefusesSecond held settings refusal name → RefusesLoaded held settings loaded refusal name

-- Why a run refuses a text where that of its model is this one, and spells a module.
pub data RefusesModule (held : List (Option Texts)) (settings : Settings) (text : List ℕ) (refusal : Refusal) (name : List ℕ) : Type 0 where
  -- a rule of loading is broken, in the text that has the name,
  loading : (tree : Module) → SpellIn (tokens_of 0 text) tree → IsTrue (is_of_loading refusal.rule) → RefusesTree held settings.file tree (load.Refused refusal name) →
      RefusesModule held settings text refusal name
  -- or one that counts once all is loaded
  behind : (loaded : Loaded) → IsLoaded held settings.file text loaded → RefusesLoaded held settings loaded refusal name → RefusesModule held settings text refusal name

-- the same of a text that may not be there
abbrev pub RefusesModuleIn : List (Option Texts) → Settings → Option (List ℕ) → Refusal → List ℕ → Type 0
RefusesModuleIn held settings None refusal name = ⊥
RefusesModuleIn held settings (Some text) refusal name = RefusesModule held settings text refusal name

-- Why the model of a ring of as many nodes as the settings name is refused.
pub data RefusesRing (held : List (Option Texts)) (settings : Settings) (refusal : Refusal) (name : List ℕ) : Type 0 where
  -- its text breaks a rule, or one of loading is broken, in the text that has the name,
  ring_loading : (nodes : ℕ) → number_in 32 settings.file ≡ Some nodes → RefusesGiven held (codes "make") (ring_text nodes) (load.Refused refusal name) → RefusesRing held settings refusal name
  -- or one that counts once all is loaded, at a place of the loaded text that has the name
  ring_behind : (nodes : ℕ) (loaded : Loaded) → number_in 32 settings.file ≡ Some nodes → IsLoadedText held (codes "make") (ring_text nodes) loaded → IsOfText loaded refusal name → IsOfModel loaded settings.command refusal →
      RefusesRing held settings refusal name

-- why a run whose files are whole refuses a text: the text of its model breaks a rule; or it spells a module, and a rule is
-- broken while it is loaded and analysed; or a model is made, and that is refused
abbrev pub RefusedIn : List (Option Texts) → Option (List ℕ) → Settings → Refusal → List ℕ → Type 0
RefusedIn held model settings refusal name =
    (Breaks model refusal × (name ≡ settings.file) × (settings.mode ≢ Lrat)) ⊎ ((IsTrue (analyses settings.mode) × RefusesModuleIn held settings model refusal name) ⊎ ((settings.mode ≡ Make) × RefusesRing held settings refusal name))
