-- Models made ready of what is loaded.
use Rattle.std.specs.Prelude.{◌≡◌, ℕ}
use Rattle.syntax_tree.specs.declared.loaded.Loaded.{Loaded}
use Rattle.answer_analysis.specs.Found.{IsPrepared, IsReady}
use Rattle.answer_analysis.specs.declared.ready.Prepared.{Prepared}
use Rattle.answer_analysis.specs.declared.ready.Ready.{Ready}

-- a model of what is loaded, which says what the loaded texts do, made ready for its command of this number
pub record IsModelOf (loaded : Loaded) (number : ℕ) (made : Ready) : Type 0 where
  pub loaded_is : made.loaded ≡ loaded
  pub ready : IsReady number made

-- the same made ready for a search
pub record IsPreparedOf (loaded : Loaded) (number : ℕ) (made : Prepared) : Type 0 where
  pub model : IsModelOf loaded number made.ready
  pub prepared : IsPrepared number made

-- something is so of such a model
abbrev pub OfModel : Loaded → ℕ → (Ready → Type 0) → Type 0
OfModel loaded number P = (ready : Ready) × IsModelOf loaded number ready × P ready

-- and of one that is searched
abbrev pub OfPrepared : Loaded → ℕ → (Prepared → Type 0) → Type 0
OfPrepared loaded number P = (prepared : Prepared) × IsPreparedOf loaded number prepared × P prepared
