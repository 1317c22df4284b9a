-- What the text of an expression says of a model is one value.
use Rattle.std.specs.Prelude.{◌≡◌, ℕ, List, Option}
use Rattle.syntax_tree.specs.declared.loaded.Loaded.{Loaded}
use Rattle.core_tree.specs.Trees.{Term}
use Rattle.answer_analysis.specs.declared.ready.Ready.{Ready}
use Rattle.cli_model.specs.Model.{IsAsked}
use Rattle.cli_model.specs.Ready.{IsModelOf}

-- The expression that is given says at most one value in the root of a model that was made ready of what is loaded.
abbrev pub AskedValuesAreOne : Type 0
AskedValuesAreOne = (loaded : Loaded) (number : ℕ) (ready : Ready) (given : Option (List ℕ)) (v w : Term) → IsModelOf loaded number ready → IsAsked ready given v → IsAsked ready given w → v ≡ w
