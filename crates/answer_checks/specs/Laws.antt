-- What a model keeps by what is tested of it.
use Rattle.core_tree.specs.declared.model.Model.{Model}
use Rattle.core_tree.specs.Models.{IsModel}
use Rattle.resolve_check.specs.Kept.{IsModelButTypes}
use Rattle.resolve_type_check.specs.Typed.{HasTypes}

-- a model that keeps all but the types of its fields, and whose fields have the types of their declarations, keeps all
abbrev pub TypedModelsAreModels : Type 0
TypedModelsAreModels = (model : Model) → IsModelButTypes model → HasTypes model → IsModel model
