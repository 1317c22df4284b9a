-- A model that says what the texts do of which it was made.
use Rattle.syntax_tree.specs.declared.loaded.Loaded.{Loaded}
use Rattle.core_tree.specs.declared.model.Model.{Model}
use Rattle.resolve_names.specs.Gathered.{scopes_of}
use Rattle.resolve_places.specs.Places.{IsPlaced}
use Rattle.resolve_read.specs.declared.types.Readings.{Readings}
use Rattle.resolve_told_literals.specs.Told.{AreLiteralsTold}
use Rattle.resolve_told_opens.specs.Told.{AreOpensTold}
use Rattle.resolve_told_sigs.specs.Told.{AreSigsTold}
use Rattle.resolve_told.specs.Bodies.{AreBodiesTold}
use Rattle.resolve_told.specs.Commands.{AreCommandsTold}

-- The sigs, fields, facts, assertions, predicates and functions of the model are just those that the loaded texts declare, and its
-- commands those of the root, one by one in their order; and each says what its text does, where each name of a root stands for the
-- candidate that the root's reading chooses. The literals are just those that the texts write, and exact are just the sigs that their
-- opens make so. The readings are what the names are taken to stand for, and the types of all declarations.
pub record IsOfTexts (loaded : Loaded) (model : Model) (readings : Readings) : Type 0 where
  pub placed : IsPlaced loaded model
  pub sigs : AreSigsTold loaded.texts loaded.instances (scopes_of loaded.texts loaded.instances) model readings
  pub bodies : AreBodiesTold loaded.texts loaded.instances (scopes_of loaded.texts loaded.instances) model readings
  pub commands : AreCommandsTold loaded.texts loaded.instances (scopes_of loaded.texts loaded.instances) model readings
  pub literals : AreLiteralsTold loaded.texts loaded.instances model.sigs
  pub opens : AreOpensTold loaded.texts loaded.instances (scopes_of loaded.texts loaded.instances) model.sigs
