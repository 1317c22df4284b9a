-- What is loaded of a text is one model.
use Rattle.std.specs.Prelude.{◌≡◌, ℕ, List, map, Some}
use Rattle.base_types.specs.Texts.{Texts}
use Rattle.syntax_tree.specs.declared.loaded.Loaded.{Loaded}
use Rattle.cli_model.specs.Loads.{IsLoaded, IsLoadedText}

-- Where the libraries hold these texts, two models that are loaded of a file with this name and text have the same texts and the
-- same instances.
abbrev pub LoadedModelsAreOne : Type 0
LoadedModelsAreOne = (told : List Texts) (file text : List ℕ) (a b : Loaded) → IsLoaded (map Some told) file text a → IsLoaded (map Some told) file text b → (a.texts ≡ b.texts) × (a.instances ≡ b.instances)

-- the same of a text that is given, as that of the ring
abbrev pub GivenModelsAreOne : Type 0
GivenModelsAreOne = (told : List Texts) (name text : List ℕ) (a b : Loaded) → IsLoadedText (map Some told) name text a → IsLoadedText (map Some told) name text b → (a.texts ≡ b.texts) × (a.instances ≡ b.instances)
