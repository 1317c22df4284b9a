-- What is loaded of a module with a text, and of a text that is given.
use Rattle.std.specs.Prelude.{ℕ, List, Option, Some, None}
use Rattle.base_types.specs.Texts.{Texts}
use Rattle.syntax_lexer.specs.Tokens.{tokens_of}
use Rattle.syntax_tree.specs.declared.loaded.Loaded.{Loaded}
use Rattle.syntax_tree.specs.declared.module.Module.{Module}
use Rattle.load_state.specs.Keys.{AreDistinct, pairs_of}
use Rattle.load_state.specs.Named.{AllNamed}
use Rattle.load_modules.specs.Led.{OpensTold}
use Rattle.load_modules.specs.Numbered.{NumberedTold}
use Rattle.load_modules.specs.Reached.{AreReached}
use Rattle.load_modules.specs.Told.{LoadsGiven, LoadsTree}
use Rattle.cli_model.specs.Root.{SpellIn}

-- this is loaded of the file with this name and text, where the libraries hold these texts
pub record IsLoaded (held : List (Option Texts)) (file text : List ℕ) (loaded : Loaded) : Type 0 where
  -- the text spells a module,
  pub tree : Module
  pub spelled : SpellIn (tokens_of 0 text) tree
  -- which comes first; each other text is the one that the libraries have under its name, a name that is tried
  pub texts : LoadsTree held file tree loaded.texts
  -- each open leads to an instance of the text that is found for its path, with arguments that fit
  pub opens : OpensTold held file loaded.texts loaded.instances
  -- each argument of an open is the one thing that its name names there
  pub named : AllNamed loaded.instances loaded.texts
  -- no two instances have one text with equal arguments,
  pub distinct : AreDistinct (pairs_of loaded.instances)
  -- and there is none but that of the root and those to which opens lead from it
  pub reached : AreReached loaded.instances
  -- texts and instances are numbered and labelled as a walk over opens meets them, and each instance opens the module of the
  -- integers, where there is one that isn't its own
  pub numbered : NumberedTold held file loaded.texts loaded.instances

-- the same of a text that may not be there
abbrev pub IsLoadedIn : List (Option Texts) → List ℕ → Option (List ℕ) → Loaded → Type 0
IsLoadedIn held file None loaded = ⊥
IsLoadedIn held file (Some text) loaded = IsLoaded held file text loaded

-- this is loaded of a text with this name, where the libraries hold these texts
pub record IsLoadedText (held : List (Option Texts)) (name text : List ℕ) (loaded : Loaded) : Type 0 where
  -- the text comes first; each other text is the one that the libraries have under its name, a name that is tried
  pub texts : LoadsGiven held name text loaded.texts
  -- each open leads to an instance of the text that is found for its path, with arguments that fit
  pub opens : OpensTold held name loaded.texts loaded.instances
  -- each argument of an open is the one thing that its name names there
  pub named : AllNamed loaded.instances loaded.texts
  -- no two instances have one text with equal arguments,
  pub distinct : AreDistinct (pairs_of loaded.instances)
  -- and there is none but that of the root and those to which opens lead from it
  pub reached : AreReached loaded.instances
  -- texts and instances are numbered and labelled as a walk over opens meets them, and each instance opens the module of the
  -- integers, where there is one that isn't its own
  pub numbered : NumberedTold held name loaded.texts loaded.instances
