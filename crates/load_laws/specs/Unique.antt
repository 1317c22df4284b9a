-- Loading determines its model: what the libraries tell has at most one list of texts and one list
-- of instances.
use Rattle.std.specs.Prelude.{◌≡◌, ℕ, List}
use Rattle.base_types.specs.Texts.{Texts}
use Rattle.syntax_tree.specs.declared.instance.Instance.{Instance}
use Rattle.syntax_tree.specs.declared.instance.Text.{Text}
use Rattle.syntax_tree.specs.declared.module.Module.{Module}
use Rattle.load_state.specs.Keys.{pairs_of, AreDistinct}
use Rattle.load_state.specs.Leads.{AllLed}
use Rattle.load_state.specs.Named.{AllNamed}
use Rattle.load_modules.specs.Led.{IsTextOf}
use Rattle.load_modules.specs.Numbered.{AreNumberedIn}
use Rattle.load_modules.specs.Reached.{AreReached}
use Rattle.load_modules.specs.Told.{AreTexts}

-- What loading says of the texts and instances that it finds, where the root has this tree.
pub record IsLoad (told : List Texts) (root : List ℕ) (tree : Module) (loaded : List Text) (instances : List Instance) : Type 0 where
  pub texts : AreTexts told root (λ m. m ≡ tree) loaded
  pub opens : AllLed (IsTextOf told root loaded) instances loaded
  pub named : AllNamed instances loaded
  pub distinct : AreDistinct (pairs_of instances)
  pub reached : AreReached instances
  pub numbered : AreNumberedIn told root loaded instances

-- the same is said of no other texts and instances
abbrev pub LoadsAreUnique : Type 0
LoadsAreUnique = (told : List Texts) (root : List ℕ) (tree : Module) (texts others : List Text) (instances rest : List Instance) →
    IsLoad told root tree texts instances → IsLoad told root tree others rest → (texts ≡ others) × (instances ≡ rest)
