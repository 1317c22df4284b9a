-- The instances of a loaded model are those of its root: the least set that holds the root and is
-- closed under opens.
use Rattle.std.specs.Prelude.{◌≡◌, ℕ, ◌<◌, List, [], ◌∷◌, length, slice_get, Option, Some, None}
use Rattle.base_types.specs.Texts.{Texts}
use Rattle.syntax_tree.specs.declared.instance.Instance.{Instance}
use Rattle.syntax_tree.specs.declared.instance.SigRef.{SigRef}
use Rattle.syntax_tree.specs.declared.instance.Text.{Text}
use Rattle.syntax_tree.specs.declared.module.Module.{Module}
use Rattle.load_modules.specs.Instances.{Given, given, Arguments, nothing, int_and, sig_and, IsInstance}
use Rattle.load_modules.specs.Told.{name_at}
use Rattle.load_laws.specs.Unique.{IsLoad}

-- arguments, where the instance of each number is this one
abbrev pub arguments_of : (ℕ → Given) → List (Option SigRef) → Arguments
arguments_of at [] = nothing
arguments_of at (None ∷ rest) = int_and (arguments_of at rest)
arguments_of at (Some s ∷ rest) = sig_and (at s.instance) s.sig (arguments_of at rest)

-- The instance of each number is this one, by the name of its text and its arguments. All of them are instances of the root, and
-- each instance of the root is among them, just once.
pub record AreInstances (told : List Texts) (root : List ℕ) (tree : Module) (texts : List Text) (instances : List Instance) (at : ℕ → Given) : Type 0 where
  pub says : (n : ℕ) (i : Instance) (name : List ℕ) → slice_get instances n ≡ Some i → name_at texts i.text ≡ Some name → at n ≡ given name (arguments_of at i.arguments)
  pub sound : (n : ℕ) → n < length instances → IsInstance told root tree (at n)
  pub every : (i : Given) → IsInstance told root tree i → (n : ℕ) × (n < length instances) × (at n ≡ i)
  pub apart : (m n : ℕ) → m < length instances → n < length instances → at m ≡ at n → m ≡ n

-- the instances of a loaded model are the least set
abbrev pub InstancesAreLeast : Type 0
InstancesAreLeast = (told : List Texts) (root : List ℕ) (tree : Module) (texts : List Text) (instances : List Instance) → IsLoad told root tree texts instances →
    (at : ℕ → Given) × AreInstances told root tree texts instances at
