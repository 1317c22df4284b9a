-- Which text is found for a name and for a path, and what is known of the texts of a model.
use Rattle.std.specs.Prelude.{◌≡◌, ◌≢◌, ℕ, suc, ◌+◌, take, Vec, List, [], ◌∷◌, ◌++◌, map, slice_get, Option, Some, None, option_map, ⊤}
use Rattle.std.specs.declared.alloc.Global.{Global}
use Rattle.base_types.specs.Texts.{Texts, text_of}
use Rattle.base_types.specs.declared.limits.TheConstants.{MODULE_BYTES}
use Rattle.syntax_tree.specs.declared.instance.Text.{Text}
use Rattle.syntax_tree.specs.declared.module.Module.{Module}
use Rattle.load_state.specs.Causes.{IsTried}
use Rattle.load_state.specs.Keys.{answer_in, pair_of, AreDistinct}
use Rattle.load_state.specs.Names.{folder_of, file_name}
use Rattle.load_state.specs.declared.loading.Asked.{Asked}
use Rattle.load_state.specs.declared.loading.Key.{Key}
use Rattle.load_state.specs.declared.loading.Loading.{Loading}
use Rattle.load_modules.specs.Reading.{IsModuleOf}

-- the two names under which the text of a path is sought
abbrev pub near_name : List ℕ → List ℕ → List ℕ
near_name root path = file_name (folder_of root) path

abbrev pub far_name : List ℕ → List ℕ
far_name path = file_name [] path

-- the text that the first library with this name has is that of the module
pub record IsModuleUnder (told : List Texts) (name : List ℕ) (number : ℕ) (tree : Module) : Type 0 where
  pub bytes : List ℕ
  pub held : text_of told name ≡ Some bytes
  pub read : IsModuleOf bytes number tree

-- the name of the text of this number
abbrev pub name_at : List Text → ℕ → Option (List ℕ)
name_at texts n = option_map (λ t. t.name) (slice_get texts n)

abbrev pub texts_in : Loading → List Text
texts_in loading = map (λ s. s.text) loading.sources.items

-- a text of this name was given up to its first byte over the limit, or none where there is none
unfoldable pub IsFront : List (Option Texts) → List ℕ → Option (Vec ℕ Global) → Type 0
IsFront held name found = (told : List Texts) → held ≡ map Some told → option_map (λ v. v.items) found ≡ option_map (take (MODULE_BYTES + 1)) (text_of told name)

module _ (told : List Texts) (root : List ℕ) where
  -- nothing has this name: neither the root nor a text of a library
  abbrev pub IsAbsent : List ℕ → Type 0
  IsAbsent name = (name ≢ root) × (text_of told name ≡ None)

  -- something has this name: the root, or a text of a library
  pub data HasText (name : List ℕ) : Type 0 where
    the_root : name ≡ root → HasText name
    a_text : (bytes : List ℕ) → text_of told name ≡ Some bytes → HasText name

  -- The name in the folder of the root counts first, the other one only where that is absent.
  pub data IsFound (path name : List ℕ) : Type 0 where
    near : HasText name → name ≡ near_name root path → IsFound path name
    far : IsAbsent (near_name root path) → HasText name → name ≡ far_name path → IsFound path name

  -- the texts behind the root's: each is the one that the libraries have under its name, which is one that is tried
  abbrev pub AreTold : ℕ → List Text → Type 0
  AreTold number [] = ⊤
  AreTold number (t ∷ ts) = IsModuleUnder told t.name number t.tree × IsTried root t.name × AreTold (suc number) ts

  -- the root's text, of which this holds, and those behind it
  abbrev pub AreTexts : (Module → Type 0) → List Text → Type 0
  AreTexts is_root [] = ⊥
  AreTexts is_root (t ∷ ts) = (t.name ≡ root) × is_root t.tree × AreTold 1 ts

  -- what was answered for a name: the number of its text, or that it is absent
  abbrev pub IsAnswer : List Text → List ℕ → Option ℕ → Type 0
  IsAnswer texts name None = IsAbsent name
  IsAnswer texts name (Some n) = name_at texts n ≡ Some name

  -- the text of a path, or that both of its names are absent
  abbrev pub IsPathAnswer : List Text → List ℕ → Option ℕ → Type 0
  IsPathAnswer texts path None = IsAbsent (near_name root path) × IsAbsent (far_name path)
  IsPathAnswer texts path (Some n) = (name : List ℕ) × (name_at texts n ≡ Some name) × IsFound path name

  abbrev pub AreAnswers : List Text → List Asked → Type 0
  AreAnswers texts [] = ⊤
  AreAnswers texts (a ∷ rest) = IsAnswer texts a.name a.text × AreAnswers texts rest

  -- What has been loaded begins with this text, which is the root's. The others are as told, and so is what was answered.
  pub record Knows (first : Text) (loading : Loading) : Type 0 where
    pub more : List Text
    pub named : first.name ≡ root
    pub texts : texts_in loading ≡ first ∷ more
    pub others : AreTold 1 more
    pub answers : AreAnswers (first ∷ more) loading.asked.items
    pub own : answer_in loading.asked.items root ≡ Some (Some 0)

-- Where the libraries tell all, what is known of the texts stays known.
unfoldable pub Keeps : List (Option Texts) → List ℕ → Loading → Loading → Type 0
Keeps held root old new = (told : List Texts) (first : Text) → held ≡ map Some told → Knows told root first old → Knows told root first new

-- the same, and it is known what was answered for a name
unfoldable pub Learns : List (Option Texts) → List ℕ → Loading → Loading → List ℕ → Option ℕ → Type 0
Learns held root old new name answer = (told : List Texts) (first : Text) → held ≡ map Some told → Knows told root first old →
    Knows told root first new × IsAnswer told root (texts_in new) name answer

-- the same of a path
unfoldable pub LearnsPath : List (Option Texts) → List ℕ → Loading → Loading → List ℕ → Option ℕ → Type 0
LearnsPath held root old new path answer = (told : List Texts) (first : Text) → held ≡ map Some told → Knows told root first old →
    Knows told root first new × IsPathAnswer told root (texts_in new) path answer

-- where no two instances were equal, none are
unfoldable pub StaysDistinct : List Key → List Key → Type 0
StaysDistinct old new = AreDistinct (map pair_of old) → AreDistinct (map pair_of new)

-- the texts of a model whose libraries tell all: the root's is told too, or its bytes were given, or its module
unfoldable pub LoadsTold : List (Option Texts) → List ℕ → List Text → Type 0
LoadsTold held root texts = (told : List Texts) → held ≡ map Some told → AreTexts told root (IsModuleUnder told root 0) texts

unfoldable pub LoadsGiven : List (Option Texts) → List ℕ → List ℕ → List Text → Type 0
LoadsGiven held root bytes texts = (told : List Texts) → held ≡ map Some told → AreTexts told root (IsModuleOf bytes 0) texts

unfoldable pub LoadsTree : List (Option Texts) → List ℕ → Module → List Text → Type 0
LoadsTree held root tree texts = (told : List Texts) → held ≡ map Some told → AreTexts told root (λ m. m ≡ tree) texts

-- texts are only put behind the others
pub record IsGrown (old new : List Text) : Type 0 where
  pub more : List Text
  pub added : new ≡ old ++ more

-- a text was put behind the others
pub record IsTaken (bytes name : List ℕ) (number : ℕ) (old new : List Text) : Type 0 where
  pub text : Text
  pub added : new ≡ old ++ text ∷ []
  pub named : text.name ≡ name
  pub read : IsModuleOf bytes number text.tree

-- the texts of a model to which this has grown
unfoldable pub Follows : List (Option Texts) → List ℕ → Loading → List Text → Type 0
Follows held root loading texts = (told : List Texts) (first : Text) → held ≡ map Some told → Knows told root first loading → AreTexts told root (λ m. m ≡ first.tree) texts
