-- Where the opens of a loaded model lead.
use Rattle.std.specs.Prelude.{◌≡◌, ℕ, List, map, Option, Some}
use Rattle.base_types.specs.Texts.{Texts}
use Rattle.syntax_tree.specs.declared.instance.Instance.{Instance}
use Rattle.syntax_tree.specs.declared.instance.Text.{Text}
use Rattle.load_state.specs.Leads.{AllLed}
use Rattle.load_state.specs.declared.loading.Loading.{Loading}
use Rattle.load_modules.specs.Told.{IsFound, Knows, name_at}

-- the text of this number is the one that is found for a path
abbrev pub IsTextOf : List Texts → List ℕ → List Text → List ℕ → ℕ → Type 0
IsTextOf told root texts path n = (name : List ℕ) × (name_at texts n ≡ Some name) × IsFound told root path name

-- where the libraries tell all, each open of a model leads to an instance of the text that is found for its path, with arguments
-- that fit
unfoldable pub OpensTold : List (Option Texts) → List ℕ → List Text → List Instance → Type 0
OpensTold held root texts instances = (told : List Texts) → held ≡ map Some told → AllLed (IsTextOf told root texts) instances texts

-- the same of a model to which this has grown
unfoldable pub OpensFrom : List (Option Texts) → List ℕ → Loading → List Text → List Instance → Type 0
OpensFrom held root loading texts instances = (told : List Texts) (first : Text) → held ≡ map Some told → Knows told root first loading →
    AllLed (IsTextOf told root texts) instances texts
