-- The steps of the test of how a model is numbered.
use Rattle.std.specs.Prelude.{◌≡◌, ℕ, ◌<◌, ◌≤◌, Bool, true, false, List, length, slice_get, Some}
use Rattle.syntax_tree.specs.declared.instance.Instance.{Instance}
use Rattle.syntax_tree.specs.declared.instance.Opened.{Opened}
use Rattle.syntax_tree.specs.declared.instance.Text.{Text}
use Rattle.load_state.specs.Named.{IsOpen}
use Rattle.load_modules.specs.Numbered.{IsAmong, IsMetBefore, IsLabelled, Walks}
use Rattle.load_modules.specs.Order.{slashed_to}

-- the instance of this number, to which this way leads: its opens were followed, or it comes next and has the way's label
pub record IsTarget (instances : List Instance) (way : List ℕ) (met : ℕ) (passed : List ℕ) (target number : ℕ) (is_new : Bool) (there : List ℕ) : Type 0 where
  pub same : number ≡ target
  pub way_there : there ≡ way
  pub known : is_new ≡ false → IsAmong passed target
  pub labelled : is_new ≡ true → IsLabelled instances met way
  pub numbered : is_new ≡ true → target ≡ met
  pub within : is_new ≡ true → met < length instances

module _ (instances : List Instance) (texts : List Text) where
  -- where the open of this number leads: to one whose opens were followed, or to the next number, whose label is right
  pub record IsNext (number : ℕ) (way : List ℕ) (k met : ℕ) (passed : List ℕ) (next : ℕ) (is_new : Bool) (there : List ℕ) : Type 0 where
    pub opened : Opened
    pub hidden : Bool
    pub is_open : IsOpen instances texts number k opened hidden
    pub leads : IsTarget instances (slashed_to way opened.alias) met passed opened.instance next is_new there

  -- what is left of a walk from one open on makes a walk from another
  abbrev pub Leaves : (number : ℕ) (way : List ℕ) (k met : ℕ) (passed : List ℕ) (later now : ℕ) (found : List ℕ) → Type 0
  Leaves number way k met passed later now found = (after : ℕ) (behind : List ℕ) → Walks instances texts number way later now found after behind →
      Walks instances texts number way k met passed after behind

-- the texts that the instances before a number have are those below this one
abbrev pub AreSeen : List Instance → ℕ → ℕ → Type 0
AreSeen instances number most = (text : ℕ) → text < most → IsMetBefore instances number text

-- of the instances before this number each has lower texts before it
abbrev pub HaveLower : List Instance → ℕ → Type 0
HaveLower instances number = (n : ℕ) (i : Instance) → n < number → slice_get instances n ≡ Some i → (text : ℕ) → text < i.text → IsMetBefore instances n text

-- the text comes next, or came before
pub record IsNextText (text most next : ℕ) : Type 0 where
  pub low : text ≤ most
  pub below : (other : ℕ) → other < next → (other ≡ text → ⊥) → other < most
  pub has : text < next
