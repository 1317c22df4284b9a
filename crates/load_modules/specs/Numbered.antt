-- How the texts and instances of a model are numbered and labelled: as a walk over opens meets
-- them. And which instances open the module of the integers.
use Rattle.std.specs.Prelude.{◌≡◌, ◌≢◌, ℕ, suc, ◌+◌, ◌<◌, Bool, List, [], ◌∷◌, ◌++◌, map, take, length, slice_get, Option, Some, None, codes}
use Rattle.base_types.specs.Texts.{Texts}
use Rattle.syntax_tree.specs.declared.instance.Instance.{Instance}
use Rattle.syntax_tree.specs.declared.instance.Opened.{Opened}
use Rattle.syntax_tree.specs.declared.instance.Text.{Text}
use Rattle.load_state.specs.Leads.{IsInstanceOf}
use Rattle.load_state.specs.Named.{IsOpen}
use Rattle.load_state.specs.Opens.{openings_of}
use Rattle.load_state.specs.declared.loading.Loading.{Loading}
use Rattle.load_modules.specs.Order.{slashed_to, IsLabel}
use Rattle.load_modules.specs.Reached.{IsPlain}
use Rattle.load_modules.specs.Told.{Knows, name_at, IsPathAnswer}

-- the number stands in the list
pub record IsAmong (numbers : List ℕ) (number : ℕ) : Type 0 where
  pub place : ℕ
  pub there : slice_get numbers place ≡ Some number

-- no two texts have one name
abbrev pub AreApart : List Text → Type 0
AreApart texts = (m n : ℕ) (name : List ℕ) → name_at texts m ≡ Some name → name_at texts n ≡ Some name → m ≡ n

-- the labels of the instances before the one of this number
abbrev pub labels_before : List Instance → ℕ → List (List ℕ)
labels_before instances number = take number (map (λ i. i.label) instances)

module _ (instances : List Instance) where
  -- an instance before this number has the text
  pub record IsMetBefore (number text : ℕ) : Type 0 where
    pub earlier : ℕ
    pub before : earlier < number
    pub instance : Instance
    pub is : slice_get instances earlier ≡ Some instance
    pub has : instance.text ≡ text

  -- so many texts are numbered as instances meet them: where one has a text, earlier ones have all texts with lower numbers
  pub record AreMet (count : ℕ) : Type 0 where
    pub lower : (n : ℕ) (i : Instance) → slice_get instances n ≡ Some i → (text : ℕ) → text < i.text → IsMetBefore n text
    pub all : (text : ℕ) → text < count → IsMetBefore (length instances) text

  -- the instance of this number has the label that this way gives it behind the labels of those before it
  pub record IsLabelled (number : ℕ) (way : List ℕ) : Type 0 where
    pub instance : Instance
    pub is : slice_get instances number ≡ Some instance
    pub label : IsLabel (labels_before instances number) way instance.label

  -- an instance has the text of this number and no arguments
  pub record HasPlain (text : ℕ) : Type 0 where
    pub number : ℕ
    pub instance : Instance
    pub is : slice_get instances number ≡ Some instance
    pub plain : IsPlain text instance

-- an instance has its opens, of which so many are written or implied by enums, and behind these one of the module of the integers
-- where its own text isn't that module's
abbrev pub IsRounded : Option ℕ → ℕ → Instance → Type 0
IsRounded None count i = length i.opens ≡ count
IsRounded (Some text) count i = (i.text ≡ text → length i.opens ≡ count) × (i.text ≢ text → length i.opens ≡ count + 1)

module _ (instances : List Instance) (texts : List Text) where
  -- so many opens of the instance of this number are written or implied by enums
  pub record HasOpens (number count : ℕ) : Type 0 where
    pub instance : Instance
    pub text : Text
    pub is : IsInstanceOf instances texts number instance text
    pub counted : length (openings_of text.tree) ≡ count

  -- A walk over the opens of an instance, which was met by this way, from the open of this number on. Before it so many instances
  -- were met, and of some all opens were followed; then there are these numbers of both. An open leads to one of those whose opens
  -- were followed, or to the next number, whose opens are followed before the next open.
  pub data Walks : (number : ℕ) (way : List ℕ) (k met : ℕ) (passed : List ℕ) (after : ℕ) (behind : List ℕ) → Type 0 where
    done : (number : ℕ) (way : List ℕ) (k met : ℕ) (passed : List ℕ) → HasOpens number k → Walks number way k met passed met passed
    known : (number : ℕ) (way : List ℕ) (k met : ℕ) (passed : List ℕ) (after : ℕ) (behind : List ℕ) (o : Opened) (hidden : Bool) → IsOpen instances texts number k o hidden →
        IsAmong passed o.instance → Walks number way (suc k) met passed after behind → Walks number way k met passed after behind
    new : (number : ℕ) (way : List ℕ) (k met : ℕ) (passed : List ℕ) (between : ℕ) (inside : List ℕ) (after : ℕ) (behind : List ℕ) (o : Opened) (hidden : Bool) →
        IsOpen instances texts number k o hidden → o.instance ≡ met → IsLabelled instances met (slashed_to way o.alias) →
        Walks met (slashed_to way o.alias) 0 (suc met) passed between inside → Walks number way (suc k) between (inside ++ met ∷ []) after behind →
        Walks number way k met passed after behind

  -- a walk from an instance that is met by this way behind so many others
  pub record Begins (met : ℕ) (way : List ℕ) (passed : List ℕ) (after : ℕ) (behind : List ℕ) : Type 0 where
    pub labelled : IsLabelled instances met way
    pub walks : Walks met way 0 (suc met) passed after behind

  -- The walk from the root meets all instances; or the last that it meets is followed by one of the module of the integers, and
  -- by those that this leads to.
  pub data AreWalked : Option ℕ → Type 0 where
    by_root : (integers : Option ℕ) (behind : List ℕ) → Begins 0 [] [] (length instances) behind → ((text : ℕ) → integers ≡ Some text → HasPlain instances text) → AreWalked integers
    and_integers : (text met : ℕ) (passed behind : List ℕ) (instance : Instance) → Begins 0 [] [] met passed → slice_get instances met ≡ Some instance → IsPlain text instance →
        Begins met (codes "integer") (passed ++ 0 ∷ []) (length instances) behind → AreWalked (Some text)

  -- the numbers, labels and opens of a model, where the module of the integers has this text
  pub record AreNumbered (integers : Option ℕ) : Type 0 where
    pub apart : AreApart texts
    pub met : AreMet instances (length texts)
    pub walked : AreWalked integers
    pub rounded : (n : ℕ) (i : Instance) (t : Text) → IsInstanceOf instances texts n i t → IsRounded integers (length (openings_of t.tree)) i

-- the same, where the module of the integers has the text that is found for its path, or there is none
pub record AreNumberedIn (told : List Texts) (root : List ℕ) (texts : List Text) (instances : List Instance) : Type 0 where
  pub integers : Option ℕ
  pub found : IsPathAnswer told root texts (codes "util/integer") integers
  pub numbered : AreNumbered instances texts integers

-- where the libraries tell all, a model is numbered so
unfoldable pub NumberedTold : List (Option Texts) → List ℕ → List Text → List Instance → Type 0
NumberedTold held root texts instances = (told : List Texts) → held ≡ map Some told → AreNumberedIn told root texts instances

-- the same of a model to which this has grown
unfoldable pub NumberedFrom : List (Option Texts) → List ℕ → Loading → List Text → List Instance → Type 0
NumberedFrom held root loading texts instances = (told : List Texts) (first : Text) → held ≡ map Some told → Knows told root first loading → AreNumberedIn told root texts instances
