-- Names in turn, the texts that were seen among them, and the least place of one that was seen before.
use Rattle.std.specs.Prelude.{◌≡◌, ℕ, Bool, ◌&&◌, ◌||◌, ◌==◌, nat_lt, if◌then◌else◌, List, ◌++◌, Option, Some, None}
use Rattle.std.specs.List.{list_any}
use Rattle.std.specs.Str.{bytes_eq}
use Rattle.indexmap.specs.IndexSet.{IndexSet, contains_by}
use Rattle.std.specs.Borrow.{Bor}
use Rattle.base_types.specs.declared.place.Position.{Position}
use Rattle.base_types.specs.declared.place.Refusal.{Refusal}
use Rattle.base_types.specs.declared.place.Rule.TheVariants as rule
use Rattle.base_types.specs.declared.fault.Fault.{Fault}
use Rattle.base_types.specs.declared.fault.Fault.TheVariants as fault
use Rattle.syntax_tree.specs.declared.expr.Named.{Named}
use Rattle.syntax_tree.specs.declared.module.Module.{Module}
use Rattle.syntax_tree.specs.declared.instance.Text.{Text}
use Rattle.syntax_tree.specs.declared.instance.Instance.{Instance}
use Rattle.resolve_names.specs.Twice.{IsSecondAt, IsTwiceAt, IsBefore, HasTree, HasNoneTwice, IsFirstTwice, place_of}

abbrev pub is_before : Position → Position → Bool
is_before a b = nat_lt a.line b.line || ((a.line == b.line) && nat_lt a.column b.column)

-- the one that stands before the other in the text
abbrev pub lesser : Option Position → Option Position → Option Position
lesser None b = b
lesser (Some a) None = Some a
lesser (Some a) (Some b) = if is_before b a then Some b else Some a

-- a place more, where it counts
abbrev pub least_with : Bool → Option Position → Position → Option Position
least_with again least place = if again then lesser least (Some place) else least

-- the least of the places of which P holds; none where there is none
abbrev pub IsLeastOf : (Position → Type 0) → Option Position → Type 0
IsLeastOf P None = (p : Position) → P p → ⊥
IsLeastOf P (Some least) = P least × ((p : Position) → P p → IsBefore p least → ⊥)

-- whether the text is one of the names
abbrev pub is_named : List Named → List ℕ → Bool
is_named names text = list_any (λ (n : Named). bytes_eq text n.name) names

-- whether the text is one of the lent texts
abbrev pub has_text : {S : Type 0} → IndexSet (Bor (List ℕ)) S → List ℕ → Bool
has_text lent text = contains_by (λ t. bytes_eq text t.now) lent

-- of these names the texts were seen, and the least place of a second one is this
pub record IsNoted (names : List Named) (has : List ℕ → Bool) (least : Option Position) : Type 0 where
  pub seen : (text : List ℕ) → has text ≡ is_named names text
  pub second : IsLeastOf (IsSecondAt names) least

-- these names are noted behind those that were noted before
abbrev pub Notes : List Named → (List ℕ → Bool) → Option Position → (List ℕ → Bool) → Option Position → Type 0
Notes names has least has_then least_then = (before : List Named) → IsNoted before has least → IsNoted (before ++ names) has_then least_then

-- the refusal of an instance: at the least place of a second name of its text
pub record IsTwiceIn (texts : List Text) (i : Instance) (r : Refusal) : Type 0 where
  pub tree : Module
  pub place : Position
  pub there : HasTree texts i tree
  pub twice : IsTwiceAt tree place
  pub least : (p : Position) → IsTwiceAt tree p → IsBefore p place → ⊥
  pub refusal : r ≡ record { rule = rule.NameTwice; place = place_of i place }

-- what is answered of an instance: its refusal, or none where no name of its text is there twice
abbrev pub IsAnswerOf : List Text → Instance → Option Refusal → Type 0
IsAnswerOf texts i None = (m : Module) (p : Position) → HasTree texts i m → IsTwiceAt m p → ⊥
IsAnswerOf texts i (Some r) = IsTwiceIn texts i r

-- what is answered of all instances
abbrev pub IsAnswer : List Text → List Instance → Option Refusal → Type 0
IsAnswer texts instances None = HasNoneTwice texts instances
IsAnswer texts instances (Some r) = IsFirstTwice texts instances r

-- where names are refused, it is the first refusal
abbrev pub IsFirstFault : List Text → List Instance → Fault → Type 0
IsFirstFault texts instances (fault.Refused r) = IsFirstTwice texts instances r
IsFirstFault texts instances fault.Memory = Unit {0}
