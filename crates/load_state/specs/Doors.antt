-- What is kept of the opens of instances says which instances they lead to, and what names name.
use Rattle.std.specs.Prelude.{◌≡◌, ◌↔◌, ℕ, ◌<◌, Bool, true, false, List, map, length, slice_get, Contains, Option, Some}
use Rattle.std.specs.HashMap.{get_by_text}
use Rattle.syntax_tree.specs.declared.instance.Instance.{Instance}
use Rattle.syntax_tree.specs.declared.instance.Opened.{Opened}
use Rattle.syntax_tree.specs.declared.instance.SigRef.{SigRef}
use Rattle.syntax_tree.specs.declared.instance.Text.{Text}
use Rattle.syntax_tree.specs.declared.module.Open.{Open}
use Rattle.load_state.specs.Keys.{texts_of}
use Rattle.load_state.specs.Leads.{IsInstanceOf}
use Rattle.load_state.specs.Named.{Named, Stands, IsOpen, Reaches, Earlier, AreGiven, AreNamed}
use Rattle.load_state.specs.Sets.{HasRoom, IsIn, IsNoted, reach_or}
use Rattle.load_state.specs.Sigs.{parameters_of}
use Rattle.load_state.specs.declared.argument.Opener.{Opener}
use Rattle.load_state.specs.declared.loading.Doors.{Doors}
use Rattle.load_state.specs.declared.loading.Finished.{Finished}
use Rattle.load_state.specs.declared.reach.InstanceSet.{InstanceSet}
use Rattle.load_state.specs.declared.reach.Reach.{Reach}

-- the opens of the instance of this number are among these
abbrev pub Has : List Finished → ℕ → Type 0
Has finished number = (f : Finished) × Contains finished f × (f.instance ≡ number)

-- an open with an alias, which isn't private, leads to l from these opens, where their instance is among these
abbrev pub IsAfterOne : Finished → InstanceSet → List ℕ → ℕ → Type 0
IsAfterOne f among alias l = IsIn among f.instance × IsIn (reach_or (get_by_text f.doors.aliases alias)).public l

-- so it does from some of them
abbrev pub IsAfter : List Finished → InstanceSet → List ℕ → ℕ → Type 0
IsAfter finished among alias l = (f : Finished) × Contains finished f × IsAfterOne f among alias l

-- an open was noted that leads to an instance whose opens are among these
pub record LeadsOn (finished : List Finished) (opened : Opened) (is_private : Bool) (old new : Reach) (before after : List ℕ → Option Reach) : Type 0 where
  pub f : Finished
  pub has : Contains finished f
  pub same : f.instance ≡ opened.instance
  pub room : HasRoom opened.instance
  pub noted : IsNoted opened.alias opened.instance f.doors.reach.public is_private old new before after

-- P holds of nothing, or of something; where the count is one, of that alone for which this stands
pub record TellsOf (P : Named → Type 0) (arguments : List (Option SigRef)) (count : ℕ) (last : Option SigRef) : Type 0 where
  pub none : count ≡ 0 → (c : Named) → P c → ⊥
  pub one : count ≡ 1 → (c : Named) × P c × Stands arguments c last × ((d : Named) → P d → d ≡ c)

-- counts of two kinds of things taken together
pub record Joins (first second both : ℕ) (first_last second_last both_last : Option SigRef) : Type 0 where
  pub none : second ≡ 0 → (both ≡ first) × (both_last ≡ first_last)
  pub some : (second ≡ 0 → ⊥) → (both ≡ 0 → ⊥) × (both ≡ 1 → (first ≡ 0) × (second ≡ 1)) × (both_last ≡ second_last)

module _ (instances : List Instance) (texts : List Text) where
  -- where the opens of an instance before the one of this number lead
  pub record AreDoors (number k : ℕ) (reach : Reach) (find : List ℕ → Option Reach) : Type 0 where
    pub all : (l : ℕ) → IsIn reach.all l ↔ Earlier instances texts number k false (λ o. Reaches instances texts o.instance l)
    pub public : (l : ℕ) → IsIn reach.public l ↔ Earlier instances texts number k true (λ o. Reaches instances texts o.instance l)
    pub aliased : (alias : List ℕ) (l : ℕ) → IsIn (reach_or (find alias)).all l ↔ Earlier instances texts number k false (λ o. (o.alias ≡ alias) × (o.instance ≡ l))
    pub shown : (alias : List ℕ) (l : ℕ) → IsIn (reach_or (find alias)).public l ↔ Earlier instances texts number k true (λ o. (o.alias ≡ alias) × (o.instance ≡ l))

  -- the opens of an instance before the one of this number were noted, behind those of the instances to which they lead, and
  -- their arguments are named
  pub record IsReplaying (finished : List Finished) (number : ℕ) (i : Instance) (t : Text) (k : ℕ) (reach : Reach) (find : List ℕ → Option Reach) : Type 0 where
    pub noted : AreDoors number k reach find
    pub behind : (e : ℕ) (o : Opened) (h : Bool) → e < k → IsOpen instances texts number e o h → Has finished o.instance
    pub named : (e : ℕ) (target : Instance) (o : Open) (d : Opened) → e < k → slice_get t.tree.opens e ≡ Some o → slice_get i.opens e ≡ Some d → slice_get instances d.instance ≡ Some target →
        AreGiven instances texts number e i.arguments o.arguments target.arguments

  -- all opens of an instance were noted, behind those of the instances to which they lead, and their arguments are named
  pub record IsReplayed (finished : List Finished) (number : ℕ) (doors : Doors) : Type 0 where
    pub count : ℕ
    pub noted : AreDoors number count doors.reach (get_by_text doors.aliases)
    pub whole : (k : ℕ) (o : Opened) (h : Bool) → IsOpen instances texts number k o h → k < count
    pub behind : (k : ℕ) (o : Opened) (h : Bool) → IsOpen instances texts number k o h → Has finished o.instance
    pub named : AreNamed instances texts number

  unfoldable pub AreReplayed : List Finished → Type 0
  AreReplayed finished = (f : Finished) → Contains finished f → IsReplayed finished f.instance f.doors

  -- the opener is the instance of its number, and its opens before the one of this number were noted
  pub record StandsAt (k : ℕ) (o : Opener) : Type 0 where
    pub instance : Instance
    pub is : IsInstanceOf instances texts o.number instance o.source.now.text
    pub own : o.arguments.now ≡ instance.arguments
    pub paired : length instance.arguments ≡ length (parameters_of o.source.now.text.tree)
    pub shelf : texts ≡ texts_of o.sources.now
    pub listed : o.texts.now ≡ map (λ i. i.text) instances
    pub noted : AreDoors o.number k o.doors.now.reach (get_by_text o.doors.now.aliases)
    pub behind : (e : ℕ) (p : Opened) (h : Bool) → e < k → IsOpen instances texts o.number e p h → Has o.finished.now p.instance
    pub replayed : AreReplayed o.finished.now
