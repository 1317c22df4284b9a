-- What a name in an argument of an open names: a sig of its own module, a parameter, or a sig that
-- an earlier open brings in; and that each argument is the one that its name names.
use Rattle.std.specs.Prelude.{◌≡◌, ◌⊎◌, ℕ, ◌-◌, ◌<◌, Bool, true, false, List, [], ◌∷◌, take, length, slice_get, Option, Some, None}
use Rattle.syntax_tree.specs.declared.expr.QualName.{QualName}
use Rattle.syntax_tree.specs.declared.instance.Instance.{Instance}
use Rattle.syntax_tree.specs.declared.instance.Opened.{Opened}
use Rattle.syntax_tree.specs.declared.instance.SigRef.{SigRef}
use Rattle.syntax_tree.specs.declared.instance.Text.{Text}
use Rattle.syntax_tree.specs.declared.module.Open.{Open}
use Rattle.syntax_tree.specs.declared.module.SigName.{SigName}
use Rattle.syntax_tree.specs.declared.module.SigName.TheVariants as sig_name
use Rattle.load_state.specs.Counts.{HasName}
use Rattle.load_state.specs.Leads.{IsInstanceOf}
use Rattle.load_state.specs.Names.{last_part}
use Rattle.load_state.specs.Opens.{Opening, openings_of, is_hidden}
use Rattle.load_state.specs.Sigs.{sigs_of, parameters_of}

-- what a name names: a sig, or a parameter by its number
pub data Named : Type 0 where
  a_sig : SigRef → Named
  a_parameter : ℕ → Named

-- what that is, where these are the arguments of the instance whose parameters count
abbrev pub Stands : List (Option SigRef) → Named → Option SigRef → Type 0
Stands arguments (a_sig s) argument = argument ≡ Some s
Stands arguments (a_parameter n) argument = slice_get arguments n ≡ Some argument

-- the parts of a name before the last one
abbrev pub front_of : List (List ℕ) → List (List ℕ)
front_of parts = take (length parts - 1) parts

module _ (instances : List Instance) (texts : List Text) where
  -- the open of this number of an instance, which is written or implied by an enum: its alias and where it leads, and whether
  -- it is private
  pub record IsOpen (number k : ℕ) (opened : Opened) (hidden : Bool) : Type 0 where
    pub instance : Instance
    pub text : Text
    pub is : IsInstanceOf instances texts number instance text
    pub opening : Opening
    pub asks : slice_get (openings_of text.tree) k ≡ Some opening
    pub leads : slice_get instance.opens k ≡ Some opened
    pub private : is_hidden opening ≡ hidden

  -- by opens that aren't private an instance reaches another
  pub data Reaches : ℕ → ℕ → Type 0 where
    itself : (j : ℕ) → Reaches j j
    further : (j k l : ℕ) (o : Opened) → IsOpen j k o false → Reaches o.instance l → Reaches j l

  -- by opens with these aliases in turn, which aren't private, an instance leads to another
  abbrev pub Follows : List (List ℕ) → ℕ → ℕ → Type 0
  Follows [] j l = j ≡ l
  Follows (alias ∷ aliases) j l = (k : ℕ) × (o : Opened) × IsOpen j k o false × (o.alias ≡ alias) × Follows aliases o.instance l

  -- an open of an instance before the one of this number leads so; it isn't private where that is asked
  pub record Earlier (number k : ℕ) (public : Bool) (leads : Opened → Type 0) : Type 0 where
    pub earlier : ℕ
    pub before : earlier < k
    pub opened : Opened
    pub hidden : Bool
    pub is_open : IsOpen number earlier opened hidden
    pub seen : public ≡ true → hidden ≡ false
    pub leading : leads opened

  -- an earlier open reaches an instance
  abbrev pub IsBrought : ℕ → ℕ → ℕ → Type 0
  IsBrought number k l = Earlier number k false (λ o. Reaches o.instance l)

  -- an earlier open with this alias, and others behind it, lead to an instance
  abbrev pub IsBehind : ℕ → ℕ → List ℕ → List (List ℕ) → ℕ → Type 0
  IsBehind number k alias aliases l = Earlier number k false (λ o. (o.alias ≡ alias) × Follows aliases o.instance l)

  -- a sig of this name that isn't private, of an instance of which P holds
  abbrev pub IsSeen : (ℕ → Type 0) → List ℕ → Named → Type 0
  IsSeen P part (a_sig s) = P s.instance × (i : Instance) × (t : Text) × IsInstanceOf instances texts s.instance i t × HasName (sigs_of t.tree) s.sig part false
  IsSeen P part (a_parameter n) = ⊥

  -- a sig of this name of the instance itself, private or not, or a parameter
  abbrev pub IsOwn : ℕ → List ℕ → Named → Type 0
  IsOwn number part (a_sig s) = (s.instance ≡ number) × (i : Instance) × (t : Text) × IsInstanceOf instances texts number i t × HasName (sigs_of t.tree) s.sig part true
  IsOwn number part (a_parameter n) = (i : Instance) × (t : Text) × IsInstanceOf instances texts number i t × (slice_get (parameters_of t.tree) n ≡ Some part)

  -- What a name in the open of this number of an instance names. Without a path it is the instance's own, or, where `this/` isn't
  -- before it, a sig of an instance that an earlier open reaches; after aliases it is a sig of an instance behind them.
  abbrev pub NamesBy : ℕ → ℕ → Bool → List (List ℕ) → List ℕ → Named → Type 0
  NamesBy number k is_own [] part c = IsOwn number part c ⊎ ((is_own ≡ false) × IsSeen (IsBrought number k) part c)
  NamesBy number k is_own (alias ∷ aliases) part c = IsSeen (IsBehind number k alias aliases) part c

  abbrev pub Names : ℕ → ℕ → QualName → Named → Type 0
  Names number k name c = NamesBy number k name.is_own (front_of name.parts) (last_part name.parts) c

  -- just one sig or parameter is named, and the argument is what that stands for
  pub record IsOne (number k : ℕ) (arguments : List (Option SigRef)) (name : QualName) (argument : Option SigRef) : Type 0 where
    pub one : Named
    pub names : Names number k name one
    pub only : (other : Named) → Names number k name other → other ≡ one
    pub stands : Stands arguments one argument

  abbrev pub IsGiven : ℕ → ℕ → List (Option SigRef) → SigName → Option SigRef → Type 0
  IsGiven number k arguments (sig_name.Int place) argument = argument ≡ None
  IsGiven number k arguments (sig_name.Name name) argument = IsOne number k arguments name argument

  -- the arguments of an open are those that are written, one for each
  pub record AreGiven (number k : ℕ) (arguments : List (Option SigRef)) (names : List SigName) (given : List (Option SigRef)) : Type 0 where
    pub every : length names ≡ length given
    pub each : (n : ℕ) (name : SigName) (argument : Option SigRef) → slice_get names n ≡ Some name → slice_get given n ≡ Some argument → IsGiven number k arguments name argument

  -- the instances to which the written opens of an instance lead have the arguments that are written
  pub record AreNamed (number : ℕ) : Type 0 where
    pub each : (k : ℕ) (i target : Instance) (t : Text) (o : Open) (d : Opened) → IsInstanceOf instances texts number i t → slice_get t.tree.opens k ≡ Some o → slice_get i.opens k ≡ Some d →
        slice_get instances d.instance ≡ Some target → AreGiven number k i.arguments o.arguments target.arguments

  -- the same of all instances
  abbrev pub AllNamed : Type 0
  AllNamed = (number : ℕ) → number < length instances → AreNamed number
