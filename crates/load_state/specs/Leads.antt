-- Where the opens of a model lead, by what was answered for the names that are tried, and what
-- their arguments are.
use Rattle.std.specs.Prelude.{◌≡◌, ℕ, ◌+◌, true, List, [], ◌∷◌, length, slice_get, Option, Some, None, codes, ⊤}
use Rattle.syntax_tree.specs.declared.expr.QualName.{QualName}
use Rattle.syntax_tree.specs.declared.instance.Instance.{Instance}
use Rattle.syntax_tree.specs.declared.instance.Opened.{Opened}
use Rattle.syntax_tree.specs.declared.instance.SigRef.{SigRef}
use Rattle.syntax_tree.specs.declared.instance.Text.{Text}
use Rattle.syntax_tree.specs.declared.module.Module.{Module}
use Rattle.syntax_tree.specs.declared.module.SigName.{SigName}
use Rattle.syntax_tree.specs.declared.module.SigName.TheVariants as sig_name
use Rattle.load_state.specs.Keys.{answer_in}
use Rattle.load_state.specs.Names.{folder_of, file_name, last_part}
use Rattle.load_state.specs.Opens.{Opening, written, implied, openings_of, path_of, alias_of}
use Rattle.load_state.specs.Sigs.{sigs_of, parameters_of}
use Rattle.load_state.specs.declared.loading.Asked.{Asked}
use Rattle.load_state.specs.declared.table.DeclaredSig.{DeclaredSig}

-- this is the text of a path: that of its name in the root's folder, or that of its other name where the first has none
pub data IsAnswered (asked : List Asked) (root path : List ℕ) (text : ℕ) : Type 0 where
  near : answer_in asked (file_name (folder_of root) path) ≡ Some (Some text) → IsAnswered asked root path text
  far : answer_in asked (file_name (folder_of root) path) ≡ Some None → answer_in asked (file_name [] path) ≡ Some (Some text) → IsAnswered asked root path text

module _ (is_text : List ℕ → ℕ → Type 0) (instances : List Instance) where
  -- an open with this alias leads to an instance of the text of this path
  pub record LeadsTo (alias path : List ℕ) (opened : Opened) (target : Instance) : Type 0 where
    pub named : opened.alias ≡ alias
    pub reached : slice_get instances opened.instance ≡ Some target
    pub found : is_text path target.text

  -- an open is that of the integers, whose module has no arguments
  pub record IsOfIntegers (opened : Opened) : Type 0 where
    pub target : Instance
    pub leads : LeadsTo (codes "integer") (codes "util/integer") opened target
    pub none : length target.arguments ≡ 0

  -- behind so many opens comes none, or that of the integers
  pub data IsEnd (count : ℕ) (opens : List Opened) : Type 0 where
    no_more : length opens ≡ count → IsEnd count opens
    integers : (opened : Opened) → length opens ≡ count + 1 → slice_get opens count ≡ Some opened → IsOfIntegers opened → IsEnd count opens

-- a module's sig of this number has this name, and is private only where that does no harm
pub record IsDeclared (tree : Module) (number : ℕ) (name : List ℕ) (harmless : Type 0) : Type 0 where
  pub declared : DeclaredSig
  pub numbered : slice_get (sigs_of tree) number ≡ Some declared
  pub named : declared.name ≡ name
  pub seen : declared.is_private ≡ true → harmless

-- an instance of this module has this argument for its parameter of this name
pub record IsGiven (tree : Module) (arguments : List (Option SigRef)) (name : List ℕ) (argument : Option SigRef) : Type 0 where
  pub place : ℕ
  pub parameter : slice_get (parameters_of tree) place ≡ Some name
  pub given : slice_get arguments place ≡ Some argument

module _ (instances : List Instance) (texts : List Text) where
  -- the instance of this number, and its text
  pub record IsInstanceOf (number : ℕ) (instance : Instance) (text : Text) : Type 0 where
    pub is_instance : slice_get instances number ≡ Some instance
    pub is_text : slice_get texts instance.text ≡ Some text

  -- What a name stands for that is an argument of an open of the instance of this number: a sig of that name, which is the
  -- instance's own or isn't private, or what the instance was itself given for the parameter of that name.
  pub data StandsFor (number : ℕ) (name : QualName) : Option SigRef → Type 0 where
    a_sig : (s : SigRef) (i : Instance) (t : Text) → IsInstanceOf s.instance i t → IsDeclared t.tree s.sig (last_part name.parts) (s.instance ≡ number) →
        StandsFor number name (Some s)
    a_parameter : (part : List ℕ) (i : Instance) (t : Text) (argument : Option SigRef) → name.parts ≡ part ∷ [] → IsInstanceOf number i t →
        IsGiven t.tree i.arguments part argument → StandsFor number name argument

  -- an argument is what is written
  abbrev pub IsArgument : ℕ → SigName → Option SigRef → Type 0
  IsArgument number (sig_name.Int place) argument = argument ≡ None
  IsArgument number (sig_name.Name name) argument = StandsFor number name argument

  -- one argument for each that is written
  abbrev pub AreArguments : ℕ → List SigName → List (Option SigRef) → Type 0
  AreArguments number [] [] = ⊤
  AreArguments number (name ∷ names) (argument ∷ arguments) = IsArgument number name argument × AreArguments number names arguments
  AreArguments number [] (argument ∷ arguments) = ⊥
  AreArguments number (name ∷ names) [] = ⊥

  -- the arguments of an open: those that are written, or the enum, which is a sig of the instance of this number
  abbrev pub AreOf : ℕ → Opening → List (Option SigRef) → Type 0
  AreOf number (written o) arguments = AreArguments number o.arguments arguments
  AreOf number (implied e) arguments = arguments ≡ Some (record { instance = number; sig = e.sig }) ∷ []

module _ (is_text : List ℕ → ℕ → Type 0) (instances : List Instance) (texts : List Text) where
  -- an open of the instance of this number leads to an instance of its text with its arguments
  pub record IsLed (number : ℕ) (opening : Opening) (opened : Opened) : Type 0 where
    pub target : Instance
    pub leads : LeadsTo is_text instances (alias_of opening) (path_of opening) opened target
    pub given : AreOf instances texts number opening target.arguments

  -- the opens of the instance of this number, which has this module
  pub record AreLed (number : ℕ) (tree : Module) (opens : List Opened) : Type 0 where
    pub led : (k : ℕ) (o : Opening) → slice_get (openings_of tree) k ≡ Some o → (d : Opened) × (slice_get opens k ≡ Some d) × IsLed number o d
    pub ends : IsEnd is_text instances (length (openings_of tree)) opens

  -- the same of an instance, whose text is among these
  abbrev pub IsInstanceLed : ℕ → Instance → Type 0
  IsInstanceLed number i = (t : Text) → slice_get texts i.text ≡ Some t → AreLed number t.tree i.opens

  -- the opens of all instances
  abbrev pub AllLed : Type 0
  AllLed = (number : ℕ) (i : Instance) → slice_get instances number ≡ Some i → IsInstanceLed number i
