-- The instances of a root: the least set of texts with arguments that holds the root without
-- arguments and is closed under opens, those that enums imply and that of the integers among them.
-- Nothing here says in which order they are found.
use Rattle.std.specs.Prelude.{◌≡◌, ◌≢◌, ℕ, zero, suc, ◌+◌, ◌<◌, Bool, false, List, [], ◌∷◌, length, slice_get, Option, Some, None, codes}
use Rattle.base_types.specs.Texts.{Texts}
use Rattle.base_types.specs.declared.place.Position.{Position}
use Rattle.syntax_tree.specs.declared.expr.QualName.{QualName}
use Rattle.syntax_tree.specs.declared.module.Module.{Module}
use Rattle.syntax_tree.specs.declared.module.Open.{Open}
use Rattle.syntax_tree.specs.declared.module.SigName.{SigName}
use Rattle.syntax_tree.specs.declared.module.SigName.TheVariants as sig_name
use Rattle.load_state.specs.Named.{front_of}
use Rattle.load_state.specs.Names.{path_bytes, last_part}
use Rattle.load_state.specs.Opens.{Opening, written, implied, openings_of, alias_of, is_hidden}
use Rattle.load_state.specs.Sigs.{sigs_of, parameters_of}
use Rattle.load_state.specs.declared.table.DeclaredSig.{DeclaredSig}
use Rattle.load_state.specs.declared.table.Enumerated.{Enumerated}
use Rattle.load_modules.specs.Told.{IsModuleUnder, IsFound}

-- an instance is the name of its text with its arguments, each a sig of an instance, by its number among the sigs of the text, or
-- `Int`
mutual
  pub data Given : Type 0 where
    given : (text : List ℕ) → (arguments : Arguments) → Given

  pub data Arguments : Type 0 where
    nothing : Arguments
    int_and : Arguments → Arguments
    sig_and : Given → (sig : ℕ) → Arguments → Arguments

-- what an argument stands for: a sig of an instance, or `Int`
abbrev pub Argument : Type 0
Argument = Option (Given × ℕ)

abbrev pub with_argument : Argument → Arguments → Arguments
with_argument None rest = int_and rest
with_argument (Some a) rest = sig_and a.0 a.1 rest

abbrev pub argument_at : Arguments → ℕ → Option Argument
argument_at nothing n = None
argument_at (int_and rest) zero = Some None
argument_at (int_and rest) (suc n) = argument_at rest n
argument_at (sig_and i sig rest) zero = Some (Some (i, sig))
argument_at (sig_and i sig rest) (suc n) = argument_at rest n

-- what a name in an argument names: a sig by its number, or a parameter by its number
pub data Candidate : Type 0 where
  a_sig : Given → (sig : ℕ) → Candidate
  a_parameter : (number : ℕ) → Candidate

abbrev pub text_of_given : Given → List ℕ
text_of_given (given text arguments) = text

module _ (told : List Texts) (root : List ℕ) (tree : Module) where
  -- the instance's text has this tree: the root the one that was given, another text that which a library has
  pub data HasTree : Given → Module → Type 0 where
    the_root : (arguments : Arguments) → HasTree (given root arguments) tree
    a_text : (text : List ℕ) (arguments : Arguments) (number : ℕ) (m : Module) → text ≢ root → IsModuleUnder told text number m → HasTree (given text arguments) m

  -- the open of this number of an instance is this one
  pub data Asks : Given → ℕ → Opening → Type 0 where
    asks : (i : Given) (m : Module) (k : ℕ) (asked : Opening) → HasTree i m → slice_get (openings_of m) k ≡ Some asked → Asks i k asked

  -- a sig of the instance has this number and name; it may be private or not
  pub data HasSig : Given → ℕ → List ℕ → Bool → Type 0 where
    has_sig : (i : Given) (m : Module) (sig : ℕ) (name : List ℕ) (hidden : Bool) → HasTree i m → slice_get (sigs_of m) sig ≡ Some (record { name = name; is_private = hidden }) → HasSig i sig name hidden

  -- what a candidate stands for in an instance
  pub data StandsFor : Given → Candidate → Argument → Type 0 where
    for_sig : (i j : Given) (sig : ℕ) → StandsFor i (a_sig j sig) (Some (j, sig))
    for_parameter : (text : List ℕ) (arguments : Arguments) (number : ℕ) (a : Argument) → argument_at arguments number ≡ Some a →
        StandsFor (given text arguments) (a_parameter number) a

  mutual
    -- the open of this number leads from an instance to another
    pub data Leads : Given → ℕ → Given → Type 0 where
      written_open : (i : Given) (k : ℕ) (o : Open) (text : List ℕ) (arguments : Arguments) → Asks i k (written o) → IsFound told root (path_bytes o.path) text →
          AreGiven i k o.arguments arguments → Leads i k (given text arguments)
      implied_open : (i : Given) (k : ℕ) (e : Enumerated) (text : List ℕ) → Asks i k (implied e) → IsFound told root (codes "util/ordering") text →
          Leads i k (given text (sig_and i e.sig nothing))

    -- what the arguments of the open of this number stand for
    pub data AreGiven : Given → ℕ → List SigName → Arguments → Type 0 where
      none_given : (i : Given) (k : ℕ) → AreGiven i k [] nothing
      int_given : (i : Given) (k : ℕ) (place : Position) (names : List SigName) (arguments : Arguments) → AreGiven i k names arguments →
          AreGiven i k (sig_name.Int place ∷ names) (int_and arguments)
      name_given : (i : Given) (k : ℕ) (name : QualName) (c : Candidate) (a : Argument) (names : List SigName) (arguments : Arguments) → Names i k name c → StandsFor i c a →
          AreGiven i k names arguments → AreGiven i k (sig_name.Name name ∷ names) (with_argument a arguments)

    -- What a name in the open of this number names. Without aliases before its last part it is a sig of its own module or a parameter,
    -- or, where `this/` isn't before it, a sig that an earlier open reaches; after aliases it is a sig that they lead to.
    pub data Names : Given → ℕ → QualName → Candidate → Type 0 where
      own_sig : (i : Given) (k : ℕ) (name : QualName) (sig : ℕ) (hidden : Bool) → front_of name.parts ≡ [] → HasSig i sig (last_part name.parts) hidden →
          Names i k name (a_sig i sig)
      own_parameter : (i : Given) (k : ℕ) (name : QualName) (m : Module) (number : ℕ) → front_of name.parts ≡ [] → HasTree i m →
          slice_get (parameters_of m) number ≡ Some (last_part name.parts) → Names i k name (a_parameter number)
      reached : (i : Given) (k earlier : ℕ) (j l : Given) (name : QualName) (sig : ℕ) → name.is_own ≡ false → front_of name.parts ≡ [] → earlier < k →
          Leads i earlier j → Reaches j l → HasSig l sig (last_part name.parts) false → Names i k name (a_sig l sig)
      through : (i : Given) (k earlier : ℕ) (j l : Given) (name : QualName) (asked : Opening) (aliases : List (List ℕ)) (sig : ℕ) →
          front_of name.parts ≡ alias_of asked ∷ aliases → earlier < k → Asks i earlier asked → Leads i earlier j → Follows j aliases l →
          HasSig l sig (last_part name.parts) false → Names i k name (a_sig l sig)

    -- by opens that aren't private one instance reaches another
    pub data Reaches : Given → Given → Type 0 where
      itself : (i : Given) → Reaches i i
      further : (i j l : Given) (k : ℕ) (asked : Opening) → Asks i k asked → is_hidden asked ≡ false → Leads i k j → Reaches j l → Reaches i l

    -- by opens with these aliases in turn, which aren't private, one instance leads to another
    pub data Follows : Given → List (List ℕ) → Given → Type 0 where
      no_alias : (i : Given) → Follows i [] i
      an_alias : (i j l : Given) (k : ℕ) (asked : Opening) (aliases : List (List ℕ)) → Asks i k asked → is_hidden asked ≡ false → Leads i k j →
          Follows j aliases l → Follows i (alias_of asked ∷ aliases) l

  -- the instances of the root
  pub data IsInstance : Given → Type 0 where
    first : IsInstance (given root nothing)
    opened : (i j : Given) (k : ℕ) → IsInstance i → Leads i k j → IsInstance j
    integers : (text : List ℕ) → IsFound told root (codes "util/integer") text → IsInstance (given text nothing)
