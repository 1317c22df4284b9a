-- What the opens of a module ask for: those that are written, and those that its enums imply.
use Rattle.std.specs.Prelude.{◌≡◌, ℕ, ◌+◌, Bool, false, List, [], ◌∷◌, ◌++◌, map, length, slice_get, string_bytes, Option, Some, None, codes, ⊤}
use Rattle.base_types.specs.declared.place.Position.{Position}
use Rattle.syntax_tree.specs.Instances.{sigs_in}
use Rattle.syntax_tree.specs.declared.expr.Named.{Named}
use Rattle.syntax_tree.specs.declared.expr.QualName.{QualName}
use Rattle.syntax_tree.specs.declared.instance.SigRef.{SigRef}
use Rattle.syntax_tree.specs.declared.instance.Text.{Text}
use Rattle.syntax_tree.specs.declared.module.Module.{Module}
use Rattle.syntax_tree.specs.declared.module.Open.{Open}
use Rattle.syntax_tree.specs.declared.module.Paragraph.{Paragraph}
use Rattle.syntax_tree.specs.declared.module.Paragraph.TheVariants as paragraph
use Rattle.syntax_tree.specs.declared.module.SigName.{SigName}
use Rattle.syntax_tree.specs.declared.module.SigName.TheVariants as sig_name
use Rattle.load_state.specs.Names.{path_bytes, last_part}
use Rattle.load_state.specs.declared.request.Request.{Request}
use Rattle.load_state.specs.declared.table.Enumerated.{Enumerated}

abbrev pub enum_in : ℕ → Paragraph → List Enumerated
enum_in n (paragraph.Enum e) = record { place = e.name.place; sig = n } ∷ []
enum_in n _ = []

-- the enums of paragraphs whose sigs are numbered from this number on
abbrev pub enums_from : ℕ → List Paragraph → List Enumerated
enums_from n [] = []
enums_from n (p ∷ ps) = enum_in n p ++ enums_from (n + sigs_in p) ps

abbrev pub enums_of : Module → List Enumerated
enums_of m = enums_from 0 m.paragraphs

-- an open that is written, or the one that an enum implies
pub data Opening : Type 0 where
  written : Open → Opening
  implied : Enumerated → Opening

-- the opens of a module: those that are written, then those that its enums imply
abbrev pub openings_of : Module → List Opening
openings_of m = map written m.opens ++ map implied (enums_of m)

abbrev pub path_of : Opening → List ℕ
path_of (written o) = path_bytes o.path
path_of (implied e) = codes "util/ordering"

abbrev pub alias_or : Option Named → List ℕ → List ℕ
alias_or None default = default
alias_or (Some alias) default = alias.name

-- the alias of an open: the one that is written, or the last part of its path
abbrev pub alias_of : Opening → List ℕ
alias_of (written o) = alias_or o.alias (last_part o.path.parts)
alias_of (implied e) = codes "ordering"

abbrev pub is_hidden : Opening → Bool
is_hidden (written o) = o.is_private
is_hidden (implied e) = false

-- the place of what is wrong with an open: that of its path, or of the enum
abbrev pub place_of : Opening → Position
place_of (written o) = o.path.place
place_of (implied e) = e.place

-- what a written argument stands for can be any sig, or `Int`; for `Int` itself it is that
abbrev pub Fits : SigName → Option SigRef → Type 0
Fits (sig_name.Int place) argument = argument ≡ None
Fits (sig_name.Name name) argument = ⊤

-- one argument for each that is written
abbrev pub AreFits : List SigName → List (Option SigRef) → Type 0
AreFits [] [] = ⊤
AreFits (name ∷ names) (argument ∷ arguments) = Fits name argument × AreFits names arguments
AreFits [] (argument ∷ arguments) = ⊥
AreFits (name ∷ names) [] = ⊥

-- the arguments fit what is written in an open, or are the enum, which is a sig of the instance of this number
abbrev pub AreFor : ℕ → Opening → List (Option SigRef) → Type 0
AreFor instance (written o) arguments = AreFits o.arguments arguments
AreFor instance (implied e) arguments = arguments ≡ Some (record { instance = instance; sig = e.sig }) ∷ []

-- what an open of the instance of this number asks for
pub record AsksFor (instance : ℕ) (opening : Opening) (request : Request) : Type 0 where
  pub path : string_bytes request.path ≡ path_of opening
  pub alias : request.alias ≡ alias_of opening
  pub place : request.place ≡ place_of opening
  pub hidden : request.is_private ≡ is_hidden opening
  pub arguments : AreFor instance opening request.arguments

-- the same of the open of this number of a text, where there is one
abbrev pub IsAsked : Option Text → ℕ → ℕ → Request → Type 0
IsAsked None instance number request = ⊥
IsAsked (Some t) instance number request = (o : Opening) × (slice_get (openings_of t.tree) number ≡ Some o) × AsksFor instance o request

-- the places of the alias and the arguments of a written open
pub data IsInOpen (o : Open) (p : Position) : Type 0 where
  of_alias : (alias : Named) → o.alias ≡ Some alias → p ≡ alias.place → IsInOpen o p
  of_argument : (k : ℕ) (name : QualName) → slice_get o.arguments k ≡ Some (sig_name.Name name) → p ≡ name.place → IsInOpen o p

-- the places at which loading can refuse the opens of a module
pub data IsOpenPlace (m : Module) (p : Position) : Type 0 where
  of_opening : (n : ℕ) (o : Opening) → slice_get (openings_of m) n ≡ Some o → p ≡ place_of o → IsOpenPlace m p
  within : (n : ℕ) (o : Open) → slice_get m.opens n ≡ Some o → IsInOpen o p → IsOpenPlace m p

abbrev pub IsPlaceOf : Option Text → Position → Type 0
IsPlaceOf None p = ⊥
IsPlaceOf (Some t) p = IsOpenPlace t.tree p

-- how many opens a text has
abbrev pub IsOpenCount : Option Text → ℕ → Type 0
IsOpenCount None count = ⊥
IsOpenCount (Some t) count = count ≡ length (openings_of t.tree)
