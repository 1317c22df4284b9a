-- Which sigs the opens of a model give to `exactly` parameters, and that its sigs say just that.
use Rattle.std.specs.Prelude.{◌≡◌, ℕ, zero, suc, ◌==◌, if◌then◌else◌, List, [], ◌∷◌, ◌++◌, length, map, flat_map, Option, Some, None, slice_get}
use Rattle.base_types.specs.declared.place.Position.{Position}
use Rattle.syntax_tree.specs.declared.module.Module.{Module}
use Rattle.syntax_tree.specs.declared.module.Open.{Open}
use Rattle.syntax_tree.specs.declared.module.Paragraph.{Paragraph}
use Rattle.syntax_tree.specs.declared.module.Paragraph.TheVariants as paragraph
use Rattle.syntax_tree.specs.declared.module.Parameter.{Parameter}
use Rattle.syntax_tree.specs.declared.instance.Instance.{Instance}
use Rattle.syntax_tree.specs.declared.instance.Opened.{Opened}
use Rattle.syntax_tree.specs.declared.instance.SigRef.{SigRef}
use Rattle.syntax_tree.specs.declared.instance.Text.{Text}
use Rattle.core_tree.specs.declared.model.Origin.{Origin}
use Rattle.core_tree.specs.declared.model.Sig.{Sig}
use Rattle.resolve_names.specs.declared.table.Namespace.{Namespace}
use Rattle.resolve_names.specs.Gathered.{module_of, number_in, parameters_of}

-- the place of an open's path
abbrev pub path_place : Open → Position
path_place o = o.path.place

-- an enum implies an open, for which its name stands
abbrev pub enum_places : Paragraph → List Position
enum_places (paragraph.Enum e) = e.name.place ∷ []
enum_places _ = []

-- the places of the opens of a module: those that are written, then those that its enums imply
abbrev pub open_places : Module → List Position
open_places m = map path_place m.opens ++ flat_map enum_places m.paragraphs

-- a sig by its number, and the open that gives it to an `exactly` parameter
pub record Gift : Type 0 where
  pub sig : ℕ
  pub open_at : Origin

-- what the first n places have, one behind the other
abbrev pub in_turn : {X : Type 0} → (ℕ → List X) → ℕ → List X
in_turn at zero = []
in_turn at (suc n) = in_turn at n ++ at n

-- an argument of an open is given where it is a sig, and its parameter has `exactly`
abbrev pub gifts_for : List Namespace → Origin → Option Parameter → Option (Option SigRef) → List Gift
gifts_for scopes origin (Some p) (Some (Some r)) = if p.is_exact then record { sig = number_in scopes r; open_at = origin } ∷ [] else []
gifts_for scopes origin _ _ = []

-- the arguments of an open, by the parameters of the module that it opens
abbrev pub gifts_with : List Namespace → Origin → List Parameter → List (Option SigRef) → List Gift
gifts_with scopes origin ps xs = in_turn (λ n. gifts_for scopes origin (slice_get ps n) (slice_get xs n)) (length xs)

module _ (texts : List Text) (instances : List Instance) (scopes : List Namespace) where
  -- what an open of this instance gives
  abbrev pub gifts_to : Origin → Option Instance → List Gift
  gifts_to origin None = []
  gifts_to origin (Some x) = gifts_with scopes origin (parameters_of (module_of texts x).header) x.arguments

  -- what an open of instance k gives, by its place and where it leads
  abbrev pub gifts_by : ℕ → Option Position → Option Opened → List Gift
  gifts_by k (Some place) (Some o) = gifts_to (record { instance = k; place = place }) (slice_get instances o.instance)
  gifts_by k _ _ = []

  -- what opens of instance k give, which have these places
  abbrev pub gifts_among : ℕ → List Position → List Opened → List Gift
  gifts_among k places opens = in_turn (λ n. gifts_by k (slice_get places n) (slice_get opens n)) (length opens)

  -- what all opens of instance k give
  abbrev pub gifts_in : ℕ → Option Instance → List Gift
  gifts_in k None = []
  gifts_in k (Some x) = gifts_among k (open_places (module_of texts x)) x.opens

  -- what all opens of all instances give, in load order and then text order
  abbrev pub gifts : List Gift
  gifts = in_turn (λ k. gifts_in k (slice_get instances k)) (length instances)

-- the first open that gives the sig of number s
abbrev pub first_open : ℕ → List Gift → Option Origin
first_open s [] = None
first_open s (g ∷ gs) = if g.sig == s then Some g.open_at else first_open s gs

-- Each sig of the model has `exactly` just where an open of an instance gives it to an `exactly` parameter; and it is by the first
-- of these opens.
abbrev pub AreOpensTold : List Text → List Instance → List Namespace → List Sig → Type 0
AreOpensTold texts instances scopes sigs = (s : ℕ) (d : Sig) → slice_get sigs s ≡ Some d → d.exactly ≡ first_open s (gifts texts instances scopes)
