-- The order of the walk over opens, the labels that it gives, and its first refusal. A point of
-- the walk is a list of numbers, and points are passed in the order of such lists, as words are in
-- a dictionary.
use Rattle.std.specs.Prelude.{◌≡◌, ◌≢◌, ℕ, ◌+◌, ◌<◌, ◌≤◌, List, [], ◌∷◌, ◌++◌, length, slice_get, Some, None, codes, decimal, ⊤}
use Rattle.std.specs.List.{AllPairs}
use Rattle.base_types.specs.Texts.{Texts, text_of}
use Rattle.base_types.specs.declared.limits.TheConstants.{MODULE_INSTANCES}
use Rattle.base_types.specs.declared.place.Refusal.{Refusal}
use Rattle.base_types.specs.declared.place.Rule.TheVariants as rule
use Rattle.syntax_tree.specs.Instances.{parameter_count}
use Rattle.syntax_tree.specs.declared.expr.Named.{Named}
use Rattle.syntax_tree.specs.declared.expr.QualName.{QualName}
use Rattle.syntax_tree.specs.declared.module.Module.{Module}
use Rattle.syntax_tree.specs.declared.module.Open.{Open}
use Rattle.syntax_tree.specs.declared.module.SigName.TheVariants as sig_name
use Rattle.load_state.specs.Opens.{Opening, written, implied, openings_of, alias_of, path_of, place_of}
use Rattle.load_state.specs.Refusals.{start_of, refusal_at}
use Rattle.load_modules.specs.Told.{near_name, far_name, IsAbsent, IsFound, IsModuleUnder}
use Rattle.load_modules.specs.Refused.{IsOfBytes}
use Rattle.load_modules.specs.Instances.{Given, given, Arguments, nothing, Candidate, text_of_given, HasTree, Asks, Leads, Names}

abbrev pub Point : Type 0
Point = List ℕ

-- the front of a list comes before it, and else the first number that differs decides
pub data Before : Point → Point → Type 0 where
  shorter : (n : ℕ) (rest : Point) → Before [] (n ∷ rest)
  lower : (a b : ℕ) (x y : Point) → a < b → Before (a ∷ x) (b ∷ y)
  further : (n : ℕ) (x y : Point) → Before x y → Before (n ∷ x) (n ∷ y)

abbrev pub argument_count : Opening → ℕ
argument_count (written o) = length o.arguments
argument_count (implied e) = 1

-- the aliases of a way, with a slash between two
abbrev pub slashed_to : List ℕ → List ℕ → List ℕ
slashed_to [] alias = alias
slashed_to (b ∷ path) alias = (b ∷ path) ++ 47 ∷ alias

-- the label of a way, when these labels are taken: the way itself, or it with `$` and the least number from 2 on that makes it
-- new
pub data IsLabel (taken : List (List ℕ)) (way : List ℕ) : List ℕ → Type 0 where
  plain : ((k : ℕ) → slice_get taken k ≢ Some way) → IsLabel taken way way
  counted : (other n : ℕ) → slice_get taken other ≡ Some way → 2 ≤ n → ((k : ℕ) → slice_get taken k ≢ Some (way ++ 36 ∷ decimal n)) →
      ((m : ℕ) → 2 ≤ m → m < n → (k : ℕ) × (slice_get taken k ≡ Some (way ++ 36 ∷ decimal m))) → IsLabel taken way (way ++ 36 ∷ decimal n)

-- the labels of ways in the order of loading
abbrev pub AreLabels : List (List ℕ) → List (List ℕ) → List (List ℕ) → Type 0
AreLabels taken [] [] = ⊤
AreLabels taken (way ∷ ways) (label ∷ labels) = IsLabel taken way label × AreLabels (taken ++ label ∷ []) ways labels
AreLabels taken [] (label ∷ labels) = ⊥
AreLabels taken (way ∷ ways) [] = ⊥

module _ (told : List Texts) (root : List ℕ) (tree : Module) where
  -- the point of the open of the integers: it is the root's, behind all its others
  abbrev pub of_integers : Point
  of_integers = 1 ∷ length (openings_of tree) ∷ []

  -- The instance in which the walk stands at a point, and the aliases by which it came there. The checks of an open have the
  -- numbers 0 to 8 after its own, and what is behind it the number 9.
  pub data StandsAt : Point → Given → List ℕ → Type 0 where
    at_root : StandsAt (1 ∷ []) (given root nothing) []
    behind : (p : Point) (i j : Given) (way : List ℕ) (k : ℕ) (asked : Opening) → StandsAt p i way → Asks told root tree i k asked → Leads told root tree i k j →
        StandsAt (p ++ k ∷ 9 ∷ []) j (slashed_to way (alias_of asked))
    at_integers : (text : List ℕ) → IsFound told root (codes "util/integer") text → StandsAt (of_integers ++ 9 ∷ []) (given text nothing) (codes "integer")

  -- the point at which an instance is met first, and the way there
  pub record IsMet (i : Given) (p : Point) (way : List ℕ) : Type 0 where
    pub stands : StandsAt p i way
    pub first : (q : Point) (other : List ℕ) → Before q p → StandsAt q i other → ⊥

  -- all instances with their ways, in the order of loading
  pub record IsLoadOrder (instances : List Given) (ways : List (List ℕ)) : Type 0 where
    pub points : List Point
    pub met : (n : ℕ) (i : Given) → slice_get instances n ≡ Some i → (p : Point) × (way : List ℕ) × (slice_get points n ≡ Some p) × (slice_get ways n ≡ Some way) × IsMet i p way
    pub rising : AllPairs Before points
    pub all : (p : Point) (i : Given) (way : List ℕ) → IsMet i p way → (n : ℕ) × (slice_get instances n ≡ Some i)

  -- a text stands on the chain of opens that leads to a point
  pub data IsOnChain (p : Point) (text : List ℕ) : Type 0 where
    on_chain : (q rest : Point) (arguments : Arguments) (way : List ℕ) → StandsAt q (given text arguments) way → p ≡ q ++ rest → IsOnChain p text

  -- a name in an argument names just one sig or parameter
  abbrev pub NamesOne : Given → ℕ → QualName → Type 0
  NamesOne i k name = (c : Candidate) × Names told root tree i k name c × ((other : Candidate) → Names told root tree i k name other → other ≡ c)

  -- A rule is broken at a point of the walk, at this place of the text of this name. The number of that text in the place is any.
  pub data IsBroken : Point → Refusal → List ℕ → Type 0 where
    alias_twice : (p : Point) (i : Given) (way : List ℕ) (k earlier : ℕ) (o e : Open) (a b : Named) → StandsAt p i way → Asks told root tree i k (written o) →
        Asks told root tree i earlier (written e) → earlier < k → o.alias ≡ Some a → e.alias ≡ Some b → a.name ≡ b.name →
        IsBroken (p ++ k ∷ 0 ∷ []) (refusal_at rule.AliasTwice a.place) (text_of_given i)
    argument : (p : Point) (i : Given) (way : List ℕ) (k n : ℕ) (o : Open) (name : QualName) → StandsAt p i way → Asks told root tree i k (written o) →
        slice_get o.arguments n ≡ Some (sig_name.Name name) → (NamesOne i k name → ⊥) → IsBroken (p ++ k ∷ 1 ∷ n ∷ []) (refusal_at rule.ModuleArguments name.place) (text_of_given i)
    cycle : (p : Point) (i : Given) (way text : List ℕ) (k : ℕ) (asked : Opening) → StandsAt p i way → Asks told root tree i k asked → IsFound told root (path_of asked) text →
        IsOnChain p text → IsBroken (p ++ k ∷ 2 ∷ []) (refusal_at rule.ModuleCycle (place_of asked)) (text_of_given i)
    no_module : (p : Point) (i : Given) (way : List ℕ) (k : ℕ) (asked : Opening) → StandsAt p i way → Asks told root tree i k asked →
        IsAbsent told root (near_name root (path_of asked)) → IsAbsent told root (far_name (path_of asked)) →
        IsBroken (p ++ k ∷ 3 ∷ []) (refusal_at rule.NoModule (place_of asked)) (text_of_given i)
    text_breaks : (p : Point) (i : Given) (way text bytes : List ℕ) (k number : ℕ) (asked : Opening) (r : Refusal) → StandsAt p i way → Asks told root tree i k asked →
        IsFound told root (path_of asked) text → text ≢ root → text_of told text ≡ Some bytes → IsOfBytes bytes number r → IsBroken (p ++ k ∷ 4 ∷ []) r text
    arguments : (p : Point) (i : Given) (way text : List ℕ) (k : ℕ) (asked : Opening) (m : Module) → StandsAt p i way → Asks told root tree i k asked →
        IsFound told root (path_of asked) text → HasTree told root tree (given text nothing) m → argument_count asked ≢ parameter_count m →
        IsBroken (p ++ k ∷ 7 ∷ []) (refusal_at rule.ModuleArguments (place_of asked)) (text_of_given i)
    too_many : (p : Point) (i j : Given) (way : List ℕ) (k : ℕ) (asked : Opening) (others : List Given) → StandsAt p i way → Asks told root tree i k asked →
        Leads told root tree i k j → AllPairs (λ a b. a ≢ b) others → MODULE_INSTANCES ≤ length others →
        ((n : ℕ) (l : Given) → slice_get others n ≡ Some l → (l ≢ j) × (q : Point) × (w : List ℕ) × StandsAt q l w × (q ≢ of_integers ++ 9 ∷ []) × Before q (p ++ k ∷ 8 ∷ [])) →
        IsBroken (p ++ k ∷ 8 ∷ []) (refusal_at rule.TooManyModules (place_of asked)) (text_of_given i)
    root_parameters : parameter_count tree ≢ 0 → IsBroken (0 ∷ []) (refusal_at rule.ModuleArguments (start_of 0)) root
    integers_break : (text bytes : List ℕ) (number : ℕ) (r : Refusal) → IsFound told root (codes "util/integer") text → text ≢ root → text_of told text ≡ Some bytes →
        IsOfBytes bytes number r → IsBroken (of_integers ++ 4 ∷ []) r text
    integers_parameters : (text : List ℕ) (m : Module) → IsFound told root (codes "util/integer") text → HasTree told root tree (given text nothing) m → parameter_count m ≢ 0 →
        IsBroken (of_integers ++ 7 ∷ []) (refusal_at rule.ModuleArguments (start_of 0)) root

  -- the walk's first refusal: nothing is broken at an earlier point
  pub record IsFirstRefusal (r : Refusal) (text : List ℕ) : Type 0 where
    pub point : Point
    pub broken : IsBroken point r text
    pub nothing_before : (q : Point) (other : Refusal) (name : List ℕ) → Before q point → IsBroken q other name → ⊥

-- what `load` refuses: there is no root, or its text breaks a rule by itself, or the walk has a first refusal
pub data RefusesLoad (told : List Texts) (root : List ℕ) : Refusal → List ℕ → Type 0 where
  no_root : text_of told root ≡ None → RefusesLoad told root (refusal_at rule.NoModule (start_of 0)) root
  root_breaks : (bytes : List ℕ) (r : Refusal) → text_of told root ≡ Some bytes → IsOfBytes bytes 0 r → RefusesLoad told root r root
  in_the_walk : (tree : Module) (r : Refusal) (text : List ℕ) → IsModuleUnder told root 0 tree → IsFirstRefusal told root tree r text → RefusesLoad told root r text
