-- The rules on scopes that look into trees, each with the places at which it is broken.
-- The trees are those that count for a command, or the value that is asked for.
use Rattle.std.specs.Prelude.{◌≡◌, ℕ, ℤ, pos, negsuc, ◌-◌, ◌^◌, nat_lt, nat_le, Bool, true, List, [], ◌∷◌, ◌++◌, Contains, Option, Some, None, slice_get}
use Rattle.base_types.specs.declared.place.Position.{Position}
use Rattle.core_tree.specs.declared.model.Model.{Model}
use Rattle.core_tree.specs.declared.model.Origin.{Origin}
use Rattle.core_tree.specs.declared.model.Sig.{Sig}
use Rattle.core_tree.specs.declared.model.Field.{Field}
use Rattle.core_tree.specs.declared.model.FieldBound.{FieldBound}
use Rattle.core_tree.specs.declared.model.Fact.{Fact}
use Rattle.core_tree.specs.declared.model.Body.{Body}
use Rattle.core_tree.specs.declared.model.Command.{Command}
use Rattle.core_tree.specs.declared.tree.Formula.{Formula}
use Rattle.core_tree.specs.Trees.{Term, Claim, term_of, claim_of}
use Rattle.core_tree.specs.Past.{no_depths, past_in, past_of, body_depths}
use Rattle.bound_definitions.specs.declared.mention.Mention.{Mention}
use Rattle.bound_definitions.specs.declared.mention.Mention.TheVariants as mention
use Rattle.bound_definitions.specs.Mentions.{mentions_in, mentions_of, mentions_of_body}
use Rattle.bound_definitions.specs.Depth.{depth_in, depth_of, inlined_depths}
use Rattle.bound_definitions.specs.Places.{place_if, each}
use Rattle.bound_definitions.specs.Rules.{in_root}

-- a formula or an expression
pub data Tree : Type 0 where
  formula : Claim → Tree
  expression : Term → Tree

-- a tree that counts, with the beginning of its paragraph
pub record Counted : Type 0 where
  pub at : Origin
  pub tree : Tree

abbrev pub counted_at : Option Origin → Option Tree → List Counted
counted_at (Some at) (Some tree) = record { at = at; tree = tree } ∷ []
counted_at _ _ = []

abbrev pub appended_tree : Option Formula → Option Tree
appended_tree None = None
appended_tree (Some f) = Some (formula (claim_of f))

-- a sig's appended fact
abbrev pub counted_sig : Sig → List Counted
counted_sig d = counted_at d.origin (appended_tree d.appended)

abbrev pub origin_there : Option Sig → Option Origin
origin_there None = None
origin_there (Some d) = d.origin

-- where the paragraph of a field's sig begins
abbrev pub origin_of : List Sig → Option ℕ → Option Origin
origin_of sigs None = None
origin_of sigs (Some s) = origin_there (slice_get sigs s)

abbrev pub bound_tree : Option FieldBound → Option Tree
bound_tree None = None
bound_tree (Some b) = Some (expression (term_of b.bound.expr))

-- a field's bound
abbrev pub counted_field : List Sig → Field → List Counted
counted_field sigs f = counted_at (origin_of sigs f.owner) (bound_tree f.declared)

abbrev pub counted_fact : Fact → List Counted
counted_fact d = record { at = record { instance = d.instance; place = d.place }; tree = formula (claim_of d.formula) } ∷ []

abbrev pub counted_command : Command → List Counted
counted_command c = record { at = in_root c.first; tree = formula (claim_of c.formula) } ∷ []

-- the trees that count for a command: appended facts, the bounds of fields, facts, and the command's formula
abbrev pub counted : Model → Command → List Counted
counted model command = each counted_sig model.sigs ++ (each (counted_field model.sigs) model.fields ++ (each counted_fact model.facts ++ counted_command command))

-- the instance of a value, which comes after all others
abbrev pub value_instance : ℕ
value_instance = 4294967295

-- a value that is asked for, with its first token
abbrev pub counted_value : Term → Position → List Counted
counted_value value first = record { at = record { instance = value_instance; place = first }; tree = expression value } ∷ []

abbrev pub mentions_by : ℕ → Tree → List Mention
mentions_by instance (formula f) = mentions_of instance f
mentions_by instance (expression e) = mentions_in instance e

abbrev pub mentions_of_tree : Counted → List Mention
mentions_of_tree c = mentions_by c.at.instance c.tree

-- how far a number is from 0, or from -1 where it is negative
abbrev pub distance : ℤ → ℕ
distance (pos n) = n
distance (negsuc n) = n

-- a number is outside -half to half - 1
abbrev pub is_outside : ℕ → ℤ → Bool
is_outside half n = nat_le half (distance n)

-- it isn't one of the bitwidth
abbrev pub is_wide : ℕ → ℤ → Bool
is_wide bits n = is_outside (2 ^ (bits - 1)) n

-- what the trees mention, and what each body does that is itself mentioned as called
pub data IsMentioned (bodies : List Body) (trees : List Counted) : Mention → Type 0 where
  in_tree : {m : Mention} (c : Counted) → Contains trees c → Contains (mentions_of_tree c) m → IsMentioned bodies trees m
  in_body : {m : Mention} (b : ℕ) (body : Body) → IsMentioned bodies trees (mention.Call b) → slice_get bodies b ≡ Some body → Contains (mentions_of_body body) m → IsMentioned bodies trees m

-- how many past operators a tree nests, and how deep it is, once calls are written out
abbrev pub past_of_tree : List Body → Tree → ℕ
past_of_tree bodies (formula f) = past_of (body_depths bodies) f no_depths
past_of_tree bodies (expression e) = past_in (body_depths bodies) e no_depths

abbrev pub depth_of_tree : List Body → Tree → ℕ
depth_of_tree bodies (formula f) = depth_of (inlined_depths bodies) f no_depths
depth_of_tree bodies (expression e) = depth_in (inlined_depths bodies) e no_depths

module _ (bodies : List Body) (trees : List Counted) where
  -- S46: a number outside the bitwidth is mentioned
  abbrev pub IsWideAt : ℕ → Origin → Type 0
  IsWideAt bits at = (n : ℤ) × IsMentioned bodies trees (mention.Number n at) × (is_wide bits n ≡ true)

  -- S48: where trees begin that nest over 8 past operators
  abbrev pub deep_past : List Origin
  deep_past = each (λ (c : Counted). place_if (nat_lt 8 (past_of_tree bodies c.tree)) c.at) trees

  -- S49: where trees begin whose depth is over 2,000 once calls are written out
  abbrev pub deep_calls : List Origin
  deep_calls = each (λ (c : Counted). place_if (nat_lt 2000 (depth_of_tree bodies c.tree)) c.at) trees
