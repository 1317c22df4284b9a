-- What a tree measures, as a number of its own and how deep the parameters of a body are used in it.
use Rattle.std.specs.Prelude.{◌≡◌, ℕ, ◌≤◌, max, List, [], ◌∷◌, length, Option, Some, None, slice_get}
use Rattle.core_tree.specs.declared.model.Body.{Body}
use Rattle.core_tree.specs.Trees.{Variables}
use Rattle.core_tree.specs.Past.{Depths, BodyDepths, with_depth, no_depths}
use Rattle.form_measures.specs.declared.forms.Measure.{Measure}
use Rattle.form_measures.specs.declared.weight.Use.{Use}
use Rattle.form_measures.specs.declared.weight.Weight.{Weight}
use Rattle.form_measures.specs.declared.scope.Named.{Named}
use Rattle.form_measures.specs.declared.measure.Summary.{Summary}
use Rattle.form_measures.specs.Measured.{up_to, raised, measured_bounds, measured_within, under}

-- the most that uses of parameters make, where the parameters measure this
abbrev pub most_used : Depths → List Use → ℕ
most_used d [] = 0
most_used d (u ∷ us) = max (raised u.depth (d u.parameter)) (most_used d us)

-- what a tree measures, where the parameters measure this
abbrev pub weight_at : Depths → Weight → ℕ
weight_at d w = up_to (max w.own (most_used d w.uses.items))

-- the names so far with those of a list, the innermost last
abbrev pub named_from : Depths → Depths → List Named → Depths
named_from d base [] = base
named_from d base (n ∷ ns) = named_from d (with_depth base n.name (weight_at d n.weight)) ns

abbrev pub named : Depths → List Named → Depths
named d names = named_from d no_depths names

-- what the arguments of a call measure
abbrev pub weight_there : Depths → Option Weight → ℕ
weight_there d None = 0
weight_there d (Some w) = weight_at d w

abbrev pub arguments_at : Depths → List Weight → Depths
arguments_at d weights p = weight_there d (slice_get weights p)

-- the one is the other, up to the greatest count
abbrev pub Counts : Depths → Depths → Type 0
Counts d e = (x : ℕ) → d x ≡ up_to (e x)

-- what is known of a body: how much it measures, whatever its parameters do
abbrev pub IsKnown : Summary → BodyDepths → ℕ → Type 0
IsKnown summary bodies body =
    (d e : Depths) → Counts d e → ((p : ℕ) → summary.count ≤ p → e p ≡ 0) → weight_at d summary.weight ≡ up_to (bodies body e)

abbrev pub AgreesAt : BodyDepths → ℕ → Option (Option Summary) → Type 0
AgreesAt bodies body None = Unit {0}
AgreesAt bodies body (Some None) = Unit {0}
AgreesAt bodies body (Some (Some summary)) = IsKnown summary bodies body

-- the bodies are those that are known so far
abbrev pub Agrees : BodyDepths → List (Option Summary) → Type 0
Agrees bodies summaries = (body : ℕ) → AgreesAt bodies body (slice_get summaries body)

-- what a tree measures under any bodies that are those known, whatever the parameters do
abbrev pub Weighs : List (Option Summary) → List Named → Weight → (BodyDepths → Depths → ℕ) → Type 0
Weighs summaries names w F =
    (bodies : BodyDepths) → Agrees bodies summaries → (d e : Depths) → Counts (named d names) e → weight_at d w ≡ up_to (F bodies e)

-- all bodies of a model are known
abbrev pub AreSummaries : Measure → List Body → List (Option Summary) → Type 0
AreSummaries m list summaries = Agrees (measured_within m list (length list)) summaries

-- the arguments of a call measure this, and there are as many
pub record AreWeighed (summaries : List (Option Summary)) (names : List Named) (weights : List Weight) (F : BodyDepths → Depths → Depths) : Type 0 where
  pub each : (bodies : BodyDepths) → Agrees bodies summaries → (d e : Depths) → Counts (named d names) e → Counts (arguments_at d weights) (F bodies e)
  pub none : (bodies : BodyDepths) (e : Depths) (p : ℕ) → length weights ≤ p → F bodies e p ≡ 0

-- the bounds of variables measure this, and the names are those under them
pub record IsUnder (m : Measure) (summaries : List (Option Summary)) (outer : List Named) (bounds : Weight) (inner : List Named) (vs : Variables) : Type 0 where
  pub bound : Weighs summaries outer bounds (λ bodies e. measured_bounds m bodies vs e)
  pub names : (d e : Depths) → Counts (named d outer) e → Counts (named d inner) (under vs e)

-- nothing is known of any body
abbrev pub AreUnknown : List (Option Summary) → Type 0
AreUnknown summaries = (body : ℕ) (o : Option Summary) → slice_get summaries body ≡ Some o → o ≡ None
