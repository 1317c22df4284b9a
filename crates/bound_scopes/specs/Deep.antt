-- The two limits on depth.
use Rattle.std.specs.Prelude.{ℕ, nat_lt, Bool, List}
use Rattle.core_tree.specs.declared.model.Origin.{Origin}
use Rattle.core_tree.specs.declared.model.Body.{Body}
use Rattle.bound_definitions.specs.Places.{place_if, each}
use Rattle.bound_definitions.specs.Trees.{Tree, Counted, past_of_tree, depth_of_tree}
use Rattle.form_measures.specs.declared.forms.Measure.{Measure}
use Rattle.form_measures.specs.declared.forms.Measure.TheVariants.{Past, Depth}

abbrev pub limit_of : Measure → ℕ
limit_of Past = 8
limit_of Depth = 2000

abbrev pub is_deep : Measure → List Body → Tree → Bool
is_deep Past bodies tree = nat_lt 8 (past_of_tree bodies tree)
is_deep Depth bodies tree = nat_lt 2000 (depth_of_tree bodies tree)

abbrev pub deep_places : Measure → List Body → List Counted → List Origin
deep_places measure bodies trees = each (λ (c : Counted). place_if (is_deep measure bodies c.tree) c.at) trees
