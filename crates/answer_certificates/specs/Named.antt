-- How facts are named by their numbers.
use Rattle.std.specs.Prelude.{◌≡◌, ℕ, List, map, Some, option_map, slice_get}
use Rattle.syntax_tree.specs.declared.loaded.Loaded.{Loaded}
use Rattle.answer_texts.specs.Facts.{name_in}
use Rattle.answer_texts.specs.declared.fact.FactName.{FactName}
use Rattle.core_tree.specs.declared.model.Fact.{Fact}

-- these are the names of the facts of these numbers
abbrev pub AreNamed : Loaded → List Fact → List ℕ → List FactName → Type 0
AreNamed loaded facts kept names = map (λ name. Some name) names ≡ map (λ number. option_map (name_in loaded) (slice_get facts number)) kept
