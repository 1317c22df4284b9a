-- That each lasso can be renamed.
use Rattle.std.specs.Prelude.{◌≡◌, ◌≤◌, length}
use Rattle.core_tree.specs.declared.model.Model.{Model}
use Rattle.core_meaning.specs.declared.scopes.Scopes.{Scopes}
use Rattle.core_meaning.specs.Sequence.{LassoValue}
use Rattle.core_meaning.specs.Kept.{FitsModel, atom_count}
use Rattle.core_laws.specs.Typed.{HasSets}
use Rattle.core_renaming.specs.Renamings.{Renaming, KeepsIntegers, ShowsRenamed}

-- A lasso over a model's relations and the universe of its scopes, with at most 16,384 atoms, has one of the same form that shows
-- its relations renamed.
abbrev pub LassosHaveRenamed : Type 0
LassosHaveRenamed =
    (model : Model) (scopes : Scopes) (r : Renaming) (lasso : LassoValue) → KeepsIntegers scopes r → atom_count scopes.numbers ≤ 16384 → FitsModel model scopes lasso → HasSets lasso →
    (other : LassoValue) × ShowsRenamed scopes r lasso other × FitsModel model scopes other × HasSets other × (length other.states ≡ length lasso.states) × (other.loop_start ≡ lasso.loop_start)
