-- The variables of a list one after another, as the names before them grow.
use Rattle.std.specs.Prelude.{ℕ, zero, suc, List, [], ◌∷◌, take}
use Rattle.core_tree.specs.Trees.{Binder, empty}
use Rattle.form_kernel.specs.Single.{without}

-- the names of variables onto those before them, the latest first
abbrev pub names_onto : List Binder → List ℕ → List ℕ
names_onto [] names = names
names_onto (v ∷ vs) names = names_onto vs (v.name ∷ names)

-- the variable at a place, by itself
abbrev pub alone_at : List ℕ → List Binder → ℕ → Binder
alone_at before [] place = record { name = 0; apart = 0; bound = empty }
alone_at before (v ∷ vs) zero = record { name = v.name; apart = 0; bound = without v.bound (take v.apart before) }
alone_at before (v ∷ vs) (suc place) = alone_at (v.name ∷ before) vs place
