-- The names and texts of the library.
use Rattle.std.specs.Prelude.{[], ◌∷◌, codes}
use Rattle.base_types.specs.Texts.{Texts}
use Rattle.base_library.specs.declared.texts.TheConstants.{ORDERING, INTEGER, BOOLEAN, RELATION, TERNARY}

abbrev pub more_texts : Texts
more_texts =
    (codes "util/boolean.als", BOOLEAN.now)
    ∷ (codes "util/relation.als", RELATION.now)
    ∷ (codes "util/ternary.als", TERNARY.now)
    ∷ []

abbrev pub embedded_texts : Texts
embedded_texts = (codes "util/ordering.als", ORDERING.now) ∷ (codes "util/integer.als", INTEGER.now) ∷ more_texts
