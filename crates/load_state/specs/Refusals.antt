-- The refusals of loading: the rules that a text can break while it is loaded.
use Rattle.std.specs.Prelude.{ℕ, ◌==◌, Bool, [], ◌∷◌}
use Rattle.std.specs.List.{list_any}
use Rattle.base_types.specs.Place.{number_of}
use Rattle.base_types.specs.declared.place.Position.{Position}
use Rattle.base_types.specs.declared.place.Refusal.{Refusal}
use Rattle.base_types.specs.declared.place.Rule.{Rule}

-- the rules that a text can break while it is loaded: those of its bytes, of its tokens, and of its opens
abbrev pub is_of_loading : Rule → Bool
is_of_loading rule = list_any (λ n. n == number_of rule) (1 ∷ 2 ∷ 3 ∷ 4 ∷ 10 ∷ 11 ∷ 20 ∷ 21 ∷ 22 ∷ 23 ∷ 24 ∷ [])

-- the first place of a text
abbrev pub start_of : ℕ → Position
start_of text = record { «module» = text; line = 1; column = 1 }

abbrev pub refusal_at : Rule → Position → Refusal
refusal_at rule place = record { rule = rule; place = place }
