-- Walks along a list.
use Rattle.std.specs.Prelude.{◌≡◌, List, [], ◌∷◌}

-- the items in turn lead from the first spot to the last
abbrev pub Walks : {S X : Type 0} → (S → X → S → Type 0) → S → List X → S → Type 0
Walks R s [] t = s ≡ t
Walks {S = S} R s (x ∷ xs) t = (u : S) × R s x u × Walks R u xs t
