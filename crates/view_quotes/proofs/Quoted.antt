-- What a text that is written behind another adds to the bytes that pass a test.
use Rattle.std.proofs.Common.{◌≡◌, ℕ, Bool, false, List, [], ◌∷◌, ◌++◌, ap, ◌∙◌, refl}
use Rattle.std.specs.List.{filter}
use Rattle.std.proofs.lemmas.List.{append-nil}
use Rattle.std.proofs.lemmas.List.Elements.{filter-append}

-- a text of which none passes
pub more : (p : ℕ → Bool) (old text : List ℕ) → filter p text ≡ [] → filter p (old ++ text) ≡ filter p old
more p old text none = filter-append p old text ∙ ap (λ (rest : List ℕ). filter p old ++ rest) none ∙ append-nil (filter p old)

-- a byte that doesn't pass
pub one_none : (p : ℕ → Bool) (byte : ℕ) → p byte ≡ false → filter p (byte ∷ []) ≡ []
one_none p byte out = rw out refl

pub one_more : (p : ℕ → Bool) (old : List ℕ) (byte : ℕ) → p byte ≡ false → filter p (old ++ byte ∷ []) ≡ filter p old
one_more p old byte out = more p old (byte ∷ []) (one_none p byte out)
