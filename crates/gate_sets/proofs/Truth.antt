-- Truth values as facts.
use Rattle.std.proofs.Common.{◌≡◌, ◌↔◌, ◌⊎◌, Bool, true, false, not, ◌&&◌, ◌||◌, refl, sym, inl, inr}
use Rattle.std.proofs.lemmas.Bool.{false≢true}

pub or_means : (v w : Bool) → (v || w ≡ true) ↔ ((v ≡ true) ⊎ (w ≡ true))
or_means true w = ((λ h. inl refl), (λ h. refl))
or_means false w = ((λ h. inr h), (λ h. elim h [ inl e ↦ absurd (false≢true e) | inr e ↦ e ]))

pub and_means : (v w : Bool) → (v && w ≡ true) ↔ ((v ≡ true) × (w ≡ true))
and_means true w = ((λ h. (refl, h)), (λ h. h.1))
and_means false w = ((λ h. absurd (false≢true h)), (λ h. absurd (false≢true h.0)))

pub not_true : (v : Bool) → (not v ≡ true) ↔ (v ≡ false)
not_true true = ((λ h. absurd (false≢true h)), (λ h. absurd (false≢true (sym h))))
not_true false = ((λ h. refl), (λ h. refl))
