-- An atom that differs from the latest of those chosen.
use Rattle.std.proofs.Common.{◌≡◌, ◌≢◌, ◌⊎◌, ℕ, ◌-◌, ◌<◌, ◌≤◌, List, length, take, get_or, reverse, inl, inr, sym, ◌∙◌, subst, arith}
use Rattle.std.proofs.lemmas.List.{length-take, get_or-take, length-reverse, get_or-reverse}
use Rattle.core_meaning.specs.Meaning.{IsApart}

at_place : (chosen : List ℕ) (apart k d : ℕ) → k < apart → k < length chosen → get_or (take apart (reverse chosen)) k d ≡ get_or chosen (length chosen - 1 - k) d
at_place chosen apart k d low in' = get_or-take apart (reverse chosen) k d low ∙ get_or-reverse chosen k d in'

pub apart_yes : (chosen : List ℕ) (apart atom back : ℕ) → ((j d : ℕ) → j < back → atom ≢ get_or chosen (length chosen - 1 - j) d) → (apart ≤ back) ⊎ (length chosen ≤ back) → IsApart apart atom (reverse chosen)
apart_yes chosen apart atom back none over k d lt =
    let low : k < apart = omega (arith, length-take apart (reverse chosen)) in
    let in' : k < length chosen = omega (arith, length-take apart (reverse chosen), length-reverse chosen) in
    let below : k < back = elim over [ inl le ↦ omega arith | inr le ↦ omega arith ] in
    subst (λ (v : ℕ). atom ≢ v) (sym (at_place chosen apart k d low in')) (none k d below)

pub apart_no : (chosen : List ℕ) (apart atom back : ℕ) → back < apart → back < length chosen → atom ≡ get_or chosen (length chosen - 1 - back) atom → ¬ IsApart apart atom (reverse chosen)
apart_no chosen apart atom back low in' same all =
    let here : back < length (take apart (reverse chosen)) = omega (arith, length-take apart (reverse chosen), length-reverse chosen) in
    all back atom here (same ∙ sym (at_place chosen apart back atom low in'))
