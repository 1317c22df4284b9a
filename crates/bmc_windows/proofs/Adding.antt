-- Numbers that are added one after the other, and windows.
use Rattle.std.proofs.Common.{◌≡◌, ◌⊎◌, ◌<◌, ◌≤◌, ℕ, ◌+◌, ◌-◌, List, [], ◌∷◌, ◌++◌, length, slice_get, Some, refl, sym, ap, ◌∙◌, subst, arith, inl, inr, length-append}
use Rattle.std.proofs.lemmas.Option.{slice_get_within}
use Rattle.std.proofs.lemmas.Bool.{cases_lt}
use Rattle.bmc_windows.specs.declared.frame.Stretch.{Stretch}
use Rattle.bmc_windows.specs.declared.frame.Frame.{Frame}
use Rattle.bmc_windows.specs.Frames.{AddsPlaces, AddsStretch, IsFrame, IsStretch}
use Rattle.bmc_windows.proofs.PushLemmas.{push_kept, push_at, push_cases}

pub adds_none : (old : List ℕ) (at : ℕ → ℕ) → AddsPlaces old old 0 at
adds_none old at = record { long = omega arith; kept = λ k v e. e; added = λ k lt. absurd (omega arith) }

pub adds_one : (old mid new : List ℕ) (n x : ℕ) (at : ℕ → ℕ) → AddsPlaces old mid n at → x ≡ at n → new ≡ mid ++ x ∷ [] → AddsPlaces old new (n + 1) at
adds_one old mid new n x at h here is = subst (λ (s : List ℕ). AddsPlaces old s (n + 1) at) (sym is) (record {
  long = (let one = length-append mid (x ∷ []) in let before = h.long in omega (arith, one, before));
  kept = λ k v e. push_kept mid x k v (h.kept k v e);
  added = λ k lt. elim (cases_lt k n) [
    | inl less ↦ push_kept mid x (length old + k) (at k) (h.added k less)
    | inr more ↦ (let same : k ≡ n = omega (arith, lt, more) in
        let place : length old + k ≡ length mid = (let before = h.long in omega (arith, same, before)) in
        push_at mid x (length old + k) place ∙ ap Some (here ∙ ap at (sym same)))
  ];
})

-- a window stays when places are added behind it
pub stretch_kept : (states rounds loop : ℕ) (shown next more after : List ℕ) (s : Stretch) → ((k v : ℕ) → slice_get shown k ≡ Some v → slice_get more k ≡ Some v) → ((k v : ℕ) → slice_get next k ≡ Some v → slice_get after k ≡ Some v) → IsStretch states rounds loop shown next s → IsStretch states rounds loop more after s
stretch_kept states rounds loop shown next more after s f g h = record {
  start = h.start;
  end = h.end;
  back = h.back;
  shows = λ k lt. f (s.start + k) _ (h.shows k lt);
  nexts = λ k lt. g (s.start + k) _ (h.nexts k lt);
}

-- one window more
pub frame_more : (states rounds loop : ℕ) (old new : Frame) → loop ≡ length old.windows.items → old.states ≡ states → ((l : ℕ) (s : Stretch) → slice_get old.windows.items l ≡ Some s → IsStretch states rounds l old.shown.items old.next.items s) → AddsStretch rounds loop old new → (l : ℕ) (s : Stretch) → slice_get new.windows.items l ≡ Some s → IsStretch states rounds l new.shown.items new.next.items s
frame_more states rounds loop old new count states_are each more l s at =
    let w = more.window in
    elim (push_cases old.windows.items w.0 l s (ap (λ (ss : List Stretch). slice_get ss l) (sym w.1) ∙ at)) [
      | inl h ↦ stretch_kept states rounds l old.shown.items old.next.items new.shown.items new.next.items s more.shown more.next (each l s h)
      | inr h ↦ subst (λ (t : Stretch). IsStretch states rounds l new.shown.items new.next.items t) h.1
          (subst (λ (k : ℕ). IsStretch states rounds k new.shown.items new.next.items w.0) (count ∙ sym h.0)
          (subst (λ (k : ℕ). IsStretch k rounds loop new.shown.items new.next.items w.0) states_are w.2))
    ]
