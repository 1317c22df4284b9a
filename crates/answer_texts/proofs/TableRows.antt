-- The rows of a table, and the numbers of its variables.
use Rattle.std.proofs.Common.{◌≡◌, ℕ, zero, suc, ◌+◌, ◌-◌, ◌*◌, ◌<◌, ◌≤◌, List, [], ◌∷◌, ◌++◌, flat_map, length, drop, get_or, Option, Some, None, slice_get, refl, sym, ap, ◌∙◌, arith, append_assoc, append-nil, drop-cons, add-one}
use Rattle.std.proofs.lemmas.List.{drop_all}
use Rattle.std.proofs.lemmas.Option.{slice_get_past}
use Rattle.std.proofs.lemmas.List.Concat.{flat_map-cons}
use Rattle.answer_trace.specs.declared.label.Labels.{Labels}
use Rattle.answer_trace.specs.declared.label.RelationLabel.{RelationLabel}
use Rattle.bound_uppers.specs.declared.places.Cells.{Cells}
use Rattle.bound_uppers.specs.declared.places.Layout.{Layout}
use Rattle.bound_uppers.specs.declared.table.Bound.{Bound}
use Rattle.bound_uppers.specs.declared.table.Bounds.{Bounds}
use Rattle.bound_uppers.specs.Table.{IsLayout, cell_at}
use Rattle.answer_texts.specs.Kept.{first_in, kept_first, kept_rows}
use Rattle.answer_texts.specs.Table.{tuple_row, tuple_rows, bound_rows, place_rows, relation_rows, rows_before, loops_after, table_first, table_rows}

-- the first variable at a state behind the first
pub later_cell : (c : Cells) (state behind n : ℕ) → 0 < state → behind ≡ (state - 1) * c.stride → n ≡ c.next + behind → n ≡ cell_at c state
later_cell c zero behind n more is sum = absurd (omega (arith, more))
later_cell c (suc s) behind n more is sum =
    let less : suc s - 1 ≡ s = omega arith in
    sum ∙ ap (λ (b : ℕ). c.next + b) (is ∙ ap (λ (k : ℕ). k * c.stride) less)

-- one tuple more
pub rows_next : (atoms : List (List ℕ)) (label : List ℕ) (state i : ℕ) (ts : List (List ℕ)) (t : List ℕ) (number next : ℕ) (now new whole : List (List ℕ)) → i < length ts → t ≡ get_or ts i t →
    new ≡ now ++ tuple_row atoms label number state t ∷ [] → next ≡ number + 1 →
    now ++ tuple_rows atoms label number state (drop i ts) ≡ whole → new ++ tuple_rows atoms label next state (drop (i + 1) ts) ≡ whole
rows_next atoms label state i ts t number next now new whole inside at added counted was =
    let front : drop i ts ≡ t ∷ drop (i + 1) ts =
    drop-cons ts i t inside ∙ ap (λ z. z ∷ drop (suc i) ts) (sym at) ∙ ap (λ k. t ∷ drop k ts) (sym (add-one i)) in
    let row = tuple_row atoms label number state t in
    let rest = tuple_rows atoms label (number + 1) state (drop (i + 1) ts) in
    ap (λ (rows : List (List ℕ)). rows ++ tuple_rows atoms label next state (drop (i + 1) ts)) added
    ∙ ap (λ (n : ℕ). (now ++ row ∷ []) ++ tuple_rows atoms label n state (drop (i + 1) ts)) counted
    ∙ append_assoc now (row ∷ []) rest
    ∙ (ap (λ (us : List (List ℕ)). now ++ tuple_rows atoms label number state us) (sym front) ∙ was)

-- no tuple is left
pub rows_end : (atoms : List (List ℕ)) (label : List ℕ) (state i : ℕ) (ts : List (List ℕ)) (number : ℕ) (now whole : List (List ℕ)) → length ts ≤ i →
    now ++ tuple_rows atoms label number state (drop i ts) ≡ whole → now ≡ whole
rows_end atoms label state i ts number now whole past was =
    sym (append-nil now) ∙ (ap (λ us. now ++ tuple_rows atoms label number state us) (sym (drop_all i ts past)) ∙ was)

-- a relation without a bound has none
pub no_rows : (f : ℕ → Bound → ℕ → ℕ) (atoms : List (List ℕ)) (bounds : Bounds) (state : ℕ) (r : RelationLabel) (now : List (List ℕ)) → length bounds.relations ≤ r.place → now ≡ now ++ relation_rows f atoms bounds state r
no_rows f atoms bounds state r now past =
    sym (ap (λ (o : Option Bound). now ++ place_rows f atoms r state o) (slice_get_past bounds.relations r.place past) ∙ append-nil now)

-- ---- the same rows by the numbers that are kept

same_place : (f g : ℕ → Bound → ℕ → ℕ) (atoms : List (List ℕ)) (r : RelationLabel) (s : ℕ) (o : Option Bound) → ((b : Bound) → o ≡ Some b → f r.place b s ≡ g r.place b s) → place_rows f atoms r s o ≡ place_rows g atoms r s o
same_place f g atoms r s None same = refl
same_place f g atoms r s (Some b) same = ap (λ (n : ℕ). bound_rows atoms r.label n s b) (same b refl)

same_flat : {X A : Type 0} (f g : X → List A) (xs : List X) → ((x : X) → f x ≡ g x) → flat_map f xs ≡ flat_map g xs
same_flat f g [] same = refl
same_flat {X} {A} f g (x ∷ xs) same =
    flat_map-cons f x xs ∙ ap (λ (l : List A). l ++ flat_map f xs) (same x) ∙ ap (λ (l : List A). g x ++ l) (same_flat f g xs same) ∙ sym (flat_map-cons g x xs)

same_states : (f g : ℕ → Bound → ℕ → ℕ) (labels : Labels) (bounds : Bounds) (n : ℕ) → ((s place : ℕ) (b : Bound) → s < n → slice_get bounds.relations place ≡ Some b → f place b s ≡ g place b s) → rows_before f labels bounds n ≡ rows_before g labels bounds n
same_states f g labels bounds zero same = refl
same_states f g labels bounds (suc s) same =
    let before = same_states f g labels bounds s (λ z place b less there. same z place b (omega (arith, less)) there) in
    let here = same_flat (relation_rows f labels.atoms bounds s) (relation_rows g labels.atoms bounds s) labels.relations
    (λ r. same_place f g labels.atoms r s (slice_get bounds.relations r.place) (λ b there. same s r.place b (omega arith) there)) in
    ap (λ (rows : List (List ℕ)). rows ++ flat_map (relation_rows f labels.atoms bounds s) labels.relations) before ∙ ap (λ (rows : List (List ℕ)). rows_before g labels bounds s ++ rows) here

first_is : (bounds : Bounds) (kept : Layout) → IsLayout bounds kept → (s place : ℕ) (b : Bound) → s < bounds.states → slice_get bounds.relations place ≡ Some b → kept_first kept place b s ≡ table_first bounds place b s
first_is bounds kept laid s place b less there =
    let (c, at, each) = laid.cells place b there in
    ap (λ (o : Option Cells). first_in o s) at ∙ (each s less).1

pub same_rows : (labels : Labels) (bounds : Bounds) (kept : Layout) → IsLayout bounds kept → kept_rows kept labels bounds ≡ table_rows labels bounds
same_rows labels bounds kept laid =
    ap (λ (rows : List (List ℕ)). rows ++ loops_after kept.loops bounds.states) (same_states (kept_first kept) (table_first bounds) labels bounds bounds.states (first_is bounds kept laid))
    ∙ ap (λ (n : ℕ). rows_before (table_first bounds) labels bounds bounds.states ++ loops_after n bounds.states) laid.loops
