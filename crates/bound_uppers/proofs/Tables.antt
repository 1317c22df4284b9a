-- The bounds of a model's relations, as a table.
use Rattle.std.proofs.Common.{◌≡◌, ℕ, ◌+◌, ◌<◌, Bool, List, ◌∷◌, [], ◌++◌, length, take, slice_get, slice_index, Some, ap, sym, ◌∙◌, arith, map, subst, length-append}
use Rattle.std.specs.List.{range_with_len}
use Rattle.std.proofs.lemmas.List.{take_more, length-map}
use Rattle.std.proofs.lemmas.List.FromFn.{length-range_with_len}
use Rattle.std.proofs.lemmas.Option.{get_or_from_slice_get, slice_get_within}
use Rattle.core_tree.specs.declared.model.Model.{Model}
use Rattle.core_tree.specs.declared.model.Sig.{Sig}
use Rattle.core_tree.specs.declared.model.Field.{Field}
use Rattle.bound_uppers.specs.declared.table.Bound.{Bound}
use Rattle.bound_uppers.specs.Table.{IsTable, is_fixed, are_fixed}
use Rattle.bound_uppers.specs.Order.{with_owner, standings, order_in, AreOrders}
use Rattle.bound_uppers.proofs.Sizes.{get_map}
use Rattle.bound_uppers.proofs.Ranks.{order_below, order_apart}

pub take_next : (xs : List ℕ) (k : ℕ) → k < length xs → take (k + 1) xs ≡ take k xs ++ slice_index xs k ∷ []
take_next xs k lt = take_more xs k 0 lt

-- there is one relation for each sig and field
pub fixed_count : {X : Type 0} (f : X → Bool) (model : Model) (xs : List X) → map f xs ≡ are_fixed model → length xs ≡ length (standings (length model.sigs) model.fields)
fixed_count f model xs e =
    let sigs = length-map model.sigs (λ (d : Sig). is_fixed d.is_var) in
    let fields = length-map model.fields (λ (g : Field). is_fixed g.is_var) in
    let both = length-append (map (λ (d : Sig). is_fixed d.is_var) model.sigs) (map (λ (g : Field). is_fixed g.is_var) model.fields) in
    let first = length-range_with_len 0 (length model.sigs) in
    let second = length-map model.fields (λ (g : Field). with_owner (length model.sigs) g.owner) in
    let whole = length-append (range_with_len 0 (length model.sigs)) (map (λ (g : Field). with_owner (length model.sigs) g.owner) model.fields) in
    let here : length (map f xs) ≡ length (are_fixed model) = ap length e in
    let own = length-map xs f in
    omega (arith, sigs, fields, both, first, second, whole, here, own)

module _ (bs : List Bound) (ws os : List ℕ) (same : map (λ (b : Bound). b.order) bs ≡ os) (are : AreOrders ws os) where
  count : length bs ≡ length ws
  count = sym (length-map bs (λ (b : Bound). b.order)) ∙ (ap length same ∙ are.0)

  pub orders_are : (r : ℕ) (b : Bound) → slice_get bs r ≡ Some b → b.order ≡ order_in ws r
  orders_are r b e =
      let here : slice_get os r ≡ Some b.order = ap (λ (xs : List ℕ). slice_get xs r) (sym same) ∙ get_map (λ (c : Bound). c.order) bs r b e in
      let within : r < length ws = subst (λ (n : ℕ). r < n) count (slice_get_within bs r b e) in
      sym (get_or_from_slice_get os r b.order 0 here) ∙ are.1 r within

  pub table_is : (states : ℕ) → 0 < states → IsTable (record { relations = bs; states = states })
  table_is states some = record {
    some = some;
    placed = λ r b e.
        let within : r < length ws = subst (λ (n : ℕ). r < n) count (slice_get_within bs r b e) in
        let its = orders_are r b e in
        let below = order_below r ws within in
        let all = count in
        omega (arith, its, below, all);
    apart = λ r q b c e f same_order.
        let first : r < length ws = subst (λ (n : ℕ). r < n) count (slice_get_within bs r b e) in
        let second : q < length ws = subst (λ (n : ℕ). q < n) count (slice_get_within bs q c f) in
        order_apart r q ws first second (sym (orders_are r b e) ∙ (same_order ∙ orders_are q c f));
  }
