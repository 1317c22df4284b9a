-- What one more gate does to a circuit: the older gates keep their values, and it has its own.
use Rattle.std.proofs.Common.{Result, Ok, Err, OnOk, OnErr, IfOk, ◌≡◌, ℕ, suc, zero, ◌+◌, ◌<◌, Bool, true, false, List, [], ◌∷◌, ◌++◌, length, get_or, Some, sym, ap, ◌∙◌, refl, arith, inl, inr, ◌⊎◌, subst}
use Rattle.std.specs.List.{slice_get}
use Rattle.std.proofs.lemmas.List.{length-append}
use Rattle.std.proofs.Math.ListN.{get_or-append}
use Rattle.std.proofs.Math.Seq.{get_or-append_seam}
use Rattle.gate_trait.specs.declared.node.Node.{Node}
use Rattle.gate_trait.specs.declared.gate.Gate.{Gate}
use Rattle.gate_trait.specs.declared.gate.Gate.TheVariants.{Constant}
use Rattle.gate_trait.specs.NodeWords.{number_of, is_negated}
use Rattle.gate_trait.specs.Built.{xor, Keeps, Computes}
use Rattle.gate_trait.proofs.KeptLemmas.{keeps_same}
use Rattle.gate_trait.specs.Circuit.{gate_value, values_after, values, value_in, BelongsTo, IsAbove, IsLayered}

-- the last gate's value comes last
pub values_after-push : (vs : List Bool) (x : ℕ → Bool) (gates : List Gate) (g : Gate) → values_after vs x (gates ++ g ∷ []) ≡ values_after vs x gates ++ gate_value (values_after vs x gates) x g ∷ []
values_after-push vs x [] g = refl
values_after-push vs x (h ∷ gates) g = values_after-push (vs ++ gate_value vs x h ∷ []) x gates g

pub length-values_after : (vs : List Bool) (x : ℕ → Bool) (gates : List Gate) → length (values_after vs x gates) ≡ length vs + length gates
length-values_after vs x [] = omega arith
length-values_after vs x (h ∷ gates) =
    omega (arith, length-values_after (vs ++ gate_value vs x h ∷ []) x gates, length-append vs (gate_value vs x h ∷ []))

pub length-values : (gates : List Gate) (x : ℕ → Bool) → length (values gates x) ≡ length gates
length-values gates x = omega (arith, length-values_after [] x gates)

-- an older node keeps its value
pub value_in-push : (gates : List Gate) (g : Gate) (x : ℕ → Bool) (n : Node) → BelongsTo gates n → value_in (gates ++ g ∷ []) x n ≡ value_in gates x n
value_in-push gates g x n h =
    let e = values_after-push [] x gates g in
    let inside : number_of n < length (values gates x) = omega (arith, length-values gates x) in
    ap (λ (b : Bool). xor (is_negated n) b)
    (ap (λ (vs : List Bool). get_or vs (number_of n) false) e ∙ get_or-append (values gates x) (gate_value (values gates x) x g ∷ []) false (number_of n) inside)

-- the new gate's node has the gate's value
pub value_in-new : (gates : List Gate) (g : Gate) (x : ℕ → Bool) (n : Node) → number_of n ≡ length gates → is_negated n ≡ false → value_in (gates ++ g ∷ []) x n ≡ gate_value (values gates x) x g
value_in-new gates g x n h p =
    let vs = values gates x in
    let w = gate_value vs x g in
    let at : number_of n ≡ length vs = omega (arith, length-values gates x) in
    ap (λ (b : Bool). xor b (get_or (values (gates ++ g ∷ []) x) (number_of n) false)) p
    ∙ ap (λ (us : List Bool). get_or us (number_of n) false) (values_after-push [] x gates g)
    ∙ ap (λ (k : ℕ). get_or (vs ++ w ∷ []) k false) at
    ∙ get_or-append_seam vs w [] false

-- one more gate keeps the older nodes
pub keeps_push : (gates : List Gate) (g : Gate) → Keeps BelongsTo value_in gates (gates ++ g ∷ [])
keeps_push gates g = record {
  belong = λ n h. omega (arith, length-append gates (g ∷ []));
  values = λ n h x. value_in-push gates g x n h;
}

-- the new gate's node has the gate's value
pub computes_push : (gates : List Gate) (g : Gate) (n : Node) → number_of n ≡ length gates → is_negated n ≡ false → Computes BelongsTo value_in (gates ++ g ∷ []) n (λ x. gate_value (values gates x) x g)
computes_push gates g n h p = record {
  there = omega (arith, length-append gates (g ∷ []));
  gives = λ x. value_in-new gates g x n h p;
}

pub slice_get-push : {X : Type 0} (xs : List X) (y x : X) (k : ℕ) → slice_get (xs ++ y ∷ []) k ≡ Some x → (slice_get xs k ≡ Some x) ⊎ ((k ≡ length xs) × (y ≡ x))
slice_get-push [] y x zero h = inr (refl, cc)
slice_get-push [] y x (suc k) h = cc
slice_get-push (z ∷ zs) y x zero h = inl h
slice_get-push (z ∷ zs) y x (suc k) h =
    elim (slice_get-push zs y x k h) [ inl a ↦ inl a | inr b ↦ inr (ap suc b.0, b.1) ]

-- the new gate's nodes are lower, and so are those of the others
pub layered_push : (gates : List Gate) (g : Gate) → IsLayered gates → IsAbove (length gates) g → IsLayered (gates ++ g ∷ [])
layered_push gates g old above k h is =
    elim (slice_get-push gates g h k is) [ inl a ↦ old k h a | inr b ↦ subst (λ (m : ℕ). IsAbove m h) (sym b.0) (subst (λ (f : Gate). IsAbove (length gates) f) b.1 above) ]

-- an attempt to add a gate keeps the older nodes
pub keeps_tried : {N E : Type 0} (r : Result N E) (head : Gate) (rest new gates : List Gate) (g : Gate) → head ∷ rest ≡ gates → OnOk r (new ≡ rest ++ g ∷ []) → OnErr r (new ≡ rest) → Keeps BelongsTo value_in gates (head ∷ new)
keeps_tried (Ok n) head rest new gates g view ok err =
    subst (λ (s : List Gate). Keeps BelongsTo value_in gates s)
    (sym (ap (λ (s : List Gate). head ∷ s) ok ∙ ap (λ (s : List Gate). s ++ g ∷ []) view))
    (keeps_push gates g)
keeps_tried (Err e) head rest new gates g view ok err =
    keeps_same BelongsTo value_in gates (head ∷ new) (ap (λ (s : List Gate). head ∷ s) err ∙ view)

-- and where it succeeds, the new node has the gate's value
pub computes_tried : {E : Type 0} (r : Result Node E) (head : Gate) (rest new gates : List Gate) (g : Gate) → head ∷ rest ≡ gates → OnOk r (new ≡ rest ++ g ∷ []) → IfOk r (λ n. (number_of n ≡ length rest + 1) × (is_negated n ≡ false)) → IfOk r (λ n. Computes BelongsTo value_in (head ∷ new) n (λ x. gate_value (values gates x) x g))
computes_tried (Ok n) head rest new gates g view ok node =
    subst (λ (s : List Gate). Computes BelongsTo value_in s n (λ x. gate_value (values gates x) x g))
    (sym (ap (λ (s : List Gate). head ∷ s) ok ∙ ap (λ (s : List Gate). s ++ g ∷ []) view))
    (computes_push gates g n (omega (arith, node.0, ap (λ (s : List Gate). length s) view)) node.1)
computes_tried (Err e) head rest new gates g view ok node = tt

-- what comes later changes no value
pub values_after-prefix : (vs : List Bool) (x : ℕ → Bool) (gates : List Gate) (k : ℕ) → k < length vs → get_or (values_after vs x gates) k false ≡ get_or vs k false
values_after-prefix vs x [] k h = refl
values_after-prefix vs x (g ∷ gates) k h =
    values_after-prefix (vs ++ gate_value vs x g ∷ []) x gates k (omega (arith, length-append vs (gate_value vs x g ∷ [])))
    ∙ get_or-append vs (gate_value vs x g ∷ []) false k h

-- the first gate is the constant true, and its node that isn't negated has its value
pub computes_constant : (rest gates : List Gate) (n : Node) (b : Bool) → Constant true ∷ rest ≡ gates → number_of n ≡ 0 → xor (is_negated n) true ≡ b → Computes BelongsTo value_in gates n (λ x. b)
computes_constant rest gates n b view zero_number is = record {
  there = omega (arith, ap (λ (s : List Gate). length s) view);
  gives = λ x. ap (λ (s : List Gate). value_in s x n) (sym view)
      ∙ ap (λ (k : ℕ). xor (is_negated n) (get_or (values (Constant true ∷ rest) x) k false)) zero_number
      ∙ ap (λ (v : Bool). xor (is_negated n) v) (values_after-prefix (true ∷ []) x rest 0 (omega arith))
      ∙ is;
}
