-- A circuit with its index, through the addition of a gate.
use Rattle.std.proofs.Common.{Result, Ok, Err, OnOk, OnErr, Option, ◌≡◌, ℕ, suc, zero, ◌+◌, ◌<◌, ◌^◌, Bool, true, false, cond, List, [], ◌∷◌, ◌++◌, length, Some, None, sym, ap, ◌∙◌, refl, arith, inl, inr, subst}
use Rattle.std.specs.List.{slice_get}
use Rattle.std.proofs.lemmas.List.{length-append}
use Rattle.std.proofs.lemmas.Option.{slice_get_within}
use Rattle.std.proofs.lemmas.Bool.{cases_Bool, false≢true}
use Rattle.gate_trait.specs.declared.gate.Gate.{Gate}
use Rattle.gate_trait.specs.declared.gate.Gate.TheVariants.{Constant, Input}
use Rattle.gate_trait.specs.declared.node.Node.{Node}
use Rattle.gate_trait.specs.NodeWords.{number_of, is_negated}
use Rattle.gate_trait.specs.Built.{Computes}
use Rattle.gate_trait.specs.Circuit.{IsLayered, IsAbove, BelongsTo, value_in, gate_value, values}
use Rattle.gate_trait.proofs.Values.{slice_get-push, layered_push}
use Rattle.gate_trait.proofs.GateLaw.{computes_at}
use Rattle.gate_store.specs.Index.{IsIndexed, HasNoRepeat, is_constant}
use Rattle.gate_store.proofs.GateEq.{same, gate_exact, gate_same}

constant_first : (g : Gate) → Some (Constant true) ≡ Some g → g ≡ Constant true
constant_first g h = cc

some_exact : (j k : ℕ) → Some j ≡ Some k → j ≡ k
some_exact j k h = cc

-- no two gates are equal
pub distinct : (found : Gate → Option ℕ) (rest gates : List Gate) → Constant true ∷ rest ≡ gates → IsIndexed found (Constant true ∷ rest) → HasNoRepeat gates
distinct found rest gates view i = subst (λ (s : List Gate). HasNoRepeat s) view (distinct_places found rest i)
  where
    distinct_places : (found : Gate → Option ℕ) (rest : List Gate) → IsIndexed found (Constant true ∷ rest) → HasNoRepeat (Constant true ∷ rest)
    distinct_places found rest i zero zero g h k = refl
    distinct_places found rest i zero (suc k) g h e =
        absurd (false≢true (sym (i.varied g (suc k) (omega arith) e) ∙ ap is_constant (constant_first g h)))
    distinct_places found rest i (suc j) zero g h e =
        absurd (false≢true (sym (i.varied g (suc j) (omega arith) h) ∙ ap is_constant (constant_first g e)))
    distinct_places found rest i (suc j) (suc k) g h e =
        some_exact (suc j) (suc k) (sym (i.finds g (suc j) (omega arith) h) ∙ i.finds g (suc k) (omega arith) e)

slice_get-old : {X : Type 0} (xs : List X) (y x : X) (k : ℕ) → slice_get xs k ≡ Some x → slice_get (xs ++ y ∷ []) k ≡ Some x
slice_get-old [] y x k h = cc
slice_get-old (z ∷ zs) y x zero h = h
slice_get-old (z ∷ zs) y x (suc k) h = slice_get-old zs y x k h

slice_get-last : {X : Type 0} (xs : List X) (y : X) → slice_get (xs ++ y ∷ []) (length xs) ≡ Some y
slice_get-last [] y = refl
slice_get-last (z ∷ zs) y = slice_get-last zs y

module _ (found now : Gate → Option ℕ) (gates : List Gate) (g : Gate) (updates : (q : Gate) → now q ≡ cond (same g q) (Some (length gates)) (found q)) (new : found g ≡ None) (i : IsIndexed found gates) where
  now_here : now g ≡ Some (length gates)
  now_here = updates g ∙ ap (λ (b : Bool). cond b (Some (length gates)) (found g)) (gate_same g)

  now_apart : (q : Gate) → same g q ≡ false → now q ≡ found q
  now_apart q h = updates q ∙ ap (λ (b : Bool). cond b (Some (length gates)) (found q)) h

  names_push : (q : Gate) (k : ℕ) → now q ≡ Some k → slice_get (gates ++ g ∷ []) k ≡ Some q
  names_push q k h = elim (cases_Bool (same g q)) [
    | inl e ↦ (let is : g ≡ q = gate_exact g q e in
        let at : length gates ≡ k = some_exact (length gates) k (sym now_here ∙ ap now is ∙ h) in
        ap (λ (m : ℕ). slice_get (gates ++ g ∷ []) m) (sym at) ∙ slice_get-last gates g ∙ ap (λ (f : Gate). Some f) is)
    | inr e ↦ slice_get-old gates g q k (i.names q k (sym (now_apart q e) ∙ h))
  ]

  finds_push : (q : Gate) (k : ℕ) → 0 < k → slice_get (gates ++ g ∷ []) k ≡ Some q → now q ≡ Some k
  finds_push q k above h = elim (slice_get-push gates g q k h) [
    | inl old ↦ elim (cases_Bool (same g q)) [
      | inl e ↦ (let was : found q ≡ Some k = i.finds q k above old in
          let none : found q ≡ None = sym (ap found (gate_exact g q e)) ∙ new in cc)
      | inr e ↦ now_apart q e ∙ i.finds q k above old
    ]
    | inr last ↦ ap now (sym last.1) ∙ now_here ∙ ap (λ (m : ℕ). Some m) (sym last.0)
  ]

  -- the index of one more gate
  pub indexed_push : IsAbove (length gates) g → is_constant g ≡ false → length gates + 1 < 2 ^ 63 → IsIndexed now (gates ++ g ∷ [])
  indexed_push above no_constant few = record {
    names = names_push;
    finds = finds_push;
    varied = λ q k a h. elim (slice_get-push gates g q k h) [ inl old ↦ i.varied q k a old | inr last ↦ ap is_constant (sym last.1) ∙ no_constant ];
    layered = layered_push gates g i.layered above;
    few = omega (arith, i.few, few, length-append gates (g ∷ []));
  }

-- the index after an attempt to add a gate
pub indexed_tried : {N E : Type 0} (r : Result N E) (found now : Gate → Option ℕ) (rest new gates : List Gate) (g : Gate) → Constant true ∷ rest ≡ gates → IsIndexed found (Constant true ∷ rest) → IsAbove (length gates) g → is_constant g ≡ false → found g ≡ None → OnOk r (new ≡ rest ++ g ∷ []) → OnOk r ((q : Gate) → now q ≡ cond (same g q) (Some (length rest + 1)) (found q)) → OnOk r (length rest + 2 < 2 ^ 63) → OnErr r (new ≡ rest) → OnErr r ((q : Gate) → now q ≡ found q) → IsIndexed now (Constant true ∷ new)
indexed_tried (Ok n) found now rest new gates g view i above no_constant none ok ok_found ok_few err err_found =
    let first = Constant true ∷ rest in
    let long : length rest + 1 ≡ length first = omega arith in
    let lower : IsAbove (length first) g = subst (λ (s : List Gate). IsAbove (length s) g) (sym view) above in
    let updates : (q : Gate) → now q ≡ cond (same g q) (Some (length first)) (found q) = λ (q : Gate). ok_found q ∙ ap (λ (m : ℕ). cond (same g q) (Some m) (found q)) long in
    subst (λ (s : List Gate). IsIndexed now (Constant true ∷ s)) (sym ok)
    (indexed_push found now first g updates none i lower no_constant (omega arith))
indexed_tried (Err e) found now rest new gates g view i above no_constant none ok ok_found ok_few err err_found =
    subst (λ (s : List Gate). IsIndexed now (Constant true ∷ s)) (sym err)
    (record {
      names = λ q k h. i.names q k (sym (err_found q) ∙ h);
      finds = λ q k a h. err_found q ∙ i.finds q k a h;
      varied = i.varied;
      layered = i.layered;
      few = i.few;
    })

-- a gate that is found has a node of its number
pub computes_found : (found : Gate → Option ℕ) (rest gates : List Gate) (g : Gate) (k : ℕ) (n : Node) → Constant true ∷ rest ≡ gates → IsIndexed found (Constant true ∷ rest) → Some k ≡ found g → number_of n ≡ k → is_negated n ≡ false → Computes BelongsTo value_in gates n (λ x. gate_value (values gates x) x g)
computes_found found rest gates g k n view i was number positive =
    let at : slice_get gates k ≡ Some g = ap (λ (s : List Gate). slice_get s k) (sym view) ∙ i.names g k (sym was) in
    computes_at gates g k n (subst (λ (s : List Gate). IsLayered s) view i.layered) at number positive

pub few_found : (found : Gate → Option ℕ) (rest : List Gate) (g : Gate) (k : ℕ) → IsIndexed found (Constant true ∷ rest) → Some k ≡ found g → k < 2 ^ 63
few_found found rest g k i was = omega (arith, i.few, slice_get_within (Constant true ∷ rest) k g (i.names g k (sym was)))

-- an input that is found has its number, and one that isn't has none
pub input_found : (found : Gate → Option ℕ) (rest gates : List Gate) (g : Gate) (k : ℕ) → Constant true ∷ rest ≡ gates → IsIndexed found (Constant true ∷ rest) → Some k ≡ found g → slice_get gates k ≡ Some g
input_found found rest gates g k view i was = ap (λ (s : List Gate). slice_get s k) (sym view) ∙ i.names g k (sym was)

pub input_absent : (found : Gate → Option ℕ) (rest gates : List Gate) (v : ℕ) → Constant true ∷ rest ≡ gates → IsIndexed found (Constant true ∷ rest) → None ≡ found (Input v) → (k : ℕ) → slice_get gates k ≡ Some (Input v) → ⊥
input_absent found rest gates v view i none k at = none_at k (ap (λ (s : List Gate). slice_get s k) view ∙ at)
  where
    none_at : (k : ℕ) → slice_get (Constant true ∷ rest) k ≡ Some (Input v) → ⊥
    none_at zero here = false≢true (ap is_constant (constant_first (Input v) here))
    none_at (suc k) here = let e : None ≡ Some (suc k) = none ∙ i.finds (Input v) (suc k) (omega arith) here in cc
