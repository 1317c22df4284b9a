-- Indices compare as tuples of one length do.
use Rattle.std.proofs.Common.{◌≡◌, ℕ, suc, ◌+◌, ◌*◌, ◌^◌, ◌<◌, ◌≤◌, List, [], ◌∷◌, ◌++◌, length, All, refl, sym, ap, ◌∙◌, arith, length-append, inl, inr, take, get_or, length-take, lit<, pow-suc, mul-le-mul_right}
use Rattle.std.specs.declared.cmp.Ordering.{Ordering}
use Rattle.std.specs.declared.cmp.Ordering.TheVariants.{Less, Equal, Greater}
use Rattle.std.specs.Ordering.{nat_cmp, ordering_then, MatchOrdering}
use Rattle.std.specs.Cmp.{nat_cmp_is}
use Rattle.std.proofs.lemmas.Cmp.{ranked}
use Rattle.std.proofs.lemmas.List.{take_more}
use Rattle.std.proofs.lemmas.List.Elements.{All-head, All-tail, All-take}
use Rattle.std.proofs.lemmas.Bool.{cases_order}
use Rattle.std.proofs.Math.Nat.{pow-le-pow_right}
use Rattle.core_tuples.specs.Index.{IsNumber, FitsIndex, index_of}
use Rattle.core_tuples.specs.Sets.{tuple_cmp}

-- an index is below the power that the tuple's length names
pub index_below : (t : List ℕ) → All IsNumber t → index_of t < 16384 ^ length t
index_below [] all = lit< tt
index_below (x ∷ t) all =
    let h : x + 1 ≤ 16384 = omega (arith, All-head IsNumber x t all) in
    let b : index_of t < 16384 ^ length t = index_below t (All-tail IsNumber x t all) in
    omega (arith, mul-le-mul_right (16384 ^ length t) h, pow-suc 16384 (length t))

pub index_small : (t : List ℕ) → All IsNumber t → length t ≤ 8 → index_of t < 2 ^ 112
index_small t all short =
    let b = index_below t all in
    let m : 16384 ^ length t ≤ 16384 ^ 8 = pow-le-pow_right (lit< tt) short in
    omega arith

-- one more number
pub index_push : (t : List ℕ) (x : ℕ) → index_of (t ++ x ∷ []) ≡ index_of t * 16384 + x
index_push [] x = omega arith
index_push (y ∷ t) x =
    let e : length (t ++ x ∷ []) ≡ suc (length t) = omega (arith, length-append t (x ∷ [])) in
    let p : y * 16384 ^ length (t ++ x ∷ []) ≡ y * (16384 ^ length t * 16384) = ap (λ n. y * 16384 ^ n) e ∙ ap (λ n. y * n) (pow-suc 16384 (length t)) in
    omega (arith, index_push t x)

carried : (r : Ordering) (P Q R P' Q' R' : Type 0) → MatchOrdering r P Q R → (P → P') → (Q → Q') → (R → R') → MatchOrdering r P' Q' R'
carried Less P Q R P' Q' R' h f g k = f h
carried Equal P Q R P' Q' R' h f g k = g h
carried Greater P Q R P' Q' R' h f g k = k h

-- indices compare as the tuples do
pub index_order : (s t : List ℕ) → length s ≡ length t → All IsNumber s → All IsNumber t → nat_cmp (index_of s) (index_of t) ≡ tuple_cmp s t
index_order [] [] n small small' = refl
index_order [] (y ∷ t) n small small' = absurd (omega arith)
index_order (x ∷ s) [] n small small' = absurd (omega arith)
index_order (x ∷ s) (y ∷ t) n small small' =
    let tails_small : All IsNumber s = All-tail IsNumber x s small in
    let tails_small' : All IsNumber t = All-tail IsNumber y t small' in
    let long : length s ≡ length t = omega arith in
    let below : index_of s < 16384 ^ length s = index_below s tails_small in
    let below' : index_of t < 16384 ^ length t = index_below t tails_small' in
    let power : 16384 ^ length t ≡ 16384 ^ length s = ap (λ k. 16384 ^ k) (sym long) in
    let moved : y * 16384 ^ length t ≡ y * 16384 ^ length s = ap (λ k. y * k) power in
    let rest : nat_cmp (index_of s) (index_of t) ≡ tuple_cmp s t = index_order s t long tails_small tails_small' in
    elim (cases_order x y) [
      | inl same ↦
          let scaled : x * 16384 ^ length s ≡ y * 16384 ^ length s = ap (λ k. k * 16384 ^ length s) same in
          sym (nat_cmp_is (index_of (x ∷ s)) (index_of (y ∷ t)) (nat_cmp (index_of s) (index_of t)) (carried (nat_cmp (index_of s) (index_of t)) _ _ _ _ _ _ (ranked (index_of s) (index_of t) _ refl) (λ h. omega arith) (λ h. omega arith) (λ h. omega arith)))
          ∙ rest
          ∙ ap (λ o. ordering_then o (tuple_cmp s t)) (nat_cmp_is x y Equal same)
      | inr apart ↦ elim apart [
        | inl less ↦
            let scaled : (x + 1) * 16384 ^ length s ≤ y * 16384 ^ length s = mul-le-mul_right (16384 ^ length s) (omega arith) in
            let lower : index_of (x ∷ s) < index_of (y ∷ t) = omega arith in
            sym (nat_cmp_is (index_of (x ∷ s)) (index_of (y ∷ t)) Less lower) ∙ ap (λ o. ordering_then o (tuple_cmp s t)) (nat_cmp_is x y Less less)
        | inr greater ↦
            let scaled : (y + 1) * 16384 ^ length s ≤ x * 16384 ^ length s = mul-le-mul_right (16384 ^ length s) (omega arith) in
            let lower : index_of (y ∷ t) < index_of (x ∷ s) = omega arith in
            sym (nat_cmp_is (index_of (x ∷ s)) (index_of (y ∷ t)) Greater lower) ∙ ap (λ o. ordering_then o (tuple_cmp s t)) (nat_cmp_is x y Greater greater)
      ]
    ]

-- the index of the first numbers
pub prefix_small : (ns : List ℕ) (i : ℕ) → FitsIndex ns → i < length ns → index_of (take i ns) < 2 ^ 112
prefix_small ns i fits lt = index_small (take i ns) (All-take IsNumber i ns fits.numbers) (omega (arith, length-take i ns, fits.columns))

pub prefix_more : (ns : List ℕ) (i : ℕ) → i < length ns → index_of (take (i + 1) ns) ≡ index_of (take i ns) * 16384 + get_or ns i 0
prefix_more ns i lt = ap index_of (take_more ns i 0 lt) ∙ index_push (take i ns) (get_or ns i 0)
