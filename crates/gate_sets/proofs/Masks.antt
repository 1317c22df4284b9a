-- Entries under a mask.
use Rattle.std.proofs.Common.{◌≡◌, ℕ, ◌+◌, ◌<◌, Bool, true, false, not, ◌&&◌, ◌||◌, List, length, take, get_or, refl, sym, ap, ◌∙◌, inl, inr}
use Rattle.std.specs.List.{list_any}
use Rattle.std.proofs.lemmas.List.Folds.{list_any_more}
use Rattle.gate_trait.specs.declared.node.Node.{Node}
use Rattle.gate_matrix.specs.Matrices.{MatrixEntries, truth}
use Rattle.gate_operators.specs.Sets.{MeansSet, set_of}
use Rattle.gate_sets.specs.Sets.{chosen_tuples}
use Rattle.gate_sets.proofs.Truth.{and_means, or_means, not_true}

and_spread : (n a b : Bool) → (n && a) || (n && b) ≡ n && (a || b)
and_spread true a b = refl
and_spread false a b = refl

pub and_swap : (s n v : Bool) → s && (n && v) ≡ n && (s && v)
and_swap true true v = refl
and_swap true false v = refl
and_swap false true v = refl
and_swap false false v = refl

pub and_both : {a b c d : Bool} → a ≡ b → c ≡ d → a && c ≡ b && d
and_both e f = cc

pub or_both : {a b c d : Bool} → a ≡ b → c ≡ d → a || c ≡ b || d
or_both e f = cc

pub and_none : (n : Bool) → false ≡ n && false
and_none true = refl
and_none false = refl

-- one more element is asked
pub mask_more : {X : Type 0} (p : X → Bool) (xs : List X) (i : ℕ) (x : X) (n now before here : Bool) → now ≡ before || here → before ≡ n && list_any p (take i xs) → here ≡ n && p x → i < length xs → x ≡ get_or xs i x → now ≡ n && list_any p (take (i + 1) xs)
mask_more p xs i x n now before here e f at lt is =
    e ∙ ap (λ (b : Bool). b || here) f
    ∙ ap (λ (b : Bool). (n && list_any p (take i xs)) || b) (at ∙ ap (λ y. n && p y) is)
    ∙ and_spread n (list_any p (take i xs)) (p (get_or xs i x))
    ∙ ap (λ (b : Bool). n && b) (sym (list_any_more p xs i x lt))

-- a set masked by a node, and another by its negation
pub chosen_means : (v after : Node → Bool) (c : Bool) (a b m : MatrixEntries) → ((t : List ℕ) → truth after m t ≡ (c && truth v a t) || (not c && truth v b t)) → MeansSet after m (chosen_tuples c (set_of v a) (set_of v b))
chosen_means v after c a b m e = λ t.
    let either = or_means (c && truth v a t) (not c && truth v b t) in
    let first = and_means c (truth v a t) in
    let second = and_means (not c) (truth v b t) in
    let other = not_true c in (
      (λ h. elim (either.0 (sym (e t) ∙ h)) [
        | inl p ↦ inl (first.0 p)
        | inr p ↦ (let q = second.0 p in inr (other.0 q.0, q.1))
      ]),
      (λ q. e t ∙ either.1 (elim q [
        | inl p ↦ inl (first.1 p)
        | inr p ↦ inr (second.1 (other.1 p.0, p.1))
      ])),
    )
