-- Lemmas on lists of nodes whose values are computed one after the other.
use Rattle.std.proofs.Common.{◌≡◌, ℕ, zero, suc, ◌+◌, ◌<◌, Bool, true, false, cond, inl, inr, replicate, refl, arith, List, [], ◌∷◌, ◌++◌, length, take, map, get_or, ap, ◌∙◌, sym}
use Rattle.std.proofs.lemmas.List.{map_push, map_more}
use Rattle.std.proofs.lemmas.Bool.{cases_lt}
use Rattle.std.proofs.Math.ListN.{get_or-append}
use Rattle.std.proofs.Math.Seq.{get_or-append_seam}
use Rattle.gate_trait.specs.declared.node.Node.{Node}
use Rattle.gate_trait.specs.Built.{Keeps, AllIn}
use Rattle.gate_trait.proofs.KeptLemmas.{values_kept}

module _ {S : Type 0} (belongs : S → Node → Type 0) (value : S → (ℕ → Bool) → Node → Bool) where
  -- one more node, of this value
  pub values_more : (g h : S) → Keeps belongs value g h → (out new : List Node) (n : Node) → new ≡ out ++ n ∷ [] → AllIn (belongs g) out → (x : ℕ → Bool) (before : List Bool) (b : Bool) → map (value g x) out ≡ before → value h x n ≡ b → map (value h x) new ≡ before ++ b ∷ []
  values_more g h keeps out new n is all x before b was here =
      ap (λ (ns : List Node). map (value h x) ns) is ∙ map_push (value h x) out n
      ∙ ap (λ (bs : List Bool). bs ++ value h x n ∷ []) (values_kept belongs value g h keeps out all x ∙ was)
      ∙ ap (λ (c : Bool). before ++ c ∷ []) here

  -- one more node for the next element
  pub map_turn : (g h : S) → Keeps belongs value g h → (out new : List Node) (n : Node) → new ≡ out ++ n ∷ [] → AllIn (belongs g) out → (x : ℕ → Bool) {A : Type 0} (m : A → Bool) (row : List A) (i : ℕ) (d : A) → i < length row → map (value g x) out ≡ map m (take i row) → value h x n ≡ m (get_or row i d) → map (value h x) new ≡ map m (take (i + 1) row)
  map_turn g h keeps out new n is all x m row i d lt was here =
      values_more g h keeps out new n is all x (map m (take i row)) (m (get_or row i d)) was here ∙ sym (map_more m row i d lt)

-- two values by two equations
pub two_same : (f : Bool → Bool → Bool) (a b c d : Bool) → a ≡ c → b ≡ d → f a b ≡ f c d
two_same f a b c d e h = ap (λ (t : Bool). f t b) e ∙ ap (λ (t : Bool). f c t) h

-- a choice by three equations
pub choice_same : (r c a b d e f : Bool) → r ≡ cond c a b → c ≡ d → a ≡ e → b ≡ f → r ≡ cond d e f
choice_same r c a b d e f is h i j =
    is ∙ ap (λ (t : Bool). cond t a b) h ∙ ap (λ (t : Bool). cond d t b) i ∙ ap (λ (t : Bool). cond d e t) j

pub replicate_push : (n : ℕ) → replicate n false ++ false ∷ [] ≡ replicate (n + 1) false
replicate_push n = onto n ∙ ap (λ (k : ℕ). replicate k false) (let e : suc n ≡ n + 1 = omega arith in e)
  where
    onto : (n : ℕ) → replicate n false ++ false ∷ [] ≡ replicate (suc n) false
    onto zero = refl
    onto (suc n) = ap (λ (bs : List Bool). false ∷ bs) (onto n)

module _ {S : Type 0} (belongs : S → Node → Type 0) (value : S → (ℕ → Bool) → Node → Bool) where
  -- one more choice of a row
  pub choice_turn : (f g h : S) → Keeps belongs value f g → Keeps belongs value g h → (out new : List Node) (n : Node) → new ≡ out ++ n ∷ [] → AllIn (belongs g) out → (x : ℕ → Bool) (c : Node) → belongs f c → (ls rs : List Node) (i : ℕ) (d : Node) → i < length ls → i < length rs → belongs f (get_or ls i d) → belongs f (get_or rs i d)
      → map (value g x) out ≡ cond (value f x c) (map (value f x) (take i ls)) (map (value f x) (take i rs))
      → value h x n ≡ cond (value g x c) (value g x (get_or ls i d)) (value g x (get_or rs i d))
      → map (value h x) new ≡ cond (value f x c) (map (value f x) (take (i + 1) ls)) (map (value f x) (take (i + 1) rs))
  choice_turn f g h kf kg out new n is all x c c_in ls rs i d la lb a_in b_in was here =
      let v = value f x in
      values_more belongs value g h kg out new n is all x (cond (v c) (map v (take i ls)) (map v (take i rs))) (cond (v c) (v (get_or ls i d)) (v (get_or rs i d))) was
      (here ∙ ap (λ (t : Bool). cond t (value g x (get_or ls i d)) (value g x (get_or rs i d))) (kf.values c c_in x)
      ∙ two_same (λ s t. cond (v c) s t) _ _ _ _ (kf.values (get_or ls i d) a_in x) (kf.values (get_or rs i d) b_in x))
      ∙ pushed (v c) (map v (take i ls)) (map v (take i rs)) (v (get_or ls i d)) (v (get_or rs i d))
      ∙ ap (λ (bs : List Bool). cond (v c) bs (map v (take i rs) ++ v (get_or rs i d) ∷ [])) (sym (map_more v ls i d la))
      ∙ ap (λ (bs : List Bool). cond (v c) (map v (take (i + 1) ls)) bs) (sym (map_more v rs i d lb))
    where
      pushed : (t : Bool) (bs cs : List Bool) (b c : Bool) → cond t bs cs ++ cond t b c ∷ [] ≡ cond t (bs ++ b ∷ []) (cs ++ c ∷ [])
      pushed true bs cs b c = refl
      pushed false bs cs b c = refl

  -- one more entry of a row that tells something of each of its places
  pub told_more : (g h : S) → Keeps belongs value g h → (out new : List Node) (n : Node) → new ≡ out ++ n ∷ [] → AllIn (belongs g) out → (x : ℕ → Bool) (i : ℕ) → length out ≡ i → (m : ℕ → Bool) → ((k : ℕ) (d : Node) → k < i → value g x (get_or out k d) ≡ m k) → value h x n ≡ m i → (k : ℕ) (d : Node) → k < i + 1 → value h x (get_or new k d) ≡ m k
  told_more g h keeps out new n is all x i long m before here k d lt =
      elim (cases_lt k i) [
        | inl less ↦ (let in_out : k < length out = omega (arith, long) in
            ap (λ (ns : List Node). value h x (get_or ns k d)) is
            ∙ ap (λ (o : Node). value h x o) (get_or-append out (n ∷ []) d k in_out)
            ∙ keeps.values (get_or out k d) (all k d in_out) x ∙ before k d less)
        | inr last ↦ (let e : k ≡ length out = omega (arith, long) in
            let f : i ≡ k = omega (arith, long, e) in
            ap (λ (ns : List Node). value h x (get_or ns k d)) is
            ∙ ap (λ (j : ℕ). value h x (get_or (out ++ n ∷ []) j d)) e
            ∙ ap (λ (o : Node). value h x o) (get_or-append_seam out n [] d)
            ∙ here ∙ ap m f)
      ]
