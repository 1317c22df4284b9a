-- Truth values that are the same, one by one.
use Rattle.std.proofs.Common.{◌≡◌, ◌↔◌, ℕ, ◌+◌, ◌^◌, ◌<◌, ◌≤◌, Bool, true, false, not, ◌&&◌, List, [], ◌∷◌, ◌++◌, length, take, map, get_or, refl, sym, ap, ◌∙◌, arith, subst, length-take}
use Rattle.std.proofs.lemmas.Bool.{false≢true}
use Rattle.std.proofs.lemmas.List.{map_more, length-map, take_all}
use Rattle.gate_trait.specs.declared.node.Node.{Node}
use Rattle.gate_trait.specs.Built.{xor}
use Rattle.gate_integers.specs.Numbers.{bit, binary, number, from_bits}
use Rattle.gate_integers.specs.Counts.{all_alike}
use Rattle.gate_integers.proofs.SumLemmas.{number_below}
use Rattle.gate_integers.proofs.Signed.{number_back}

and_assoc : (a b c : Bool) → a && (b && c) ≡ (a && b) && c
and_assoc true b c = refl
and_assoc false b c = refl

and_true : (b : Bool) → b && true ≡ b
and_true true = refl
and_true false = refl

-- one more of each
alike_push : (bs cs : List Bool) (b c : Bool) → length bs ≡ length cs → all_alike (bs ++ b ∷ []) (cs ++ c ∷ []) ≡ all_alike bs cs && not (xor b c)
alike_push [] [] b c e = and_true (not (xor b c))
alike_push [] (d ∷ cs) b c e = absurd (omega arith)
alike_push (a ∷ bs) [] b c e = absurd (omega arith)
alike_push (a ∷ bs) (d ∷ cs) b c e =
    ap (λ (t : Bool). not (xor a d) && t) (alike_push bs cs b c (omega arith)) ∙ and_assoc (not (xor a d)) (all_alike bs cs) (not (xor b c))

pub alike_turn : (v : Node → Bool) (ls rs : List Node) (i : ℕ) (d : Node) (now before : Bool) → i < length ls → i < length rs → before ≡ all_alike (map v (take i ls)) (map v (take i rs)) → now ≡ before && not (xor (v (get_or ls i d)) (v (get_or rs i d))) → now ≡ all_alike (map v (take (i + 1) ls)) (map v (take (i + 1) rs))
alike_turn v ls rs i d now before la lb old e =
    let bs = map v (take i ls) in
    let cs = map v (take i rs) in
    let same : length bs ≡ length cs = omega (arith, length-map (take i ls) v, length-map (take i rs) v, length-take i ls, length-take i rs) in
    e ∙ ap (λ (t : Bool). t && not (xor (v (get_or ls i d)) (v (get_or rs i d)))) old
    ∙ sym (alike_push bs cs (v (get_or ls i d)) (v (get_or rs i d)) same)
    ∙ ap (λ (xs : List Bool). all_alike xs (cs ++ v (get_or rs i d) ∷ [])) (sym (map_more v ls i d la))
    ∙ ap (λ (xs : List Bool). all_alike (map v (take (i + 1) ls)) xs) (sym (map_more v rs i d lb))

both : (p q : Bool) → p && q ≡ true → (p ≡ true) × (q ≡ true)
both true q h = (refl, h)
both false q h = absurd (false≢true h)

same_value : (b c : Bool) → not (xor b c) ≡ true → b ≡ c
same_value true true h = refl
same_value true false h = absurd (false≢true h)
same_value false true h = absurd (false≢true h)
same_value false false h = refl

alike_same : (bs cs : List Bool) → all_alike bs cs ≡ true → binary bs ≡ binary cs
alike_same [] [] h = refl
alike_same [] (c ∷ cs) h = absurd (false≢true h)
alike_same (b ∷ bs) [] h = absurd (false≢true h)
alike_same (b ∷ bs) (c ∷ cs) h =
    let p = both (not (xor b c)) (all_alike bs cs) h in
    let e = ap bit (same_value b c p.0) in
    let f = alike_same bs cs p.1 in
    omega (arith, e, f)

-- numbers of as many bits are the same only where the bits are
bits_same : (bs cs : List Bool) → length bs ≡ length cs → binary bs ≡ binary cs → all_alike bs cs ≡ true
bits_same [] [] e h = refl
bits_same [] (c ∷ cs) e h = absurd (omega arith)
bits_same (b ∷ bs) [] e h = absurd (omega arith)
bits_same (true ∷ bs) (true ∷ cs) e h = bits_same bs cs (omega arith) (omega arith)
bits_same (true ∷ bs) (false ∷ cs) e h = absurd (omega arith)
bits_same (false ∷ bs) (true ∷ cs) e h = absurd (omega arith)
bits_same (false ∷ bs) (false ∷ cs) e h = bits_same bs cs (omega arith) (omega arith)

pub equal_law : (v : Node → Bool) (ls rs : List Node) (i : ℕ) (r : Bool) → length ls ≡ length rs → length ls ≤ i → r ≡ all_alike (map v (take i ls)) (map v (take i rs)) → (r ≡ true) ↔ (from_bits (length ls) (number v ls) ≡ from_bits (length rs) (number v rs))
equal_law v ls rs i r widths most e =
    let la : take i ls ≡ ls = take_all i ls most in
    let lb : take i rs ≡ rs = take_all i rs (omega arith) in
    let all : r ≡ all_alike (map v ls) (map v rs) = e ∙ ap (λ (xs : List Node). all_alike (map v xs) (map v (take i rs))) la ∙ ap (λ (xs : List Node). all_alike (map v ls) (map v xs)) lb in
    let long : length (map v ls) ≡ length (map v rs) = omega (arith, length-map ls v, length-map rs v) in (
      (λ h. ap (λ (n : ℕ). from_bits (length ls) n) (alike_same (map v ls) (map v rs) (sym all ∙ h)) ∙ ap (λ (w : ℕ). from_bits w (number v rs)) widths),
      (λ h. let right : number v rs < 2 ^ length ls = subst (λ (k : ℕ). number v rs < 2 ^ k) (sym widths) (number_below v rs) in
          all ∙ bits_same (map v ls) (map v rs) long (number_back (length ls) (number v ls) (number v rs) (number_below v ls) right (h ∙ ap (λ (w : ℕ). from_bits w (number v rs)) (sym widths)))),
    )
