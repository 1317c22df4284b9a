-- What the comparisons come to in the end.
use Rattle.std.proofs.Common.{◌≡◌, ◌↔◌, ℕ, ◌+◌, ◌*◌, ◌^◌, ◌-◌, ◌&&◌, ◌<◌, ◌≤◌, nat_lt, Bool, true, false, not, cond, List, length, take, get_or, refl, sym, ap, ◌∙◌, subst, arith, ◌<ℤ◌, ℤ}
use Rattle.std.specs.Prelude.{count_by}
use Rattle.std.proofs.lemmas.List.Sums.{count_by_more_yes, count_by_more_no}
use Rattle.std.proofs.lemmas.Bool.Decides.{nat_tests}
use Rattle.std.proofs.lemmas.Bool.{false≢true}
use Rattle.gate_trait.specs.declared.node.Node.{Node}
use Rattle.gate_trait.specs.Built.{xor}
use Rattle.gate_integers.specs.Numbers.{bit, number, from_bits, signed}
use Rattle.gate_integers.specs.Counts.{all_alike}
use Rattle.gate_integers.proofs.SumLemmas.{number_top, number_low_below}
use Rattle.gate_integers.proofs.Signed.{less_law}
use Rattle.gate_integers.proofs.Alike.{equal_law}
use Rattle.std.proofs.Common.{map}

-- an integer by its low bits and its sign
signed_top : (v : Node → Bool) (xs : List Node) (j : ℕ) (d : Node) → length xs ≡ j + 1 → from_bits (j + 1) (number v (take j xs) + 2 ^ j * bit (v (get_or xs j d))) ≡ signed v xs
signed_top v xs j d long =
    ap (λ (k : ℕ). from_bits (j + 1) k) (sym (number_top v xs j d long)) ∙ ap (λ (k : ℕ). from_bits k (number v xs)) (sym long)

less_lists : (v : Node → Bool) (ls rs : List Node) (j : ℕ) (d : Node) (r below : Bool) → length ls ≡ j + 1 → length rs ≡ j + 1 → below ≡ nat_lt (number v (take j ls)) (number v (take j rs)) → r ≡ cond (xor (v (get_or ls j d)) (v (get_or rs j d))) (v (get_or ls j d)) below → (r ≡ true) ↔ (signed v ls <ℤ signed v rs)
less_lists v ls rs j d r below la lb is e =
    let m = number v (take j ls) in
    let n = number v (take j rs) in
    let a = v (get_or ls j d) in
    let b = v (get_or rs j d) in
    let law = less_law j m n a b r (number_low_below v ls j (omega arith)) (number_low_below v rs j (omega arith)) (e ∙ ap (λ (t : Bool). cond (xor a b) a t) is) in
    subst (λ (z : ℤ). (r ≡ true) ↔ (z <ℤ signed v rs)) (signed_top v ls j d la)
    (subst (λ (z : ℤ). (r ≡ true) ↔ (from_bits (j + 1) (m + 2 ^ j * bit a) <ℤ z)) (signed_top v rs j d lb) law)

pub less_final : (v : Node → Bool) (a b ls rs : List Node) (j : ℕ) (d : Node) (r below : Bool) → ls ≡ a → rs ≡ b → length a ≡ length b → length ls ≡ j + 1 → below ≡ nat_lt (number v (take j ls)) (number v (take j rs)) → r ≡ cond (xor (v (get_or ls j d)) (v (get_or rs j d))) (v (get_or ls j d)) below → (r ≡ true) ↔ (signed v a <ℤ signed v b)
less_final v a b ls rs j d r below ea eb widths long is e =
    let wide : length rs ≡ j + 1 = ap (λ (ns : List Node). length ns) eb ∙ sym widths ∙ ap (λ (ns : List Node). length ns) (sym ea) ∙ long in
    subst (λ (ns : List Node). (r ≡ true) ↔ (signed v ns <ℤ signed v b)) ea
    (subst (λ (ns : List Node). (r ≡ true) ↔ (signed v ls <ℤ signed v ns)) eb (less_lists v ls rs j d r below long wide is e))

pub equal_final : (v : Node → Bool) (a b ls rs : List Node) (i : ℕ) (r : Bool) → ls ≡ a → rs ≡ b → length ls ≡ length rs → length ls ≤ i → r ≡ all_alike (map v (take i ls)) (map v (take i rs)) → (r ≡ true) ↔ (signed v a ≡ signed v b)
equal_final v a b ls rs i r ea eb widths most e =
    subst (λ (ns : List Node). (r ≡ true) ↔ (signed v ns ≡ signed v b)) ea
    (subst (λ (ns : List Node). (r ≡ true) ↔ (signed v ls ≡ signed v ns)) eb (equal_law v ls rs i r widths most e))

-- ---- counts against a limit

pub most_law : (r e : Bool) (limit c : ℕ) → e ≡ nat_lt limit c → r ≡ not e → (r ≡ true) ↔ (c ≤ limit)
most_law r true limit c is e = ((λ h. absurd (false≢true (sym e ∙ h))), (λ h. absurd (false≢true (let t : nat_lt limit c ≡ false = grind (arith, nat_tests) in sym t ∙ sym is))))
most_law r false limit c is e = ((λ h. grind (arith, nat_tests)), (λ h. e))

pub none_law : (r e : Bool) (limit c : ℕ) → limit ≡ 0 → e ≡ nat_lt limit c → r ≡ not e → (r ≡ true) ↔ (c ≡ limit)
none_law r e limit c zero is k =
    let m = most_law r e limit c is k in
    ((λ h. let few = m.0 h in omega arith), (λ h. m.1 (omega arith)))

pub just_law : (r low high : Bool) (limit c : ℕ) → 0 < limit → low ≡ nat_lt (limit - 1) c → high ≡ nat_lt limit c → r ≡ low && not high → (r ≡ true) ↔ (c ≡ limit)
just_law r true true limit c some el eh e = ((λ h. absurd (false≢true (sym e ∙ h))), (λ h. absurd (false≢true (let t : nat_lt limit c ≡ false = grind (arith, nat_tests) in sym t ∙ sym eh))))
just_law r true false limit c some el eh e = ((λ h. grind (arith, nat_tests)), (λ h. e))
just_law r false high limit c some el eh e = ((λ h. absurd (false≢true (sym e ∙ h))), (λ h. absurd (false≢true (el ∙ (let t : nat_lt (limit - 1) c ≡ true = grind (arith, nat_tests) in t)))))

-- one more entry of a row
pub entry_law : (n : Bool) (j c : ℕ) → cond n (nat_lt j (c + 1)) (nat_lt j c) ≡ nat_lt j (c + bit n)
entry_law true j c = refl
entry_law false j c = let e : c ≡ c + 0 = omega arith in ap (λ (k : ℕ). nat_lt j k) e

pub test_next : (j c : ℕ) → nat_lt j c ≡ nat_lt (j + 1) (c + 1)
test_next j c = test_case (nat_lt j c) refl
  where
    test_case : (t : Bool) → nat_lt j c ≡ t → t ≡ nat_lt (j + 1) (c + 1)
    test_case true h = let s : nat_lt (j + 1) (c + 1) ≡ true = grind (arith, nat_tests) in sym s
    test_case false h = let s : nat_lt (j + 1) (c + 1) ≡ false = grind (arith, nat_tests) in sym s

-- one more node is counted
pub count_more : {X : Type 0} (p : X → Bool) (xs : List X) (i : ℕ) (d : X) → i < length xs → count_by p (take (i + 1) xs) ≡ count_by p (take i xs) + bit (p (get_or xs i d))
count_more p xs i d lt = by (p (get_or xs i d)) refl
  where
    by : (t : Bool) → p (get_or xs i d) ≡ t → count_by p (take (i + 1) xs) ≡ count_by p (take i xs) + bit t
    by true e = count_by_more_yes p xs i d lt e
    by false e = let none : count_by p (take i xs) ≡ count_by p (take i xs) + 0 = omega arith in count_by_more_no p xs i d lt e ∙ none
