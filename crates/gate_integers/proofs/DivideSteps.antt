-- Long division, one bit after the other.
use Rattle.std.proofs.Common.{◌≡◌, ℕ, zero, suc, ◌+◌, ◌-◌, ◌*◌, ◌%◌, ◌^◌, ◌<◌, ◌≤◌, nat_lt, Bool, true, false, not, cond, List, [], ◌∷◌, ◌++◌, length, take, drop, map, reverse, get_or, refl, sym, ◌∙◌, ap, arith, drop-cons, add-one}
use lib.Pow.{pow_pos}
use Rattle.std.proofs.Math.Nat.{mod-eq_of_lt}
use Rattle.std.proofs.Math.Seq.{drop-length}
use Rattle.std.proofs.lemmas.Bool.Decides.{nat_tests}
use Rattle.std.proofs.lemmas.List.{map_push, reverse-append}
use Rattle.gate_trait.specs.declared.node.Node.{Node}
use Rattle.gate_trait.specs.Built.{Keeps, AllIn}
use Rattle.gate_trait.proofs.KeptLemmas.{values_kept}
use Rattle.gate_integers.specs.Numbers.{bit, binary, number}
use Rattle.gate_integers.proofs.SumLemmas.{number_below, number_top, number_low_below}
use Rattle.gate_integers.specs.Quotients.{magnitude}
use Rattle.gate_integers.proofs.Divided.{is_negative}

-- the number that nodes mean, the greatest bit first
abbrev pub top_first : (Node → Bool) → List Node → ℕ
top_first v xs = binary (reverse (map v xs))

pub top_push : (v : Node → Bool) (xs : List Node) (n : Node) → top_first v (xs ++ n ∷ []) ≡ bit (v n) + 2 * top_first v xs
top_push v xs n =
    ap (λ (bs : List Bool). binary (reverse bs)) (map_push v xs n)
    ∙ ap binary (reverse-append (map v xs) (v n ∷ []))

pub top_reversed : (v : Node → Bool) (xs : List Node) → number v (reverse xs) ≡ top_first v xs
top_reversed v xs = ap binary (turned xs)
  where
    turned : (xs : List Node) → map v (reverse xs) ≡ reverse (map v xs)
    turned [] = refl
    turned (n ∷ xs) =
        ap (λ (ns : List Node). map v ns) (reverse-append (n ∷ []) xs)
        ∙ map_push v (reverse xs) n
        ∙ ap (λ (bs : List Bool). bs ++ v n ∷ []) (turned xs)
        ∙ sym (reverse-append (v n ∷ []) (map v xs))

-- the bits from a place on
pub number_drop : (v : Node → Bool) (xs : List Node) (j : ℕ) (d : Node) → j < length xs → number v (drop j xs) ≡ bit (v (get_or xs j d)) + 2 * number v (drop (j + 1) xs)
number_drop v xs j d lt = ap (λ (ns : List Node). number v ns) (drop-cons xs j d lt) ∙ ap (λ (k : ℕ). bit (v (get_or xs j d)) + 2 * number v (drop k xs)) (sym (add-one j))

pub drop_most : (v : Node → Bool) (xs : List Node) (j : ℕ) → number v (drop j xs) ≤ number v xs
drop_most v [] zero = omega arith
drop_most v [] (suc j) = omega arith
drop_most v (n ∷ xs) zero = omega arith
drop_most v (n ∷ xs) (suc j) = let h = drop_most v xs j in omega (arith, h)

pub dropped_none : (v : Node → Bool) (xs : List Node) (b : ℕ) → 0 * b + 0 ≡ number v (drop (length xs - 0) xs)
dropped_none v xs b =
    let all : length xs - 0 ≡ length xs = omega arith in
    let none : number v (drop (length xs - 0) xs) ≡ 0 = ap (λ (n : ℕ). number v (drop n xs)) all ∙ ap (λ (ns : List Node). number v ns) (drop-length xs) in
    omega (arith, none)

pub top_kept : {S : Type 0} (belongs : S → Node → Type 0) (value : S → (ℕ → Bool) → Node → Bool) (g h : S) → Keeps belongs value g h → (xs : List Node) → AllIn (belongs g) xs → (x : ℕ → Bool) → top_first (value h x) xs ≡ top_first (value g x) xs
top_kept belongs value g h keeps xs all x = ap (λ (bs : List Bool). binary (reverse bs)) (values_kept belongs value g h keeps xs all x)

-- ---- one step

-- the divisor is taken where it can be
taken_sum : (c : Bool) (p s b d r : ℕ) → d + p * bit c + b ≡ s + p → r ≡ cond c d s → bit c * b + r ≡ s
taken_sum true p s b d r e is = omega (arith, e, is)
taken_sum false p s b d r e is = omega (arith, e, is)

taken_less : (c : Bool) (p s b d r : ℕ) → d < p → d + p * bit c + b ≡ s + p → r ≡ cond c d s → bit c ≡ 0 → r < b
taken_less true p s b d r small e is none = absurd (omega arith)
taken_less false p s b d r small e is none = omega (arith, e, is)

pub step_sum : (c after : Bool) (p s b d r m : ℕ) → after ≡ c → s ≡ m % p → m < p → d + p * bit c + b ≡ s + p → r ≡ cond c d s → bit after * b + r ≡ m
step_sum c after p s b d r m same is small e chosen =
    ap (λ (t : Bool). bit t * b + r) same ∙ taken_sum c p s b d r e chosen ∙ is ∙ mod-eq_of_lt small

pub step_less : (c after : Bool) (p s b d r : ℕ) → after ≡ c → d < p → d + p * bit c + b ≡ s + p → r ≡ cond c d s → bit after ≡ 0 → r < b
step_less c after p s b d r same small e chosen none = taken_less c p s b d r small e chosen (ap bit (sym same) ∙ none)

pub chosen_number : (c : Bool) (v : Node → Bool) (xs ys : List Node) → binary (cond c (map v xs) (map v ys)) ≡ cond c (number v xs) (number v ys)
chosen_number true v xs ys = refl
chosen_number false v xs ys = refl

-- ---- all steps so far

pub divided_turn : (b q r t s rest top : ℕ) → q * b + r ≡ top → s * b + rest ≡ t + 2 * r → (s + 2 * q) * b + rest ≡ t + 2 * top
divided_turn b q r t s rest top e f = omega (arith, e, f)

pub below_turn : (c d : Bool) (b r rest : ℕ) → (0 < b → r < b) → bit c * b + rest ≡ bit d + 2 * r → (bit c ≡ 0 → rest < b) → 0 < b → rest < b
below_turn true true b r rest before sum less some = let h = before some in omega (arith, sum, h)
below_turn true false b r rest before sum less some = let h = before some in omega (arith, sum, h)
below_turn false d b r rest before sum less some = less refl

pub zero_turn : (c : Bool) (b q rest p : ℕ) → b ≡ 0 → (bit c ≡ 0 → rest < b) → q + 1 ≡ p → (bit c + 2 * q) + 1 ≡ 2 * p
zero_turn true b q rest p none less before = omega (arith, before)
zero_turn false b q rest p none less before = absurd (let h = less refl in omega (arith, h, none))

-- there is room for the next bit
pub room : (v : Node → Bool) (a : List Node) (j : ℕ) (d : Node) (q b r : ℕ) → j < length a → q * b + r ≡ number v (drop (j + 1) a) → bit (v (get_or a j d)) + 2 * r < 2 ^ length a
room v a j d q b r lt sum =
    let whole = number_drop v a j d lt in
    let most = drop_most v a j in
    let small = number_below v a in
    omega (arith, sum, whole, most, small)

-- ---- magnitudes

-- the top bit is the sign
pub sign_top : (v : Node → Bool) (xs : List Node) (j : ℕ) (d : Node) → length xs ≡ j + 1 → v (get_or xs j d) ≡ is_negative (length xs) (number v xs)
sign_top v xs j d long =
    let low = number v (take j xs) in
    let t = v (get_or xs j d) in
    let small = number_low_below v xs j (omega arith) in
    let back : length xs - 1 ≡ j = omega arith in
    sign_case t low (2 ^ j) small
    ∙ ap (λ (n : ℕ). not (nat_lt n (2 ^ j))) (sym (number_top v xs j d long))
    ∙ ap (λ (k : ℕ). not (nat_lt (number v xs) (2 ^ k))) (sym back)
  where
    sign_case : (t : Bool) (n p : ℕ) → n < p → t ≡ not (nat_lt (n + p * bit t) p)
    sign_case true n p small = let h : nat_lt (n + p * 1) p ≡ false = grind (arith, nat_tests) in sym (ap not h)
    sign_case false n p small = let h : nat_lt (n + p * 0) p ≡ true = grind (arith, nat_tests) in sym (ap not h)

pub magnitude_law : (w n t : ℕ) (s : Bool) → 0 < w → n < 2 ^ w → s ≡ is_negative w n → t ≡ cond s ((2 ^ w - n) % 2 ^ w) n → t ≡ magnitude w n
magnitude_law w n t s some small is e = e ∙ ap (λ (b : Bool). cond b ((2 ^ w - n) % 2 ^ w) n) is ∙ by (nat_lt n (2 ^ (w - 1))) refl
  where
    by : (b : Bool) → nat_lt n (2 ^ (w - 1)) ≡ b → cond (not b) ((2 ^ w - n) % 2 ^ w) n ≡ cond b n (2 ^ w - n)
    by true h = refl
    by false h =
        let far : 2 ^ (w - 1) ≤ n = grind (arith, nat_tests) in
        let pos' : 0 < n = omega (arith, far, pow_pos (w - 1)) in
        mod-eq_of_lt (omega arith)
