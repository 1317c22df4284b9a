-- Lemmas on sums of the numbers that nodes mean.
use lib.Pow.{pow_pos}
use Rattle.std.proofs.lemmas.Bool.Decides.{nat_tests}
use Rattle.std.proofs.Math.Nat.{mod-eq_of_lt}
use Rattle.std.proofs.Common.{◌≡◌, ℕ, ◌+◌, ◌-◌, ◌*◌, ◌%◌, ◌^◌, ◌<◌, ◌≤◌, nat_lt, Bool, true, false, not, ◌||◌, cond, List, [], ◌∷◌, ◌++◌, length, take, map, get_or, replicate, refl, sym, ◌∙◌, ap, subst, arith, length-take}
use Rattle.std.proofs.lemmas.List.{map_more, length-map, take_all}
use Rattle.gate_trait.specs.declared.node.Node.{Node}
use Rattle.gate_trait.specs.Built.{Keeps, AllIn, xor}
use Rattle.gate_trait.proofs.KeptLemmas.{values_kept}
use Rattle.gate_integers.specs.Numbers.{bit, binary, number}
use Rattle.gate_integers.proofs.RowLemmas.{values_more}
use Rattle.gate_integers.proofs.BinaryLemmas.{less_step, pow_next, binary_push, binary_below, binary_not, binary_zeros, wraps, sum_step}

pub number_below : (v : Node → Bool) (xs : List Node) → number v xs < 2 ^ length xs
number_below v xs = let long : length (map v xs) ≡ length xs = length-map xs v in subst (λ (k : ℕ). number v xs < 2 ^ k) long (binary_below (map v xs))

pub number_take : (v : Node → Bool) (xs : List Node) (i : ℕ) (d : Node) → i < length xs → number v (take (i + 1) xs) ≡ number v (take i xs) + 2 ^ i * bit (v (get_or xs i d))
number_take v xs i d lt =
    let long : length (map v (take i xs)) ≡ i = omega (arith, length-map (take i xs) v, length-take i xs) in
    ap binary (map_more v xs i d lt) ∙ binary_push (map v (take i xs)) (v (get_or xs i d))
    ∙ ap (λ (k : ℕ). number v (take i xs) + 2 ^ k * bit (v (get_or xs i d))) long

-- so many low bits make a number below their power
pub number_low_below : (v : Node → Bool) (xs : List Node) (i : ℕ) → i ≤ length xs → number v (take i xs) < 2 ^ i
number_low_below v xs i most =
    let long : length (take i xs) ≡ i = omega (arith, length-take i xs) in
    subst (λ (k : ℕ). number v (take i xs) < 2 ^ k) long (number_below v (take i xs))

-- the low bits and the greatest
pub number_top : (v : Node → Bool) (xs : List Node) (j : ℕ) (d : Node) → length xs ≡ j + 1 → number v xs ≡ number v (take j xs) + 2 ^ j * bit (v (get_or xs j d))
number_top v xs j d long =
    ap (λ (ys : List Node). number v ys) (sym (take_all (j + 1) xs (omega arith))) ∙ number_take v xs j d (omega arith)

pub number_all : (v : Node → Bool) (xs : List Node) (i : ℕ) → length xs ≤ i → number v (take i xs) ≡ number v xs
number_all v xs i most = ap (λ (ys : List Node). number v ys) (take_all i xs most)

module _ {S : Type 0} (belongs : S → Node → Type 0) (value : S → (ℕ → Bool) → Node → Bool) where
  pub number_kept : (g h : S) → Keeps belongs value g h → (xs : List Node) → AllIn (belongs g) xs → (x : ℕ → Bool) → number (value h x) xs ≡ number (value g x) xs
  number_kept g h keeps xs all x = ap binary (values_kept belongs value g h keeps xs all x)

  -- one more digit
  pub number_more : (g h : S) → Keeps belongs value g h → (out new : List Node) (n : Node) → new ≡ out ++ n ∷ [] → AllIn (belongs g) out → (x : ℕ → Bool) (i : ℕ) → length out ≡ i → number (value h x) new ≡ number (value g x) out + 2 ^ i * bit (value h x n)
  number_more g h keeps out new n is all x i long =
      let wide : length (map (value g x) out) ≡ i = omega (arith, length-map out (value g x), long) in
      ap binary (values_more belongs value g h keeps out new n is all x (map (value g x) out) (value h x n) refl refl)
      ∙ binary_push (map (value g x) out) (value h x n)
      ∙ ap (λ (k : ℕ). number (value g x) out + 2 ^ k * bit (value h x n)) wide

  -- one turn of the adder
  pub add_turn : (f g h : S) (ls rs : List Node) (i : ℕ) (total more : List Node) (s k : Node) (d : Node) (over carried : ℕ) (x : ℕ → Bool)
      → Keeps belongs value f g → Keeps belongs value g h → AllIn (belongs g) total → belongs f (get_or ls i d) → belongs f (get_or rs i d)
      → i < length ls → i < length rs → length total ≡ i → more ≡ total ++ s ∷ []
      → bit (value h x s) + 2 * bit (value h x k) ≡ bit (value g x (get_or ls i d)) + bit (value g x (get_or rs i d)) + over
      → number (value g x) total + 2 ^ i * over ≡ number (value f x) (take i ls) + number (value f x) (take i rs) + carried
      → number (value h x) more + 2 ^ (i + 1) * bit (value h x k) ≡ number (value f x) (take (i + 1) ls) + number (value f x) (take (i + 1) rs) + carried
  add_turn f g h ls rs i total more s k d over carried x kf kg all a_in b_in la lb long is digits sum =
      let p = 2 ^ i in
      let n = number (value g x) total in
      let na = number (value f x) (take i ls) in
      let nb = number (value f x) (take i rs) in
      let ba = bit (value f x (get_or ls i d)) in
      let bb = bit (value f x (get_or rs i d)) in
      let bs = bit (value h x s) in
      let bk = bit (value h x k) in
      let ta : number (value f x) (take (i + 1) ls) ≡ na + p * ba = number_take (value f x) ls i d la in
      let tb : number (value f x) (take (i + 1) rs) ≡ nb + p * bb = number_take (value f x) rs i d lb in
      let to : number (value h x) more ≡ n + p * bs = number_more g h kg total more s is all x i long in
      let digit : bs + 2 * bk ≡ ba + bb + over =
      digits ∙ ap (λ (q : Bool). bit q + bit (value g x (get_or rs i d)) + over) (kf.values (get_or ls i d) a_in x)
      ∙ ap (λ (q : Bool). ba + bit q + over) (kf.values (get_or rs i d) b_in x) in
      ap (λ (q : ℕ). q + 2 ^ (i + 1) * bk) to
      ∙ ap (λ (q : ℕ). (n + p * bs) + q * bk) (pow_next i)
      ∙ sum_step n p bs bk ba bb over na nb carried sum digit
      ∙ sym (ap (λ (q : ℕ). q + number (value f x) (take (i + 1) rs) + carried) ta ∙ ap (λ (q : ℕ). (na + p * ba) + q + carried) tb)

-- the whole sum
pub add_whole : (v w : Node → Bool) (ls rs total : List Node) (i : ℕ) (over : ℕ) (carried : ℕ) → length ls ≡ length rs → length ls ≤ i → i ≤ length ls → number w total + 2 ^ i * over ≡ number v (take i ls) + number v (take i rs) + carried → number w total + 2 ^ length ls * over ≡ number v ls + number v rs + carried
add_whole v w ls rs total i over carried widths most least sum =
    let end : length ls ≡ i = omega arith in
    ap (λ (k : ℕ). number w total + 2 ^ k * over) end ∙ sum
    ∙ ap (λ (k : ℕ). k + number v (take i rs) + carried) (number_all v ls i most)
    ∙ ap (λ (k : ℕ). number v ls + k + carried) (number_all v rs i (omega arith))

-- a sum without a carry in, whose carry out is lost
pub lost_carry : (w : Node → Bool) (total a : List Node) (m k c : ℕ) → length total ≡ length a → k ≡ 0 → number w total + 2 ^ length a * c ≡ m + k → number w total ≡ m % 2 ^ length a
lost_carry w total a m k c width none e =
    wraps (number w total) (2 ^ length a) c m (subst (λ (j : ℕ). number w total < 2 ^ j) width (number_below w total)) (omega (arith, e, none))

map_not : (v : Node → Bool) (xs : List Node) → map (λ n. not (v n)) xs ≡ map not (map v xs)
map_not v [] = refl
map_not v (n ∷ xs) = ap (λ (bs : List Bool). not (v n) ∷ bs) (map_not v xs)

-- the number of negated bits
pub number_not : (v : Node → Bool) (xs : List Node) → binary (map (λ n. not (v n)) xs) + number v xs + 1 ≡ 2 ^ length xs
number_not v xs =
    let long : length (map v xs) ≡ length xs = length-map xs v in
    ap (λ (bs : List Bool). binary bs + number v xs + 1) (map_not v xs) ∙ binary_not (map v xs) ∙ ap (λ (k : ℕ). 2 ^ k) long

-- a difference, by the negated bits
pub difference_law : (v w : Node → Bool) (total a b other : List Node) (c k : ℕ) → map v other ≡ map (λ n. not (v n)) b → length a ≡ length b → k ≡ 1 → number w total + 2 ^ length a * c ≡ number v a + number v other + k → number w total + 2 ^ length a * c + number v b ≡ number v a + 2 ^ length a
difference_law v w total a b other c k is widths one e =
    let f : number v other + number v b + 1 ≡ 2 ^ length b = ap (λ (bs : List Bool). binary bs + number v b + 1) is ∙ number_not v b in
    let p : 2 ^ length b ≡ 2 ^ length a = ap (λ (j : ℕ). 2 ^ j) (sym widths) in
    omega (arith, e, f, p, one)

-- bits that are negated where a sign is true
map_sign : (s : Bool) (v : Node → Bool) (xs : List Node) → map (λ n. xor s (v n)) xs ≡ cond s (map (λ n. not (v n)) xs) (map v xs)
map_sign true v [] = refl
map_sign true v (n ∷ xs) = ap (λ (bs : List Bool). not (v n) ∷ bs) (map_sign true v xs)
map_sign false v [] = refl
map_sign false v (n ∷ xs) = ap (λ (bs : List Bool). v n ∷ bs) (map_sign false v xs)

sign_law : (s : Bool) (n m t p c : ℕ) → t < p → n < p → (s ≡ true → m + n + 1 ≡ p) → (s ≡ false → m ≡ n) → t + p * c ≡ m + bit s → t ≡ cond s ((p - n) % p) n
sign_law true n m t p c small below neg pos' e = wraps t p c (p - n) small (omega (arith, e, neg refl))
sign_law false n m t p c small below neg pos' e =
    wraps t p c n small (omega (arith, e, pos' refl)) ∙ mod-eq_of_lt below

pub negate_law : (s : Bool) (v w u : Node → Bool) (total turned none a : List Node) (c : ℕ) → map u turned ≡ map (λ n. xor s (v n)) a → map u none ≡ replicate (length a) false → length total ≡ length a → number w total + 2 ^ length a * c ≡ number u turned + number u none + bit s → number w total ≡ cond s ((2 ^ length a - number v a) % 2 ^ length a) (number v a)
negate_law s v w u total turned none a c is zeros width e =
    let p = 2 ^ length a in
    let nothing : number u none ≡ 0 = ap binary zeros ∙ binary_zeros (length a) in
    let m = number u turned in
    let by : m ≡ binary (cond s (map (λ n. not (v n)) a) (map v a)) = ap binary (is ∙ map_sign s v a) in
    let neg : s ≡ true → m + number v a + 1 ≡ p = λ h. ap (λ (k : ℕ). k + number v a + 1) (by ∙ ap (λ (t : Bool). binary (cond t (map (λ n. not (v n)) a) (map v a))) h) ∙ number_not v a in
    let same : s ≡ false → m ≡ number v a = λ h. by ∙ ap (λ (t : Bool). binary (cond t (map (λ n. not (v n)) a) (map v a))) h in
    sign_law s (number v a) m (number w total) p c (subst (λ (j : ℕ). number w total < 2 ^ j) width (number_below w total)) (number_below v a) neg same (omega (arith, e, nothing))

-- whether some bit is true
pub any_turn : (v : Node → Bool) (xs : List Node) (i : ℕ) (d : Node) (now before : Bool) → i < length xs → before ≡ nat_lt 0 (number v (take i xs)) → now ≡ before || v (get_or xs i d) → now ≡ nat_lt 0 (number v (take (i + 1) xs))
any_turn v xs i d now before lt old e =
    e ∙ ap (λ (t : Bool). t || v (get_or xs i d)) old ∙ any_case (v (get_or xs i d)) (number v (take i xs)) (2 ^ i) (pow_pos i)
    ∙ ap (λ (k : ℕ). nat_lt 0 k) (sym (number_take v xs i d lt))
  where
    any_case : (b : Bool) (n p : ℕ) → 0 < p → nat_lt 0 n || b ≡ nat_lt 0 (n + p * bit b)
    any_case true n p some = or_true (nat_lt 0 n) ∙ (let t : nat_lt 0 (n + p * 1) ≡ true = grind (arith, nat_tests) in sym t)
      where
        or_true : (t : Bool) → t || true ≡ true
        or_true true = refl
        or_true false = refl
    any_case false n p some = or_false (nat_lt 0 n) ∙ (let k : n ≡ n + p * 0 = omega arith in ap (λ (j : ℕ). nat_lt 0 j) k)
      where
        or_false : (t : Bool) → t || false ≡ t
        or_false true = refl
        or_false false = refl

-- the number of a difference
pub difference_is : (w : Node → Bool) (total a : List Node) (m n c : ℕ) → length total ≡ length a → n < 2 ^ length a → number w total + 2 ^ length a * c + n ≡ m + 2 ^ length a → number w total ≡ (m + (2 ^ length a - n)) % 2 ^ length a
difference_is w total a m n c width small e =
    wraps (number w total) (2 ^ length a) c (m + (2 ^ length a - n)) (subst (λ (j : ℕ). number w total < 2 ^ j) width (number_below w total)) (omega (arith, e, small))

-- one more bit of each number is compared
pub less_turn : (v : Node → Bool) (ls rs : List Node) (i : ℕ) (d : Node) (now before : Bool) → i < length ls → i < length rs → before ≡ nat_lt (number v (take i ls)) (number v (take i rs)) → now ≡ cond (xor (v (get_or ls i d)) (v (get_or rs i d))) (v (get_or rs i d)) before → now ≡ nat_lt (number v (take (i + 1) ls)) (number v (take (i + 1) rs))
less_turn v ls rs i d now before la lb old e =
    let a = v (get_or ls i d) in
    let b = v (get_or rs i d) in
    let m = number v (take i ls) in
    let n = number v (take i rs) in
    e ∙ ap (λ (t : Bool). cond (xor a b) b t) old
    ∙ less_step (2 ^ i) m n a b (number_low_below v ls i (omega arith)) (number_low_below v rs i (omega arith))
    ∙ ap (λ (k : ℕ). nat_lt k (n + 2 ^ i * bit b)) (sym (number_take v ls i d la))
    ∙ ap (λ (k : ℕ). nat_lt (number v (take (i + 1) ls)) k) (sym (number_take v rs i d lb))
