-- Counts by columns of bits.
use Rattle.std.proofs.Common.{◌≡◌, ℕ, ◌+◌, ◌*◌, ◌^◌, ◌<◌, ◌≤◌, Bool, false, List, [], ◌∷◌, ◌++◌, length, take, refl, sym, ap, ◌∙◌, subst, arith, pos}
use Rattle.std.specs.Prelude.{count_by}
use Rattle.std.proofs.lemmas.List.Sums.{sum_by-cons}
use Rattle.std.proofs.lemmas.List.{take_all}
use Rattle.std.proofs.lemmas.List.Elements.{All-take}
use Rattle.gate_trait.specs.declared.node.Node.{Node}
use Rattle.gate_trait.specs.Built.{Keeps, AllIn}
use Rattle.gate_trait.proofs.KeptLemmas.{all_head, all_tail}
use Rattle.gate_integers.specs.Numbers.{bit, number, from_bits, signed, wrap}
use Rattle.gate_integers.proofs.BinaryLemmas.{wraps, pow_next}
use Rattle.gate_integers.proofs.SumLemmas.{number_below, number_more}
use Rattle.gate_integers.proofs.WrappedLemmas.{wrap_count}

-- past the end nothing is counted
pub count_past : (p : Node → Bool) (xs : List Node) (i : ℕ) (b : Bool) → length xs ≤ i → b ≡ false → count_by p (take (i + 1) xs) ≡ count_by p (take i xs) + bit b
count_past p xs i b most e =
    let all : take (i + 1) xs ≡ take i xs = take_all (i + 1) xs (omega arith) ∙ sym (take_all i xs most) in
    let none : bit b ≡ 0 = ap bit e in
    let same = ap (λ (ys : List Node). count_by p ys) all in
    omega (arith, same, none)

-- one more is counted in front
count_cons : (p : Node → Bool) (n : Node) (xs : List Node) → count_by p (n ∷ xs) ≡ bit (p n) + count_by p xs
count_cons p n xs = sum_by-cons (λ (m : Node). bit (p m)) n xs

pub count_push : (p : Node → Bool) (xs : List Node) (n : Node) → count_by p (xs ++ n ∷ []) ≡ count_by p xs + bit (p n)
count_push p [] n = let e = count_cons p n [] in omega (arith, e)
count_push p (m ∷ xs) n =
    let e = count_cons p m (xs ++ n ∷ []) in
    let f = count_cons p m xs in
    omega (arith, e, f, count_push p xs n)

pub place_arith : (n p b k m total : ℕ) → n + p * m ≡ total → b + 2 * k ≡ m → (n + p * b) + (2 * p) * k ≡ total
place_arith n p b k m total h e = omega (arith, h, ap (λ (j : ℕ). p * j) e)

module _ {S : Type 0} (belongs : S → Node → Type 0) (value : S → (ℕ → Bool) → Node → Bool) where
  pub count_kept : (g h : S) → Keeps belongs value g h → (xs : List Node) → AllIn (belongs g) xs → (x : ℕ → Bool) → count_by (value h x) xs ≡ count_by (value g x) xs
  count_kept g h keeps [] all x = refl
  count_kept g h keeps (n ∷ xs) all x =
      let here : bit (value h x n) ≡ bit (value g x n) = ap bit (keeps.values n (all_head (belongs g) n xs all) x) in
      let rest = count_kept g h keeps xs (all_tail (belongs g) n xs all) x in
      let e = count_cons (value h x) n xs in
      let f = count_cons (value g x) n xs in
      omega (arith, here, rest, e, f)

  -- two more nodes of a column
  pub column_turn : (f g h : S) → Keeps belongs value f g → Keeps belongs value g h → (nodes : List Node) → AllIn (belongs f) nodes → (carries more : List Node) (s k b one two : Node) (i : ℕ) (x : ℕ → Bool)
      → more ≡ carries ++ k ∷ [] → AllIn (belongs g) carries
      → bit (value h x s) + 2 * bit (value h x k) ≡ bit (value g x one) + bit (value g x two) + bit (value g x b)
      → bit (value g x b) + 2 * count_by (value g x) carries ≡ count_by (value f x) (take i nodes)
      → count_by (value g x) (take (i + 1) nodes) ≡ count_by (value g x) (take i nodes) + bit (value g x one)
      → count_by (value g x) (take (i + 1 + 1) nodes) ≡ count_by (value g x) (take (i + 1) nodes) + bit (value g x two)
      → bit (value h x s) + 2 * count_by (value h x) more ≡ count_by (value f x) (take (i + 2) nodes)
  column_turn f g h kf kg nodes there carries more s k b one two i x is all digits sum first second =
      let kept : (j : ℕ) → count_by (value g x) (take j nodes) ≡ count_by (value f x) (take j nodes) = λ j. count_kept f g kf (take j nodes) (All-take (belongs f) j nodes there) x in
      let whole : count_by (value h x) more ≡ count_by (value g x) carries + bit (value h x k) =
      ap (λ (ns : List Node). count_by (value h x) ns) is ∙ count_push (value h x) carries k
      ∙ ap (λ (q : ℕ). q + bit (value h x k)) (count_kept g h kg carries all x) in
      let e0 = kept i in
      let e2 = kept (i + 1 + 1) in
      let same : count_by (value f x) (take (i + 1 + 1) nodes) ≡ count_by (value f x) (take (i + 2) nodes) = ap (λ (j : ℕ). count_by (value f x) (take j nodes)) (let n : i + 1 + 1 ≡ i + 2 = omega arith in n) in
      omega (arith, digits, sum, first, second, whole, e0, e2, same)

  -- one more column
  pub place_turn : (g h : S) → Keeps belongs value g h → (bits new : List Node) (n : Node) → new ≡ bits ++ n ∷ [] → AllIn (belongs g) bits → (x : ℕ → Bool) (i : ℕ) → length bits ≡ i → (k m total : ℕ) → bit (value h x n) + 2 * k ≡ m → number (value g x) bits + 2 ^ i * m ≡ total → number (value h x) new + 2 ^ (i + 1) * k ≡ total
  place_turn g h keeps bits new n is all x i long k m total column sum =
      ap (λ (q : ℕ). q + 2 ^ (i + 1) * k) (number_more belongs value g h keeps bits new n is all x i long)
      ∙ ap (λ (q : ℕ). (number (value g x) bits + 2 ^ i * bit (value h x n)) + q * k) (pow_next i)
      ∙ place_arith (number (value g x) bits) (2 ^ i) (bit (value h x n)) k m total sum column

-- all places are done
pub counted : (w : Node → Bool) (bits : List Node) (width c total : ℕ) → length bits ≡ width → number w bits + 2 ^ width * c ≡ total → signed w bits ≡ wrap width (pos total)
counted w bits width c total long sum =
    let small : number w bits < 2 ^ width = subst (λ (j : ℕ). number w bits < 2 ^ j) long (number_below w bits) in
    ap (λ (k : ℕ). from_bits k (number w bits)) long
    ∙ ap (λ (k : ℕ). from_bits width k) (wraps (number w bits) (2 ^ width) c total small sum)
    ∙ wrap_count width total
