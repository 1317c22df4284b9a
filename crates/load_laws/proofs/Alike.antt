-- Two lists of instances that are alike at a number.
use Rattle.std.proofs.Common.{◌≡◌, ◌⊎◌, ℕ, zero, suc, ◌<◌, List, [], ◌∷◌, ◌++◌, map, take, length, get_or, slice_get, Option, Some, decimal, refl, sym, ap, ap₂, subst, ◌∙◌, inl, inr, arith}
use Rattle.std.proofs.lemmas.Bool.{cases_order}
use Rattle.std.proofs.lemmas.List.{length-map}
use Rattle.std.proofs.lemmas.Option.{none-some, same_Some, slice_get_within}
use Rattle.syntax_tree.specs.declared.instance.Instance.{Instance}
use Rattle.syntax_tree.specs.declared.instance.SigRef.{SigRef}
use Rattle.syntax_tree.specs.declared.instance.Text.{Text}
use Rattle.load_state.specs.Keys.{Pair, pairs_of, AreDistinct}
use Rattle.load_state.specs.Leads.{IsInstanceOf}
use Rattle.load_modules.specs.Order.{IsLabel, plain, counted}
use Rattle.load_modules.specs.Numbered.{IsAmong, labels_before}

-- lists with the same elements
pub same_lists : {A : Type 0} (xs ys : List A) → ((n : ℕ) (x : A) → slice_get xs n ≡ Some x → slice_get ys n ≡ Some x) → ((n : ℕ) (y : A) → slice_get ys n ≡ Some y → slice_get xs n ≡ Some y) → xs ≡ ys
same_lists [] [] over back = refl
same_lists [] (y ∷ ys) over back = absurd (none-some y (back 0 y refl))
same_lists (x ∷ xs) [] over back = absurd (none-some x (over 0 x refl))
same_lists {A} (x ∷ xs) (y ∷ ys) over back =
    ap₂ (λ (z : A) (zs : List A). z ∷ zs) (sym (same_Some y x (over 0 x refl))) (same_lists xs ys (λ n z is. over (suc n) z is) (λ n z is. back (suc n) z is))

pub element : {A : Type 0} (xs : List A) (n : ℕ) → n < length xs → (x : A) × (slice_get xs n ≡ Some x)
element [] n lt = absurd (omega (arith, lt))
element (x ∷ xs) zero lt = (x, refl)
element (x ∷ xs) (suc n) lt = let less : n < length xs = omega (arith, lt) in element xs n less

-- as many elements, and the same
pub same_sized : {A : Type 0} (xs ys : List A) → length xs ≡ length ys → ((n : ℕ) (x : A) → slice_get xs n ≡ Some x → slice_get ys n ≡ Some x) → xs ≡ ys
same_sized {A} xs ys size over = same_lists xs ys over back
  where
    back : (n : ℕ) (y : A) → slice_get ys n ≡ Some y → slice_get xs n ≡ Some y
    back n y is =
        let inside : n < length xs = omega (arith, size, slice_get_within ys n y is) in
        let x = element xs n inside in
        x.1 ∙ (sym (over n x.0 x.1) ∙ is)

-- what stands in a list stands in a longer one
get_more : {A : Type 0} (xs ys : List A) (n : ℕ) (x : A) → slice_get xs n ≡ Some x → slice_get (xs ++ ys) n ≡ Some x
get_more [] ys n x is = absurd (none-some x is)
get_more (a ∷ xs) ys zero x is = is
get_more (a ∷ xs) ys (suc n) x is = get_more xs ys n x is

get_last : {A : Type 0} (xs : List A) (x : A) → slice_get (xs ++ x ∷ []) (length xs) ≡ Some x
get_last [] x = refl
get_last (a ∷ xs) x = get_last xs x

get_cases : {A : Type 0} (xs : List A) (y : A) (n : ℕ) (x : A) → slice_get (xs ++ y ∷ []) n ≡ Some x → (slice_get xs n ≡ Some x) ⊎ (x ≡ y)
get_cases [] y zero x is = inr (sym (same_Some y x is))
get_cases [] y (suc n) x is = absurd (none-some x is)
get_cases (a ∷ xs) y zero x is = inl is
get_cases (a ∷ xs) y (suc n) x is = get_cases xs y n x is

pub among_more : (numbers more : List ℕ) (n : ℕ) → IsAmong numbers n → IsAmong (numbers ++ more) n
among_more numbers more n among = record { place = among.place; there = get_more numbers more among.place n among.there }

pub among_last : (numbers : List ℕ) (n : ℕ) → IsAmong (numbers ++ n ∷ []) n
among_last numbers n = record { place = length numbers; there = get_last numbers n }

pub among_cases : (numbers : List ℕ) (m n : ℕ) → IsAmong (numbers ++ m ∷ []) n → IsAmong numbers n ⊎ (n ≡ m)
among_cases numbers m n among = elim (get_cases numbers m among.place n among.there) [
  | inl is ↦ inl (record { place = among.place; there = is })
  | inr same ↦ inr same
]

pub among_none : (n : ℕ) → IsAmong [] n → ⊥
among_none n among = none-some n among.there

-- instances with one text and equal arguments are one
abbrev pair : Instance → Pair
pair i = (i.text, i.arguments)

pair_at : (instances : List Instance) (n : ℕ) (i : Instance) (d : Pair) → slice_get instances n ≡ Some i → get_or (pairs_of instances) n d ≡ pair i
pair_at [] n i d is = absurd (none-some i is)
pair_at (x ∷ instances) zero i d is = ap pair (same_Some x i is)
pair_at (x ∷ instances) (suc n) i d is = pair_at instances n i d is

clash : (instances : List Instance) (m n : ℕ) (i j : Instance) → AreDistinct (pairs_of instances) → slice_get instances m ≡ Some i → slice_get instances n ≡ Some j → i.text ≡ j.text → i.arguments ≡ j.arguments →
    m < n → ⊥
clash instances m n i j distinct is was text arguments lt =
    let make : ℕ → List (Option SigRef) → Pair = λ x y. (x, y) in
    let inside : n < length (pairs_of instances) = omega (arith, length-map instances pair, slice_get_within instances n j was) in
    distinct m n (pair i) lt inside (pair_at instances m i (pair i) is ∙ (ap₂ make text arguments ∙ sym (pair_at instances n j (pair i) was)))

pub one_number : (instances : List Instance) (m n : ℕ) (i j : Instance) → AreDistinct (pairs_of instances) → slice_get instances m ≡ Some i → slice_get instances n ≡ Some j → i.text ≡ j.text →
    i.arguments ≡ j.arguments → m ≡ n
one_number instances m n i j distinct is was text arguments = elim (cases_order m n) [
  | inl same ↦ same
  | inr (inl lt) ↦ absurd (clash instances m n i j distinct is was text arguments lt)
  | inr (inr lt) ↦ absurd (clash instances n m j i distinct was is (sym text) (sym arguments) lt)
]

-- a way has one label behind those that are taken
pub one_label : (taken : List (List ℕ)) (way a b : List ℕ) → IsLabel taken way a → IsLabel taken way b → a ≡ b
one_label taken way a b (plain free) (plain other) = refl
one_label taken way a b (plain free) (counted other n is two open_n below) = absurd (free other is)
one_label taken way a b (counted other n is two free below) (plain none) = absurd (none other is)
one_label taken way a b (counted other n is two free below) (counted third m was three open_m under) = elim (cases_order n m) [
  | inl same ↦ ap (λ (k : ℕ). way ++ 36 ∷ decimal k) same
  | inr (inl lt) ↦ let got = under n two lt in absurd (free got.0 got.1)
  | inr (inr lt) ↦ let got = below m three lt in absurd (open_m got.0 got.1)
]

-- the instances of this number are alike, but for their opens
pub record AreAlike (instances rest : List Instance) (m : ℕ) : Type 0 where
  pub first : Instance
  pub second : Instance
  pub is_first : slice_get instances m ≡ Some first
  pub is_second : slice_get rest m ≡ Some second
  pub text : first.text ≡ second.text
  pub arguments : first.arguments ≡ second.arguments
  pub label : first.label ≡ second.label

same_front : (n : ℕ) (instances rest : List Instance) → ((m : ℕ) → m < n → AreAlike instances rest m) → take n (map (λ i. i.label) instances) ≡ take n (map (λ i. i.label) rest)
same_front zero instances rest alike = refl
same_front (suc n) [] rest alike = let a = alike 0 (omega arith) in absurd (none-some a.first a.is_first)
same_front (suc n) (x ∷ instances) [] alike = let a = alike 0 (omega arith) in absurd (none-some a.second a.is_second)
same_front (suc n) (x ∷ instances) (y ∷ rest) alike =
    let a = alike 0 (omega arith) in
    let label : x.label ≡ y.label = ap (λ (i : Instance). i.label) (same_Some x a.first a.is_first) ∙ (a.label ∙ sym (ap (λ (i : Instance). i.label) (same_Some y a.second a.is_second))) in
    ap₂ (λ (z : List ℕ) (zs : List (List ℕ)). z ∷ zs) label (same_front n instances rest (λ m lt. less m lt))
  where
    less : (m : ℕ) → m < n → AreAlike instances rest m
    less m lt =
        let more : suc m < suc n = omega (arith, lt) in
        let a = alike (suc m) more in
        record { first = a.first; second = a.second; is_first = a.is_first; is_second = a.is_second; text = a.text; arguments = a.arguments; label = a.label }

pub same_labels : (n : ℕ) (instances rest : List Instance) → ((m : ℕ) → m < n → AreAlike instances rest m) → labels_before instances n ≡ labels_before rest n
same_labels n instances rest alike = same_front n instances rest alike

-- and have one text
pub record AreSame (texts others : List Text) (instances rest : List Instance) (m : ℕ) : Type 0 where
  pub alike : AreAlike instances rest m
  pub text : Text
  pub is_first : slice_get texts alike.first.text ≡ Some text
  pub is_second : slice_get others alike.second.text ≡ Some text

pub turned : (texts others : List Text) (instances rest : List Instance) (m : ℕ) → AreSame texts others instances rest m → AreSame others texts rest instances m
turned texts others instances rest m same =
    let a = same.alike in record {
      alike = record { first = a.second; second = a.first; is_first = a.is_second; is_second = a.is_first; text = sym a.text; arguments = sym a.arguments; label = sym a.label };
      text = same.text;
      is_first = same.is_second;
      is_second = same.is_first;
    }

-- an instance with its text is one
pub one_instance : (instances : List Instance) (texts : List Text) (m : ℕ) (i j : Instance) (t u : Text) → IsInstanceOf instances texts m i t → IsInstanceOf instances texts m j u → (i ≡ j) × (t ≡ u)
one_instance instances texts m i j t u is was =
    let same : i ≡ j = same_Some i j (sym is.is_instance ∙ was.is_instance) in
    let there : slice_get texts j.text ≡ Some t = subst (λ (x : Instance). slice_get texts x.text ≡ Some t) same is.is_text in
    (same, same_Some t u (sym there ∙ was.is_text))

pub the_first : (texts others : List Text) (instances rest : List Instance) (m : ℕ) (same : AreSame texts others instances rest m) → IsInstanceOf instances texts m same.alike.first same.text
the_first texts others instances rest m same = record { is_instance = same.alike.is_first; is_text = same.is_first }

pub the_second : (texts others : List Text) (instances rest : List Instance) (m : ℕ) (same : AreSame texts others instances rest m) → IsInstanceOf rest others m same.alike.second same.text
the_second texts others instances rest m same = record { is_instance = same.alike.is_second; is_text = same.is_second }

-- the instance of one list has its text in the other
pub moved : (texts others : List Text) (instances rest : List Instance) (m : ℕ) (i : Instance) (t : Text) → AreSame texts others instances rest m → IsInstanceOf instances texts m i t →
    (j : Instance) × IsInstanceOf rest others m j t × (i.arguments ≡ j.arguments) × (i.text ≡ j.text)
moved texts others instances rest m i t same is =
    let one = one_instance instances texts m i same.alike.first t same.text is (the_first texts others instances rest m same) in (
      same.alike.second,
      subst (λ (u : Text). IsInstanceOf rest others m same.alike.second u) (sym one.1) (the_second texts others instances rest m same),
      ap (λ (x : Instance). x.arguments) one.0 ∙ same.alike.arguments,
      ap (λ (x : Instance). x.text) one.0 ∙ same.alike.text,
    )
