-- The texts of a universe differ, and each is of a right form.
use Rattle.std.proofs.Common.{◌≡◌, inl, inr, ℕ, zero, suc, ◌-◌, ◌<◌, ◌≤◌, ◌^◌, ℤ, pos, negsuc, ◌-ℤ◌, Bool, true, false, List, [], ◌∷◌, ◌++◌, length, All, Contains, Option, Some, None, slice_get, decimal, codes, refl, sym, ◌∙◌, subst, arith}
use Rattle.std.specs.Fmt.{signed_decimal}
use Rattle.std.specs.Int.Signed.{mag}
use Rattle.std.proofs.lemmas.Int.{ints}
use Rattle.std.proofs.lemmas.Fmt.{signed_decimal_injective}
use Rattle.std.proofs.lemmas.List.{length-append}
use Rattle.std.proofs.lemmas.List.Elements.{Contains-push_cases, Contains-append_cases}
use Rattle.std.proofs.lemmas.Option.{slice_get_within, slice_get-get_or, get_or_from_slice_get}
use Rattle.std.proofs.Math.Pow.{pow_mono}
use Rattle.core_tree.specs.declared.model.Model.{Model}
use Rattle.core_tree.specs.declared.model.Sig.{Sig}
use Rattle.core_meaning.specs.declared.scopes.SigScope.{SigScope}
use Rattle.core_meaning.specs.declared.scopes.Scopes.{Scopes}
use Rattle.answer_trace.specs.declared.make.Naming.{Naming}
use Rattle.answer_trace.specs.declared.make.Naming.TheVariants.{Literal, Strings, Numbered}
use Rattle.answer_trace.specs.Text.{atom_text}
use Rattle.answer_trace.specs.Made.{naming_of, numbered_texts, counted_texts, named_texts, nth_texts, texts_before, integer_text, integer_texts, universe_texts}
use Rattle.answer_laws.specs.Form.{IsAtomText, HasNoFeed}
use Rattle.answer_laws.specs.Labelled.{IsLiteral, IsPath, IsLabelOf, IsLabelled, AreNumbered}
use Rattle.answer_laws.proofs.Bytes.{numbered_is_atom, literal_is_atom, signed_is_atom, numbered_line, literal_line, signed_line, numbered_apart, numbered_no_integer, literal_no_integer, numbered_no_literal}
use Rattle.answer_laws.proofs.LabelsApart.{IsApart, apart_none, apart_one, apart_both, in_one, in_none, all_of}

-- a text that a sig gives one of its atoms
pub data IsNamed (sig : Sig) (t : List ℕ) : Type 0 where
  by_label : naming_of sig.origin sig.kind ≡ Literal → t ≡ sig.label → IsNamed sig t
  by_number : (i : ℕ) → i < 16384 → naming_of sig.origin sig.kind ≡ Numbered → t ≡ sig.label ++ codes "$" ++ decimal i → IsNamed sig t

-- ---- the texts of a sig

numbered_in : (label : List ℕ) (n : ℕ) (t : List ℕ) → Contains (numbered_texts label n) t → (i : ℕ) × (i < n) × (t ≡ label ++ codes "$" ++ decimal i)
numbered_in label zero t c = absurd (in_none t c)
numbered_in label (suc n) t c = elim (Contains-push_cases (numbered_texts label n) (label ++ codes "$" ++ decimal n) t c) [
  | inl before ↦ (let found = numbered_in label n t before in (found.0, (let lt = found.1 in omega (arith, lt)), found.2))
  | inr e ↦ (n, omega arith, sym e)
]

pub numbered_length : (label : List ℕ) (n : ℕ) → length (numbered_texts label n) ≡ n
numbered_length label zero = refl
numbered_length label (suc n) =
    let rest = numbered_length label n in
    let more = length-append (numbered_texts label n) ((label ++ codes "$" ++ decimal n) ∷ []) in
    omega (arith, rest, more)

numbered_differ : (label : List ℕ) (n : ℕ) → n ≤ 16384 → IsApart (λ (t : List ℕ). t) (numbered_texts label n)
numbered_differ label zero small = apart_none (λ (t : List ℕ). t)
numbered_differ label (suc n) small =
    apart_both (λ (t : List ℕ). t) (numbered_texts label n) ((label ++ codes "$" ++ decimal n) ∷ []) (numbered_differ label n (omega arith)) (apart_one (λ (t : List ℕ). t) (label ++ codes "$" ++ decimal n))
    (λ x y cx cy same.
    let found = numbered_in label n x cx in
    let lt = found.1 in
    let is = numbered_apart label label found.0 n (omega (arith, lt)) (omega arith) (sym found.2 ∙ same ∙ in_one (label ++ codes "$" ++ decimal n) y cy) in
    let e = is.1 in
    omega (arith, lt, e))

counted_at : (sig : Sig) → naming_of sig.origin sig.kind ≡ Numbered → (number : Option ℕ) (top : Bool) → length (counted_texts sig.label number top) ≤ 16384 → (t : List ℕ) → Contains (counted_texts sig.label number top) t → IsNamed sig t
counted_at sig is (Some n) true small t c =
    let found = numbered_in sig.label n t c in
    let lt = found.1 in
    let count = numbered_length sig.label n in
    by_number found.0 (omega (arith, lt, count, small)) is found.2
counted_at sig is (Some n) false small t c = absurd (in_none t c)
counted_at sig is None top small t c = absurd (in_none t c)

counted_differ : (label : List ℕ) (number : Option ℕ) (top : Bool) → length (counted_texts label number top) ≤ 16384 → IsApart (λ (t : List ℕ). t) (counted_texts label number top)
counted_differ label (Some n) true small = let count = numbered_length label n in numbered_differ label n (omega (arith, count, small))
counted_differ label (Some n) false small = apart_none (λ (t : List ℕ). t)
counted_differ label None top small = apart_none (λ (t : List ℕ). t)

named_at : (sig : Sig) (naming : Naming) → naming_of sig.origin sig.kind ≡ naming → (scope : SigScope) → length (named_texts naming sig.label scope) ≤ 16384 → (t : List ℕ) → Contains (named_texts naming sig.label scope) t → IsNamed sig t
named_at sig Literal is scope small t c = by_label is (in_one sig.label t c)
named_at sig Strings is scope small t c = absurd (in_none t c)
named_at sig Numbered is scope small t c = counted_at sig is scope.number scope.top small t c

named_differ : (label : List ℕ) (naming : Naming) (scope : SigScope) → length (named_texts naming label scope) ≤ 16384 → IsApart (λ (t : List ℕ). t) (named_texts naming label scope)
named_differ label Literal scope small = apart_one (λ (t : List ℕ). t) label
named_differ label Strings scope small = apart_none (λ (t : List ℕ). t)
named_differ label Numbered scope small = counted_differ label scope.number scope.top small

nth_named : (sigs : List Sig) (n : ℕ) (o : Option Sig) (q : Option SigScope) → slice_get sigs n ≡ o → length (nth_texts o q) ≤ 16384 → (t : List ℕ) → Contains (nth_texts o q) t → (sig : Sig) × (slice_get sigs n ≡ Some sig) × IsNamed sig t
nth_named sigs n (Some sig) (Some scope) e small t c = (sig, e, named_at sig (naming_of sig.origin sig.kind) refl scope small t c)
nth_named sigs n None q e small t c = absurd (in_none t c)
nth_named sigs n (Some sig) None e small t c = absurd (in_none t c)

nth_differ : (o : Option Sig) (q : Option SigScope) → length (nth_texts o q) ≤ 16384 → IsApart (λ (t : List ℕ). t) (nth_texts o q)
nth_differ (Some sig) (Some scope) small = named_differ sig.label (naming_of sig.origin sig.kind) scope small
nth_differ None q small = apart_none (λ (t : List ℕ). t)
nth_differ (Some sig) None small = apart_none (λ (t : List ℕ). t)

-- ---- the texts of sigs

label_at : (n : Naming) (label : List ℕ) (m : Naming) → m ≡ n → IsLabelOf m label → IsLabelOf n label
label_at n label m e is = subst (λ (k : Naming). IsLabelOf k label) e is

pub literal_of : (sig : Sig) → naming_of sig.origin sig.kind ≡ Literal → IsLabelOf (naming_of sig.origin sig.kind) sig.label → IsLiteral sig.label
literal_of sig e is = label_at Literal sig.label (naming_of sig.origin sig.kind) e is

pub path_of : (sig : Sig) → naming_of sig.origin sig.kind ≡ Numbered → IsLabelOf (naming_of sig.origin sig.kind) sig.label → IsPath sig.label
path_of sig e is = label_at Numbered sig.label (naming_of sig.origin sig.kind) e is

-- sigs that give one text have one label
one_label : (a b : Sig) (t : List ℕ) → IsLabelOf (naming_of a.origin a.kind) a.label → IsLabelOf (naming_of b.origin b.kind) b.label → IsNamed a t → IsNamed b t → a.label ≡ b.label
one_label a b t fa fb (by_label na ea) (by_label nb eb) = sym ea ∙ eb
one_label a b t fa fb (by_label na ea) (by_number j lt nb eb) = absurd (numbered_no_literal b.label a.label j (path_of b nb fb) (literal_of a na fa) (sym eb ∙ ea))
one_label a b t fa fb (by_number i lt na ea) (by_label nb eb) = absurd (numbered_no_literal a.label b.label i (path_of a na fa) (literal_of b nb fb) (sym ea ∙ eb))
one_label a b t fa fb (by_number i lt na ea) (by_number j le nb eb) = (numbered_apart a.label b.label i j (omega arith) (omega arith) (sym ea ∙ eb)).0

pub named_atom : (sig : Sig) (t : List ℕ) → IsLabelOf (naming_of sig.origin sig.kind) sig.label → IsNamed sig t → IsAtomText t
named_atom sig t is (by_label n e) = subst IsAtomText (sym e) (literal_is_atom sig.label (literal_of sig n is))
named_atom sig t is (by_number i lt n e) = subst IsAtomText (sym e) (numbered_is_atom sig.label i (path_of sig n is) (omega arith))

pub named_line : (sig : Sig) (t : List ℕ) → IsLabelOf (naming_of sig.origin sig.kind) sig.label → IsNamed sig t → HasNoFeed t
named_line sig t is (by_label n e) = subst HasNoFeed (sym e) (literal_line sig.label (literal_of sig n is))
named_line sig t is (by_number i lt n e) = subst HasNoFeed (sym e) (numbered_line sig.label i (path_of sig n is) (omega arith))

named_no_integer : (sig : Sig) (t : List ℕ) (z : ℤ) → IsLabelOf (naming_of sig.origin sig.kind) sig.label → mag z < 2 ^ 63 → IsNamed sig t → t ≡ signed_decimal z → ⊥
named_no_integer sig t z is h (by_label n e) same = literal_no_integer sig.label z (literal_of sig n is) h (sym e ∙ same)
named_no_integer sig t z is h (by_number i lt n e) same = numbered_no_integer sig.label i z h (sym e ∙ same)

-- ---- integers

size_at : (z : ℤ) (k h : ℕ) → z ≡ pos k -ℤ pos h → k < 4096 → h < 4096 → mag z < 2 ^ 63
size_at (pos n) k h e lt le = omega (arith, ints)
size_at (negsuc n) k h e lt le = omega (arith, ints)

half_small : (bits : ℕ) → bits ≤ 12 → 2 ^ (bits - 1) < 4096
half_small bits le = let below : bits - 1 ≤ 11 = omega arith in let e : 2 ^ (bits - 1) ≤ 2 ^ 11 = pow_mono {i = bits - 1} {j = 11} below in omega (arith, e)

integer_size : (bits k : ℕ) → bits ≤ 12 → k < 4096 → mag (pos k -ℤ pos (2 ^ (bits - 1))) < 2 ^ 63
integer_size bits k le lt = size_at (pos k -ℤ pos (2 ^ (bits - 1))) k (2 ^ (bits - 1)) refl lt (half_small bits le)

same_number : (j k h : ℕ) → pos j -ℤ pos h ≡ pos k -ℤ pos h → j ≡ k
same_number j k h e = omega (arith, ints)

integer_in : (bits n : ℕ) (t : List ℕ) → Contains (integer_texts bits n) t → (k : ℕ) × (k < n) × (t ≡ integer_text bits k)
integer_in bits zero t c = absurd (in_none t c)
integer_in bits (suc n) t c = elim (Contains-push_cases (integer_texts bits n) (integer_text bits n) t c) [
  | inl before ↦ (let found = integer_in bits n t before in (found.0, (let lt = found.1 in omega (arith, lt)), found.2))
  | inr e ↦ (n, omega arith, sym e)
]

integers_differ : (bits n : ℕ) → bits ≤ 12 → n ≤ 4096 → IsApart (λ (t : List ℕ). t) (integer_texts bits n)
integers_differ bits zero le small = apart_none (λ (t : List ℕ). t)
integers_differ bits (suc n) le small =
    apart_both (λ (t : List ℕ). t) (integer_texts bits n) (integer_text bits n ∷ []) (integers_differ bits n le (omega arith)) (apart_one (λ (t : List ℕ). t) (integer_text bits n))
    (λ x y cx cy same.
    let found = integer_in bits n x cx in
    let lt = found.1 in
    let texts : integer_text bits found.0 ≡ integer_text bits n = sym found.2 ∙ same ∙ in_one (integer_text bits n) y cy in
    let is = signed_decimal_injective _ _ (integer_size bits found.0 le (omega (arith, lt))) (integer_size bits n le (omega arith)) texts in
    let e = same_number found.0 n (2 ^ (bits - 1)) is in
    omega (arith, lt, e))

-- ---- a universe

-- a text that one of the first so many sigs of a model gives an atom
pub record IsNamedBelow (sigs : List Sig) (n : ℕ) (t : List ℕ) : Type 0 where
  pub place : ℕ
  pub below : place < n
  pub sig : Sig
  pub at : slice_get sigs place ≡ Some sig
  pub named : IsNamed sig t

one_more : (sigs : List Sig) (n : ℕ) (t : List ℕ) → IsNamedBelow sigs n t → IsNamedBelow sigs (suc n) t
one_more sigs n t is = record { place = is.place; below = (let lt = is.below in omega (arith, lt)); sig = is.sig; at = is.at; named = is.named }

before_named : (sigs : List Sig) (numbers : List SigScope) (n : ℕ) → length (texts_before sigs numbers n) ≤ 16384 → (t : List ℕ) → Contains (texts_before sigs numbers n) t → IsNamedBelow sigs n t
before_named sigs numbers zero small t c = absurd (in_none t c)
before_named sigs numbers (suc n) small t c =
    let texts : List (List ℕ) = nth_texts (slice_get sigs n) (slice_get numbers n) in
    let both = length-append (texts_before sigs numbers n) texts in
    elim (Contains-append_cases (texts_before sigs numbers n) texts t c) [
      | inl before ↦ one_more sigs n t (before_named sigs numbers n (omega (arith, both, small)) t before)
      | inr here ↦ (
          let found = nth_named sigs n (slice_get sigs n) (slice_get numbers n) refl (omega (arith, both, small)) t here in
          record { place = n; below = omega arith; sig = found.0; at = found.1; named = found.2 }
          )
    ]

module _ (model : Model) (labelled : IsLabelled model) where
  label_is : (s : ℕ) (sig : Sig) → slice_get model.sigs s ≡ Some sig → IsLabelOf (naming_of sig.origin sig.kind) sig.label
  label_is s sig e = subst (λ (d : Sig). IsLabelOf (naming_of d.origin d.kind) d.label) (get_or_from_slice_get model.sigs s sig sig e) (labelled.sigs s sig (slice_get_within model.sigs s sig e))

  pub below_atom : (n : ℕ) (t : List ℕ) → IsNamedBelow model.sigs n t → IsAtomText t
  below_atom n t is = named_atom is.sig t (label_is is.place is.sig is.at) is.named

  pub below_line : (n : ℕ) (t : List ℕ) → IsNamedBelow model.sigs n t → HasNoFeed t
  below_line n t is = named_line is.sig t (label_is is.place is.sig is.at) is.named

  below_no_integer : (n : ℕ) (t : List ℕ) (z : ℤ) → mag z < 2 ^ 63 → IsNamedBelow model.sigs n t → t ≡ signed_decimal z → ⊥
  below_no_integer n t z h is e = named_no_integer is.sig t z (label_is is.place is.sig is.at) h is.named e

  before_differ : (numbers : List SigScope) (n : ℕ) → length (texts_before model.sigs numbers n) ≤ 16384 → IsApart (λ (t : List ℕ). t) (texts_before model.sigs numbers n)
  before_differ numbers zero small = apart_none (λ (t : List ℕ). t)
  before_differ numbers (suc n) small =
      let texts : List (List ℕ) = nth_texts (slice_get model.sigs n) (slice_get numbers n) in
      let both = length-append (texts_before model.sigs numbers n) texts in
      let few : length (texts_before model.sigs numbers n) ≤ 16384 = omega (arith, both, small) in
      let little : length texts ≤ 16384 = omega (arith, both, small) in
      apart_both (λ (t : List ℕ). t) (texts_before model.sigs numbers n) texts (before_differ numbers n few) (nth_differ (slice_get model.sigs n) (slice_get numbers n) little)
      (λ x y cx cy same.
      let is = before_named model.sigs numbers n few x cx in
      let found = nth_named model.sigs n (slice_get model.sigs n) (slice_get numbers n) refl little y cy in
      let label = one_label is.sig found.0 y (label_is is.place is.sig is.at) (label_is n found.0 found.1) (subst (IsNamed is.sig) same is.named) found.2 in
      let place = labelled.apart is.place n is.sig found.0 is.at found.1 label in
      let lt = is.below in
      omega (arith, lt, place))

  module _ (scopes : Scopes) (numbered : AreNumbered model scopes) where
    few_bits : 2 ^ scopes.bits ≤ 4096
    few_bits = let le = numbered.most in let e : 2 ^ scopes.bits ≤ 2 ^ 12 = pow_mono {i = scopes.bits} {j = 12} le in omega (arith, e)

    few_texts : length (texts_before model.sigs scopes.numbers (length model.sigs)) ≤ 16384
    few_texts =
        let both = length-append (texts_before model.sigs scopes.numbers (length model.sigs)) (integer_texts scopes.bits (2 ^ scopes.bits)) in
        let small = numbered.atoms in
        omega (arith, both, small)

    size : (k : ℕ) → k < 2 ^ scopes.bits → mag (pos k -ℤ pos (2 ^ (scopes.bits - 1))) < 2 ^ 63
    size k lt = let e = few_bits in integer_size scopes.bits k numbered.most (omega (arith, lt, e))

    -- different numbers of the universe have different texts
    universe_differ : IsApart (λ (t : List ℕ). t) (universe_texts model scopes)
    universe_differ =
        apart_both (λ (t : List ℕ). t) (texts_before model.sigs scopes.numbers (length model.sigs)) (integer_texts scopes.bits (2 ^ scopes.bits)) (before_differ scopes.numbers (length model.sigs) few_texts) (integers_differ scopes.bits (2 ^ scopes.bits) numbered.most few_bits)
        (λ x y cx cy same.
        let is = before_named model.sigs scopes.numbers (length model.sigs) few_texts x cx in
        let found = integer_in scopes.bits (2 ^ scopes.bits) y cy in
        below_no_integer (length model.sigs) x (pos found.0 -ℤ pos (2 ^ (scopes.bits - 1))) (size found.0 found.1) is (same ∙ found.2))

    pub texts_differ : (i j : ℕ) → i < length (universe_texts model scopes) → j < length (universe_texts model scopes) → atom_text (universe_texts model scopes) i ≡ atom_text (universe_texts model scopes) j → i ≡ j
    texts_differ i j lt le same =
        universe_differ i j (atom_text (universe_texts model scopes) i) (atom_text (universe_texts model scopes) j) (slice_get-get_or (universe_texts model scopes) i [] lt) (slice_get-get_or (universe_texts model scopes) j [] le) same

    each_text : (P : List ℕ → Type 0) → ((t : List ℕ) → IsNamedBelow model.sigs (length model.sigs) t → P t) → ((z : ℤ) → mag z < 2 ^ 63 → P (signed_decimal z)) → All P (universe_texts model scopes)
    each_text P named integer = all_of P (universe_texts model scopes) (λ t c. elim (Contains-append_cases (texts_before model.sigs scopes.numbers (length model.sigs)) (integer_texts scopes.bits (2 ^ scopes.bits)) t c) [
      | inl before ↦ named t (before_named model.sigs scopes.numbers (length model.sigs) few_texts t before)
      | inr here ↦ (let found = integer_in scopes.bits (2 ^ scopes.bits) t here in subst P (sym found.2) (integer (pos found.0 -ℤ pos (2 ^ (scopes.bits - 1))) (size found.0 found.1)))
    ])

    pub texts_are_atoms : All IsAtomText (universe_texts model scopes)
    texts_are_atoms = each_text IsAtomText (below_atom (length model.sigs)) signed_is_atom

    pub texts_are_lines : All HasNoFeed (universe_texts model scopes)
    texts_are_lines = each_text HasNoFeed (below_line (length model.sigs)) signed_line
