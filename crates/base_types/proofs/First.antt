-- The first library of a list that has a name.
use Rattle.std.proofs.Common.{◌≡◌, ◌≢◌, ℕ, zero, suc, ◌+◌, ◌<◌, List, [], ◌∷◌, length, get_or, set, take, map, refl, sym, ap, ◌∙◌, subst, arith, add-one, ◌≤◌, Option, Some, None, option_map}
use Rattle.std.specs.Option.{option_or}
use Rattle.std.proofs.Math.Seq.{map-set_same}
use Rattle.base_types.specs.Texts.{Texts, text_in, text_of, Answers, AnswersFirst}
use Rattle.base_types.specs.declared.library.Fetch.{Fetch}
use Rattle.base_types.specs.declared.library.Fetch.TheVariants.{Found, Absent}

or_none_left : {T : Type 0} (a b : Option T) → option_or a b ≡ None → a ≡ None
or_none_left None b h = refl
or_none_left (Some x) b h = cc

or_none_right : {T : Type 0} (a b : Option T) → option_or a b ≡ None → b ≡ None
or_none_right None b h = h
or_none_right (Some x) b h = cc

or_found : (f : List ℕ → List ℕ) (a b : Option (List ℕ)) (y : List ℕ) → Some y ≡ option_map f a → Some y ≡ option_map f (option_or a b)
or_found f None b y h = cc
or_found f (Some x) b y h = h

or_absent : (f : List ℕ → List ℕ) (a : Option (List ℕ)) → None ≡ option_map f a → a ≡ None
or_absent f None h = refl
or_absent f (Some x) h = cc

-- no library before the i-th has the name, and the i-th has it
found_first : (told : List Texts) (i : ℕ) (name : List ℕ) (most : ℕ) (d : Texts) (y : List ℕ) → i < length told → text_of (take i told) name ≡ None →
    Some y ≡ option_map (take most) (text_in (get_or told i d) name) → Some y ≡ option_map (take most) (text_of told name)
found_first [] i name most d y lt none h = absurd (omega arith)
found_first (texts ∷ rest) zero name most d y lt none h = or_found (take most) (text_in texts name) (text_of rest name) y h
found_first (texts ∷ rest) (suc i) name most d y lt none h =
    let here : text_in texts name ≡ None = or_none_left (text_in texts name) (text_of (take i rest) name) none in
    let later : text_of (take i rest) name ≡ None = or_none_right (text_in texts name) (text_of (take i rest) name) none in
    let found : Some y ≡ option_map (take most) (text_of rest name) = found_first rest i name most d y (omega arith) later h in
    subst (λ o. Some y ≡ option_map (take most) (option_or o (text_of rest name))) (sym here) found

-- nor has the i-th
absent_more : (told : List Texts) (i : ℕ) (name : List ℕ) (d : Texts) → i < length told → text_of (take i told) name ≡ None →
    text_in (get_or told i d) name ≡ None → text_of (take (suc i) told) name ≡ None
absent_more [] i name d lt none h = absurd (omega arith)
absent_more (texts ∷ rest) zero name d lt none h = ap (λ o. option_or o None) h
absent_more (texts ∷ rest) (suc i) name d lt none h =
    let here : text_in texts name ≡ None = or_none_left (text_in texts name) (text_of (take i rest) name) none in
    let later : text_of (take i rest) name ≡ None = or_none_right (text_in texts name) (text_of (take i rest) name) none in
    ap (λ o. option_or o (text_of (take (suc i) rest) name)) here ∙ absent_more rest i name d (omega arith) later h

-- the member at i tells what stands at i
told_at : {B : Type 0} (holds : B → Option Texts) (items : List B) (told : List Texts) (i : ℕ) (b : B) (d : Texts) → map holds items ≡ map (λ t. Some t) told →
    i < length items → holds (get_or items i b) ≡ Some (get_or told i d)
told_at holds [] told i b d same lt = absurd (omega arith)
told_at holds (x ∷ items) [] i b d same lt = cc
told_at holds (x ∷ items) (t ∷ told) zero b d same lt = cc
told_at holds (x ∷ items) (t ∷ told) (suc i) b d same lt = told_at holds items told i b d (cc) (omega arith)

told_length : {B : Type 0} (holds : B → Option Texts) (items : List B) (told : List Texts) → map holds items ≡ map (λ t. Some t) told → length items ≡ length told
told_length holds [] [] same = refl
told_length holds [] (t ∷ told) same = cc
told_length holds (x ∷ items) [] same = cc
told_length holds (x ∷ items) (t ∷ told) same = ap suc (told_length holds items told (cc))

module _ {B : Type 0} (holds : B → Option Texts) (start items : List B) (i : ℕ) (b : B) (name : List ℕ) (most : ℕ)
    (same : map holds items ≡ map holds start) (lt : i < length items) (is : b ≡ get_or items i b) (told : List Texts) (tells : map holds start ≡ map (λ t. Some t) told)
    (none : text_of (take i told) name ≡ None) where
  one_tells : holds b ≡ Some (get_or told i [])
  one_tells = ap holds is ∙ told_at holds items told i b [] (same ∙ tells) lt

  within : i < length told
  within = subst (λ n. i < n) (told_length holds items told (same ∙ tells)) lt

  -- the i-th has it: its answer is that of the list
  pub answers_found : (fetch : Fetch) → fetch ≢ Absent → ((texts : Texts) → holds b ≡ Some texts → Answers texts name most fetch) → AnswersFirst told name most fetch
  answers_found (Found bytes) other answer = found_first told i name most [] bytes.items within none (answer (get_or told i []) one_tells)
  answers_found Absent other answer = absurd (other refl)

  -- the i-th hasn't
  pub answers_absent : ((texts : Texts) → holds b ≡ Some texts → Answers texts name most Absent) → text_of (take (i + 1) told) name ≡ None
  answers_absent answer =
      rw add-one (absent_more told i name [] within none (or_absent (take most) (text_in (get_or told i []) name) (answer (get_or told i []) one_tells)))

take_all : (told : List Texts) (n : ℕ) → length told ≤ n → take n told ≡ told
take_all [] zero le = refl
take_all [] (suc n) le = refl
take_all (t ∷ told) zero le = absurd (omega arith)
take_all (t ∷ told) (suc n) le = ap (λ l. t ∷ l) (take_all told n (omega arith))

-- one member is replaced by one that holds the same
pub keeps_holds : {B : Type 0} (holds : B → Option Texts) (start items : List B) (i : ℕ) (b next : B) → map holds items ≡ map holds start →
    b ≡ get_or items i b → holds next ≡ holds b → map holds (set items i next) ≡ map holds start
keeps_holds holds start items i b next same is keeps = map-set_same holds items i next b (keeps ∙ ap holds is) ∙ same
