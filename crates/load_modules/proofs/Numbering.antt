-- How texts are numbered, and which instances open the module of the integers.
use Rattle.std.proofs.Common.{◌≡◌, ◌≢◌, ℕ, zero, suc, ◌+◌, ◌<◌, ◌≤◌, List, [], ◌∷◌, ◌++◌, map, take, length, Option, Some, refl, sym, ap, subst, ◌∙◌, arith, slice_get, get_or, inl, inr}
use Rattle.std.proofs.lemmas.Bool.{cases_lt}
use Rattle.std.proofs.lemmas.List.{length-map, length-append, take_all}
use Rattle.std.proofs.lemmas.Option.{none-some, same_Some, slice_get_within, slice_get-get_or}
use Rattle.std.proofs.Math.Seq.{take-suc}
use Rattle.std.specs.Prelude.{option_map}
use Rattle.syntax_tree.specs.Instances.{sigs_in}
use Rattle.syntax_tree.specs.declared.instance.Instance.{Instance}
use Rattle.syntax_tree.specs.declared.instance.Text.{Text}
use Rattle.syntax_tree.specs.declared.module.Module.{Module}
use Rattle.syntax_tree.specs.declared.module.Paragraph.{Paragraph}
use Rattle.syntax_tree.specs.declared.module.Paragraph.TheVariants as paragraph
use Rattle.load_state.specs.Leads.{IsInstanceOf}
use Rattle.load_state.specs.Opens.{written, implied, enum_in, enums_from, enums_of, openings_of}
use Rattle.load_modules.specs.Numbered.{AreApart, IsMetBefore, AreMet, IsRounded, HasOpens}
use Rattle.load_modules.specs.Steps.{AreSeen, HaveLower, IsNextText}
use Rattle.load_modules.specs.Told.{name_at}

-- a text that has a name is there
named_within : (texts : List Text) (n : ℕ) (name : List ℕ) → name_at texts n ≡ Some name → n < length texts
named_within [] n name is = absurd (none-some name is)
named_within (t ∷ texts) zero name is = omega arith
named_within (t ∷ texts) (suc n) name is = let less = named_within texts n name is in omega (arith, less)

-- no text before the one of this number has its name
abbrev pub IsApart : List Text → ℕ → Type 0
IsApart texts n = (m : ℕ) → m < n → name_at texts m ≢ name_at texts n

pub apart_none : (texts : List Text) (n : ℕ) → n < 0 → IsApart texts n
apart_none texts n less = absurd (omega (arith, less))

pub apart_next : (texts : List Text) (count : ℕ) → ((n : ℕ) → n < count → IsApart texts n) → IsApart texts count → (n : ℕ) → n < count + 1 → IsApart texts n
apart_next texts count done now n less = elim (cases_lt n count) [
  | inl below ↦ done n below
  | inr more ↦ let same : count ≡ n = omega (arith, less, more) in subst (λ (k : ℕ). IsApart texts k) same now
]

pub unnamed_next : (texts : List Text) (number count : ℕ) → ((m : ℕ) → m < count → name_at texts m ≢ name_at texts number) → name_at texts count ≢ name_at texts number → (m : ℕ) → m < count + 1 →
    name_at texts m ≢ name_at texts number
unnamed_next texts number count done now m less = elim (cases_lt m count) [
  | inl below ↦ done m below
  | inr more ↦ let same : count ≡ m = omega (arith, less, more) in subst (λ (k : ℕ). name_at texts k ≢ name_at texts number) same now
]

pub apart_all : (texts : List Text) → ((n : ℕ) → n < length texts → IsApart texts n) → AreApart texts
apart_all texts all m n name left right = elim (cases_lt m n) [
  | inl less ↦ absurd (all n (named_within texts n name right) m less (left ∙ sym right))
  | inr more ↦ elim (cases_lt n m) [
    | inl less ↦ absurd (all m (named_within texts m name left) n less (right ∙ sym left))
    | inr other ↦ omega (arith, more, other)
  ]
]

-- the name of a text at a place
pub name_here : (texts : List Text) (n : ℕ) (t : Text) → slice_get texts n ≡ Some t → name_at texts n ≡ Some t.name
name_here texts n t is = ap (λ (x : Option Text). option_map (λ (y : Text). y.name) x) is

pub differ : (texts : List Text) (a b : ℕ) (t u : Text) (left right : List ℕ) → slice_get texts a ≡ Some t → slice_get texts b ≡ Some u → left ≡ t.name → right ≡ u.name → left ≢ right → name_at texts a ≢ name_at texts b
differ texts a b t u left right first second is_left is_right other same =
    other (is_left ∙ (same_Some t.name u.name (sym (name_here texts a t first) ∙ (same ∙ name_here texts b u second)) ∙ sym is_right))

module _ (instances : List Instance) where
  pub seen_none : (text : ℕ) → text < 0 → IsMetBefore instances 0 text
  seen_none text less = absurd (omega (arith, less))

  pub lower_none : (n : ℕ) (i : Instance) → n < 0 → slice_get instances n ≡ Some i → (text : ℕ) → text < i.text → IsMetBefore instances n text
  lower_none n i less is text low = absurd (omega (arith, less))

  later : (n text : ℕ) → IsMetBefore instances n text → IsMetBefore instances (n + 1) text
  later n text met = let less = met.before in record { earlier = met.earlier; before = omega (arith, less); instance = met.instance; is = met.is; has = met.has }

  -- one instance more
  pub seen_next : (n most next : ℕ) (i : Instance) → slice_get instances n ≡ Some i → IsNextText i.text most next → AreSeen instances n most → AreSeen instances (n + 1) next
  seen_next n most next i is comes seen other less = elim (cases_lt other i.text) [
    | inl below ↦ later n other (seen other (comes.below other less (λ same. omega (arith, below, same))))
    | inr above ↦ elim (cases_lt i.text other) [
      | inl over ↦ later n other (seen other (comes.below other less (λ same. omega (arith, over, same))))
      | inr under ↦ let same : i.text ≡ other = omega (arith, above, under) in record { earlier = n; before = omega arith; instance = i; is = is; has = same }
    ]
  ]

  pub lower_next : (n most next : ℕ) (i : Instance) → slice_get instances n ≡ Some i → IsNextText i.text most next → AreSeen instances n most → HaveLower instances n → HaveLower instances (n + 1)
  lower_next n most next i is comes seen lower m j less there text low = elim (cases_lt m n) [
    | inl below ↦ lower m j below there text low
    | inr more ↦
        let same : m ≡ n = omega (arith, less, more) in
        let one : i ≡ j = same_Some i j (sym is ∙ (ap (λ (k : ℕ). slice_get instances k) (sym same) ∙ there)) in
        let bound : text < i.text = subst (λ (x : Instance). text < x.text) (sym one) low in
        let low_enough : text < most = let all = comes.low in omega (arith, bound, all) in
        subst (λ (k : ℕ). IsMetBefore instances k text) (sym same) (seen text low_enough)
  ]

  pub met_all : (count most size : ℕ) → size ≡ length instances → count ≤ most → AreSeen instances size most → HaveLower instances size → AreMet instances count
  met_all count most size whole enough seen lower = record {
    lower = λ n i is text low. lower n i (let less = slice_get_within instances n i is in omega (arith, less, whole)) is text low;
    all = λ text less. subst (λ (k : ℕ). IsMetBefore instances k text) whole (seen text (omega (arith, less, enough)));
  }

pub text_same : (text most : ℕ) → text < most → IsNextText text most most
text_same text most less = record { low = omega (arith, less); below = λ other below not. below; has = less }

pub text_new : (text most next : ℕ) → text ≤ most → most ≤ text → next ≡ most + 1 → IsNextText text most next
text_new text most next low high is = record {
  low = low;
  below = λ other below not. elim (cases_lt other most) [
    | inl less ↦ less
    | inr more ↦ absurd (not (omega (arith, below, more, low, high, is)))
  ];
  has = omega (arith, low, is);
}

module _ (instances : List Instance) (texts : List Text) (integers : Option ℕ) where
  -- the instance of this number opens the module of the integers where it should
  abbrev pub Rounds : ℕ → Type 0
  Rounds n = (i : Instance) (t : Text) → IsInstanceOf instances texts n i t → IsRounded integers (length (openings_of t.tree)) i

  pub rounds_none : (n : ℕ) → n < 0 → Rounds n
  rounds_none n less = absurd (omega (arith, less))

  pub rounds_next : (count : ℕ) (i : Instance) → slice_get instances count ≡ Some i → ((t : Text) → slice_get texts i.text ≡ Some t → IsRounded integers (length (openings_of t.tree)) i) →
      ((n : ℕ) → n < count → Rounds n) → (n : ℕ) → n < count + 1 → Rounds n
  rounds_next count i here now done n less j t of = elim (cases_lt n count) [
    | inl below ↦ done n below j t of
    | inr more ↦
        let same : n ≡ count = omega (arith, less, more) in
        let one : i ≡ j = same_Some i j (sym here ∙ (ap (λ (k : ℕ). slice_get instances k) (sym same) ∙ of.is_instance)) in
        let at : slice_get texts i.text ≡ Some t = subst (λ (x : Instance). slice_get texts x.text ≡ Some t) (sym one) of.is_text in
        subst (λ (x : Instance). IsRounded integers (length (openings_of t.tree)) x) one (now t at)
  ]

  pub rounds_all : (size : ℕ) → size ≡ length instances → ((n : ℕ) → n < size → Rounds n) → (n : ℕ) (i : Instance) (t : Text) → IsInstanceOf instances texts n i t →
      IsRounded integers (length (openings_of t.tree)) i
  rounds_all size whole all n i t of = all n (let less = slice_get_within instances n i of.is_instance in omega (arith, less, whole)) i t of

pub rounded_here : (texts : List Text) (integers : Option ℕ) (i : Instance) (u : Text) (count : ℕ) → slice_get texts i.text ≡ Some u → length (openings_of u.tree) ≡ count → IsRounded integers count i → (t : Text) →
    slice_get texts i.text ≡ Some t → IsRounded integers (length (openings_of t.tree)) i
rounded_here texts integers i u count here counted is t there =
    let one : u ≡ t = same_Some u t (sym here ∙ there) in
    subst (λ (x : Text). IsRounded integers (length (openings_of x.tree)) i) one (subst (λ (n : ℕ). IsRounded integers n i) (sym counted) is)

pub rounded_own : (text count : ℕ) (i : Instance) → i.text ≡ text → length i.opens ≡ count → IsRounded (Some text) count i
rounded_own text count i own is = (λ same. is, λ other. absurd (other own))

pub rounded_other : (text count : ℕ) (i : Instance) → i.text ≢ text → length i.opens ≡ count + 1 → IsRounded (Some text) count i
rounded_other text count i other is = (λ same. absurd (other same), λ not. is)

-- an enum is one, whatever number its sigs begin with
enum_length : (m n : ℕ) (p : Paragraph) → length (enum_in m p) ≡ length (enum_in n p)
enum_length m n (paragraph.Sig g) = refl
enum_length m n (paragraph.Enum e) = refl
enum_length m n (paragraph.Fact c) = refl
enum_length m n (paragraph.Assert c) = refl
enum_length m n (paragraph.Pred d) = refl
enum_length m n (paragraph.Fun d) = refl
enum_length m n (paragraph.Command c) = refl

enums_push : (n : ℕ) (ps : List Paragraph) (p : Paragraph) → length (enums_from n (ps ++ p ∷ [])) ≡ length (enums_from n ps) + length (enum_in 0 p)
enums_push n [] p =
    let split = length-append (enum_in n p) (enums_from (n + sigs_in p) []) in
    let same = enum_length n 0 p in
    omega (arith, split, same)
enums_push n (q ∷ ps) p =
    let all = length-append (enum_in n q) (enums_from (n + sigs_in q) (ps ++ p ∷ [])) in
    let part = length-append (enum_in n q) (enums_from (n + sigs_in q) ps) in
    let rest = enums_push (n + sigs_in q) ps p in
    omega (arith, all, part, rest)

-- one paragraph more
pub count_next : (items : List Paragraph) (index next : ℕ) (p : Paragraph) (opens count more : ℕ) → index < length items → slice_get items index ≡ Some p → next ≡ index + 1 →
    count ≡ opens + length (enums_from 0 (take index items)) → more ≡ count + length (enum_in 0 p) → more ≡ opens + length (enums_from 0 (take next items))
count_next items index next p opens count more inside here step is grown =
    let after : next ≡ suc index = omega (arith, step) in
    let one : get_or items index p ≡ p = same_Some (get_or items index p) p (sym (slice_get-get_or items index p inside) ∙ here) in
    let longer : take next items ≡ take index items ++ p ∷ [] =
    ap (λ (i : ℕ). take i items) after ∙ (take-suc items index p inside ∙ ap (λ (q : Paragraph). take index items ++ q ∷ []) one) in
    let size = ap (λ (qs : List Paragraph). length (enums_from 0 qs)) longer in
    let pushed = enums_push 0 (take index items) p in
    omega (arith, is, grown, size, pushed)

pub count_all : (m : Module) (items : List Paragraph) (index count opens : ℕ) → opens ≡ length m.opens → count ≡ opens + length (enums_from 0 (take index items)) → index ≡ length items → items ≡ m.paragraphs → length (openings_of m) ≡ count
count_all m items index count opens first is whole same =
    let full : take index items ≡ m.paragraphs = ap (λ (i : ℕ). take i items) whole ∙ (take_all (length items) items (omega arith) ∙ same) in
    let size = ap (λ (qs : List Paragraph). length (enums_from 0 qs)) full in
    omega (arith, is, first, size, length-append (map written m.opens) (map implied (enums_of m)), length-map m.opens written, length-map (enums_of m) implied)

pub has_opens : (instances : List Instance) (texts : List Text) (number count : ℕ) (i : Instance) (t : Text) → slice_get instances number ≡ Some i → slice_get texts i.text ≡ Some t → length (openings_of t.tree) ≡ count →
    HasOpens instances texts number count
has_opens instances texts number count i t is_instance is_text counted = record { instance = i; text = t; is = record { is_instance = is_instance; is_text = is_text }; counted = counted }
