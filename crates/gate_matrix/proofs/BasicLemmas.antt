-- Lemmas on entries, and on circuits that grow.
use Rattle.std.proofs.Common.{◌≡◌, ℕ, suc, zero, ◌+◌, ◌-◌, ◌<◌, Bool, true, false, ◌&&◌, ◌||◌, List, [], ◌∷◌, ◌++◌, length, get_or, take, drop, All, Option, Some, None, sym, ap, ◌∙◌, refl, arith, subst, inl, inr, cond, drop-cons, add-one, length-drop, take_all}
use Rattle.std.specs.Option.{ForSome}
use Rattle.std.specs.List.{list_any, AllByRecursion}
use Rattle.std.proofs.lemmas.Bool.{cases_Bool}
use Rattle.std.proofs.lemmas.List.Elements.{recursion_from_All, All-from_recursion}
use Rattle.std.proofs.lemmas.List.Folds.{list_any_more, list_any-append}
use Rattle.gate_trait.specs.declared.node.Node.{Node}
use Rattle.gate_trait.specs.Built.{Keeps}
use Rattle.core_tuples.specs.Sets.{is_same, IsTupleSet}
use Rattle.core_tuples.specs.Index.{IsNumber}
use Rattle.core_tuples.proofs.OrderedLemmas.{or_false}
use Rattle.gate_matrix.specs.declared.entry.Entry.{Entry}
use Rattle.gate_matrix.specs.Matrices.{IsMatrix, tuples_of, node_at, truth_of, has, AllBelong}

-- ---- lists

pub head_all : {X : Type 0} (P : X → Type 0) (x : X) (xs : List X) → All P (x ∷ xs) → P x
head_all P x xs all = all zero x (omega arith)

pub tail_all : {X : Type 0} (P : X → Type 0) (x : X) (xs : List X) → All P (x ∷ xs) → All P xs
tail_all P x xs all = λ k d lt. all (suc k) d (omega arith)

-- what all elements have, the one at a place has
pub all_here : {X : Type 0} (P : X → Type 0) (xs : List X) (i : ℕ) (x : X) → All P xs → i < length xs → x ≡ get_or xs i x → P x
all_here P xs i x all lt is = subst P (sym is) (all i x lt)

pub all_as : {X : Type 0} (P : X → Type 0) (xs ys : List X) → xs ≡ ys → All P ys → All P xs
all_as {X = X} P xs ys e all = subst (λ (zs : List X). All P zs) (sym e) all

pub or_joined : (a b c : Bool) → (a || b) || c ≡ a || (b || c)
or_joined true b c = refl
or_joined false b c = refl

-- one more element is added to what was so far
pub any_step : {X : Type 0} (p : X → Bool) (xs : List X) (i : ℕ) (x : X) (now before base here : Bool) → now ≡ before || here → before ≡ base || list_any p (take i xs) → here ≡ p x → i < length xs → x ≡ get_or xs i x → now ≡ base || list_any p (take (i + 1) xs)
any_step p xs i x now before base here e f at lt is =
    e ∙ ap (λ (b : Bool). b || here) f
    ∙ or_joined base (list_any p (take i xs)) here
    ∙ ap (λ (b : Bool). base || (list_any p (take i xs) || b)) (at ∙ ap p is)
    ∙ ap (λ (b : Bool). base || b) (sym (list_any_more p xs i x lt))

-- one more element is asked
pub any_more : {X : Type 0} (p : X → Bool) (xs : List X) (i : ℕ) (x : X) (now before here : Bool) → now ≡ before || here → before ≡ list_any p (take i xs) → here ≡ p x → i < length xs → x ≡ get_or xs i x → now ≡ list_any p (take (i + 1) xs)
any_more p xs i x now before here e f at lt is =
    e ∙ ap (λ (b : Bool). b || here) f
    ∙ ap (λ (b : Bool). list_any p (take i xs) || b) (at ∙ ap p is)
    ∙ sym (list_any_more p xs i x lt)

pub any_push : {X : Type 0} (p : X → Bool) (xs : List X) (x : X) → list_any p (xs ++ x ∷ []) ≡ list_any p xs || p x
any_push p xs x = list_any-append p xs (x ∷ []) ∙ ap (λ (b : Bool). list_any p xs || b) (or_false (p x))

-- a slice from a place on
pub slice_from : (k : ℕ) (s : List ℕ) → take (length s - k) (drop k s) ≡ drop k s
slice_from k s = take_all (length s - k) (drop k s) (omega (arith, length-drop k s))

-- a list from a place on
pub open_entry : (zs : List Entry) (k : ℕ) (e : Entry) → k < length zs → e ≡ get_or zs k e → drop k zs ≡ e ∷ drop (k + 1) zs
open_entry zs k e lt is = drop-cons zs k e lt ∙ ap (λ n. get_or zs k e ∷ drop n zs) (sym (add-one k)) ∙ ap (λ (d : Entry). d ∷ drop (k + 1) zs) (sym is)

-- ---- entries and their tuples

pub tuples_append : (es fs : List Entry) → tuples_of (es ++ fs) ≡ tuples_of es ++ tuples_of fs
tuples_append [] fs = refl
tuples_append (e ∷ es) fs = ap (λ (ts : List (List ℕ)). e.tuple ∷ ts) (tuples_append es fs)

pub length_tuples : (es : List Entry) → length (tuples_of es) ≡ length es
length_tuples [] = refl
length_tuples (e ∷ es) = ap suc (length_tuples es)

unmap : (P : List ℕ → Type 0) (es : List Entry) → AllByRecursion P (tuples_of es) → AllByRecursion (λ e. P e.tuple) es
unmap P [] h = tt
unmap P (e ∷ es) h = (h.0, unmap P es h.1)

remap : (P : List ℕ → Type 0) (es : List Entry) → AllByRecursion (λ e. P e.tuple) es → AllByRecursion P (tuples_of es)
remap P [] h = tt
remap P (e ∷ es) h = (h.0, remap P es h.1)

pub all_unmap : (P : List ℕ → Type 0) (es : List Entry) → All P (tuples_of es) → All (λ e. P e.tuple) es
all_unmap P es all = All-from_recursion (λ e. P e.tuple) es (unmap P es (recursion_from_All P (tuples_of es) all))

pub all_remap : (P : List ℕ → Type 0) (es : List Entry) → All (λ e. P e.tuple) es → All P (tuples_of es)
all_remap P es all = All-from_recursion P (tuples_of es) (remap P es (recursion_from_All (λ e. P e.tuple) es all))

-- a matrix has a set of tuples
pub set_from_matrix : (arity : ℕ) (es : List Entry) → IsMatrix (record { arity = arity; entries = es }) → IsTupleSet (record { arity = arity; tuples = tuples_of es })
set_from_matrix arity es m = record {
  least = m.least;
  most = m.most;
  columns = all_remap (λ t. length t ≡ arity) es m.columns;
  numbers = all_remap (λ t. All IsNumber t) es m.numbers;
  sorted = m.sorted;
}

pub matrix_from_set : (arity : ℕ) (es : List Entry) → IsTupleSet (record { arity = arity; tuples = tuples_of es }) → IsMatrix (record { arity = arity; entries = es })
matrix_from_set arity es s = record {
  least = s.least;
  most = s.most;
  columns = all_unmap (λ t. length t ≡ arity) es s.columns;
  numbers = all_unmap (λ t. All IsNumber t) es s.numbers;
  sorted = s.sorted;
}

-- ---- circuits that grow

pub keeps_trans : {S : Type 0} (belongs : S → Node → Type 0) (value : S → (ℕ → Bool) → Node → Bool) (f g h : S) → Keeps belongs value f g → Keeps belongs value g h → Keeps belongs value f h
keeps_trans belongs value f g h a b = record {
  belong = λ n t. b.belong n (a.belong n t);
  values = λ n t x. b.values n (a.belong n t) x ∙ a.values n t x;
}

-- entries whose nodes belong keep their meaning
pub has_kept : {S : Type 0} (belongs : S → Node → Type 0) (value : S → (ℕ → Bool) → Node → Bool) (g h : S) → Keeps belongs value g h → (es : List Entry) → AllBelong (belongs g) es → (x : ℕ → Bool) (t : List ℕ) → has (value h x) es t ≡ has (value g x) es t
has_kept belongs value g h keeps [] b x t = refl
has_kept belongs value g h keeps (e ∷ es) b x t =
    let P : Entry → Type 0 = λ (f : Entry). belongs g f.node in
    ap (λ (v : Bool). (is_same e.tuple t && v) || has (value h x) es t) (keeps.values e.node (head_all P e es b) x)
    ∙ ap (λ (v : Bool). (is_same e.tuple t && value g x e.node) || v) (has_kept belongs value g h keeps es (tail_all P e es b) x t)

pub belong_kept : {S : Type 0} (belongs : S → Node → Type 0) (value : S → (ℕ → Bool) → Node → Bool) (g h : S) → Keeps belongs value g h → (es : List Entry) → AllBelong (belongs g) es → AllBelong (belongs h) es
belong_kept belongs value g h keeps es b = λ k d lt. keeps.belong (get_or es k d).node (b k d lt)

pub option_kept : {S : Type 0} (belongs : S → Node → Type 0) (value : S → (ℕ → Bool) → Node → Bool) (g h : S) → Keeps belongs value g h → (o : Option Node) (x : ℕ → Bool) → ForSome o (λ n. belongs g n) → truth_of (value h x) o ≡ truth_of (value g x) o
option_kept belongs value g h keeps None x b = refl
option_kept belongs value g h keeps (Some v) x b = keeps.values v (b v refl) x

-- a node that is found belongs where all do
pub found_belongs : (belongs : Node → Type 0) (es : List Entry) (t : List ℕ) (n : Node) → AllBelong belongs es → node_at es t ≡ Some n → belongs n
found_belongs belongs [] t n b is = absurd (cc)
found_belongs belongs (e ∷ es) t n b is =
    let P : Entry → Type 0 = λ (f : Entry). belongs f.node in
    elim (cases_Bool (is_same e.tuple t)) [
      | inl h ↦ (let at : Some e.node ≡ Some n = sym (ap (λ (c : Bool). cond c (Some e.node) (node_at es t)) h) ∙ is in
          let same : e.node ≡ n = cc in
          subst belongs same (head_all P e es b))
      | inr h ↦ found_belongs belongs es t n (tail_all P e es b) (sym (ap (λ (c : Bool). cond c (Some e.node) (node_at es t)) h) ∙ is)
    ]
