-- Names are noted in turn, and the refusal of all is that of the first instance that has one.
use Rattle.std.proofs.Common.{◌≡◌, ◌⊎◌, ℕ, ◌+◌, ◌<◌, ◌≤◌, Bool, true, false, cond, ◌||◌, List, [], ◌∷◌, ◌++◌, map, take, length, get_or, Option, Some, None, slice_get, append_assoc, append-nil, refl, sym, subst, ◌∙◌, ap, inl, inr, arith}
use Rattle.std.specs.List.{list_any, flat_map}
use Rattle.std.specs.Str.{bytes_eq}
use Rattle.std.specs.Borrow.{Bor}
use Rattle.std.proofs.lemmas.List.{take_more}
use Rattle.std.proofs.lemmas.List.Concat.{flat_map-append}
use Rattle.std.proofs.lemmas.List.Folds.{list_any-append}
use Rattle.std.proofs.lemmas.Slice.Eq.{bytes_eq-Decides}
use Rattle.std.proofs.lemmas.Bool.{cases_lt}
use Rattle.std.proofs.lemmas.Bool.Decides.{same_from_decides, Decides-like}
use Rattle.std.proofs.lemmas.Option.{slice_get_within, slice_get-get_or}
use Rattle.indexmap.specs.IndexSet.{IndexSet}
use Rattle.base_types.specs.declared.place.Position.{Position}
use Rattle.base_types.specs.declared.place.Refusal.{Refusal}
use Rattle.base_types.specs.declared.place.Rule.TheVariants as rule
use Rattle.syntax_tree.specs.declared.expr.Named.{Named}
use Rattle.syntax_tree.specs.declared.module.Module.{Module}
use Rattle.syntax_tree.specs.declared.instance.Text.{Text}
use Rattle.syntax_tree.specs.declared.instance.Instance.{Instance}
use Rattle.resolve_names.specs.Twice.{IsSecondAt, IsTwiceAt, HasTree, HasModule, HasNoneTwice, IsFirstTwice, place_of}
use Rattle.resolve_names.specs.Noted.{least_with, IsLeastOf, is_named, has_text, IsNoted, Notes, IsTwiceIn, IsAnswerOf}
use Rattle.resolve_names.proofs.Second.{least_more, none_second}

bytes_turned : (a b : List ℕ) → bytes_eq a b ≡ bytes_eq b a
bytes_turned a b = same_from_decides (bytes_eq a b) (bytes_eq b a) (bytes_eq-Decides a b) (Decides-like (bytes_eq b a) sym sym (bytes_eq-Decides b a))

or_turned : (a b : Bool) → (a || b) ≡ (b || (a || false))
or_turned true true = refl
or_turned true false = refl
or_turned false true = refl
or_turned false false = refl

pub cond_or : (a b : Bool) → cond a true b ≡ (a || b)
cond_or true b = refl
cond_or false b = refl

-- one name, by the two facts that the set tells
pub one_noted : (x : Named) (text : List ℕ) (has has_then : List ℕ → Bool) (least least_then : Option Position) (again : Bool) → text ≡ x.name → again ≡ has text →
    ((q : List ℕ) → has_then q ≡ (bytes_eq text q || has q)) → least_then ≡ least_with again least x.place → Notes (x ∷ []) has least has_then least_then
one_noted x text has has_then least least_then again same told known is = λ before noted. record {
  seen = λ q.
      known q
      ∙ ap (λ t. bytes_eq t q || has q) same
      ∙ ap (λ b. bytes_eq x.name q || b) (noted.seen q)
      ∙ ap (λ b. b || is_named before q) (bytes_turned x.name q)
      ∙ or_turned (bytes_eq q x.name) (is_named before q)
      ∙ sym (list_any-append (λ (n : Named). bytes_eq q n.name) before (x ∷ []));
  second = subst (λ o. IsLeastOf (IsSecondAt (before ++ x ∷ [])) o) (sym is)
      (least_more before x least again (told ∙ ap has same ∙ noted.seen x.name) noted.second);
}

module _ (has : List ℕ → Bool) (least : Option Position) where
  pub notes_none : Notes [] has least has least
  notes_none = λ before noted. subst (λ (ns : List Named). IsNoted ns has least) (sym (append-nil before)) noted

  module _ (has_then : List ℕ → Bool) (least_then : Option Position) (has_last : List ℕ → Bool) (least_last : Option Position) where
    pub notes_then : (xs ys : List Named) → Notes xs has least has_then least_then → Notes ys has_then least_then has_last least_last → Notes (xs ++ ys) has least has_last least_last
    notes_then xs ys first later = λ before noted.
        subst (λ (ns : List Named). IsNoted ns has_last least_last) (append_assoc before xs ys) (later (before ++ xs) (first before noted))

    pub items_turn : (xs : List Named) (i : ℕ) (x : Named) → i < length xs → x ≡ get_or xs i x → Notes (take i xs) has least has_then least_then →
        Notes (x ∷ []) has_then least_then has_last least_last → Notes (take (i + 1) xs) has least has_last least_last
    items_turn xs i x lt is first later =
        subst (λ (ns : List Named). Notes ns has least has_last least_last) (ap (λ y. take i xs ++ y ∷ []) is ∙ sym (take_more xs i x lt)) (notes_then (take i xs) (x ∷ []) first later)

    pub flat_turn : {X : Type 0} (f : X → List Named) (xs : List X) (i : ℕ) (x : X) → i < length xs → x ≡ get_or xs i x → Notes (flat_map f (take i xs)) has least has_then least_then →
        Notes (f x) has_then least_then has_last least_last → Notes (flat_map f (take (i + 1) xs)) has least has_last least_last
    flat_turn f xs i x lt is first later =
        subst (λ (ns : List Named). Notes ns has least has_last least_last)
        (ap (λ zs. flat_map f (take i xs) ++ zs) (sym (append-nil (f x))) ∙ sym (flat_map-append f (take i xs) (x ∷ [])) ∙ ap (flat_map f) (ap (λ y. take i xs ++ y ∷ []) is ∙ sym (take_more xs i x lt)))
        (notes_then (flat_map f (take i xs)) (f x) first later)

    map_append : {X : Type 0} (f : X → Named) (xs : List X) (x : X) → map f xs ++ f x ∷ [] ≡ map f (xs ++ x ∷ [])
    map_append f [] x = refl
    map_append f (y ∷ ys) x = ap (λ zs. f y ∷ zs) (map_append f ys x)

    pub map_turn : {X : Type 0} (f : X → Named) (xs : List X) (i : ℕ) (x : X) → i < length xs → x ≡ get_or xs i x → Notes (map f (take i xs)) has least has_then least_then →
        Notes (f x ∷ []) has_then least_then has_last least_last → Notes (map f (take (i + 1) xs)) has least has_last least_last
    map_turn f xs i x lt is first later =
        subst (λ (ns : List Named). Notes ns has least has_last least_last)
        (map_append f (take i xs) x ∙ ap (map f) (ap (λ y. take i xs ++ y ∷ []) is ∙ sym (take_more xs i x lt)))
        (notes_then (map f (take i xs)) (f x ∷ []) first later)

-- names that are noted in an empty set, from no place on
pub least_noted : {S : Type 0} (empty : IndexSet (Bor (List ℕ)) S) (names : List Named) (has : List ℕ → Bool) (least : Option Position) → empty.keys ≡ [] →
    Notes names (has_text empty) None has least → IsLeastOf (IsSecondAt names) least
least_noted empty names has least e noted =
    (noted [] (record { seen = λ q. ap (λ (ts : List (Bor (List ℕ))). list_any (λ (t : Bor (List ℕ)). bytes_eq q t.now) ts) e; second = none_second })).second

same_tree : (texts : List Text) (i : Instance) (text : Text) (m : Module) → slice_get texts i.text ≡ Some text → HasTree texts i m → m ≡ text.tree
same_tree texts i text m at there =
    let other = there.1 in
    let same : there.0 ≡ text = cc in
    sym there.2 ∙ ap (λ (t : Text). t.tree) same

pub no_text : (texts : List Text) (i : Instance) → slice_get texts i.text ≡ None → IsAnswerOf texts i None
no_text texts i none = λ m p there twice. let at = there.1 in absurd cc

pub none_in : (texts : List Text) (i : Instance) (text : Text) → slice_get texts i.text ≡ Some text → IsLeastOf (IsTwiceAt text.tree) None → IsAnswerOf texts i None
none_in texts i text at none = λ m p there twice. none p (subst (λ (t : Module). IsTwiceAt t p) (same_tree texts i text m at there) twice)

pub some_in : (texts : List Text) (i : Instance) (text : Text) (place : Position) → slice_get texts i.text ≡ Some text → IsLeastOf (IsTwiceAt text.tree) (Some place) →
    IsAnswerOf texts i (Some (record { rule = rule.NameTwice; place = place_of i place }))
some_in texts i text place at least = record {
  tree = text.tree;
  place = place;
  there = (text, at, refl);
  twice = least.0;
  least = least.1;
  refusal = refl;
}

-- no instance before number n has a name twice
abbrev pub NoneBefore : List Text → List Instance → ℕ → Type 0
NoneBefore texts instances n = (k : ℕ) (i : Instance) (m : Module) (p : Position) → k < n → HasModule texts instances k i m → IsTwiceAt m p → ⊥

pub none_more : (texts : List Text) (instances : List Instance) (n : ℕ) (one : Instance) → n < length instances → one ≡ get_or instances n one →
    NoneBefore texts instances n → IsAnswerOf texts one None → NoneBefore texts instances (n + 1)
none_more texts instances n one within is none just = λ k i m p lt there twice. by_place k i m p (cases_lt k n) lt there twice
  where
    by_place : (k : ℕ) (i : Instance) (m : Module) (p : Position) → (k < n) ⊎ (n ≤ k) → k < n + 1 → HasModule texts instances k i m → IsTwiceAt m p → ⊥
    by_place k i m p (inl less) lt there twice = none k i m p less there twice
    by_place k i m p (inr le) lt there twice =
        let here : slice_get instances k ≡ Some one = ap (slice_get instances) (omega arith) ∙ slice_get-get_or instances n one within ∙ ap (λ (x : Instance). Some x) (sym is) in
        let found = there.0 in
        let same : i ≡ one = cc in
        just m p (subst (λ (x : Instance). HasTree texts x m) same there.1) twice

pub none_twice : (texts : List Text) (instances : List Instance) (n : ℕ) → length instances ≤ n → NoneBefore texts instances n → HasNoneTwice texts instances
none_twice texts instances n all none = λ k i m p there twice. none k i m p (let within = slice_get_within instances k i there.0 in omega arith) there twice

pub first_twice : (texts : List Text) (instances : List Instance) (n : ℕ) (one : Instance) (r : Refusal) → n < length instances → one ≡ get_or instances n one →
    NoneBefore texts instances n → IsTwiceIn texts one r → IsFirstTwice texts instances r
first_twice texts instances n one r within is none just = record {
  number = n;
  instance = one;
  tree = just.tree;
  place = just.place;
  there = (slice_get-get_or instances n one within ∙ ap (λ (x : Instance). Some x) (sym is), just.there);
  twice = just.twice;
  earliest = none;
  least = just.least;
  refusal = just.refusal;
}
