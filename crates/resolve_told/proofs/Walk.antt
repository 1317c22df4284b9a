-- One step of a walk over lists, and its end.
use Rattle.std.proofs.Common.{◌≡◌, ◌⊎◌, ◌∙◌, ℕ, suc, ◌+◌, ◌<◌, ◌≤◌, List, [], ◌∷◌, ◌++◌, Option, Some, length, map, take, drop, get_or, refl, sym, ap, subst, append_assoc, append-nil, drop-cons, add-one, inl, inr, arith}
use Rattle.std.specs.Prelude.{slice_get, flat_map, filter_map}
use Rattle.std.specs.List.{cons_option}
use Rattle.std.proofs.lemmas.List.{drop_all, take_all, take_more}
use Rattle.std.proofs.lemmas.List.Elements.{filter_map-append}
use Rattle.std.proofs.lemmas.Grind.{flat_map-append}
use Rattle.std.proofs.lemmas.Bool.{cases_lt}
use Rattle.std.proofs.lemmas.List.{length-map}
use Rattle.std.proofs.lemmas.Option.{slice_get_within, slice_get-get_or, slice_get-map}
use Rattle.std.specs.Prelude.{option_map}
use Rattle.syntax_tree.specs.declared.expr.Named.{Named}
use Rattle.syntax_tree.specs.declared.expr.Decl.{Decl}
use Rattle.syntax_tree.specs.declared.expr.Expr.{Expr}
use Rattle.syntax_tree.specs.declared.instance.Instance.{Instance}
use Rattle.syntax_tree.specs.declared.instance.Text.{Text}
use Rattle.syntax_tree.specs.declared.module.Paragraph.{Paragraph}
use Rattle.resolve_hierarchy.specs.Rules.{paragraphs_in}
use Rattle.resolve_said.specs.Locals.{Scope, under_names, under_decls}
use Rattle.resolve_said.specs.Said.{apart_from}
use Rattle.resolve_told.specs.Bodies as told
use Rattle.resolve_told.specs.Bodies.{bodies_by, bodies_in, bodies_from, named_from, named_by}
use Rattle.resolve_told.specs.Commands.{commands_by, root_commands}
use Rattle.resolve_told.specs.Lists.{OneByOne, EachBefore}

map_append : {X Y : Type 0} (f : X → Y) (xs ys : List X) → map f (xs ++ ys) ≡ map f xs ++ map f ys
map_append f [] ys = refl
map_append f (x ∷ xs) ys = ap (λ zs. f x ∷ zs) (map_append f xs ys)

flat_map_one : {A B : Type 0} (g : A → List B) (x : A) → flat_map g (x ∷ []) ≡ g x
flat_map_one g x = append-nil (g x)

pub front_of : {X : Type 0} (xs : List X) (i : ℕ) (x : X) → i < length xs → x ≡ get_or xs i x → drop i xs ≡ x ∷ drop (i + 1) xs
front_of xs i x inside at = drop-cons xs i x inside ∙ ap (λ z. z ∷ drop (suc i) xs) (sym at) ∙ ap (λ k. x ∷ drop k xs) (sym (add-one i))

module _ {X Y : Type 0} (R : ℕ → X → Y → Type 0) where
  -- before the first place there is none
  pub each_none : (xs : List X) (ys : List Y) → EachBefore R 0 xs ys
  each_none xs ys = λ n x y lt ex ey. absurd (omega (arith, lt))

  -- one place more
  pub each_more : (xs : List X) (ys : List Y) (k : ℕ) (x : X) (y : Y) → slice_get xs k ≡ Some x → slice_get ys k ≡ Some y → EachBefore R k xs ys → R k x y → EachBefore R (k + 1) xs ys
  each_more xs ys k x y ex ey before now = λ n a b lt ea eb. at_place n a b lt ea eb (cases_lt n k)
    where
      at_place : (n : ℕ) (a : X) (b : Y) → n < k + 1 → slice_get xs n ≡ Some a → slice_get ys n ≡ Some b → (n < k) ⊎ (k ≤ n) → R n a b
      at_place n a b lt ea eb (inl low) = before n a b low ea eb
      at_place n a b lt ea eb (inr high) =
          let same : n ≡ k = omega (arith, lt, high) in
          let left : x ≡ a = cc in
          let right : y ≡ b = cc in
          subst (λ m. R m a b) (sym same) (subst (λ v. R k a v) right (subst (λ v. R k v y) left now))

  -- no place is left
  pub each_all : (xs : List X) (ys : List Y) (k : ℕ) → length xs ≡ length ys → length xs ≤ k → EachBefore R k xs ys → OneByOne R xs ys
  each_all xs ys k every past before = record {
    every = every;
    each = λ n x y ex ey. before n x y (inside n x ex) ex ey;
  }
    where
      inside : (n : ℕ) (x : X) → slice_get xs n ≡ Some x → n < k
      inside n x ex = omega (arith, past, slice_get_within xs n x ex)

pub got : {X : Type 0} (xs : List X) (k : ℕ) (x : X) → k < length xs → x ≡ get_or xs k x → slice_get xs k ≡ Some x
got xs k x inside at = slice_get-get_or xs k x inside ∙ ap Some (sym at)

pub got_seen : {A X : Type 0} (f : A → X) (us : List A) (k : ℕ) (a : A) → k < length us → a ≡ get_or us k a → slice_get (map f us) k ≡ Some (f a)
got_seen f us k a inside at = slice_get-map f us k ∙ ap (option_map f) (got us k a inside at)

module _ {A X Y : Type 0} (R : ℕ → X → Y → Type 0) (f : A → X) where
  -- one place more of two lists, of which the first is seen by f
  pub pair_more : (us : List A) (ys : List Y) (k : ℕ) (a : A) (y : Y) → k < length us → k < length ys → a ≡ get_or us k a → y ≡ get_or ys k y →
      EachBefore R k (map f us) ys → R k (f a) y → EachBefore R (k + 1) (map f us) ys
  pair_more us ys k a y inside within at there before now =
      each_more R (map f us) ys k (f a) y (got_seen f us k a inside at) (got ys k y within there) before now

  pub pair_all : (us : List A) (ys : List Y) (k : ℕ) → length us ≡ length ys → length us ≤ k → EachBefore R k (map f us) ys → OneByOne R (map f us) ys
  pair_all us ys k every past before = each_all R (map f us) ys k (length-map us f ∙ every) (omega (arith, past, length-map us f)) before

module _ {A B X Y : Type 0} (R : ℕ → X → Y → Type 0) (f : A → X) (g : B → Y) where
  -- the same where both are seen
  pub both_more : (us : List A) (bs : List B) (k : ℕ) (a : A) (b : B) → k < length us → k < length bs → a ≡ get_or us k a → b ≡ get_or bs k b →
      EachBefore R k (map f us) (map g bs) → R k (f a) (g b) → EachBefore R (k + 1) (map f us) (map g bs)
  both_more us bs k a b inside within at there before now =
      each_more R (map f us) (map g bs) k (f a) (g b) (got_seen f us k a inside at) (got_seen g bs k b within there) before now

  pub both_all : (us : List A) (bs : List B) (k : ℕ) → length us ≡ length bs → length us ≤ k → EachBefore R k (map f us) (map g bs) → OneByOne R (map f us) (map g bs)
  both_all us bs k every past before =
      each_all R (map f us) (map g bs) k (length-map us f ∙ (every ∙ sym (length-map bs g))) (omega (arith, past, length-map us f)) before

-- one place more, where the relation is of the second alone
module _ {B X Y : Type 0} (P : ℕ → Y → Type 0) (g : B → Y) where
  pub right_more : (xs : List X) (bs : List B) (k : ℕ) (b : B) → k < length bs → b ≡ get_or bs k b →
      EachBefore (λ n x y. P n y) k xs (map g bs) → P k (g b) → EachBefore (λ n x y. P n y) (k + 1) xs (map g bs)
  right_more xs bs k b within there before now = λ n x y lt ex ey. at_place n x y lt ex ey (cases_lt n k)
    where
      at_place : (n : ℕ) (x : X) (y : Y) → n < k + 1 → slice_get xs n ≡ Some x → slice_get (map g bs) n ≡ Some y → (n < k) ⊎ (k ≤ n) → P n y
      at_place n x y lt ex ey (inl low) = before n x y low ex ey
      at_place n x y lt ex ey (inr high) =
          let same : n ≡ k = omega (arith, lt, high) in
          let here : slice_get (map g bs) k ≡ Some (g b) = got_seen g bs k b within there in
          let right : g b ≡ y = cc in
          subst (λ m. P m y) (sym same) (subst (λ v. P k v) right now)

-- A walk over a list, of which each item gives a list of its own.
module _ {A B : Type 0} (F : ℕ → List A → List B) (G : ℕ → A → List B) where
  pub walk_next : ((n : ℕ) (x : A) (xs : List A) → F n (x ∷ xs) ≡ G n x ++ F (n + 1) xs) → (xs : List A) (i n next : ℕ) (x : A) (all now whole : List B) →
      i < length xs → x ≡ get_or xs i x → all ++ F n (drop i xs) ≡ whole → now ≡ all ++ G n x → next ≡ n + 1 → now ++ F next (drop (i + 1) xs) ≡ whole
  walk_next step xs i n next x all now whole inside at was adds after =
      let rest = F (n + 1) (drop (i + 1) xs) in
      ap (λ m. now ++ F m (drop (i + 1) xs)) after ∙
      (ap (λ z. z ++ rest) adds ∙
      (append_assoc all (G n x) rest ∙
      (ap (λ r. all ++ r) (sym (step n x (drop (i + 1) xs)) ∙ ap (F n) (sym (front_of xs i x inside at))) ∙ was)))

module _ {A B : Type 0} (F : ℕ → List A → List B) where
  pub walk_end : ((n : ℕ) → F n [] ≡ []) → (xs : List A) (i n : ℕ) (all whole : List B) → length xs ≤ i → all ++ F n (drop i xs) ≡ whole → all ≡ whole
  walk_end none xs i n all whole past was =
      sym (append-nil all) ∙ (ap (λ r. all ++ r) (sym (none n) ∙ ap (F n) (sym (drop_all i xs past))) ∙ was)

-- no paragraph is left, no instance, no name, and no declaration
pub bodies_end : (k : ℕ) (ps : List Paragraph) (i : ℕ) (all whole : List told.Declaration) → length ps ≤ i → all ++ bodies_in k (drop i ps) ≡ whole → all ≡ whole
bodies_end k ps i all whole past was = walk_end (λ n qs. bodies_in k qs) (λ n. refl) ps i 0 all whole past was

pub instances_end : (texts : List Text) (k : ℕ) (is : List Instance) (i : ℕ) (all whole : List told.Declaration) → length is ≤ i → all ++ bodies_from texts k (drop i is) ≡ whole → all ≡ whole
instances_end texts k is i all whole past was = walk_end (bodies_from texts) (λ n. refl) is i k all whole past was

pub names_end : (scope : Scope) (d : Decl Expr) (xs : List Named) (i : ℕ) (all whole : List told.Declared) → length xs ≤ i → all ++ named_from scope d i (drop i xs) ≡ whole → all ≡ whole
names_end scope d xs i all whole past was = walk_end (named_from scope d) (λ n. refl) xs i i all whole past was

pub decls_end : (scope : Scope) (ds : List (Decl Expr)) (i : ℕ) (all whole : List told.Declared) → length ds ≤ i → all ++ named_by scope (drop i ds) ≡ whole → all ≡ whole
decls_end scope ds i all whole past was = walk_end (λ n es. named_by scope es) (λ n. refl) ds i 0 all whole past was

-- one paragraph more, one instance, one name, and one declaration
pub bodies_next : (k : ℕ) (ps : List Paragraph) (i : ℕ) (p : Paragraph) (all now whole : List told.Declaration) → i < length ps → p ≡ get_or ps i p →
    all ++ bodies_in k (drop i ps) ≡ whole → now ≡ all ++ bodies_by k p → now ++ bodies_in k (drop (i + 1) ps) ≡ whole
bodies_next k ps i p all now whole inside at was adds =
    walk_next (λ n qs. bodies_in k qs) (λ n q. bodies_by k q) (λ n x xs. refl) ps i 0 1 p all now whole inside at was adds refl

pub instances_next : (texts : List Text) (k next : ℕ) (is : List Instance) (i : ℕ) (x : Instance) (all now whole : List told.Declaration) → i < length is → x ≡ get_or is i x →
    all ++ bodies_from texts k (drop i is) ≡ whole → now ≡ all ++ bodies_in k (paragraphs_in texts x) → next ≡ k + 1 → now ++ bodies_from texts next (drop (i + 1) is) ≡ whole
instances_next texts k next is i x all now whole inside at was adds after =
    walk_next (bodies_from texts) (λ n y. bodies_in n (paragraphs_in texts y)) (λ n y ys. refl) is i k next x all now whole inside at was adds after

pub names_next : (scope : Scope) (d : Decl Expr) (xs : List Named) (i : ℕ) (x : Named) (all now whole : List told.Declared) → i < length xs → x ≡ get_or xs i x →
    all ++ named_from scope d i (drop i xs) ≡ whole → now ≡ all ++ record { name = x.name; apart = apart_from d.is_disjoint i; scope = scope; word = d.word; bound = d.bound } ∷ [] →
    now ++ named_from scope d (i + 1) (drop (i + 1) xs) ≡ whole
names_next scope d xs i x all now whole inside at was adds =
    walk_next (named_from scope d) (λ n y. record { name = y.name; apart = apart_from d.is_disjoint n; scope = scope; word = d.word; bound = d.bound } ∷ []) (λ n y ys. refl) xs i i (i + 1) x all now whole inside at was adds refl

-- the names of one declaration more are in scope
under_more : (scope : Scope) (ds : List (Decl Expr)) (d : Decl Expr) → under_decls scope (ds ++ d ∷ []) ≡ under_names (under_decls scope ds) d.names
under_more scope [] d = refl
under_more scope (e ∷ es) d = under_more (under_names scope e.names) es d

pub decls_next : (scope : Scope) (ds : List (Decl Expr)) (i : ℕ) (d : Decl Expr) (all now whole : List told.Declared) → i < length ds → d ≡ get_or ds i d →
    all ++ named_by (under_decls scope (take i ds)) (drop i ds) ≡ whole → now ≡ all ++ named_from (under_decls scope (take i ds)) d 0 d.names →
    now ++ named_by (under_decls scope (take (i + 1) ds)) (drop (i + 1) ds) ≡ whole
decls_next scope ds i d all now whole inside at was adds =
    let own = named_from (under_decls scope (take i ds)) d 0 d.names in
    let inner = under_names (under_decls scope (take i ds)) d.names in
    let scopes : under_decls scope (take (i + 1) ds) ≡ inner =
    ap (under_decls scope) (take_more ds i d inside ∙ ap (λ z. take i ds ++ z ∷ []) (sym at)) ∙ under_more scope (take i ds) d in
    ap (λ s. now ++ named_by s (drop (i + 1) ds)) scopes ∙
    (ap (λ z. z ++ named_by inner (drop (i + 1) ds)) adds ∙
    (append_assoc all own (named_by inner (drop (i + 1) ds)) ∙
    (ap (λ r. all ++ named_by (under_decls scope (take i ds)) r) (sym (front_of ds i d inside at)) ∙ was)))

-- one item more of a list that is mapped, of which each item gives a list, or gives one item or none
pub flat_next : {A B : Type 0} (g : A → List B) (front : List B) (xs : List A) (i : ℕ) (x : A) (all now : List B) → i < length xs → x ≡ get_or xs i x →
    all ≡ front ++ flat_map g (take i xs) → now ≡ all ++ g x → now ≡ front ++ flat_map g (take (i + 1) xs)
flat_next g front xs i x all now inside at was adds =
    adds ∙ (ap (λ z. z ++ g x) was ∙ (append_assoc front (flat_map g (take i xs)) (g x) ∙
    ap (λ z. front ++ z) (ap (λ z. flat_map g (take i xs) ++ z) (sym (flat_map_one g x)) ∙ (sym (flat_map-append g (take i xs) (x ∷ [])) ∙
    ap (flat_map g) (ap (λ z. take i xs ++ z ∷ []) at ∙ sym (take_more xs i x inside))))))

pub flat_end : {A B : Type 0} (g : A → List B) (front : List B) (xs : List A) (i : ℕ) (all : List B) → length xs ≤ i → all ≡ front ++ flat_map g (take i xs) → all ≡ front ++ flat_map g xs
flat_end g front xs i all past was = was ∙ ap (λ z. front ++ flat_map g z) (take_all i xs past)

pub map_next : {A B : Type 0} (g : A → B) (front : List B) (xs : List A) (i : ℕ) (x : A) (all now : List B) → i < length xs → x ≡ get_or xs i x →
    all ≡ front ++ map g (take i xs) → now ≡ all ++ g x ∷ [] → now ≡ front ++ map g (take (i + 1) xs)
map_next g front xs i x all now inside at was adds =
    adds ∙ (ap (λ z. z ++ g x ∷ []) was ∙ (append_assoc front (map g (take i xs)) (g x ∷ []) ∙
    ap (λ z. front ++ z) (sym (map_append g (take i xs) (x ∷ [])) ∙ ap (map g) (ap (λ z. take i xs ++ z ∷ []) at ∙ sym (take_more xs i x inside)))))

pub map_end : {A B : Type 0} (g : A → B) (front : List B) (xs : List A) (i : ℕ) (all : List B) → length xs ≤ i → all ≡ front ++ map g (take i xs) → all ≡ front ++ map g xs
map_end g front xs i all past was = was ∙ ap (λ z. front ++ map g z) (take_all i xs past)

pub filter_next : {A B : Type 0} (h : A → Option B) (xs : List A) (i : ℕ) (x : A) (all now : List B) → i < length xs → x ≡ get_or xs i x →
    all ≡ filter_map h (take i xs) → now ≡ all ++ cons_option (h x) [] → now ≡ filter_map h (take (i + 1) xs)
filter_next h xs i x all now inside at was adds =
    adds ∙ (ap (λ z. z ++ cons_option (h x) []) was ∙ (sym (filter_map-append h (take i xs) (x ∷ [])) ∙
    ap (filter_map h) (ap (λ z. take i xs ++ z ∷ []) at ∙ sym (take_more xs i x inside))))

pub filter_end : {A B : Type 0} (h : A → Option B) (xs : List A) (i : ℕ) (all : List B) → length xs ≤ i → all ≡ filter_map h (take i xs) → all ≡ filter_map h xs
filter_end h xs i all past was = was ∙ ap (filter_map h) (take_all i xs past)

-- the root is the first instance
pub root_first : (texts : List Text) (is : List Instance) (root : Instance) → slice_get is 0 ≡ Some root → root_commands texts is ≡ flat_map commands_by (paragraphs_in texts root)
root_first texts [] root get = cc
root_first texts (x ∷ xs) root get =
    let same : x ≡ root = cc in
    ap (λ (i : Instance). flat_map commands_by (paragraphs_in texts i)) same
