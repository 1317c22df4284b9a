-- What holds of each item of a list so far, and what is added to a list.
use Rattle.std.proofs.Common.{◌≡◌, ◌⊎◌, inl, inr, ℕ, ◌+◌, ◌<◌, ◌≤◌, ◌==◌, Bool, true, false, ◌||◌, true≢false, eqb-true, eq-eqb, List, [], ◌∷◌, ◌++◌, length, take, get_or, Contains, All, Some, slice_get, refl, sym, ap, subst, ◌∙◌, arith}
use Rattle.std.specs.List.{list_any}
use Rattle.std.proofs.lemmas.Bool.{cases_lt}
use Rattle.std.proofs.lemmas.List.Folds.{list_any_at}
use Rattle.std.proofs.lemmas.List.{take_more, take_all}
use Rattle.std.proofs.lemmas.List.Elements.{All-more, Contains-append_left, Contains-append_right, Contains-push}
use Rattle.std.proofs.lemmas.Option.{slice_get_within, slice_get-get_or, get_or_from_slice_get}
use Rattle.core_tree.specs.declared.model.Column.{Column}
use Rattle.core_tree.specs.declared.model.Column.TheVariants as column
use Rattle.resolve_told_sigs.specs.Own.{AreAdded}

pub all_more : {X : Type 0} (P : X → Type 0) (l : List X) (i : ℕ) (g : X) → i < length l → g ≡ get_or l i g → All P (take i l) → P g → All P (take (i + 1) l)
all_more P l i g lt item all here = All-more P l i g lt all (subst P item here)

pub all_whole : {X : Type 0} (P : X → Type 0) (l : List X) (i : ℕ) → length l ≤ i → All P (take i l) → All P l
all_whole {X = X} P l i le all = subst (λ (k : List X). All P k) (take_all i l le) all

-- what holds of each place before one, and of it, holds of each place before the next
module _ {X : Type 0} (P : ℕ → X → Type 0) (l : List X) where
  pub front_more : (n : ℕ) → ((k : ℕ) (x : X) → k < n → slice_get l k ≡ Some x → P k x) → ((x : X) → slice_get l n ≡ Some x → P n x) → (k : ℕ) (x : X) → k < n + 1 → slice_get l k ≡ Some x → P k x
  front_more n before here k x lt at = elim (cases_lt k n) [
    | inl sooner ↦ before k x sooner at
    | inr last ↦ let e : n ≡ k = omega arith in subst (λ j. P j x) e (here x (subst (λ j. slice_get l j ≡ Some x) (sym e) at))
  ]

  pub front_all : (n : ℕ) → length l ≤ n → ((k : ℕ) (x : X) → k < n → slice_get l k ≡ Some x → P k x) → (k : ℕ) (x : X) → slice_get l k ≡ Some x → P k x
  front_all n high before k x at = before k x (let within = slice_get_within l k x at in omega arith) at

-- no parent adds nothing
pub added_none : (ts : List ℕ) → AreAdded [] ts ts
added_none ts = record { kept = λ t h. h; only = λ t h. inl h }

-- `Int` adds nothing
pub added_int : (ts : List ℕ) → AreAdded (column.Int ∷ []) ts ts
added_int ts = record { kept = λ t h. h; only = λ t h. inl h }

pub sig_there : (s t : ℕ) → s ≡ t → Contains (column.Sig s ∷ []) (column.Sig t)
sig_there s t e = subst (λ u. Contains (column.Sig s ∷ []) (column.Sig u)) e (Contains-push [] (column.Sig s))

pub added_sig : (s : ℕ) (old new : List ℕ) → ((t : ℕ) → Contains old t → Contains new t) → ((t : ℕ) → Contains new t → Contains old t ⊎ (s ≡ t)) → AreAdded (column.Sig s ∷ []) old new
added_sig s old new kept only = record {
  kept = kept;
  only = λ t h. elim (only t h) [ inl a ↦ inl a | inr e ↦ inr (sig_there s t e) ];
}

-- first these parents are added, and then those
pub added_both : (ps qs : List Column) (old between new : List ℕ) → AreAdded ps old between → AreAdded qs between new → AreAdded (ps ++ qs) old new
added_both ps qs old between new a b = record {
  kept = λ t h. b.kept t (a.kept t h);
  only = λ t h. elim (b.only t h) [
    | inl x ↦ elim (a.only t x) [ inl y ↦ inl y | inr y ↦ inr (Contains-append_left ps qs (column.Sig t) y) ]
    | inr y ↦ inr (Contains-append_right ps qs (column.Sig t) y)
  ];
}

pub added_more : (ps : List Column) (i : ℕ) (p : Column) (old between new : List ℕ) → i < length ps → p ≡ get_or ps i p → AreAdded (take i ps) old between → AreAdded (p ∷ []) between new → AreAdded (take (i + 1) ps) old new
added_more ps i p old between new inside at a b =
    subst (λ (qs : List Column). AreAdded qs old new) (ap (λ x. take i ps ++ x ∷ []) at ∙ sym (take_more ps i p inside)) (added_both (take i ps) (p ∷ []) old between new a b)

pub added_whole : (ps : List Column) (i : ℕ) (old new : List ℕ) → length ps ≤ i → AreAdded (take i ps) old new → AreAdded ps old new
added_whole ps i old new past a = subst (λ (qs : List Column). AreAdded qs old new) (take_all i ps past) a

any_cons : (t n : ℕ) (ts : List ℕ) (b : Bool) → (t == n) ≡ b → (b || list_any (λ u. u == n) ts) ≡ true → (list_any (λ u. u == n) ts ≡ true → Contains ts n) → Contains (t ∷ ts) n
any_cons t n ts true e h rest = subst (λ m. Contains (t ∷ ts) m) (eqb-true t n e) (Contains-append_left (t ∷ []) ts t (Contains-push [] t))
any_cons t n ts false e h rest = Contains-append_right (t ∷ []) ts n (rest h)

-- a list has a number of which the test says so
pub any_there : (ts : List ℕ) (n : ℕ) → list_any (λ u. u == n) ts ≡ true → Contains ts n
any_there [] n h = absurd (true≢false (sym h))
any_there (t ∷ ts) n h = any_cons t n ts (t == n) refl h (λ r. any_there ts n r)

-- and the test says so of each number that it has
pub any_whole : (ts : List ℕ) (n : ℕ) → Contains ts n → list_any (λ u. u == n) ts ≡ true
any_whole ts n h = list_any_at (λ u. u == n) ts h.0 n h.1 (eq-eqb (get_or ts h.0 n) n h.2)

-- the item of a place is the same whatever stands for one that isn't there
pub item_of : {X : Type 0} (xs : List X) (i : ℕ) (d : X) → i < length xs → get_or xs i d ≡ get_or xs i (get_or xs i d)
item_of xs i d inside = sym (get_or_from_slice_get xs i (get_or xs i d) (get_or xs i d) (slice_get-get_or xs i d inside))

pub all_at : {X : Type 0} (P : X → Type 0) (l : List X) (i : ℕ) (d : X) → i < length l → All P (take i l) → P (get_or l i d) → All P (take (i + 1) l)
all_at P l i d lt all here = all_more P l i (get_or l i d) lt (item_of l i d lt) all here

pub added_at : (ps : List Column) (i : ℕ) (d : Column) (old between new : List ℕ) → i < length ps → AreAdded (take i ps) old between → AreAdded (get_or ps i d ∷ []) between new → AreAdded (take (i + 1) ps) old new
added_at ps i d old between new inside a b = added_more ps i (get_or ps i d) old between new inside (item_of ps i d inside) a b
