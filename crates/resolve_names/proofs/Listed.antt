-- The declarations that are collected are just those that are seen.
use Rattle.std.proofs.Common.{◌≡◌, ◌⊎◌, ◌↔◌, ℕ, ◌+◌, ◌<◌, ◌==◌, Bool, true, false, not, cond, ◌&&◌, ◌||◌, List, [], ◌∷◌, ◌++◌, map, take, length, get_or, Option, Some, None, slice_get, append_assoc, append-nil, refl, sym, ◌∙◌, ap, inl, inr}
use Rattle.std.specs.List.{filter_map, cons_option}
use Rattle.std.proofs.lemmas.List.{take_more}
use Rattle.std.proofs.lemmas.List.Elements.{filter_map-append}
use Rattle.std.specs.Str.{bytes_eq}
use Rattle.std.proofs.lemmas.Slice.Eq.{bytes_eq-Decides}
use Rattle.std.proofs.lemmas.Bool.{eqb-true, eq-eqb}
use Rattle.resolve_names.specs.declared.table.Decl.{Decl}
use Rattle.resolve_names.specs.declared.table.Declared.{Declared}
use Rattle.resolve_names.specs.declared.table.Namespace.{Namespace}
use Rattle.syntax_tree.specs.declared.expr.QualName.{QualName}
use Rattle.resolve_names.specs.Visible.{path_of, last_of, AreCandidates, Leads, Declaration, numbered, declarations_from, what_of, Kept, done, keep, skip}
use Rattle.resolve_names.specs.Marks.{IsMarked, AreLed}
use Rattle.resolve_names.specs.Lookup.{has_name, seen_in, seen_of, seen_from}

-- one item more of a list that a test maps
pub filter_map_more : {X Y : Type 0} (h : X → Option Y) (before : List Y) (xs : List X) (i : ℕ) (x : X) → i < length xs → x ≡ get_or xs i x →
    (before ++ filter_map h (take i xs)) ++ cons_option (h x) [] ≡ before ++ filter_map h (take (i + 1) xs)
filter_map_more h before xs i x lt e =
    append_assoc before (filter_map h (take i xs)) (cons_option (h x) [])
    ∙ ap (λ ys. before ++ ys) (sym (filter_map-append h (take i xs) (x ∷ [])) ∙ ap (λ ys. filter_map h ys) (ap (λ y. take i xs ++ y ∷ []) e ∙ sym (take_more xs i x lt)))

kept_append : {X : Type 0} {P : X → Type 0} {xs ys zs ws : List X} → Kept P xs ys → Kept P zs ws → Kept P (xs ++ zs) (ys ++ ws)
kept_append done b = b
kept_append (keep p a) b = keep p (kept_append a b)
kept_append (skip p a) b = skip p (kept_append a b)

map_append : {X Y : Type 0} (f : X → Y) (xs ys : List X) → map f (xs ++ ys) ≡ map f xs ++ map f ys
map_append f [] ys = refl
map_append f (x ∷ xs) ys = ap (λ zs. f x ∷ zs) (map_append f xs ys)

pub both : (a b : Bool) → (a && b) ≡ true → (a ≡ true) × (b ≡ true)
both true b e = (refl, e)
both false b e = absurd cc

pub either : (a b : Bool) → (a || not b) ≡ true → (a ≡ true) ⊎ (b ≡ false)
either true b e = inl refl
either false true e = absurd cc
either false false e = inr refl

pub either_back : (a b : Bool) → (a ≡ true) ⊎ (b ≡ false) → (a || not b) ≡ true
either_back true b h = refl
either_back false b (inl e) = absurd cc
either_back false b (inr e) = ap not e

pub both_back : (a b : Bool) → a ≡ true → b ≡ true → (a && b) ≡ true
both_back true b e g = g
both_back false b e g = absurd cc

-- a declaration of a led instance with the name, that isn't private in another module
abbrev pub IsSeen : (ℕ → Type 0) → ℕ → List ℕ → Declaration → Type 0
IsSeen Led from name d = Led d.0 × (d.1.name ≡ name) × ((d.0 ≡ from) ⊎ (d.1.is_private ≡ false))

module _ (Led : ℕ → Type 0) (from : ℕ) (name : List ℕ) where
  seen_true : (i : ℕ) (d : Declared) → Led i → has_name (i == from) name d ≡ true → IsSeen Led from name (i, d)
  seen_true i d r e =
      let parts = both (bytes_eq d.name name) ((i == from) || not d.is_private) e in
      (r, (bytes_eq-Decides d.name name).0 parts.0, own (either (i == from) d.is_private parts.1))
    where
      own : ((i == from) ≡ true) ⊎ (d.is_private ≡ false) → (i ≡ from) ⊎ (d.is_private ≡ false)
      own (inl g) = inl (eqb-true i from g)
      own (inr g) = inr g

  seen_false : (i : ℕ) (d : Declared) → has_name (i == from) name d ≡ false → IsSeen Led from name (i, d) → ⊥
  seen_false i d e seen =
      let all : has_name (i == from) name d ≡ true = both_back (bytes_eq d.name name) ((i == from) || not d.is_private) ((bytes_eq-Decides d.name name).1 seen.1) (either_back (i == from) d.is_private (own seen.2)) in
      cc
    where
      own : (i ≡ from) ⊎ (d.is_private ≡ false) → ((i == from) ≡ true) ⊎ (d.is_private ≡ false)
      own (inl g) = inl (eq-eqb i from g)
      own (inr g) = inr g

  -- those of a led instance
  kept_in : (i : ℕ) (ds : List Declared) → Led i → (out : List Declaration) × Kept (IsSeen Led from name) (numbered i ds) out × (filter_map (seen_in (i == from) name) ds ≡ map what_of out)
  kept_in i [] r = ([], done, refl)
  kept_in i (d ∷ ds) r = by_test (has_name (i == from) name d) refl (kept_in i ds r)
    where
      by_test : (b : Bool) → has_name (i == from) name d ≡ b → (out : List Declaration) × Kept (IsSeen Led from name) (numbered i ds) out × (filter_map (seen_in (i == from) name) ds ≡ map what_of out) →
          (out : List Declaration) × Kept (IsSeen Led from name) (numbered i (d ∷ ds)) out × (cons_option (cond b (Some d.what) None) (filter_map (seen_in (i == from) name) ds) ≡ map what_of out)
      by_test true e rest = ((i, d) ∷ rest.0, keep (seen_true i d r e) rest.1, ap (λ zs. d.what ∷ zs) rest.2)
      by_test false e rest = (rest.0, skip (seen_false i d e) rest.1, rest.2)

  kept_none : (i : ℕ) (ds : List Declared) → (Led i → ⊥) → Kept (IsSeen Led from name) (numbered i ds) []
  kept_none i [] r = done
  kept_none i (d ∷ ds) r = skip (λ seen. r seen.0) (kept_none i ds r)

  module _ (marks : List Bool) (just : (j : ℕ) → IsMarked marks j ↔ Led j) where
    kept_of : (o : Option Bool) (i : ℕ) (ds : List Declared) → slice_get marks i ≡ o → (out : List Declaration) × Kept (IsSeen Led from name) (numbered i ds) out × (seen_of o (i == from) name ds ≡ map what_of out)
    kept_of (Some true) i ds e = kept_in i ds ((just i).0 e)
    kept_of (Some false) i ds e = ([], kept_none i ds (λ r. let marked = (just i).1 r in cc), refl)
    kept_of None i ds e = ([], kept_none i ds (λ r. let marked = (just i).1 r in cc), refl)

    pub kept_from : (i : ℕ) (rest : List Namespace) → (out : List Declaration) × Kept (IsSeen Led from name) (declarations_from i rest) out × (seen_from marks from name i rest ≡ map what_of out)
    kept_from i [] = ([], done, refl)
    kept_from i (one ∷ rest) =
        let first = kept_of (slice_get marks i) i one.declared refl in
        let later = kept_from (i + 1) rest in (
          first.0 ++ later.0,
          kept_append first.1 later.1,
          ap (λ zs. zs ++ seen_from marks from name (i + 1) rest) first.2 ∙ ap (λ zs. map what_of first.0 ++ zs) later.2 ∙ sym (map_append what_of first.0 later.0),
        )

pub none_seen : (o : Option Bool) (is_own : Bool) (name : List ℕ) (ds : List Declared) (all : List Decl) → (o ≡ Some true → ⊥) → all ≡ all ++ seen_of o is_own name ds
none_seen None is_own name ds all no_mark = sym (append-nil all)
none_seen (Some false) is_own name ds all no_mark = sym (append-nil all)
none_seen (Some true) is_own name ds all no_mark = absurd (no_mark refl)

-- what is collected from the instances to which the part before a name leads are its candidates
pub candidates_of : (scopes : List Namespace) (from : ℕ) (name : QualName) (marks : List Bool) (all : List Decl) → AreLed scopes from name.is_own (path_of name.parts) marks →
    all ≡ seen_from marks from (last_of name.parts) 0 scopes → AreCandidates scopes from name all
candidates_of scopes from name marks all led is =
    let out = kept_from (Leads scopes from name.is_own (path_of name.parts)) from (last_of name.parts) marks led.just 0 scopes in
    (out.0, out.1, is ∙ out.2)
