-- Each sig that stands in the type of a sig has a top-level sig above it.
use Rattle.std.proofs.Common.{◌≡◌, ◌⊎◌, inl, inr, ℕ, zero, suc, ◌+◌, ◌<◌, ◌≤◌, Bool, true, false, eqb, if◌then◌else◌, List, [], ◌∷◌, length, Contains, All, Option, Some, None, slice_get, refl, sym, ap, ◌∙◌, subst, arith}
use Rattle.std.specs.List.{AllByRecursion, IsDistinct, list_any, flat_map}
use Rattle.std.proofs.lemmas.Bool.{or_cases, cases_Bool, eqb-true}
use Rattle.std.proofs.lemmas.List.Elements.{Contains-append_cases}
use Rattle.std.proofs.lemmas.Map.Steps.{length-le_from_distinct_below}
use Rattle.core_tree.specs.declared.model.Model.{Model}
use Rattle.core_tree.specs.declared.model.Sig.{Sig}
use Rattle.core_tree.specs.declared.model.SigKind.{SigKind}
use Rattle.core_tree.specs.declared.model.SigKind.TheVariants.{Top, Extends, Subset}
use Rattle.core_tree.specs.declared.model.Column.{Column}
use Rattle.core_tree.specs.declared.model.Column.TheVariants.{Sig as SigColumn, Int as IntColumn}
use Rattle.core_tree.specs.Models.{IsAncestor, parent, above, IsParent, IsRightSig, parents_of}
use Rattle.core_tree.specs.Types.{TypeRows, by_parent, by_sig, standing, parent_rows, kind_rows, sig_rows}
use Rattle.core_meaning.specs.declared.scopes.SigScope.{SigScope}
use Rattle.core_meaning.specs.declared.scopes.Scopes.{Scopes}
use Rattle.core_meaning.specs.Kept.{top_above}
use Rattle.core_renaming.specs.Sigs.{IsWellFormed}

-- ---- lists

pub get_within : {X : Type 0} (xs : List X) (k : ℕ) (x : X) → slice_get xs k ≡ Some x → k < length xs
get_within [] k x e = cc
get_within (y ∷ xs) zero x e = omega arith
get_within (y ∷ xs) (suc k) x e = let lt = get_within xs k x e in omega (arith, lt)

get_there : {X : Type 0} (xs : List X) (k : ℕ) → k < length xs → (x : X) × (slice_get xs k ≡ Some x)
get_there [] k lt = absurd (omega (arith, lt))
get_there (x ∷ xs) zero lt = (x, refl)
get_there (x ∷ xs) (suc k) lt = get_there xs k (omega (arith, lt))

item_of : {X : Type 0} (xs : List X) (k : ℕ) (x : X) (P : X → Type 0) → All P xs → slice_get xs k ≡ Some x → P x
item_of [] k x P all get = cc
item_of (y ∷ xs) zero x P all get = let is : y ≡ x = cc in subst P is (all 0 y (omega arith))
item_of (y ∷ xs) (suc k) x P all get = item_of xs k x P (λ j d lt. all (suc j) d (omega (arith, lt))) get

each_weaker : {X : Type 0} (P Q : X → Type 0) → ((x : X) → P x → Q x) → (xs : List X) → AllByRecursion P xs → AllByRecursion Q xs
each_weaker P Q f [] h = tt
each_weaker P Q f (x ∷ xs) h = (f x h.0, each_weaker P Q f xs h.1)

below_all : (n q : ℕ) (xs : List ℕ) → AllByRecursion (λ x. x < n) xs → list_any (eqb q) xs ≡ true → q < n
below_all n q [] all found = cc
below_all n q (x ∷ xs) all found = elim (or_cases (eqb q x) (list_any (eqb q) xs) found) [
  | inl is ↦ subst (λ y. y < n) (sym (eqb-true q x is)) all.0
  | inr more ↦ below_all n q xs all.1 more
]

distinct_more : (s : ℕ) (xs : List ℕ) → AllByRecursion (λ y. eqb s y ≡ false) xs → IsDistinct eqb xs → IsDistinct eqb (s ∷ xs)
unfolding IsDistinct
distinct_more s xs other rest = (other, rest)

distinct_none : IsDistinct eqb []
unfolding IsDistinct
distinct_none = tt

-- ---- going up

abbrev pub IsPlainKind : SigKind → Type 0
IsPlainKind k = (k ≡ Top) ⊎ ((p : ℕ) × (k ≡ Extends p))

plain_kind : (k : SigKind) → ((ps : List Column) → k ≡ Subset ps → ⊥) → IsPlainKind k
plain_kind Top other = inl refl
plain_kind (Extends p) other = inr (p, refl)
plain_kind (Subset ps) other = absurd (other ps refl)

module _ (sigs : List Sig) where
  -- a sig that isn't an `in` sig, and a top-level one
  abbrev pub IsPlain : ℕ → Type 0
  IsPlain s = (d : Sig) × (slice_get sigs s ≡ Some d) × IsPlainKind d.kind

  abbrev pub IsTopLevel : ℕ → Type 0
  IsTopLevel s = (d : Sig) × (slice_get sigs s ≡ Some d) × (d.kind ≡ Top)

  only_parent : (d : Sig) (p : ℕ) → d.kind ≡ Extends p → Contains (parents_of d.kind) (SigColumn p)
  only_parent d p is = subst (λ (k : SigKind). Contains (parents_of k) (SigColumn p)) (sym is) (0, omega arith, refl)

  -- the parent of a descendant's ancestor is an ancestor of the descendant
  one_up : (s q : ℕ) → IsAncestor sigs s q → (p : ℕ) (d : Sig) → slice_get sigs s ≡ Some d → d.kind ≡ Extends p → IsAncestor sigs p q
  one_up s q (parent e there among) p d get is = above e there among (parent d get (only_parent d p is))
  one_up s q (above {p = m} e there among rest) p d get is = above e there among (one_up s m rest p d get is)

  module _ (acyclic : (s : ℕ) → ¬ IsAncestor sigs s s) (parents : (s p : ℕ) (d : Sig) → slice_get sigs s ≡ Some d → d.kind ≡ Extends p → IsPlain p) where
    different : (s q : ℕ) → IsAncestor sigs s q → eqb s q ≡ false
    different s q up = elim (cases_Bool (eqb s q)) [
      | inl is ↦ absurd (acyclic s (subst (IsAncestor sigs s) (sym (eqb-true s q is)) up))
      | inr other ↦ other
    ]

    -- going up from below, over so many sigs already
    tops : (n s : ℕ) (visited : List ℕ) → AllByRecursion (λ q. IsAncestor sigs s q) visited → AllByRecursion (λ q. q < length sigs) visited → IsDistinct eqb visited → length sigs ≤ length visited + n → IsPlain s → IsTopLevel (top_above sigs n s)
    tops zero s visited ups small distinct enough (d, get, kind) =
        let lt = get_within sigs s d get in
        let few = length-le_from_distinct_below (s ∷ visited) (length sigs) (distinct_more s visited (each_weaker (λ q. IsAncestor sigs s q) (λ q. eqb s q ≡ false) (different s) visited ups) distinct) (λ q found. below_all (length sigs) q (s ∷ visited) (lt, small) found) in
        absurd (omega (arith, few, enough))
    tops (suc n) s visited ups small distinct enough (d, get, inl top) =
        subst IsTopLevel (sym (ap (λ (o : Option Sig). by_sig s (λ (c : Sig). by_parent s (λ p. top_above sigs n p) c.kind) o) get ∙ ap (λ (k : SigKind). by_parent s (λ p. top_above sigs n p) k) top)) (d, get, top)
    tops (suc n) s visited ups small distinct enough (d, get, inr (p, is)) =
        subst IsTopLevel (sym (ap (λ (o : Option Sig). by_sig s (λ (c : Sig). by_parent s (λ q. top_above sigs n q) c.kind) o) get ∙ ap (λ (k : SigKind). by_parent s (λ q. top_above sigs n q) k) is))
        (tops n p (s ∷ visited)
        (parent d get (only_parent d p is), each_weaker (λ q. IsAncestor sigs s q) (λ q. IsAncestor sigs p q) (λ q up. one_up s q up p d get is) visited ups)
        (get_within sigs s d get, small)
        (distinct_more s visited (each_weaker (λ q. IsAncestor sigs s q) (λ q. eqb s q ≡ false) (different s) visited ups) distinct)
        (omega arith) (parents s p d get is))

    pub top_level : (s : ℕ) → IsPlain s → IsTopLevel (top_above sigs (length sigs) s)
    top_level s plain = tops (length sigs) s [] tt tt distinct_none (omega arith) plain

    -- as which sig one stands in types
    stands_by : (n s : ℕ) (v : Bool) (k : SigKind) → IsPlain s → ((p : ℕ) → k ≡ Extends p → IsPlain (standing sigs n p)) → IsPlain (if v then by_parent s (λ p. standing sigs n p) k else s)
    stands_by n s false k here further = here
    stands_by n s true Top here further = here
    stands_by n s true (Extends p) here further = further p refl
    stands_by n s true (Subset ps) here further = here

    pub stands : (n s : ℕ) → IsPlain s → IsPlain (standing sigs n s)
    stands zero s here = here
    stands (suc n) s (d, get, kind) =
        subst IsPlain (sym (ap (λ (o : Option Sig). by_sig s (λ (c : Sig). if c.is_var then by_parent s (λ p. standing sigs n p) c.kind else s) o) get))
        (stands_by n s d.is_var d.kind (d, get, kind) (λ p is. stands n p (parents s p d get is)))

    -- ---- the columns of a sig's type

    module _ (Good : Column → Type 0) (whole : Good IntColumn) (good : (s : ℕ) → IsPlain s → Good (SigColumn (standing sigs (length sigs) s))) where
      of_one : (c x : Column) → Contains ((x ∷ []) ∷ []) (c ∷ []) → Good x → Good c
      of_one c x (zero, lt, e) is = let same : x ≡ c = cc in subst Good same is
      of_one c x (suc k, lt, e) is = absurd (omega (arith, lt))

      of_parents : (rows : ℕ → TypeRows) → ((p : ℕ) (c : Column) → Contains (rows p) (c ∷ []) → Good c) → (ps : List Column) (c : Column) → Contains (flat_map (parent_rows rows) ps) (c ∷ []) → Good c
      of_parents rows of [] c (k, lt, e) = absurd (omega (arith, lt))
      of_parents rows of (IntColumn ∷ ps) c among = elim (Contains-append_cases ((IntColumn ∷ []) ∷ []) (flat_map (parent_rows rows) ps) (c ∷ []) among) [
        | inl first ↦ of_one c IntColumn first whole
        | inr more ↦ of_parents rows of ps c more
      ]
      of_parents rows of (SigColumn p ∷ ps) c among = elim (Contains-append_cases (rows p) (flat_map (parent_rows rows) ps) (c ∷ []) among) [
        | inl first ↦ of p c first
        | inr more ↦ of_parents rows of ps c more
      ]

      of_kind : (n s : ℕ) (d : Sig) → slice_get sigs s ≡ Some d → ((p : ℕ) (c : Column) → Contains (sig_rows sigs n p) (c ∷ []) → Good c) → (k : SigKind) → d.kind ≡ k → (c : Column) →
          Contains (kind_rows ((SigColumn (standing sigs (length sigs) s) ∷ []) ∷ []) (λ p. sig_rows sigs n p) k) (c ∷ []) → Good c
      of_kind n s d get of Top is c among = of_one c (SigColumn (standing sigs (length sigs) s)) among (good s (d, get, inl is))
      of_kind n s d get of (Extends p) is c among = of_one c (SigColumn (standing sigs (length sigs) s)) among (good s (d, get, inr (p, is)))
      of_kind n s d get of (Subset ps) is c among = of_parents (λ p. sig_rows sigs n p) of ps c among

      of_sig : (n s : ℕ) → ((p : ℕ) (c : Column) → Contains (sig_rows sigs n p) (c ∷ []) → Good c) → (o : Option Sig) → slice_get sigs s ≡ o → (c : Column) →
          Contains (by_sig [] (λ (d : Sig). kind_rows ((SigColumn (standing sigs (length sigs) s) ∷ []) ∷ []) (λ p. sig_rows sigs n p) d.kind) o) (c ∷ []) → Good c
      of_sig n s of None get c (k, lt, e) = absurd (omega (arith, lt))
      of_sig n s of (Some d) get c among = of_kind n s d get of d.kind refl c among

      pub of_rows : (n s : ℕ) (c : Column) → Contains (sig_rows sigs n s) (c ∷ []) → Good c
      of_rows zero s c (k, lt, e) = absurd (omega (arith, lt))
      of_rows (suc n) s c among = of_sig n s (λ p x inside. of_rows n p x inside) (slice_get sigs s) refl c among

-- ---- in a model with its scopes

module _ (model : Model) (scopes : Scopes) where
  -- the scopes mark the sig above a column's sig as a top-level one
  abbrev pub IsMarked : Column → Type 0
  IsMarked IntColumn = Unit {0}
  IsMarked (SigColumn s) = (e : SigScope) × (slice_get scopes.numbers (top_above model.sigs (length model.sigs) s) ≡ Some e) × (e.top ≡ true)

  parents_there : IsWellFormed model scopes → (s p : ℕ) (d : Sig) → slice_get model.sigs s ≡ Some d → d.kind ≡ Extends p → IsPlain model.sigs p
  parents_there right s p d get is =
      let theirs = (item_of model.sigs s d (IsRightSig model) right.kept.sigs get).parents in
      let at_kind : All (IsParent (length model.sigs)) (parents_of (Extends p)) = subst (λ (k : SigKind). All (IsParent (length model.sigs)) (parents_of k)) is theirs in
      let within : p < length model.sigs = at_kind 0 (SigColumn p) (omega arith) in
      let (e, there) = get_there model.sigs p within in
      (e, there, plain_kind e.kind (λ ps k. right.plain s p d e ps get is there k))

  pub columns_marked : IsWellFormed model scopes → (s : ℕ) (c : Column) → Contains (sig_rows model.sigs (length model.sigs) s) (c ∷ []) → IsMarked c
  columns_marked right s c among =
      of_rows model.sigs right.kept.hierarchy (parents_there right) IsMarked tt (λ t plain.
      let stood : ℕ = standing model.sigs (length model.sigs) t in
      let (d, get, top) = top_level model.sigs right.kept.hierarchy (parents_there right) stood (stands model.sigs right.kept.hierarchy (parents_there right) (length model.sigs) t plain) in
      let lt = get_within model.sigs (top_above model.sigs (length model.sigs) stood) d get in
      let count = right.rightly.count in
      let (e, there) = get_there scopes.numbers (top_above model.sigs (length model.sigs) stood) (omega (arith, lt, count)) in
      (e, there, right.rightly.top (top_above model.sigs (length model.sigs) stood) d e get there top)) (length model.sigs) s c among
