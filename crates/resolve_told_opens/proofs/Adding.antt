-- The sigs that are given are noted, one by one.
use Rattle.std.proofs.Common.{◌≡◌, ◌∙◌, inl, inr, ℕ, ◌+◌, ◌<◌, ◌==◌, true, false, if◌then◌else◌, List, [], ◌∷◌, ◌++◌, length, take, get_or, replicate, Option, Some, None, slice_get, refl, sym, ap, subst, add-one, arith}
use Rattle.std.specs.Prelude.{flat_map, option_map}
use Rattle.std.proofs.lemmas.Bool.{cases_lt}
use Rattle.std.proofs.lemmas.List.{flat_map_more, length-replicate, get_or-replicate, take_more}
use Rattle.std.proofs.lemmas.Option.{same_Some, slice_get-get_or}
use Rattle.core_tree.specs.declared.model.Origin.{Origin}
use Rattle.core_tree.specs.declared.model.Sig.{Sig}
use Rattle.resolve_told_opens.specs.Told.{Gift, first_open, in_turn}
use Rattle.resolve_told_opens.specs.Firsts.{AreAdded, or_first}

abbrev Table : Type 0
Table = List (Option Origin)

-- nothing is added
none_left : (s : ℕ) (o : Option (Option Origin)) → o ≡ option_map (or_first s []) o
none_left s None = refl
none_left s (Some None) = refl
none_left s (Some (Some x)) = refl

pub added_none : (table : Table) → AreAdded [] table table
added_none table = record { each = λ s. none_left s (slice_get table s) }

-- first these are added, and then those
first_behind : (s : ℕ) (gs hs : List Gift) → or_first s hs (first_open s gs) ≡ first_open s (gs ++ hs)
first_behind s [] hs = refl
first_behind s (g ∷ gs) hs =
    elim (g.sig == s) as (λ b. or_first s hs (if b then Some g.open_at else first_open s gs) ≡ (if b then Some g.open_at else first_open s (gs ++ hs))) [
      | true ↦ refl
      | false ↦ first_behind s gs hs
    ]

or_behind : (s : ℕ) (gs hs : List Gift) (o : Option (Option Origin)) → option_map (or_first s hs) (option_map (or_first s gs) o) ≡ option_map (or_first s (gs ++ hs)) o
or_behind s gs hs None = refl
or_behind s gs hs (Some None) = ap Some (first_behind s gs hs)
or_behind s gs hs (Some (Some x)) = refl

added_both : (gs hs : List Gift) (a b c : Table) → AreAdded gs a b → AreAdded hs b c → AreAdded (gs ++ hs) a c
added_both gs hs a b c first second = record {
  each = λ s. second.each s ∙ ap (option_map (or_first s hs)) (first.each s) ∙ or_behind s gs hs (slice_get a s);
}

-- one place more
added_more : (at : ℕ → List Gift) (n : ℕ) (a b c : Table) → AreAdded (in_turn at n) a b → AreAdded (at n) b c → AreAdded (in_turn at (n + 1)) a c
added_more at n a b c before here = subst (λ k. AreAdded (in_turn at k) a c) (sym (add-one n)) (added_both (in_turn at n) (at n) a b c before here)

-- what the item of the next place gives
module _ {X : Type 0} (give : ℕ → Option X → List Gift) (xs : List X) (n : ℕ) (x : X) (a b c : Table) where
  pub added_place : n < length xs → AreAdded (in_turn (λ k. give k (slice_get xs k)) n) a b → AreAdded (give n (Some (get_or xs n x))) b c → AreAdded (in_turn (λ k. give k (slice_get xs k)) (n + 1)) a c
  added_place inside before here =
      added_more (λ k. give k (slice_get xs k)) n a b c before (subst (λ o. AreAdded (give n o) b c) (sym (slice_get-get_or xs n x inside)) here)

  pub added_item : n < length xs → x ≡ get_or xs n x → AreAdded (in_turn (λ k. give k (slice_get xs k)) n) a b → AreAdded (give n (Some x)) b c → AreAdded (in_turn (λ k. give k (slice_get xs k)) (n + 1)) a c
  added_item inside at before here = added_place inside before (subst (λ y. AreAdded (give n (Some y)) b c) at here)

pub added_all : (at : ℕ → List Gift) (n m : ℕ) (a b : Table) → n ≡ m → AreAdded (in_turn at n) a b → AreAdded (in_turn at m) a b
added_all at n m a b same added = subst (λ k. AreAdded (in_turn at k) a b) same added

abbrev begin : Option Origin
begin = None

-- what a table has that began with nothing
pub first_in : (gs : List Gift) (count : ℕ) (old new : Table) (s : ℕ) (x : Option Origin) → old ≡ replicate count None → s < count → AreAdded gs old new → slice_get new s ≡ Some x →
    x ≡ first_open s gs
first_in gs count old new s x begun low added there =
    let entry : slice_get old s ≡ Some None =
    ap (λ (t : Table). slice_get t s) begun
    ∙ slice_get-get_or (replicate count begin) s begin (omega (arith, low, length-replicate count begin)) ∙ ap Some (get_or-replicate count s begin begin low) in
    same_Some x (first_open s gs) (sym there ∙ added.each s ∙ ap (option_map (or_first s gs)) entry)

-- the table has what the sigs say, one sig more
pub same_next : (sigs : List Sig) (table : Table) (n : ℕ) (d : Sig) (x : Option Origin) → n < length sigs → n < length table → (get_or sigs n d).exactly ≡ get_or table n x →
    ((s : ℕ) (e : Sig) → s < n → slice_get sigs s ≡ Some e → slice_get table s ≡ Some e.exactly) → (s : ℕ) (e : Sig) → s < n + 1 → slice_get sigs s ≡ Some e → slice_get table s ≡ Some e.exactly
same_next sigs table n d x within inside same before s e low there = elim (cases_lt s n) [
  | inl sooner ↦ before s e sooner there
  | inr last ↦
      let now : n ≡ s = omega arith in
      let sig_is : get_or sigs n d ≡ e = same_Some (get_or sigs n d) e (sym (slice_get-get_or sigs n d within) ∙ ap (slice_get sigs) now ∙ there) in
      ap (slice_get table) (sym now) ∙ slice_get-get_or table n x inside ∙ ap Some (sym same ∙ ap (λ (y : Sig). y.exactly) sig_is)
]

-- the places of enums, one paragraph more
pub flat_next : {X Y : Type 0} (f : X → List Y) (bs : List Y) (xs : List X) (i : ℕ) (x : X) (a b : List Y) → i < length xs → x ≡ get_or xs i x → a ≡ bs ++ flat_map f (take i xs) → b ≡ a ++ f x →
    b ≡ bs ++ flat_map f (take (i + 1) xs)
flat_next f bs xs i x a b inside at before here =
    here ∙ ap (λ ys. ys ++ f x) before ∙ flat_map_more f bs (take i xs) x
    ∙ ap (λ ys. bs ++ flat_map f ys) (ap (λ y. take i xs ++ y ∷ []) at ∙ sym (take_more xs i x inside))
