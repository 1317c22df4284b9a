-- What is found by taking the earlier place again and again is the first place.
use Rattle.std.proofs.Common.{◌≡◌, ℕ, ◌==◌, nat_lt, ◌<◌, Bool, true, false, ◌&&◌, ◌||◌, List, [], ◌∷◌, ◌++◌, Contains, Option, Some, None, ◌⊎◌, inl, inr, refl, sym, ap, ap₂, ◌∙◌, subst, if◌then◌else◌, arith}
use Rattle.std.proofs.lemmas.Bool.{false≢true, ltb-true, lt-ltb, le-ltb, eqb-true, eq-eqb}
use Rattle.std.proofs.lemmas.List.{append-nil, append_assoc}
use Rattle.std.proofs.lemmas.List.Elements.{Contains-push, Contains-push_cases, Contains-append_left}
use Rattle.base_types.specs.declared.place.Position.{Position}
use Rattle.core_tree.specs.declared.model.Origin.{Origin}
use Rattle.bound_definitions.specs.Places.{stands_before, comes_before, earlier, first_from, Finds}

-- first by one number, and where that is equal by what else is asked
lex_split : (m n : ℕ) (b x y : Bool) → nat_lt m n ≡ x → (m == n) ≡ y → (x || (y && b)) ≡ true → (m < n) ⊎ ((m ≡ n) × (b ≡ true))
lex_split m n b true y e f h = inl (ltb-true m n e)
lex_split m n b false true e f h = inr (eqb-true m n f, h)
lex_split m n b false false e f h = absurd (false≢true h)

lex : (m n : ℕ) (b : Bool) → (nat_lt m n || (m == n && b)) ≡ true → (m < n) ⊎ ((m ≡ n) × (b ≡ true))
lex m n b h = lex_split m n b (nat_lt m n) (m == n) refl refl h

or_true : (b : Bool) → (b || true) ≡ true
or_true true = refl
or_true false = refl

and_false : (b : Bool) → (b && false) ≡ false
and_false true = refl
and_false false = refl

lex_join : (m n : ℕ) (b : Bool) → (m < n) ⊎ ((m ≡ n) × (b ≡ true)) → (nat_lt m n || (m == n && b)) ≡ true
lex_join m n b (inl lt) = ap (λ x. x || (m == n && b)) (lt-ltb m n lt)
lex_join m n b (inr (e, h)) = ap₂ (λ y c. nat_lt m n || (y && c)) (eq-eqb m n e) h ∙ or_true (nat_lt m n)

lex_on : (k m n : ℕ) (a b c : Bool) → (a ≡ true → b ≡ true → c ≡ true) → (k < m) ⊎ ((k ≡ m) × (a ≡ true)) → (m < n) ⊎ ((m ≡ n) × (b ≡ true)) → (k < n) ⊎ ((k ≡ n) × (c ≡ true))
lex_on k m n a b c both (inl x) (inl y) = inl (omega (arith, x, y))
lex_on k m n a b c both (inl x) (inr (e, h)) = inl (omega (arith, x, e))
lex_on k m n a b c both (inr (e, h)) (inl y) = inl (omega (arith, e, y))
lex_on k m n a b c both (inr (e, h)) (inr (f, i)) = inr (e ∙ f, both h i)

lex_none : (n : ℕ) (b : Bool) → b ≡ false → (nat_lt n n || (n == n && b)) ≡ false
lex_none n b e = ap₂ (λ x c. x || (n == n && c)) (le-ltb n n (omega arith)) e ∙ and_false (n == n)

none_before : (p : Position) → stands_before p p ≡ false
none_before p = lex_none p.line (nat_lt p.column p.column) (le-ltb p.column p.column (omega arith))

never_before : (a : Origin) → comes_before a a ≡ false
never_before a = lex_none a.instance (stands_before a.place a.place) (none_before a.place)

less_on : (k m n : ℕ) → nat_lt k m ≡ true → nat_lt m n ≡ true → nat_lt k n ≡ true
less_on k m n e h = let x : k < m = ltb-true k m e in let y : m < n = ltb-true m n h in lt-ltb k n (omega (arith, x, y))

stands_on : (p q r : Position) → stands_before p q ≡ true → stands_before q r ≡ true → stands_before p r ≡ true
stands_on p q r e h =
    lex_join p.line r.line (nat_lt p.column r.column)
    (lex_on p.line q.line r.line (nat_lt p.column q.column) (nat_lt q.column r.column) (nat_lt p.column r.column) (less_on p.column q.column r.column) (lex p.line q.line (nat_lt p.column q.column) e) (lex q.line r.line (nat_lt q.column r.column) h))

goes_on : (a b c : Origin) → comes_before a b ≡ true → comes_before b c ≡ true → comes_before a c ≡ true
goes_on a b c e h =
    lex_join a.instance c.instance (stands_before a.place c.place)
    (lex_on a.instance b.instance c.instance (stands_before a.place b.place) (stands_before b.place c.place) (stands_before a.place c.place) (stands_on a.place b.place c.place)
    (lex a.instance b.instance (stands_before a.place b.place) e) (lex b.instance c.instance (stands_before b.place c.place) h))

refuted : (b : Bool) → (b ≡ true → ⊥) → b ≡ false
refuted true never = absurd (never refl)
refuted false never = refl

decide : (b : Bool) → (b ≡ true) ⊎ (b ≡ false)
decide true = inl refl
decide false = inr refl

none_in : (at : Origin) → Contains [] at → ⊥
none_in at (i, lt, is) = omega (arith, lt)

chosen : (b : Bool) (at first : Origin) → b ≡ true → (if b then Some at else Some first) ≡ Some at
chosen true at first e = refl
chosen false at first e = absurd (false≢true e)

stayed : (b : Bool) (at first : Origin) → b ≡ false → (if b then Some at else Some first) ≡ Some first
stayed true at first e = absurd (false≢true (sym e))
stayed false at first e = refl

one_more : (xs : List Origin) (found : Option Origin) (at : Origin) → Finds (Contains xs) found → Finds (Contains (xs ++ at ∷ [])) (earlier found at)
one_more xs None at none = (
  Contains-push xs at,
  λ other there.
      elim (Contains-push_cases xs at other there) [
        | inl before ↦ absurd (none other before)
        | inr same ↦ subst (λ (o : Origin). comes_before o at ≡ false) same (never_before at)
      ],
)
one_more xs (Some first) at (is, least) =
    elim (decide (comes_before at first)) [
      | inl e ↦ subst (Finds (Contains (xs ++ at ∷ []))) (sym (chosen (comes_before at first) at first e)) (
        Contains-push xs at,
        λ other there.
            elim (Contains-push_cases xs at other there) [
              | inl before ↦ refuted (comes_before other at) (λ h. false≢true (sym (least other before) ∙ goes_on other at first h e))
              | inr same ↦ subst (λ (o : Origin). comes_before o at ≡ false) same (never_before at)
            ],
      )
      | inr e ↦ subst (Finds (Contains (xs ++ at ∷ []))) (sym (stayed (comes_before at first) at first e)) (
        Contains-append_left xs (at ∷ []) first is,
        λ other there.
            elim (Contains-push_cases xs at other there) [
              | inl before ↦ least other before
              | inr same ↦ subst (λ (o : Origin). comes_before o first ≡ false) same e
            ],
      )
    ]

all_more : (xs ys : List Origin) (found : Option Origin) → Finds (Contains xs) found → Finds (Contains (xs ++ ys)) (first_from found ys)
all_more xs [] found is = subst (λ (zs : List Origin). Finds (Contains zs) found) (sym (append-nil xs)) is
all_more xs (y ∷ ys) found is = subst (λ (zs : List Origin). Finds (Contains zs) (first_from (earlier found y) ys)) (append_assoc xs (y ∷ []) ys) (all_more (xs ++ y ∷ []) ys (earlier found y) (one_more xs found y is))

-- the first one of a list is found
pub first_found : (places : List Origin) (found : Option Origin) → found ≡ first_from None places → Finds (Contains places) found
first_found places found is = subst (Finds (Contains places)) (sym is) (all_more [] places None none_in)
