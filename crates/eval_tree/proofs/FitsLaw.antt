-- The multiplicities of arrows, tuple by tuple, and sets inside products.
use Rattle.std.proofs.Common.{if◌then◌else◌, ◌≡◌, ◌⊎◌, ◌↔◌, ℕ, ◌+◌, ◌<◌, ◌≤◌, List, [], ◌∷◌, ◌++◌, refl, sym, ap, subst, ◌∙◌, inl, inr, take, drop, length, Contains, slice_get, Some, Bool, true, false, IsTrue}
use Rattle.std.proofs.lemmas.List.{take-append-drop}
use Rattle.core_tree.specs.declared.operators.Multiplicity.{Multiplicity}
use Rattle.core_tree.specs.declared.operators.Multiplicity.TheVariants.{Set, One, Lone, Some as SomeMany}
use Rattle.core_tree.specs.Trees.{Term, sig, field, name, univ, iden, empty, int, combine, product, unary, prime, choose_term, comprehension, number, count, arithmetic, sum_over, let_term, call_term}
use Rattle.core_meaning.specs.World.{World}
use Rattle.core_meaning.specs.Operators.{Tuples, HasMultiplicity, IsInside, product_tuples}
use Rattle.core_meaning.specs.Meaning.{Names, Bodies, Fits}
use Rattle.core_window.proofs.SameLemmas.{turn, multiplicity_same}
use Rattle.core_tuples.specs.Sets.{TupleList, In}
use Rattle.eval_context.specs.Settings.{SettingValue, world}
use Rattle.eval_sets.specs.SetOf.{IsSetOf}
use Rattle.eval_steps.specs.Judged.{bodies, Means, FitsAfter, FitsBefore, GoesAfter, GoesBefore, GivesHead, GivesTail, asks_in, asks_for}
use Rattle.eval_tree.proofs.FitsSame.{fits_to}
use Rattle.eval_tree.proofs.FoundLemmas.{true_holds, false_fails}
use Rattle.eval_tree.proofs.ListLemmas.{contains_none, take_all, take_front, more_cases, more_here}

sides : (p q : Bool) → (if p then true else q) ≡ false → (p ≡ false) × (q ≡ false)
sides true q e = absurd cc
sides false q e = (refl, e)

arrow_any : (w : World) (B : Bodies) (a : Term) (m n : Multiplicity) (b : Term) → asks_in (product a m n b) ≡ false → (names : Names) (i : ℕ) (E : Tuples) → (asks_in a ≡ false → (D : Tuples) → Fits w B a names i D) → (asks_in b ≡ false → (D : Tuples) → Fits w B b names i D) → Fits w B (product a m n b) names i E
arrow_any w B a Set Set b e names i E left right = let both = sides (asks_in a) (asks_in b) e in ((λ s in'. (tt, right both.1 (λ u. E (s ++ u)))), (λ u in'. (tt, left both.0 (λ s. E (s ++ u)))))
arrow_any w B a Set One b e names i E left right = absurd cc
arrow_any w B a Set Lone b e names i E left right = absurd cc
arrow_any w B a Set SomeMany b e names i E left right = absurd cc
arrow_any w B a One n b e names i E left right = absurd cc
arrow_any w B a Lone n b e names i E left right = absurd cc
arrow_any w B a SomeMany n b e names i E left right = absurd cc

-- where no arrow asks for anything, all fits
pub fits_any : (w : World) (B : Bodies) (e : Term) → asks_in e ≡ false → (names : Names) (i : ℕ) (E : Tuples) → Fits w B e names i E
fits_any w B (product a m n b) e names i E = arrow_any w B a m n b e names i E (λ x D. fits_any w B a x names i D) (λ x D. fits_any w B b x names i D)
fits_any w B (sig s) e names i E = tt
fits_any w B (field f) e names i E = tt
fits_any w B (name x) e names i E = tt
fits_any w B univ e names i E = tt
fits_any w B iden e names i E = tt
fits_any w B empty e names i E = tt
fits_any w B int e names i E = tt
fits_any w B (combine op a b) e names i E = tt
fits_any w B (unary op a) e names i E = tt
fits_any w B (prime a) e names i E = tt
fits_any w B (choose_term f a b) e names i E = tt
fits_any w B (comprehension vs f) e names i E = tt
fits_any w B (number n place) e names i E = tt
fits_any w B (count a) e names i E = tt
fits_any w B (arithmetic op a b) e names i E = tt
fits_any w B (sum_over vs a) e names i E = tt
fits_any w B (let_term x a b) e names i E = tt
fits_any w B (call_term body es) e names i E = tt

nothing_asked : (m : Multiplicity) (e : Term) → asks_for m e ≡ false → ((A : Tuples) → HasMultiplicity m A) × (asks_in e ≡ false)
nothing_asked Set e h = ((λ A. tt), h)
nothing_asked One e h = absurd cc
nothing_asked Lone e h = absurd cc
nothing_asked SomeMany e h = absurd cc

-- a fact of the tuples of a front
abbrev pub ForTuples : (List ℕ → Type 0) → List (List ℕ) → ℕ → Type 0
ForTuples Q ts k = (t : List ℕ) → Contains (take k ts) t → Q t

pub tuples_none : (Q : List ℕ → Type 0) (ts : List (List ℕ)) → ForTuples Q ts 0
tuples_none Q ts t c = absurd (contains_none t c)

pub tuples_more : (Q : List ℕ → Type 0) (ts : List (List ℕ)) (k : ℕ) (x : List ℕ) → ForTuples Q ts k → k < length ts → slice_get ts k ≡ Some x → Q x → ForTuples Q ts (k + 1)
tuples_more Q ts k x all lt at here t c = elim (more_cases ts k x t lt at c) [ inl before ↦ all t before | inr e ↦ subst Q e here ]

pub tuples_all : (Q : List ℕ → Type 0) (ts : List (List ℕ)) (k : ℕ) → length ts ≤ k → ForTuples Q ts k → IsTrue true ↔ ((t : List ℕ) → Contains ts t → Q t)
tuples_all Q ts k high all = true_holds (λ t c. all t (subst (λ ys. Contains ys t) (sym (take_all ts k high)) c))

pub tuples_fail : (Q : List ℕ → Type 0) (ts : List (List ℕ)) (k : ℕ) (x : List ℕ) → k < length ts → slice_get ts k ≡ Some x → ¬ Q x → IsTrue false ↔ ((t : List ℕ) → Contains ts t → Q t)
tuples_fail Q ts k x lt at no' = false_fails (λ f. no' (f x (take_front ts (k + 1) x (more_here ts k x lt at))))

module _ (s : SettingValue) (side : Term) (m : Multiplicity) (other : Term) (names : Names) (i : ℕ) (E : Tuples) where
  pub after_any : asks_for m other ≡ false → IsTrue true ↔ FitsAfter s side m other names i E
  after_any e = let none = nothing_asked m other e in true_holds (λ t in'. (none.0 (λ u. E (t ++ u)), fits_any (world s) (bodies s) other none.1 names i (λ u. E (t ++ u))))

  pub before_any : asks_for m other ≡ false → IsTrue true ↔ FitsBefore s side m other names i E
  before_any e = let none = nothing_asked m other e in true_holds (λ u in'. (none.0 (λ t. E (t ++ u)), fits_any (world s) (bodies s) other none.1 names i (λ t. E (t ++ u))))

  pub after_is : (set : TupleList) → IsSetOf set (Means s side names i) → ((t : List ℕ) → In t set → GoesAfter s m other names i E t) ↔ FitsAfter s side m other names i E
  after_is set has = ((λ f t in'. f t ((has.just t).1 in')), (λ f t in'. f t ((has.just t).0 in')))

  pub before_is : (set : TupleList) → IsSetOf set (Means s side names i) → ((t : List ℕ) → In t set → GoesBefore s m other names i E t) ↔ FitsBefore s side m other names i E
  before_is set has = ((λ f t in'. f t ((has.just t).1 in')), (λ f t in'. f t ((has.just t).0 in')))

-- what fits or has a multiplicity by the rows that were found
module _ (s : SettingValue) (m : Multiplicity) (other : Term) (names : Names) (i : ℕ) (rest : TupleList) (R : Tuples) (has : IsSetOf rest R) where
  pub goes_yes : HasMultiplicity m (λ t. In t rest) → Fits (world s) (bodies s) other names i (λ t. In t rest) → HasMultiplicity m R × Fits (world s) (bodies s) other names i R
  goes_yes a f = ((multiplicity_same m (λ t. In t rest) R has.just).0 a, fits_to (world s) (bodies s) other names i (λ t. In t rest) R has.just f)

  pub goes_no : (¬ HasMultiplicity m (λ t. In t rest)) ⊎ (¬ Fits (world s) (bodies s) other names i (λ t. In t rest)) → ¬ (HasMultiplicity m R × Fits (world s) (bodies s) other names i R)
  goes_no (inl n) p = n ((multiplicity_same m (λ t. In t rest) R has.just).1 p.0)
  goes_no (inr n) p = n (fits_to (world s) (bodies s) other names i R (λ t. In t rest) (λ t. turn (has.just t)) p.1)

-- the tuples of a first part have so many columns
module _ (set left right : TupleList) (n : ℕ) (A B : Tuples) where
  pub inside_product : ((t : List ℕ) → A t → length t ≡ n) → IsSetOf left (λ u. (t : List ℕ) × In t set × GivesHead n t u) → IsSetOf right (λ u. (t : List ℕ) × In t set × GivesTail n t u) → ((t : List ℕ) → In t set → n ≤ length t) → (IsInside (λ t. In t left) A × IsInside (λ t. In t right) B) ↔ IsInside (λ t. In t set) (product_tuples A B)
  inside_product columns l r long = (
    (λ (f, g) t in'. (take n t, drop n t, f (take n t) ((l.just (take n t)).1 (t, in', (long t in', refl))), g (drop n t) ((r.just (drop n t)).1 (t, in', (long t in', refl))), sym (take-append-drop n t))),
    (λ f. (
      (λ u in'. let (t, there, given) = (l.just u).0 in' in let (le, e) = given in let (p, q, a, b, whole) = f t there in subst A (sym (e ∙ front p q t n (columns p a) whole)) a),
      (λ u in'. let (t, there, given) = (r.just u).0 in' in let (le, e) = given in let (p, q, a, b, whole) = f t there in subst B (sym (e ∙ back p q t n (columns p a) whole)) b),
    )),
  )
    where
      take_here : (p q : List ℕ) → take (length p) (p ++ q) ≡ p
      take_here [] q = refl
      take_here (x ∷ p) q = ap (λ l. x ∷ l) (take_here p q)

      drop_here : (p q : List ℕ) → drop (length p) (p ++ q) ≡ q
      drop_here [] q = refl
      drop_here (x ∷ p) q = drop_here p q

      front : (p q t : List ℕ) (n : ℕ) → length p ≡ n → t ≡ p ++ q → take n t ≡ p
      front p q t n e whole = subst (λ k. take k t ≡ p) e (subst (λ l. take (length p) l ≡ p) (sym whole) (take_here p q))

      back : (p q t : List ℕ) (n : ℕ) → length p ≡ n → t ≡ p ++ q → drop n t ≡ q
      back p q t n e whole = subst (λ k. drop k t ≡ q) e (subst (λ l. drop (length p) l ≡ q) (sym whole) (drop_here p q))
