-- An atom that differs from the latest of the earlier ones.
use Rattle.std.proofs.Common.{◌≡◌, ◌≢◌, ◌↔◌, ℕ, zero, suc, ◌-◌, List, [], ◌∷◌, take, refl, sym, subst, arith, Bool, true, false, not, eqb, IsTrue}
use Rattle.std.proofs.lemmas.Bool.Decides.{nat_tests}
use Rattle.std.proofs.lemmas.List.Elements.{All-nil, All-cons}
use Rattle.core_meaning.specs.Meaning.{IsApart}
use Rattle.core_window.proofs.SameLemmas.{same_trans}

apart_cons : (m a b : ℕ) (l : List ℕ) → IsApart (suc m) a (b ∷ l) ↔ ((a ≢ b) × IsApart m a l)
apart_cons m a b l = (
  (λ all. (all 0 a (omega arith), λ k d lt. all (suc k) d (omega arith))),
  (λ (n, rest). All-cons (λ c. a ≢ c) b (take m l) n rest),
)

pub apart_zero : (n a : ℕ) (l : List ℕ) → n ≡ 0 → IsTrue true ↔ IsApart n a l
apart_zero zero a l e = ((λ t. All-nil (λ c. a ≢ c)), (λ x. refl))
apart_zero (suc n) a l e = absurd (omega arith)

pub apart_start : (n a : ℕ) → IsTrue true ↔ IsApart n a []
apart_start zero a = ((λ t. All-nil (λ c. a ≢ c)), (λ x. refl))
apart_start (suc n) a = ((λ t. All-nil (λ c. a ≢ c)), (λ x. refl))

pub apart_same : (n a b : ℕ) (l : List ℕ) → n ≢ 0 → b ≡ a → IsTrue false ↔ IsApart n a (b ∷ l)
apart_same zero a b l some e = absurd (some refl)
apart_same (suc m) a b l some e = ((λ t. absurd cc), (λ x. absurd (((apart_cons m a b l).0 x).0 (sym e))))

not_equal : (b a : ℕ) → b ≡ a → not (eqb b a) ≡ false
not_equal b a e = grind (arith, nat_tests)

pub apart_equal : (n a b : ℕ) (l : List ℕ) → n ≢ 0 → b ≡ a → IsTrue (not (eqb b a)) ↔ IsApart n a (b ∷ l)
apart_equal n a b l some e = subst (λ (r : Bool). IsTrue r ↔ IsApart n a (b ∷ l)) (sym (not_equal b a e)) (apart_same n a b l some e)

pub apart_more : (n a b : ℕ) (l : List ℕ) (r : Bool) → n ≢ 0 → b ≢ a → IsTrue r ↔ IsApart (n - 1) a l → IsTrue r ↔ IsApart n a (b ∷ l)
apart_more zero a b l r some other k = absurd (some refl)
apart_more (suc m) a b l r some other k =
    let e : suc m - 1 ≡ m = omega arith in
    let k' : IsTrue r ↔ IsApart m a l = subst (λ q. IsTrue r ↔ IsApart q a l) e k in
    same_trans k' ((λ x. (apart_cons m a b l).1 ((λ q. other (sym q)), x)), (λ y. ((apart_cons m a b l).0 y).1))
