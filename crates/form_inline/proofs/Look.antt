-- What is found for a name is what the names say of it.
use Rattle.std.proofs.Common.{◌≡◌, ◌≢◌, ◌↔◌, ℕ, zero, suc, ◌-◌, ◌<◌, ◌≤◌, false, eqb, List, [], ◌∷◌, map, Option, sym, subst, inl, inr, arith, length, get_or, Bor}
use Rattle.std.proofs.lemmas.Bool.{eq-eqb}
use Rattle.std.proofs.lemmas.Bool.Decides.{eqb_tells}
use Rattle.core_tree.specs.declared.model.Body.{Body}
use Rattle.core_tree.specs.declared.tree.Expr.{Expr}
use Rattle.core_tree.specs.Trees.{term_of, term_list}
use Rattle.core_meaning.specs.World.{World}
use Rattle.core_meaning.specs.Operators.{Tuples}
use Rattle.core_meaning.specs.Meaning.{Names, Bodies, one_of, InTerm, passed}
use Rattle.core_meaning.specs.Called.{called}
use Rattle.core_window.proofs.SameLemmas.{same_trans}
use Rattle.form_inline.specs.declared.given.Given.{Given}
use Rattle.form_inline.specs.declared.given.Given.TheVariants.{Level, Written}
use Rattle.form_inline.specs.declared.given.Meant.{Meant}
use Rattle.form_inline.specs.declared.given.Meant.TheVariants.{Nothing, Level as LevelMeant, Written as WrittenMeant}
use Rattle.form_inline.specs.Written.{atoms, given_names, MeansName}
use Rattle.form_inline.proofs.Same.{still}

-- the names say the same of y as others do
abbrev pub SayAlike : List Body → Given → Given → ℕ → Type 0
SayAlike bodies rest given y = (w : World) (m : ℕ → Option ℕ) (i : ℕ) (t : List ℕ) → given_names w bodies rest m y i t ↔ given_names w bodies given m y i t

pub skipped : (bodies : List Body) (given rest : Given) (level y : ℕ) (found : Meant) → SayAlike bodies rest given y → MeansName bodies rest level y found → MeansName bodies given level y found
skipped bodies given rest level y Nothing same h = λ w m i t k. h w m i t ((same w m i t).1 k)
skipped bodies given rest level y (LevelMeant k) same h = λ w m i t. same_trans (h w m i t) (same w m i t)
skipped bodies given rest level y (WrittenMeant n e outer) same h = (h.0, λ w m i t. same_trans (h.1 w m i t) (same w m i t))

apart_names : (x y : ℕ) → x ≢ y → eqb y x ≡ false
apart_names x y h = elim (eqb_tells y x) [ inl found ↦ absurd (h (sym found.1)) | inr found ↦ found.0 ]

other_name : (x y : ℕ) → x ≢ y → (A B : Tuples) (t : List ℕ) → B t ↔ one_of (eqb y x) A B t
other_name x y h A B t = subst (λ b. B t ↔ one_of b A B t) (sym (apart_names x y h)) still

own_name : (x y : ℕ) → x ≡ y → (A B : Tuples) (t : List ℕ) → A t ↔ one_of (eqb y x) A B t
own_name x y h A B t = subst (λ b. A t ↔ one_of b A B t) (sym (eq-eqb y x (sym h))) still

pub past_level : (bodies : List Body) (x k : ℕ) (rest : Bor Given) (y : ℕ) → x ≢ y → SayAlike bodies rest.now (Level x k rest) y
past_level bodies x k rest y h w m i t = other_name x y h (atoms m k i) (given_names w bodies rest.now m y i) t

pub past_written : (bodies : List Body) (x n : ℕ) (e : Bor Expr) (rest : Bor Given) (y : ℕ) → x ≢ y → SayAlike bodies rest.now (Written x n e rest) y
past_written bodies x n e rest y h w m i t = other_name x y h (InTerm w (called w bodies n) (term_of e.now) (given_names w bodies rest.now m) i) (given_names w bodies rest.now m y i) t

pub at_written : (bodies : List Body) (x n : ℕ) (e : Bor Expr) (rest : Bor Given) (y : ℕ) → x ≡ y → (w : World) (m : ℕ → Option ℕ) (i : ℕ) (t : List ℕ) → InTerm w (called w bodies n) (term_of e.now) (given_names w bodies rest.now m) i t ↔ given_names w bodies (Written x n e rest) m y i t
at_written bodies x n e rest y h w m i t = own_name x y h (InTerm w (called w bodies n) (term_of e.now) (given_names w bodies rest.now m) i) (given_names w bodies rest.now m y i) t

module _ (w : World) (b : Bodies) (names : Names) (i : ℕ) (t : List ℕ) where
  pub passed_some : (es : List Expr) (x : ℕ) (e : Expr) → x < length es → e ≡ get_or es x e → InTerm w b (term_of e) names i t ↔ passed w b (term_list (map term_of es)) names x i t
  passed_some [] x e low h = absurd (omega (arith, low))
  passed_some (d ∷ es) zero e low h = subst (λ (c : Expr). InTerm w b (term_of e) names i t ↔ InTerm w b (term_of c) names i t) h still
  passed_some (d ∷ es) (suc x) e low h =
      let apart : eqb (suc x) 0 ≡ false = elim (eqb_tells (suc x) 0) [ inl found ↦ absurd (omega (arith, found.1)) | inr found ↦ found.0 ] in
      let back : suc x - 1 ≡ x = omega arith in
      let inner = subst (λ y. InTerm w b (term_of e) names i t ↔ passed w b (term_list (map term_of es)) names y i t) (sym back) (passed_some es x e (omega (arith, low)) h) in
      subst (λ c. InTerm w b (term_of e) names i t ↔ one_of c (InTerm w b (term_of d) names i) (passed w b (term_list (map term_of es)) names (suc x - 1) i) t) (sym apart) inner

  pub passed_none : (es : List Expr) (x : ℕ) → length es ≤ x → ¬ passed w b (term_list (map term_of es)) names x i t
  passed_none [] x h k = k
  passed_none (d ∷ es) zero h k = absurd (omega (arith, h))
  passed_none (d ∷ es) (suc x) h k =
      let apart : eqb (suc x) 0 ≡ false = elim (eqb_tells (suc x) 0) [ inl found ↦ absurd (omega (arith, found.1)) | inr found ↦ found.0 ] in
      let back : suc x - 1 ≡ x = omega arith in
      let inner = subst (λ c. one_of c (InTerm w b (term_of d) names i) (passed w b (term_list (map term_of es)) names (suc x - 1) i) t) apart k in
      passed_none es x (omega (arith, h)) (subst (λ y. passed w b (term_list (map term_of es)) names y i t) back inner)
