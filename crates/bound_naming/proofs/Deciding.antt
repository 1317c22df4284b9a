-- Values that tell what holds decide whether pairs favour the earlier.
use Rattle.std.proofs.Common.{◌≡◌, ◌↔◌, ℕ, zero, suc, ◌+◌, Bool, true, false, List, [], ◌∷◌, take, All, refl, sym, ◌∙◌, subst}
use Rattle.std.proofs.lemmas.Bool.{and_parts, and_from, false≢true}
use Rattle.std.proofs.lemmas.List.Elements.{All-nil, All-cons, All-head, All-tail, All-weaker}
use Rattle.core_meaning.specs.Sequence.{LassoValue}
use Rattle.bound_uppers.specs.declared.table.Bounds.{Bounds}
use Rattle.bound_naming.specs.declared.pairs.Pair.{Pair}
use Rattle.bound_naming.specs.Naming.{IsCell, ArePartners, ArePairs, AreSomePairs, Favours, decides, favours, favours_all, DoesHold, IsCanonical}
use Rattle.bound_naming.specs.Decided.{Tells, NamingIsDecided}

-- ---- one pair

step_to : (a b rest : Bool) → decides a b rest ≡ true → (b ≡ true → a ≡ true) × (a ≡ b → rest ≡ true)
step_to true true rest on = (λ e. refl, λ e. on)
step_to true false rest on = (λ e. refl, λ e. absurd (false≢true (sym e)))
step_to false true rest on = absurd (false≢true on)
step_to false false rest on = (λ e. absurd (false≢true e), λ e. on)

step_from : (a b rest : Bool) → (b ≡ true → a ≡ true) → (a ≡ b → rest ≡ true) → decides a b rest ≡ true
step_from true true rest later same = same refl
step_from true false rest later same = refl
step_from false true rest later same = absurd (false≢true (later refl))
step_from false false rest later same = same refl

same_value : (a b : Bool) → (a ≡ true → b ≡ true) → (b ≡ true → a ≡ true) → a ≡ b
same_value true true to from = refl
same_value true false to from = absurd (false≢true (to refl))
same_value false true to from = absurd (false≢true (from refl))
same_value false false to from = refl

-- ---- a list

-- the values of a pair's variables tell whether they hold
abbrev AreTold : (ℕ → Bool) → (ℕ → Type 0) → Pair → Type 0
AreTold x holds p = ((x p.earlier ≡ true) ↔ holds p.earlier) × ((x p.later ≡ true) ↔ holds p.later)

module _ (x : ℕ → Bool) (holds : ℕ → Type 0) where
  agree_to : (p : Pair) → AreTold x holds p → (holds p.earlier ↔ holds p.later) → x p.earlier ≡ x p.later
  agree_to p told agree = same_value (x p.earlier) (x p.later) (λ e. told.1.1 (agree.0 (told.0.0 e))) (λ e. told.0.1 (agree.1 (told.1.0 e)))

  agree_from : (p : Pair) → AreTold x holds p → x p.earlier ≡ x p.later → holds p.earlier ↔ holds p.later
  agree_from p told same = (λ h. told.1.0 (sym same ∙ told.0.1 h), λ h. told.0.0 (same ∙ told.1.1 h))

  favours_to : (ps : List Pair) → All (AreTold x holds) ps → favours x ps ≡ true → Favours holds ps
  favours_to [] told on k q at agree later = cc
  favours_to (p ∷ ps) told on zero q at agree later =
      let first = All-head (AreTold x holds) p ps told in
      let is : p ≡ q = cc in
      let step = step_to (x p.earlier) (x p.later) (favours x ps) on in
      subst (λ (z : Pair). holds z.earlier) is (first.0.0 (step.0 (first.1.1 (subst (λ (z : Pair). holds z.later) (sym is) later))))
  favours_to (p ∷ ps) told on (suc k) q at agree later =
      let first = All-head (AreTold x holds) p ps told in
      let A : Pair → Type 0 = λ (z : Pair). holds z.earlier ↔ holds z.later in
      let step = step_to (x p.earlier) (x p.later) (favours x ps) on in
      favours_to ps (All-tail (AreTold x holds) p ps told) (step.1 (agree_to p first (All-head A p (take k ps) agree))) k q at (All-tail A p (take k ps) agree) later

  favours_from : (ps : List Pair) → All (AreTold x holds) ps → Favours holds ps → favours x ps ≡ true
  favours_from [] told all = refl
  favours_from (p ∷ ps) told all =
      let first = All-head (AreTold x holds) p ps told in
      let A : Pair → Type 0 = λ (z : Pair). holds z.earlier ↔ holds z.later in
      step_from (x p.earlier) (x p.later) (favours x ps)
      (λ e. first.0.1 (all zero p refl (All-nil A) (first.1.0 e)))
      (λ same. favours_from ps (All-tail (AreTold x holds) p ps told) (λ k q at agree later. all (suc k) q at (All-cons A p (take k ps) (agree_from p first same) agree) later))

-- ---- all lists

module _ (bounds : Bounds) (x : ℕ → Bool) (lasso : LassoValue) (tells : Tells bounds x lasso) where
  told_one : (s r : ℕ) (t : List ℕ) (v : ℕ) → IsCell bounds s r t v → (x v ≡ true) ↔ DoesHold bounds lasso v
  told_one s r t v cell = (λ on. (s, r, t, cell, (tells s r v t cell).0 on), λ h. (tells h.0 h.1 v h.2 h.3).1 h.4)

  told_pair : (a b : ℕ) (p : Pair) → ArePartners bounds a b p.earlier p.later → AreTold x (DoesHold bounds lasso) p
  told_pair a b p at = (told_one at.0 at.1 at.2 p.earlier at.3, told_one at.0 at.1 _ p.later at.4)

  told_all : (a b most : ℕ) (ps : List Pair) → ArePairs bounds most a b ps → All (AreTold x (DoesHold bounds lasso)) ps
  told_all a b most ps are = All-weaker (λ (p : Pair). ArePartners bounds a b p.earlier p.later) (AreTold x (DoesHold bounds lasso)) (λ p at. told_pair a b p at) ps are.partners

  lists_to : (atoms most : ℕ) (all : List (List Pair)) → All (AreSomePairs bounds atoms most) all → favours_all x all ≡ true → IsCanonical bounds all lasso
  lists_to atoms most [] some on = All-nil (Favours (DoesHold bounds lasso))
  lists_to atoms most (ps ∷ all) some on =
      let first = All-head (AreSomePairs bounds atoms most) ps all some in
      let parts = and_parts (favours x ps) (favours_all x all) on in
      All-cons (Favours (DoesHold bounds lasso)) ps all
      (favours_to x (DoesHold bounds lasso) ps (told_all first.0 (first.0 + 1) most ps first.2) parts.0)
      (lists_to atoms most all (All-tail (AreSomePairs bounds atoms most) ps all some) parts.1)

  lists_from : (atoms most : ℕ) (all : List (List Pair)) → All (AreSomePairs bounds atoms most) all → IsCanonical bounds all lasso → favours_all x all ≡ true
  lists_from atoms most [] some canonical = refl
  lists_from atoms most (ps ∷ all) some canonical =
      let first = All-head (AreSomePairs bounds atoms most) ps all some in
      and_from (favours x ps) (favours_all x all)
      (favours_from x (DoesHold bounds lasso) ps (told_all first.0 (first.0 + 1) most ps first.2) (All-head (Favours (DoesHold bounds lasso)) ps all canonical))
      (lists_from atoms most all (All-tail (AreSomePairs bounds atoms most) ps all some) (All-tail (Favours (DoesHold bounds lasso)) ps all canonical))

pub naming_decided : NamingIsDecided
naming_decided bounds atoms most all x lasso are tells = (lists_to bounds x lasso tells atoms most all are.only, lists_from bounds x lasso tells atoms most all are.only)
