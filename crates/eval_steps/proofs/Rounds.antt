-- From how many rounds of the loop on names, expressions and formulas repeat.
use Rattle.std.proofs.Common.{◌≡◌, ◌↔◌, [], ◌∷◌, ℕ, zero, suc, ◌+◌, ◌-◌, ◌*◌, ◌/◌, ◌%◌, ◌<◌, ◌≤◌, List, max, refl, sym, ap, ◌∙◌, subst, inl, inr, arith, eqb}
use Rattle.std.proofs.Math.Nat.{suc-mul, mod-add-div', le-max_left, le-max_right}
use Rattle.core_tree.specs.Trees.{Term, Claim, within}
use Rattle.core_tree.specs.declared.operators.Multiplicity.{Multiplicity}
use Rattle.core_tree.specs.declared.model.Body.{Body}
use Rattle.core_tree.specs.Past.{body_depths}
use Rattle.core_meaning.specs.declared.scope.Environment.{Environment}
use Rattle.core_meaning.specs.declared.scope.Environment.TheVariants.{Empty}
use Rattle.core_meaning.specs.Meaning.{Names, with_name, atom}
use Rattle.core_meaning.specs.Sequence.{LassoValue, period}
use Rattle.core_meaning.specs.Operators.{Times}
use Rattle.core_window.proofs.ShiftLemmas.{le_trans}
use Rattle.core_window.specs.Windows.{Binding, atom_names, atom_depths}
use Rattle.core_window.proofs.WindowLemmas.{atoms_again}
use Rattle.core_window.proofs.WindowLemmas.{no_names_again, atom_again, more_again, term_again, holds_again, bodies_again}
use Rattle.eval_context.specs.Settings.{SettingValue, world}
use Rattle.eval_calls.specs.Weight.{most, weight_in, weight_of, calls_below, AreWeighed}
use Rattle.eval_calls.proofs.CallLemmas.{top, top_few, below_top}
use Rattle.eval_calls.proofs.RoundLemmas.{AreWithin, one_within, term_below, claim_below, bodies_bounded}
use Rattle.eval_steps.specs.Judged.{bodies, scope_names, Means, HoldsIn, NamesRepeat, TermRepeats, ClaimRepeats, Again, value_term, IsLimit, IsFolded}
use Rattle.core_window.specs.Repeats.{uncounted, IsFar, HasLoop, RepeatNames, repeats_from}

pub atoms_within : (bs : List Binding) → AreWithin (atom_depths bs) 0
atoms_within [] x = omega arith
atoms_within (b ∷ bs) x = one_within (eqb x b.name) 0 (atom_depths bs x) 0 (omega arith) (atoms_within bs x)

module _ (s : SettingValue) where
  pub none_repeat : NamesRepeat s Empty 0
  none_repeat some = no_names_again (world s) some

  pub atom_repeats : (x a : ℕ) (rest : Environment) (n : ℕ) → NamesRepeat s rest n → (some : HasLoop s.lasso) → RepeatNames (world s) some (with_name (scope_names s rest) x (atom a)) (λ z. n)
  atom_repeats x a rest n again some y h i le few far = atom_again (world s) some (scope_names s rest) (λ z. n) x a (again some) y h i (one_within (eqb y x) 0 n h (omega arith) le) few far

  -- the names of a scope with one written name more
  abbrev pub written_names : ℕ → Term → Environment → Environment → Names
  written_names x e outer rest = with_name (scope_names s rest) x (λ j. Means s e (scope_names s outer) j)

  pub written_repeats : (x : ℕ) (e : Term) (outer rest : Environment) (m n : ℕ) → TermRepeats s e outer m → NamesRepeat s rest n → (some : HasLoop s.lasso) → RepeatNames (world s) some (written_names x e outer rest) (λ z. max m n)
  written_repeats x e outer rest m n own again some y h i le few far =
      more_again (world s) some (scope_names s rest) (λ z. n) x m (λ j. Means s e (scope_names s outer) j) (again some) (own some) y h i
      (one_within (eqb y x) m n h (le_trans (le-max_left m n) le) (le_trans (le-max_right m n) le)) few far

  module _ (weights : List ℕ) (weighed : AreWeighed s.model.bodies weights) where
    abbrev pub calls : ℕ → ℕ
    calls body = calls_below s.model.bodies weights most body

    pub term_rounds : (e : Term) (scope : Environment) (n r : ℕ) → r ≡ weight_in calls e + n → r < most → NamesRepeat s scope n → TermRepeats s e scope r
    term_rounds e scope n r is few again some h i le small far =
        let below = term_below calls (body_depths s.model.bodies) top top_few (bodies_bounded s.model.bodies weights weighed most) e (below_top (weight_in calls e) (omega arith)) (λ x. n) n (λ x. omega arith) in
        term_again (world s) some (bodies s) (body_depths s.model.bodies) (bodies_again (world s) some s.model.bodies) e (scope_names s scope) (λ x. n) (again some) h i (le_trans below (omega arith)) small far

    pub claim_rounds : (f : Claim) (scope : Environment) (n r : ℕ) → HasLoop s.lasso → r ≡ weight_of calls f + n → r < most → NamesRepeat s scope n → ClaimRepeats s f scope r
    claim_rounds f scope n r some is few again h i le small far =
        let below = claim_below calls (body_depths s.model.bodies) top top_few (bodies_bounded s.model.bodies weights weighed most) f (below_top (weight_of calls f) (omega arith)) (λ x. n) n (λ x. omega arith) in
        holds_again (world s) some (bodies s) (body_depths s.model.bodies) (bodies_again (world s) some s.model.bodies) f (scope_names s scope) (λ x. n) (again some) h i (le_trans below (omega arith)) small far

    pub claim_in_atoms : (f : Claim) (atoms : List Binding) (r : ℕ) → HasLoop s.lasso → r ≡ weight_of calls f → r < most → Again s f (atom_names atoms) r
    claim_in_atoms f atoms r some is few h i le small far =
        let below = claim_below calls (body_depths s.model.bodies) top top_few (bodies_bounded s.model.bodies weights weighed most) f (below_top (weight_of calls f) (omega arith)) (atom_depths atoms) 0 (atoms_within atoms) in
        holds_again (world s) some (bodies s) (body_depths s.model.bodies) (bodies_again (world s) some s.model.bodies) f (atom_names atoms) (atom_depths atoms) (atoms_again (world s) some atoms) h i (le_trans below (omega arith)) small far

    pub bound_in_atoms : (e : Term) (n : ℕ) (m : Multiplicity) (atoms : List Binding) (r : ℕ) → HasLoop s.lasso → r ≡ weight_in calls e → r < most → Again s (within (value_term n) m e) (atom_names atoms) r
    bound_in_atoms e n m atoms r some is few =
        let v : ℕ = weight_in calls e in
        let same : v ≡ weight_of calls (within (value_term n) m e) = omega arith in
        claim_in_atoms (within (value_term n) m e) atoms r some (is ∙ same) few

  pub fact_repeats : (weights : List ℕ) → AreWeighed s.model.bodies weights → (bs : List Body) → bs ≡ s.model.bodies → (ws : List ℕ) → ws ≡ weights → (f : Claim) (atoms : List Binding) (r : ℕ) → HasLoop s.lasso → r ≡ weight_of (calls_below bs ws most) f → r < most → Again s f (atom_names atoms) r
  fact_repeats weights weighed bs eb ws ew f atoms r some er few =
      claim_in_atoms weights weighed f atoms r some (er ∙ ap (λ (z : List Body). weight_of (calls_below z ws most) f) eb ∙ ap (λ (z : List ℕ). weight_of (calls_below s.model.bodies z most) f) ew) few

  pub bound_repeats : (weights : List ℕ) → AreWeighed s.model.bodies weights → (bs : List Body) → bs ≡ s.model.bodies → (ws : List ℕ) → ws ≡ weights → (e : Term) (n : ℕ) (m : Multiplicity) (atoms : List Binding) (r : ℕ) → HasLoop s.lasso → r ≡ weight_in (calls_below bs ws most) e → r < most → Again s (within (value_term n) m e) (atom_names atoms) r
  bound_repeats weights weighed bs eb ws ew e n m atoms r some er few =
      bound_in_atoms weights weighed e n m atoms r some (er ∙ ap (λ (z : List Body). weight_in (calls_below z ws most) e) eb ∙ ap (λ (z : List ℕ). weight_in (calls_below s.model.bodies z most) e) ew) few

  pub expr_repeats : (weights : List ℕ) → AreWeighed s.model.bodies weights → (bs : List Body) → bs ≡ s.model.bodies → (ws : List ℕ) → ws ≡ weights → (v : ℕ) (e : Term) (scope : Environment) (n r : ℕ) → v ≡ weight_in (calls_below bs ws most) e → r ≡ v + n → r < most → NamesRepeat s scope n → TermRepeats s e scope r
  expr_repeats weights weighed bs eb ws ew v e scope n r ev er few again =
      term_rounds weights weighed e scope n r (er ∙ ap (λ (z : ℕ). z + n) (ev ∙ ap (λ (z : List Body). weight_in (calls_below z ws most) e) eb ∙ ap (λ (z : List ℕ). weight_in (calls_below s.model.bodies z most) e) ew)) few again

  pub claim_repeats : (weights : List ℕ) → AreWeighed s.model.bodies weights → (bs : List Body) → bs ≡ s.model.bodies → (ws : List ℕ) → ws ≡ weights → (v : ℕ) (f : Claim) (scope : Environment) (n r : ℕ) → HasLoop s.lasso → v ≡ weight_of (calls_below bs ws most) f → r ≡ v + n → r < most → NamesRepeat s scope n → ClaimRepeats s f scope r
  claim_repeats weights weighed bs eb ws ew v f scope n r some ev er few again =
      claim_rounds weights weighed f scope n r some (er ∙ ap (λ (z : ℕ). z + n) (ev ∙ ap (λ (z : List Body). weight_of (calls_below z ws most) f) eb ∙ ap (λ (z : List ℕ). weight_of (calls_below s.model.bodies z most) f) ew)) few again

  pub written_rounds : (x : ℕ) (e : Term) (outer rest : Environment) (names m n r : ℕ) → r ≡ max m n → names ≤ m → r < most → (names < most → NamesRepeat s outer names) → (m < most → NamesRepeat s outer names → TermRepeats s e outer m) → (n < most → NamesRepeat s rest n) → (some : HasLoop s.lasso) → RepeatNames (world s) some (written_names x e outer rest) (λ z. r)
  written_rounds x e outer rest names m n r er le few f g h =
      let low = le-max_left m n in
      let high = le-max_right m n in
      subst (λ (z : ℕ). (some : HasLoop s.lasso) → RepeatNames (world s) some (written_names x e outer rest) (λ q. z)) (sym er) (written_repeats x e outer rest m n (g (omega arith) (f (omega arith))) (h (omega arith)))

  pub limit_is : (f : Claim) (scope : Environment) (r i from p end : ℕ) → ClaimRepeats s f scope r → r < uncounted → from ≡ repeats_from s.lasso r → p ≡ period s.lasso → 1 ≤ p → end ≡ max i from + p → IsLimit (λ j. HoldsIn s f (scope_names s scope) j) i end
  limit_is f scope r i from p end again few is round some e =
      let low = le-max_left i from in
      let high = le-max_right i from in (
        from,
        p,
        omega arith,
        omega (arith, e),
        omega (arith, e),
        λ k far.
            subst (λ q. HoldsIn s f (scope_names s scope) k ↔ HoldsIn s f (scope_names s scope) (k + q)) (sym round) (again r k (omega arith) few (subst (λ q. q ≤ k) is far)),
      )

-- what repeats after each round from m on
rounds : (P : Times) (p m : ℕ) → ((i : ℕ) → m ≤ i → P i ↔ P (i + p)) → (n i : ℕ) → m ≤ i → P i ↔ P (i + n * p)
rounds P p m again zero i far = let e : i ≡ i + 0 * p = omega arith in (subst P e, subst P (sym e))
rounds P p m again (suc n) i far =
    let more = rounds P p m again n i far in
    let once = again (i + n * p) (omega arith) in
    let e : i + n * p + p ≡ i + suc n * p = rw suc-mul (omega arith) in
    ((λ x. subst P e (once.0 (more.0 x))), (λ x. more.1 (once.1 (subst P (sym e) x))))

pub folded_before : (lasso : LassoValue) (r i : ℕ) → IsFolded lasso r i i
folded_before lasso r i = (0, omega arith, inl refl)

pub folded_after : (lasso : LassoValue) (r i from p : ℕ) → from ≡ repeats_from lasso r → p ≡ period lasso → from ≤ i → IsFolded lasso r (from + (i - from) % p) i
folded_after lasso r i from p is round le =
    ((i - from) / p, subst (λ q. i ≡ from + (i - from) % p + (i - from) / p * q) round (omega (arith, mod-add-div' (i - from) p)), inr (subst (λ q. q ≤ from + (i - from) % p) is (omega arith)))

-- the truth is the same at both positions
pub same_truth : (lasso : LassoValue) (P : Times) (r place i : ℕ) → ((j : ℕ) → IsFar lasso r j → P j ↔ P (j + period lasso)) → IsFolded lasso r place i → P place ↔ P i
same_truth lasso P r place i again (n, e, inl none) = let whole : place + 0 * period lasso ≡ place = omega arith in
    let same : place ≡ i = sym (e ∙ ap (λ m. place + m * period lasso) none ∙ whole) in
    (subst P same, subst P (sym same))
same_truth lasso P r place i again (n, e, inr far) =
    let same = rounds P (period lasso) (repeats_from lasso r) again n place far in
    ((λ x. subst P (sym e) (same.0 x)), (λ x. same.1 (subst P e x)))
