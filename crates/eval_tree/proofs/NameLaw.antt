-- What a name gives by what it was found to stand for.
use Rattle.std.proofs.Common.{◌≡◌, ℕ, List, [], ◌∷◌, length, subst, Result, IfOk}
use Rattle.core_tree.specs.Trees.{name, term_of}
use Rattle.core_tree.specs.declared.model.Body.{Body}
use Rattle.core_meaning.specs.declared.scope.Environment.{Environment}
use Rattle.core_meaning.specs.World.{World}
use Rattle.core_meaning.specs.Called.{called, names_of}
use Rattle.core_window.proofs.SameLemmas.{turn}
use Rattle.eval_context.specs.Settings.{SettingValue, world, Stands}
use Rattle.eval_context.specs.declared.names.Meant.{Meant}
use Rattle.eval_context.specs.declared.names.Meant.TheVariants.{Atom, Written, Unknown}
use Rattle.eval_steps.specs.Judged.{bodies, scope_names, Means, IsFound, set_in}
use Rattle.eval_steps.specs.declared.held.Held.{Held}
use Rattle.eval_tree.proofs.FoundLemmas.{if_ok_to, set_to}

module _ (s : SettingValue) (scope : Environment) (x i : ℕ) (m : Meant) (stands : (w : World) (list : List Body) (n j : ℕ) (t : List ℕ) → Stands w (called w list n) m (names_of w (called w list n) scope x) j t) where
  stands_as : (k : Meant) → m ≡ k → (t : List ℕ) → Stands (world s) (bodies s) k (scope_names s scope x) i t
  stands_as k is t = subst (λ q. Stands (world s) (bodies s) q (scope_names s scope x) i t) is (stands (world s) s.model.bodies (length s.model.bodies) i t)

  pub name_atom : (a : ℕ) → m ≡ Atom a → (E : Type 0) (r : Result Held E) → IfOk r (λ h. IsFound h (λ t. t ≡ a ∷ [])) → IfOk r (λ h. IsFound h (Means s (name x) (scope_names s scope) i))
  name_atom a is E r k = if_ok_to _ (λ h. IsFound h (Means s (name x) (scope_names s scope) i)) (λ h f. set_to (set_in h) _ (Means s (name x) (scope_names s scope) i) (λ t. turn (stands_as (Atom a) is t)) f) r k

  pub name_written : (e outer : _) → m ≡ Written e outer → (E : Type 0) (r : Result Held E) → IfOk r (λ h. IsFound h (Means s (term_of e.now) (scope_names s outer.now) i)) → IfOk r (λ h. IsFound h (Means s (name x) (scope_names s scope) i))
  name_written e outer is E r k = if_ok_to _ (λ h. IsFound h (Means s (name x) (scope_names s scope) i)) (λ h f. set_to (set_in h) _ (Means s (name x) (scope_names s scope) i) (λ t. turn (stands_as (Written e outer) is t)) f) r k

  pub name_unknown : m ≡ Unknown → (h : Held) → IsFound h (λ _. ⊥) → IsFound h (Means s (name x) (scope_names s scope) i)
  name_unknown is h f = set_to (set_in h) _ (Means s (name x) (scope_names s scope) i) (λ t. ((λ k. absurd k), (λ k. absurd (stands_as Unknown is t k)))) f
