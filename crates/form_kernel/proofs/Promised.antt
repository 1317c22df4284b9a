-- What the laws say of a formula that is written out.
use Rattle.std.proofs.Common.{◌≡◌, ◌↔◌, ◌≤◌, ℕ, ℤ, Bool, Option, Result, IfOk, sym, subst}
use Rattle.core_tree.specs.declared.tree.Formula.{Formula}
use Rattle.core_tree.specs.Trees.{Claim, claim_of}
use Rattle.core_tree.specs.Past.{Depths, BodyDepths, past_of}
use Rattle.core_meaning.specs.World.{World}
use Rattle.core_meaning.specs.Meaning.{Holds}
use Rattle.core_meaning.specs.Called.{no_bodies}
use Rattle.form_inline.specs.CallFree.{IsCallFree}
use Rattle.form_inline.specs.Written.{atoms}
use Rattle.form_kernel.specs.Left.{IsLeft}
use Rattle.form_kernel.specs.Parts.{Allowed, IsMade}
use Rattle.form_kernel.specs.Written.{kernel_claim}
use Rattle.form_kernel.proofs.Left.{left_claim}
use Rattle.form_kernel.proofs.Lists.{if_ok_to}
use Rattle.form_kernel.proofs.Parts.{claim_made}
use Rattle.form_kernel.proofs.Past.{claim_nests}
use Rattle.form_kernel.proofs.Same.{claim_is}

module _ {E : Type 0} (f : Claim) (r : Result Formula E) (is : IfOk r (λ g. claim_of g ≡ kernel_claim f)) where
  pub kernel_left : IfOk r (λ g. IsLeft (claim_of g))
  kernel_left = if_ok_to (λ g. claim_of g ≡ kernel_claim f) (λ g. IsLeft (claim_of g)) (λ g e. subst IsLeft (sym e) (left_claim f)) r is

  pub kernel_same : IsCallFree f → IfOk r (λ g. (w : World) (m : ℕ → Option ℕ) (i : ℕ) → Holds w no_bodies (claim_of g) (atoms m) i ↔ Holds w no_bodies f (atoms m) i)
  kernel_same free = if_ok_to (λ g. claim_of g ≡ kernel_claim f) (λ g. (w : World) (m : ℕ → Option ℕ) (i : ℕ) → Holds w no_bodies (claim_of g) (atoms m) i ↔ Holds w no_bodies f (atoms m) i)
      (λ g e w m i. subst (λ c. Holds w no_bodies c (atoms m) i ↔ Holds w no_bodies f (atoms m) i) (sym e) (claim_is w f free (atoms m) i)) r is

  pub kernel_past : IfOk r (λ g. (bodies : BodyDepths) (d : Depths) → past_of bodies (claim_of g) d ≤ past_of bodies f d)
  kernel_past = if_ok_to (λ g. claim_of g ≡ kernel_claim f) (λ g. (bodies : BodyDepths) (d : Depths) → past_of bodies (claim_of g) d ≤ past_of bodies f d)
      (λ g e bodies d. subst (λ c. past_of bodies c d ≤ past_of bodies f d) (sym e) (claim_nests bodies f d)) r is

  pub kernel_parts : IfOk r (λ g. (sigs : ℕ → Bool) (fields : ℕ → Bool) (numbers : ℤ → Bool) (names : Allowed) → IsMade sigs fields numbers f names → IsMade sigs fields numbers (claim_of g) names)
  kernel_parts = if_ok_to (λ g. claim_of g ≡ kernel_claim f) (λ g. (sigs : ℕ → Bool) (fields : ℕ → Bool) (numbers : ℤ → Bool) (names : Allowed) → IsMade sigs fields numbers f names → IsMade sigs fields numbers (claim_of g) names)
      (λ g e sigs fields numbers names h. subst (λ c. IsMade sigs fields numbers c names) (sym e) (claim_made sigs fields numbers f names h)) r is
