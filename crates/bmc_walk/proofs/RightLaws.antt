-- Rows of connectives are right.
use Rattle.std.proofs.Common.{◌≡◌, ◌↔◌, ◌+◌, ◌&&◌, ℕ, Bool, not, IsTrue, List, refl, arith}
use Rattle.gate_trait.specs.declared.node.Node.{Node}
use Rattle.core_tree.specs.declared.operators.Connective.TheVariants.{Iff}
use Rattle.core_tree.specs.Trees.{Claim, connect, choose_claim}
use Rattle.core_meaning.specs.Operators.{IsImplied as Implies}
use Rattle.bmc_leaves.specs.Shown.{Reading, IsRight}
use Rattle.bmc_leaves.proofs.RightLaws.{not_means, both_means}
use Rattle.bmc_places.specs.Rows.{IsIff, IsElse}

implied_means : {P Q : Type 0} (v a b : Bool) → v ≡ not (a && not b) → IsTrue a ↔ P → IsTrue b ↔ Q → IsTrue v ↔ Implies P Q
implied_means v a b e f g = not_means v (a && not b) e (both_means (a && not b) a (not b) refl f (not_means (not b) b refl g))

pub iff_right : (r : Reading) (old new : (ℕ → Bool) → Node → Bool) (f g : Claim) (a b row : List Node) → IsRight r old f a → IsRight r old g b → IsIff old new a b row → IsRight r new (connect Iff f g) row
iff_right r old new f g a b row first second same = record {
  inside = λ loop k s place. (let w = first.inside loop k s place in let m = same.long in omega (arith, w, m));
  holds = λ loop k s place x lasso shows at.
      let p = first.holds loop k s place x lasso shows at in
      let q = second.holds loop k s place x lasso shows at in
      both_means _ _ _ (same.values x (s.start + k) (first.inside loop k s place)) (implied_means _ _ _ refl p q) (implied_means _ _ _ refl q p);
}

pub else_right : (r : Reading) (old new : (ℕ → Bool) → Node → Bool) (f g h : Claim) (a b c row : List Node) → IsRight r old f a → IsRight r old g b → IsRight r old h c → IsElse old new a b c row → IsRight r new (choose_claim f g h) row
else_right r old new f g h a b c row first second third choice = record {
  inside = λ loop k s place. (let w = first.inside loop k s place in let m = choice.long in omega (arith, w, m));
  holds = λ loop k s place x lasso shows at.
      let p = first.holds loop k s place x lasso shows at in
      let q = second.holds loop k s place x lasso shows at in
      let t = third.holds loop k s place x lasso shows at in
      both_means _ _ _ (choice.values x (s.start + k) (first.inside loop k s place)) (implied_means _ _ _ refl p q) (implied_means _ _ _ refl (not_means _ _ refl p) t);
}
