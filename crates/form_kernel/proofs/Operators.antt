-- Each derived operator has the same truth written out.
use Rattle.std.proofs.Common.{◌↔◌, ℕ}
use Rattle.core_tree.specs.declared.operators.Quantity.{Quantity}
use Rattle.core_tree.specs.declared.operators.Quantity.TheVariants.{Some, No, One, Lone}
use Rattle.core_tree.specs.declared.operators.Comparison.{Comparison}
use Rattle.core_tree.specs.declared.operators.Comparison.TheVariants.{Equal, Less, AtMost, Greater, AtLeast}
use Rattle.core_tree.specs.declared.operators.Connective.{Connective}
use Rattle.core_tree.specs.declared.operators.Connective.TheVariants.{Or, Implies, Iff}
use Rattle.core_tree.specs.declared.operators.TemporalUnary.{TemporalUnary}
use Rattle.core_tree.specs.declared.operators.TemporalUnary.TheVariants.{After, Always, Eventually, Before, Historically, Once}
use Rattle.core_tree.specs.declared.operators.TemporalBinary.{TemporalBinary}
use Rattle.core_tree.specs.declared.operators.TemporalBinary.TheVariants.{Until, Releases, Since, Triggered, Then}
use Rattle.core_tree.specs.declared.operators.UnaryRelation.{UnaryRelation}
use Rattle.core_tree.specs.declared.operators.UnaryRelation.TheVariants.{Transpose, Closure, ReflexiveClosure}
use Rattle.core_tree.specs.Trees.{Term, Claim, unary, test, compare, connect, temporal, temporal_pair}
use Rattle.core_meaning.specs.World.{World}
use Rattle.core_meaning.specs.Meaning.{Names, InTerm, Holds}
use Rattle.core_meaning.specs.Called.{no_bodies}
use Rattle.core_window.proofs.SameLemmas.{not_same, turn}
use Rattle.core_window.proofs.ShiftLemmas.{later_is_until, earlier_is_since}
use Rattle.form_kernel.specs.Operators.{both, tested, compared, connected, happening, happening_both, related}
use Rattle.core_window.specs.Repeats.{SameTuples}

pub still : {P : Type 0} → P ↔ P
still = ((λ x. x), (λ x. x))

module _ (w : World) (names : Names) (i : ℕ) where
  pub both_is : (f g : Claim) → Holds w no_bodies (both f g) names i ↔ (Holds w no_bodies f names i × Holds w no_bodies g names i)
  both_is f g = ((λ k. (k.0, k.1.0)), (λ k. (k.0, (k.1, tt))))

  pub tested_is : (q : Quantity) (e : Term) → Holds w no_bodies (tested q e) names i ↔ Holds w no_bodies (test q e) names i
  tested_is Some e = still
  tested_is No e = still
  tested_is One e = still
  tested_is Lone e = still

  pub compared_is : (op : Comparison) (a b : Term) → Holds w no_bodies (compared op a b) names i ↔ Holds w no_bodies (compare op a b) names i
  compared_is Equal a b = still
  compared_is Less a b = still
  compared_is AtMost a b = still
  compared_is Greater a b = still
  compared_is AtLeast a b = still

  pub connected_is : (op : Connective) (f g : Claim) → Holds w no_bodies (connected op f g) names i ↔ Holds w no_bodies (connect op f g) names i
  connected_is Or f g = not_same ((λ k. (k.0, k.1.0)), (λ k. (k.0, (k.1, tt))))
  connected_is Implies f g = not_same ((λ k. (k.0, k.1.0)), (λ k. (k.0, (k.1, tt))))
  connected_is Iff f g = still

  pub happening_is : (op : TemporalUnary) (f : Claim) → Holds w no_bodies (happening op f) names i ↔ Holds w no_bodies (temporal op f) names i
  happening_is After f = still
  happening_is Always f = not_same (turn (later_is_until (λ j. ¬ Holds w no_bodies f names j) i))
  happening_is Eventually f = turn (later_is_until (λ j. Holds w no_bodies f names j) i)
  happening_is Before f = still
  happening_is Historically f = not_same (turn (earlier_is_since (λ j. ¬ Holds w no_bodies f names j) i))
  happening_is Once f = turn (earlier_is_since (λ j. Holds w no_bodies f names j) i)

  pub happening_both_is : (op : TemporalBinary) (f g : Claim) → Holds w no_bodies (happening_both op f g) names i ↔ Holds w no_bodies (temporal_pair op f g) names i
  happening_both_is Until f g = still
  happening_both_is Releases f g = still
  happening_both_is Since f g = still
  happening_both_is Triggered f g = still
  happening_both_is Then f g = ((λ k. (k.0, k.1.0)), (λ k. (k.0, (k.1, tt))))

  pub related_is : (op : UnaryRelation) (a : Term) → SameTuples (InTerm w no_bodies (related op a) names i) (InTerm w no_bodies (unary op a) names i)
  related_is Transpose a t = still
  related_is Closure a t = still
  related_is ReflexiveClosure a t = still
