-- Temporal operators on formulas that hold at the same positions.
use Rattle.std.specs.Prelude.{◌↔◌, ℕ, ◌+◌, ◌-◌}
use Rattle.core_tree.specs.declared.operators.TemporalUnary.{TemporalUnary}
use Rattle.core_tree.specs.declared.operators.TemporalUnary.TheVariants.{After, Always, Eventually, Before, Historically, Once}
use Rattle.core_tree.specs.declared.operators.TemporalBinary.{TemporalBinary}
use Rattle.core_tree.specs.declared.operators.TemporalBinary.TheVariants.{Until, Releases, Since, Triggered, Then}
use Rattle.core_meaning.specs.Operators.{Times, SomeLater, SomeEarlier, UntilAt, SinceAt, Happens, HappenBoth}
use Rattle.core_window.proofs.SameLemmas.{not_same, both_same}

abbrev pub SameTimes : Times → Times → Type 0
SameTimes F G = (j : ℕ) → F j ↔ G j

later : (F G : Times) → SameTimes F G → SameTimes (SomeLater F) (SomeLater G)
later F G same i = ((λ (j, le, k). (j, le, (same j).0 k)), (λ (j, le, k). (j, le, (same j).1 k)))

earlier : (F G : Times) → SameTimes F G → SameTimes (SomeEarlier F) (SomeEarlier G)
earlier F G same i = ((λ (j, le, k). (j, le, (same j).0 k)), (λ (j, le, k). (j, le, (same j).1 k)))

until : (F G H K : Times) → SameTimes F H → SameTimes G K → SameTimes (UntilAt F G) (UntilAt H K)
until F G H K f g i = (
  (λ (j, le, k, all). (j, le, (g j).0 k, λ x low high. (f x).0 (all x low high))),
  (λ (j, le, k, all). (j, le, (g j).1 k, λ x low high. (f x).1 (all x low high))),
)

since : (F G H K : Times) → SameTimes F H → SameTimes G K → SameTimes (SinceAt F G) (SinceAt H K)
since F G H K f g i = (
  (λ (j, le, k, all). (j, le, (g j).0 k, λ x low high. (f x).0 (all x low high))),
  (λ (j, le, k, all). (j, le, (g j).1 k, λ x low high. (f x).1 (all x low high))),
)

none : (F G : Times) → SameTimes F G → SameTimes (λ j. ¬ F j) (λ j. ¬ G j)
none F G same j = not_same (same j)

pub happens_same : (op : TemporalUnary) (F G : Times) → SameTimes F G → SameTimes (Happens op F) (Happens op G)
happens_same After F G same i = same (i + 1)
happens_same Always F G same i = not_same (later (λ j. ¬ F j) (λ j. ¬ G j) (none F G same) i)
happens_same Eventually F G same i = later F G same i
happens_same Before F G same i = both_same ((λ x. x), (λ x. x)) (same (i - 1))
happens_same Historically F G same i = not_same (earlier (λ j. ¬ F j) (λ j. ¬ G j) (none F G same) i)
happens_same Once F G same i = earlier F G same i

pub happen_both_same : (op : TemporalBinary) (F G H K : Times) → SameTimes F H → SameTimes G K → SameTimes (HappenBoth op F G) (HappenBoth op H K)
happen_both_same Until F G H K f g i = until F G H K f g i
happen_both_same Releases F G H K f g i = not_same (until (λ j. ¬ F j) (λ j. ¬ G j) (λ j. ¬ H j) (λ j. ¬ K j) (none F H f) (none G K g) i)
happen_both_same Since F G H K f g i = since F G H K f g i
happen_both_same Triggered F G H K f g i = not_same (since (λ j. ¬ F j) (λ j. ¬ G j) (λ j. ¬ H j) (λ j. ¬ K j) (none F H f) (none G K g) i)
happen_both_same Then F G H K f g i = both_same (f i) (g (i + 1))
