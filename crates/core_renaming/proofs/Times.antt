-- Temporal operators on formulas that hold at the same positions.
use Rattle.std.specs.Prelude.{◌↔◌, ℕ, ◌+◌, ◌-◌}
use Rattle.core_tree.specs.declared.operators.TemporalUnary.{TemporalUnary}
use Rattle.core_tree.specs.declared.operators.TemporalUnary.TheVariants.{After, Always, Eventually, Before, Historically, Once}
use Rattle.core_tree.specs.declared.operators.TemporalBinary.{TemporalBinary}
use Rattle.core_tree.specs.declared.operators.TemporalBinary.TheVariants.{Until, Releases, Since, Triggered, Then}
use Rattle.core_meaning.specs.Operators.{Times, SomeLater, SomeEarlier, UntilAt, SinceAt, Happens, HappenBoth}
use Rattle.core_window.proofs.SameLemmas.{turn, not_same, both_same}

abbrev pub SameTimes : Times → Times → Type 0
SameTimes F G = (j : ℕ) → F j ↔ G j

other_way : (F G : Times) → SameTimes F G → SameTimes G F
other_way F G same j = turn (same j)

none : (F G : Times) → SameTimes F G → SameTimes (λ j. ¬ F j) (λ j. ¬ G j)
none F G same j = not_same (same j)

later_to : (F G : Times) → SameTimes F G → (i : ℕ) → SomeLater F i → SomeLater G i
later_to F G same i (j, le, k) = (j, le, (same j).0 k)

later : (F G : Times) → SameTimes F G → SameTimes (SomeLater F) (SomeLater G)
later F G same i = (later_to F G same i, later_to G F (other_way F G same) i)

earlier_to : (F G : Times) → SameTimes F G → (i : ℕ) → SomeEarlier F i → SomeEarlier G i
earlier_to F G same i (j, le, k) = (j, le, (same j).0 k)

earlier : (F G : Times) → SameTimes F G → SameTimes (SomeEarlier F) (SomeEarlier G)
earlier F G same i = (earlier_to F G same i, earlier_to G F (other_way F G same) i)

until_to : (F G H K : Times) → SameTimes F H → SameTimes G K → (i : ℕ) → UntilAt F G i → UntilAt H K i
until_to F G H K f g i (j, le, k, all) = (j, le, (g j).0 k, λ x low high. (f x).0 (all x low high))

until : (F G H K : Times) → SameTimes F H → SameTimes G K → SameTimes (UntilAt F G) (UntilAt H K)
until F G H K f g i = (until_to F G H K f g i, until_to H K F G (other_way F H f) (other_way G K g) i)

since_to : (F G H K : Times) → SameTimes F H → SameTimes G K → (i : ℕ) → SinceAt F G i → SinceAt H K i
since_to F G H K f g i (j, le, k, all) = (j, le, (g j).0 k, λ x low high. (f x).0 (all x low high))

since : (F G H K : Times) → SameTimes F H → SameTimes G K → SameTimes (SinceAt F G) (SinceAt H K)
since F G H K f g i = (since_to F G H K f g i, since_to H K F G (other_way F H f) (other_way G K g) i)

pub happens_same : (op : TemporalUnary) (F G : Times) → SameTimes F G → SameTimes (Happens op F) (Happens op G)
happens_same After F G same i = same (i + 1)
happens_same Always F G same i = not_same (later (λ j. ¬ F j) (λ j. ¬ G j) (none F G same) i)
happens_same Eventually F G same i = later F G same i
happens_same Before F G same i = both_same ((λ x. x), (λ x. x)) (same (i - 1))
happens_same Historically F G same i = not_same (earlier (λ j. ¬ F j) (λ j. ¬ G j) (none F G same) i)
happens_same Once F G same i = earlier F G same i

pub happen_both_same : (op : TemporalBinary) (F G H K : Times) → SameTimes F H → SameTimes G K → SameTimes (HappenBoth op F G) (HappenBoth op H K)
happen_both_same Until F G H K f g i = until F G H K f g i
happen_both_same Releases F G H K f g i = not_same (until (λ j. ¬ F j) (λ j. ¬ G j) (λ j. ¬ H j) (λ j. ¬ K j) (none F H f) (none G K g) i)
happen_both_same Since F G H K f g i = since F G H K f g i
happen_both_same Triggered F G H K f g i = not_same (since (λ j. ¬ F j) (λ j. ¬ G j) (λ j. ¬ H j) (λ j. ¬ K j) (none F H f) (none G K g) i)
happen_both_same Then F G H K f g i = both_same (f i) (g (i + 1))
