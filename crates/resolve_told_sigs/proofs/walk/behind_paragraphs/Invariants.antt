use Rattle.std.proofs.Common.{drop}
use Rattle.resolve_told_sigs.specs.declared.walk.Spot.{Spot}
use Rattle.resolve_told_sigs.specs.Walks.{Walks}
use Rattle.resolve_told_sigs.specs.Told.{IsParagraphAt, given}
use Rattle.resolve_told_sigs.proofs.walk.behind_paragraphs.Given as goal

abbrev pub invariant-loop-paragraph : goal.invariant-loop-paragraph
invariant-loop-paragraph l = (t : Spot) → Walks (IsParagraphAt (given l.sources) l.label) l.here (drop l.paragraph-index l.paragraphs) t → Walks (IsParagraphAt (given l.sources) l.label) l.fn.at l.paragraphs t
