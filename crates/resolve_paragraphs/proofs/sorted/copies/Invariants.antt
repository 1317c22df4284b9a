use Rattle.std.proofs.Common.{◌≡◌, map, take}
use Rattle.resolve_paragraphs.proofs.sorted.copies.Given as goal

abbrev pub invariant-loop-text : goal.invariant-loop-text
invariant-loop-text l = l.all ≡ map (λ x. x.now) (take l.text-index l.texts)
