use Rattle.std.proofs.Common.{◌+◌, refl}
use Rattle.indexmap.specs.IndexMap.{get_by_text}
use Rattle.resolve_told_literals.proofs.Telling.{told}
use Rattle.resolve_told_literals.proofs.told.are_told_behind.Goals as goal

pub returns-in_ok-found-in-Some : goal.returns-in_ok-found-in-Some
returns-in_ok-found-in-Some c = λ found.
    told c.args.sigs.now c.args.loaded.now.texts c.args.loaded.now.instances c.args.string (c.args.string + 1) (get_by_text c.in-Some.numbers) refl c.requires
    (rw c.in-Some.is at c.in_ok-numbers_from.ensures) (c.in_ok-found-in-Some.ensures found) (c.in_ok-labels_differ.ensures c.if-not-branch.false)
