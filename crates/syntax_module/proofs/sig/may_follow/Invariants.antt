use Rattle.std.proofs.Common.{◌≡◌, ◌&&◌, not, fold, drop}
use Rattle.syntax_tree.specs.Levels.{every}
use Rattle.syntax_tree.specs.ModuleRules.{excludes}
use Rattle.syntax_module.proofs.sig.may_follow.Given as goal

abbrev pub invariant-loop-word : goal.invariant-loop-word
invariant-loop-word l =
    fold (λ passed q. passed && not (excludes q l.next)) l.right (drop l.word-index l.found) ≡ every (λ q. not (excludes q l.next)) l.found
