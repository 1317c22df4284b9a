use Rattle.std.proofs.Common.{ℕ, List, take, Contains}
use Rattle.syntax_tree.specs.declared.token.TokenKind.TheVariants as kind
use Rattle.indexmap.specs.IndexMap.{get_by_text}
use Rattle.resolve_told_literals.specs.Marks.{AreMarked}
use Rattle.resolve_told_literals.proofs.marks.mark_tokens.Given as goal

abbrev pub invariant-loop-token : goal.invariant-loop-token
invariant-loop-token l = AreMarked (get_by_text l.numbers) (λ (t : List ℕ). Contains (take l.token-index l.tokens) (kind.Literal t)) l.initial.marks.items l.marks.items
