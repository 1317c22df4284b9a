use Rattle.std.proofs.Common.{◌<◌, ◌+◌, ℕ, Option, Some, IfSome, length, take, subst}
use Rattle.base_types.specs.declared.limits.TheConstants.{TREE_DEPTH}
use Rattle.syntax_tree.specs.Spelling.{kinds}
use Rattle.syntax_machine.specs.Deaths.{NoneBegins}
use Rattle.syntax_parser.proofs.refused.refusal_of.Goals as goal

pub refusal_behind-requires-clause-within : goal.refusal_behind-requires-clause-within
refusal_behind-requires-clause-within c = subst (λ (o : Option ℕ). IfSome o (λ n. n < length c.args.tokens.now)) c.in-Some.is c.in_ok-death.ensures.within

pub refusal_behind-requires-clause-none : goal.refusal_behind-requires-clause-none
refusal_behind-requires-clause-none c =
    subst (λ (o : Option ℕ). IfSome o (λ n. NoneBegins c.args.kind (Some TREE_DEPTH) (take (n + 1) (kinds c.args.tokens.now)))) c.in-Some.is c.in_ok-death.ensures.refuses
