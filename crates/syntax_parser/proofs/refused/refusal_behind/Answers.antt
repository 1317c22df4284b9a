use Rattle.std.proofs.Common.{◌+◌, Option, IfSome, IsTrue, take, subst}
use Rattle.base_types.specs.declared.limits.TheConstants.{TREE_DEPTH}
use Rattle.base_types.specs.declared.place.Rule.{Rule}
use Rattle.syntax_tree.specs.Spelling.{kinds}
use Rattle.syntax_parser.specs.Refuses.{is_of_grammar, AccordsWith}
use Rattle.syntax_parser.proofs.Stopping.{begins_before, none_within}
use Rattle.syntax_parser.proofs.refused.refusal_behind.Goals as goal

pub refusal_at-requires-clause-begins : goal.refusal_at-requires-clause-begins
refusal_at-requires-clause-begins c = begins_before c.args.kind TREE_DEPTH c.args.tokens.now _ c.args.number c.split_at.ensures.front (c.in_ok-found.ensures c.if-not-found.false)

pub refusal_at-requires-clause-ends : goal.refusal_at-requires-clause-ends
refusal_at-requires-clause-ends c = none_within c.args.kind TREE_DEPTH (take (c.args.number + 1) (kinds c.args.tokens.now)) c.requires.none

pub refusal_at-requires-clause-grammar : goal.refusal_at-requires-clause-grammar
refusal_at-requires-clause-grammar c = subst (λ (o : Option Rule). IfSome o (λ rule. IsTrue (is_of_grammar rule))) c.in-Some.is c.in_ok-broken.ensures.grammar

pub refusal_at-requires-clause-accords : goal.refusal_at-requires-clause-accords
refusal_at-requires-clause-accords c =
    subst (λ (o : Option Rule). IfSome o (λ rule. AccordsWith rule c.args.kind (take (c.args.number + 1) (kinds c.args.tokens.now)))) c.in-Some.is c.in_ok-broken.ensures.accords

pub returns-in-Some : goal.returns-in-Some
returns-in-Some c = c.refusal_at.ensures
