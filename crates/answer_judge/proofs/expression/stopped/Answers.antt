use Rattle.std.proofs.Common.{inl, subst}
use Rattle.syntax_machine.specs.declared.thread.Root.TheVariants as root
use Rattle.syntax_parser.specs.Refuses.{IsOfTokens}
use Rattle.answer_judge.proofs.expression.stopped.Goals as goal

pub returns-in-Refused : goal.returns-in-Refused
returns-in-Refused c = λ loaded model types bits. inl (subst (IsOfTokens root.Expr c.args.tokens.now) c.in-Refused.is c.requires)
