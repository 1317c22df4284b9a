use Rattle.std.proofs.Common.{subst}
use Rattle.syntax_machine.specs.declared.thread.Root.TheVariants as root
use Rattle.syntax_parser.specs.Refuses.{IsOfTokens}
use Rattle.load_modules.proofs.Broken.{token_refused, token_quiet}
use Rattle.load_modules.proofs.source.unparsed.Goals as goal

pub returns-in-Refused-clause-refused : goal.returns-in-Refused-clause-refused
returns-in-Refused-clause-refused c =
    token_refused c.args.tokens.now c.args.name.now c.in-Refused.refusal c.refused.result c.refused.ensures (subst (IsOfTokens root.Module c.args.tokens.now) c.in-Refused.is c.requires)

pub returns-in-Refused-clause-quiet : goal.returns-in-Refused-clause-quiet
returns-in-Refused-clause-quiet c =
    token_quiet c.args.tokens.now c.args.name.now c.in-Refused.refusal c.refused.result c.refused.ensures (subst (IsOfTokens root.Module c.args.tokens.now) c.in-Refused.is c.requires)
