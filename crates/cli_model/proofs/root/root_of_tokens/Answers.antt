use Rattle.std.proofs.Common.{subst}
use Rattle.syntax_machine.specs.declared.thread.Root.TheVariants as variant
use Rattle.syntax_parser.specs.Refuses.{IsOfTokens}
use Rattle.cli_model.proofs.root.root_of_tokens.Goals as goal

pub returns-in-Err-Refused : goal.returns-in-Err-Refused
returns-in-Err-Refused c = subst (IsOfTokens variant.Module c.args.tokens.now) c.in-Err-Refused.field-0-is c.in-Err-Refused.ensures.refused
