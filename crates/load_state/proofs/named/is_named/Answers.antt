use Rattle.std.proofs.Common.{sym, subst}
use Rattle.syntax_tree.specs.declared.module.SigName.{SigName}
use Rattle.load_state.specs.Named.{IsGiven}
use Rattle.load_state.proofs.Replay.{one_named}
use Rattle.load_state.proofs.named.is_named.Goals as goal

pub returns-in-Name : goal.returns-in-Name
returns-in-Name c = λ instances texts k stands yes.
    subst (λ (w : SigName). IsGiven instances texts c.args.opener.number k c.args.opener.arguments.now w c.args.argument) (sym c.in-Name.is)
    (one_named instances texts c.args.opener.number k c.args.opener.arguments.now c.in-Name.name c.args.argument _ _ (c.sigs_named.ensures instances texts k stands) (c.is_one.ensures yes))
