use Rattle.resolve_told_sigs.proofs.Lists.{added_sig}
use Rattle.resolve_told_sigs.proofs.above.add_parent.Goals as goal

pub returns-in_ok-add_new-in-Sig : goal.returns-in_ok-add_new-in-Sig
returns-in_ok-add_new-in-Sig c = rw c.in-Sig.is (added_sig c.in-Sig.sig c.args.list.now.items c.add_new.new.list.items c.in_ok-add_new-in-Sig.ensures.kept c.in_ok-add_new-in-Sig.ensures.only)
