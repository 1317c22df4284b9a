use Rattle.bound_uppers.proofs.Rising.{sig_more}
use Rattle.bound_uppers.proofs.kinds.visit_parent.Goals as goal

pub returns-in_ok-push-in-Sig : goal.returns-in_ok-push-in-Sig
returns-in_ok-push-in-Sig c = λ sigs ups. rw c.in-Sig.is (sig_more sigs ups c.args.rows.now.items c.args.waiting.now.items c.push-in-Sig.new.self.items c.in-Sig.sig c.in_ok-push-in-Sig.ensures.items)
