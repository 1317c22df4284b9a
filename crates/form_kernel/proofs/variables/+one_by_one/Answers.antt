use Rattle.core_tree.specs.Trees.{claim_of}
use Rattle.form_kernel.proofs.Lists.{one_by_one_step}
use Rattle.form_kernel.proofs.variables.+one_by_one.Goals as goal

pub returns-in_ok-inner-in-Some : goal.returns-in_ok-inner-in-Some
returns-in_ok-inner-in-Some t c = one_by_one_step c.args.list.items c.pop.new.self.items c.in-Some.last (claim_of c.args.f) (claim_of c.in_ok-inner-in-Some.inner) c.one_by_one.result c.in-Some.ensures.items c.in_ok-inner-in-Some.ensures c.one_by_one.ensures
