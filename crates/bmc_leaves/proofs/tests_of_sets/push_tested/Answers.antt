use Rattle.std.proofs.Common.{sym, subst}
use Rattle.core_tree.specs.declared.operators.Quantity.{Quantity}
use Rattle.core_tree.specs.Trees.{test}
use Rattle.bmc_stack.specs.Rows.{HasTop}
use Rattle.bmc_leaves.specs.Shown.{IsRight}
use Rattle.bmc_leaves.proofs.tests_of_sets.push_tested.Goals as goal

pub returns-in_ok-push_some-in-Some-clause-right : goal.returns-in_ok-push_some-in-Some-clause-right
returns-in_ok-push_some-in-Some-clause-right g c = λ r a right. subst (λ (q : Quantity). HasTop c.args.store.now.rows.items c.push_some.new.store.rows.items (IsRight r (g.G.Gates.node_value c.push_some.new.gates) (test q a))) (sym c.in-Some.is) (c.in_ok-push_some-in-Some.ensures.right r a right)

pub returns-in_ok-push_lone-in-Lone-clause-right : goal.returns-in_ok-push_lone-in-Lone-clause-right
returns-in_ok-push_lone-in-Lone-clause-right g c = λ r a right. subst (λ (q : Quantity). HasTop c.args.store.now.rows.items c.push_lone.new.store.rows.items (IsRight r (g.G.Gates.node_value c.push_lone.new.gates) (test q a))) (sym c.in-Lone.is) (c.in_ok-push_lone-in-Lone.ensures.right r a right)

pub returns-in_ok-push_no-in-No-clause-right : goal.returns-in_ok-push_no-in-No-clause-right
returns-in_ok-push_no-in-No-clause-right g c = λ r a right. subst (λ (q : Quantity). HasTop c.args.store.now.rows.items c.push_no.new.store.rows.items (IsRight r (g.G.Gates.node_value c.push_no.new.gates) (test q a))) (sym c.in-No.is) (c.in_ok-push_no-in-No.ensures.right r a right)

pub returns-in_ok-push_one-in-One-clause-right : goal.returns-in_ok-push_one-in-One-clause-right
returns-in_ok-push_one-in-One-clause-right g c = λ r a right. subst (λ (q : Quantity). HasTop c.args.store.now.rows.items c.push_one.new.store.rows.items (IsRight r (g.G.Gates.node_value c.push_one.new.gates) (test q a))) (sym c.in-One.is) (c.in_ok-push_one-in-One.ensures.right r a right)
