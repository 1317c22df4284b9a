use Rattle.std.proofs.Common.{subst, List}
use Rattle.core_tree.specs.declared.tree.Formula.{Formula}
use Rattle.form_target.specs.Asked.{EachOf, IsSigDeclared}
use Rattle.form_target.specs.Added.{Adds}
use Rattle.form_target.proofs.Tails.{all_added}
use Rattle.form_target.proofs.declarations.implied.Goals as goal

pub returns-clause-same : goal.returns-clause-same
returns-clause-same c =
    let first = subst (λ (l : List Formula). Adds c.args.model.now l c.of_sigs.new.all.items (λ w i. EachOf c.args.model.now.sigs (IsSigDeclared c.args.model.now w i))) c.new-all.ensures.items c.in_ok-of_sigs.ensures in
    (all_added c.args.model.now c.of_sigs.new.all.items c.of_fields.new.all.items first c.in_ok-of_fields.ensures).0

pub returns-clause-closed : goal.returns-clause-closed
returns-clause-closed c =
    let first = subst (λ (l : List Formula). Adds c.args.model.now l c.of_sigs.new.all.items (λ w i. EachOf c.args.model.now.sigs (IsSigDeclared c.args.model.now w i))) c.new-all.ensures.items c.in_ok-of_sigs.ensures in
    (all_added c.args.model.now c.of_sigs.new.all.items c.of_fields.new.all.items first c.in_ok-of_fields.ensures).1
