use Rattle.std.proofs.Common.{◌-◌, ◌∙◌, ap, sym, arith}
use Rattle.core_tree.specs.declared.operators.RelationOp.TheVariants.{Difference}
use Rattle.core_tree.specs.declared.tree.Variable.{Variable}
use Rattle.core_tree.specs.Trees.{term_of, name, combine}
use Rattle.form_kernel.proofs.Lists.{apart_step}
use Rattle.form_kernel.proofs.variables.+apart_bound.Goals as goal

pub returns : goal.returns
returns t c =
    apart_step c.args.list.now c.args.place (c.args.place - 1) c.args.apart (c.args.apart - 1) c.index-list-place.result (term_of c.args.bound) (term_of c.in_ok-left.left) c.apart_bound.result (omega arith) (omega arith) (omega arith) c.index-list-place.is
    (c.in_ok-left.ensures ∙ ap (λ (x : Variable). combine Difference (term_of c.args.bound) (name x.name)) (sym c.index-list-place.is)) c.apart_bound.ensures
