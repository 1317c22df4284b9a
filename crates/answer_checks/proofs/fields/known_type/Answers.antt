use Rattle.std.proofs.Common.{subst}
use Rattle.core_tree.specs.Trees.{term_of}
use Rattle.resolve_type_check.specs.Names.{names_of}
use Rattle.bound_laws.specs.Placed.{IsTermBelow}
use Rattle.answer_checks.proofs.Placings.{typed_end}
use Rattle.answer_checks.proofs.fields.known_type.Goals as goal

pub returns : goal.returns
returns c =
    let e = term_of c.args.expr.now in
    typed_end c.args.model.now c.args.known (names_of c.args.names.now) e c.type_of.result (subst (λ n. IsTermBelow n c.args.known e) c.len.ensures (c.is_term_below-below.ensures c.if-not-below.false)) c.type_of.ensures
