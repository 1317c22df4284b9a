use Rattle.std.proofs.Common.{inl, refl}
use Rattle.core_tree.specs.Trees.{term_of}
use Rattle.resolve_type_check.specs.Names.{names_of}
use Rattle.answer_checks.proofs.Placings.{next_end}
use Rattle.answer_checks.proofs.fields.after_bound.Goals as goal

pub returns-then-known-count : goal.returns-then-known-count
returns-then-known-count c = inl refl

pub returns-then-not-is_next : goal.returns-then-not-is_next
returns-then-not-is_next c = inl refl

pub returns-then-not-has : goal.returns-then-not-has
returns-then-not-has c = inl refl

pub returns : goal.returns
returns c =
    next_end c.args.model.now c.args.known (names_of c.args.names.now) (term_of c.args.place.now) (term_of c.args.bound.now) c.get-next.result.now (c.is_field-is_next.ensures c.if-not-is_next.false) c.get-next.ensures (c.in_ok-has.ensures c.if-not-has.false)
