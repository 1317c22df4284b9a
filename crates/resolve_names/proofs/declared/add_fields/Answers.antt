use Rattle.std.proofs.Common.{length, refl}
use Rattle.syntax_tree.specs.declared.module.Field.{Field}
use Rattle.resolve_names.specs.Gathered.{fields_from}
use Rattle.resolve_names.proofs.Gathering.{fields_next, sum_next, sum_end, end_on}
use Rattle.resolve_names.proofs.declared.add_fields.Goals as goal

pub loop-group-preserved : goal.loop-group-preserved
loop-group-preserved c = record {
  declared = fields_next c.args.groups.now c.loop-group.group-index c.loop-group.number c.in_ok-number.number c.group-item.result c.loop-group.declared c.add_group.new.declared _
      c.loop-group-test.true c.group-item.is c.loop-group.invariant.declared
      (cc (c.in_ok-number.ensures.declared, c.is_private_field-is_private.ensures, c.as_slice-in-loop-group.ensures)) (cc (c.in_ok-number.ensures.next, c.as_slice-in-loop-group.ensures));
  next = sum_next (λ (g : Field). length g.names) c.args.groups.now c.loop-group.group-index c.loop-group.number c.in_ok-number.number c.group-item.result _ c.loop-group-test.true c.group-item.is
      c.loop-group.invariant.next (cc (c.in_ok-number.ensures.next, c.as_slice-in-loop-group.ensures));
}

pub returns-clause-declared : goal.returns-clause-declared
returns-clause-declared c =
    end_on (fields_from c.loop-group.number) c.args.groups.now c.loop-group.group-index c.loop-group.declared _ refl c.loop-group-test.false c.loop-group.invariant.declared

pub returns-clause-next : goal.returns-clause-next
returns-clause-next c = sum_end (λ (g : Field). length g.names) c.args.groups.now c.loop-group.group-index c.loop-group.number _ c.loop-group-test.false c.loop-group.invariant.next
