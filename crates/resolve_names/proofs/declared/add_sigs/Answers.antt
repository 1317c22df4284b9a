use Rattle.std.proofs.Common.{◌≡◌, ◌+◌, ◌++◌, refl}
use Rattle.resolve_names.specs.Gathered.{fields_from, sigs_from, field_count}
use Rattle.resolve_names.proofs.Gathering.{sigs_next, times_next, times_end, end_on}
use Rattle.resolve_names.proofs.declared.add_sigs.Goals as goal

pub loop-name-preserved : goal.loop-name-preserved
loop-name-preserved c =
    let g = c.args.paragraph.now in
    let fields : c.add_fields.new.declared ≡ c.add_declared.new.declared ++ fields_from c.loop-name.field g.fields = cc (c.in_ok-field.ensures.declared, c.as_slice-fields.ensures) in
    let after : c.in_ok-field.field ≡ c.loop-name.field + field_count g.fields = cc (c.in_ok-field.ensures.next, c.as_slice-fields.ensures) in
    record {
      declared = sigs_next c.args.instance c.args.paragraph.now _ c.loop-name.name-index c.loop-name.sig c.in_ok-sig.sig c.loop-name.field c.in_ok-field.field c.name-item.result c.loop-name.declared
          c.add_declared.new.declared c.add_fields.new.declared _ c.loop-name-test.true c.name-item.is c.loop-name.invariant.declared
          (cc (c.in_ok-add_declared.ensures, c.is_private_sig-is_private.ensures, c.as_slice.ensures)) fields c.in_ok-sig.ensures after;
      next = times_next (field_count c.args.paragraph.now.fields) _ c.loop-name.name-index c.loop-name.field c.in_ok-field.field c.name-item.result _ c.loop-name-test.true c.name-item.is
          c.loop-name.invariant.next after;
    }

pub returns-clause-declared : goal.returns-clause-declared
returns-clause-declared c =
    end_on (sigs_from c.args.instance c.loop-name.sig c.loop-name.field c.args.paragraph.now) _ c.loop-name.name-index c.loop-name.declared _ refl c.loop-name-test.false c.loop-name.invariant.declared

pub returns-clause-next : goal.returns-clause-next
returns-clause-next c = times_end (field_count c.args.paragraph.now.fields) _ c.loop-name.name-index c.loop-name.field _ c.loop-name-test.false c.loop-name.invariant.next
