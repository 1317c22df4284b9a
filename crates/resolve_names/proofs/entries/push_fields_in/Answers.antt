use Rattle.std.proofs.Common.{◌≡◌, ◌+◌, refl}
use Rattle.syntax_tree.specs.Instances.{sigs_in}
use Rattle.resolve_names.specs.Entries.{field_entries_in}
use Rattle.resolve_names.proofs.Gathering.{sum_next, sum_end, end_on}
use Rattle.resolve_names.proofs.Entering.{fields_in_next}
use Rattle.resolve_names.proofs.entries.push_fields_in.Goals as goal

pub loop-place-preserved : goal.loop-place-preserved
loop-place-preserved c =
    let after : c.in_ok-sig.sig ≡ c.loop-place.sig + sigs_in c.index-paragraphs-place.result = cc (c.in_ok-sig.ensures, c.sigs_in.ensures) in
    record {
      fields = fields_in_next c.args.instance c.args.paragraphs.now c.loop-place.place c.loop-place.sig c.in_ok-sig.sig c.index-paragraphs-place.result c.loop-place.all c.push_fields_by.new.all _
          c.loop-place-test.true c.index-paragraphs-place.is c.loop-place.invariant.fields (cc (c.in_ok-push_fields_by.ensures, c.in_ok-number.ensures)) after;
      next = sum_next sigs_in c.args.paragraphs.now c.loop-place.place c.loop-place.sig c.in_ok-sig.sig c.index-paragraphs-place.result _ c.loop-place-test.true c.index-paragraphs-place.is
          c.loop-place.invariant.next after;
    }

pub returns-clause-fields : goal.returns-clause-fields
returns-clause-fields c =
    end_on (field_entries_in c.loop-place.sig c.args.instance c.loop-place.place) c.args.paragraphs.now c.loop-place.place c.loop-place.all _ refl c.loop-place-test.false c.loop-place.invariant.fields

pub returns-clause-next : goal.returns-clause-next
returns-clause-next c = sum_end sigs_in c.args.paragraphs.now c.loop-place.place c.loop-place.sig _ c.loop-place-test.false c.loop-place.invariant.next
