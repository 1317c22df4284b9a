use Rattle.std.proofs.Common.{ℕ, length, refl}
use Rattle.syntax_tree.specs.declared.module.Field.{Field}
use Rattle.resolve_names.specs.Entries.{numbered, field_entry, field_entries_of}
use Rattle.resolve_names.proofs.Gathering.{end_on}
use Rattle.resolve_names.proofs.Entering.{walk_next}
use Rattle.resolve_names.proofs.entries.push_fields_of.Goals as goal

pub loop-place-preserved : goal.loop-place-preserved
loop-place-preserved c =
    walk_next (field_entries_of c.args.sig c.args.instance c.args.paragraph) (λ (k : ℕ) (g : Field). numbered (field_entry c.args.sig c.args.instance c.args.paragraph k) 0 (length g.names)) (λ k y ys. refl) c.args.groups.now c.loop-place.place c.index-groups-place.result c.loop-place.all c.push_fields.new.all _
    c.loop-place-test.true c.index-groups-place.is c.loop-place.invariant (cc (c.in_ok-push_fields.ensures, c.in_ok-group.ensures, c.len-count.ensures))

pub returns : goal.returns
returns c = end_on (field_entries_of c.args.sig c.args.instance c.args.paragraph c.loop-place.place) c.args.groups.now c.loop-place.place c.loop-place.all _ refl c.loop-place-test.false c.loop-place.invariant
