use Rattle.std.proofs.Common.{ℕ, refl}
use Rattle.syntax_tree.specs.declared.instance.Instance.{Instance}
use Rattle.resolve_names.specs.Gathered.{module_of}
use Rattle.resolve_names.specs.Entries.{sig_entries_in, sig_entries_from}
use Rattle.resolve_names.proofs.Gathering.{end_on}
use Rattle.resolve_names.proofs.Entering.{walk_next}
use Rattle.resolve_names.proofs.entries.sig_entries.Goals as goal

pub loop-place-preserved : goal.loop-place-preserved
loop-place-preserved c =
    walk_next (sig_entries_from c.args.texts.now) (λ (i : ℕ) (x : Instance). sig_entries_in i 0 (module_of c.args.texts.now x).paragraphs) (λ k y ys. refl) c.args.instances.now c.loop-place.place c.index-instances-place.result c.loop-place.all c.push_sigs_in.new.all _
    c.loop-place-test.true c.index-instances-place.is c.loop-place.invariant (cc (c.in_ok-push_sigs_in.ensures, c.in_ok-instance.ensures, c.in_ok-tree.ensures, c.as_slice.ensures))

pub returns : goal.returns
returns c = end_on (sig_entries_from c.args.texts.now c.loop-place.place) c.args.instances.now c.loop-place.place c.loop-place.all _ refl c.loop-place-test.false c.loop-place.invariant
