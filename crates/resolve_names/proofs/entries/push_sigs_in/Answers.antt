use Rattle.std.proofs.Common.{ℕ, refl}
use Rattle.syntax_tree.specs.declared.module.Paragraph.{Paragraph}
use Rattle.syntax_tree.specs.Instances.{sigs_in}
use Rattle.resolve_names.specs.Entries.{numbered, sig_entry, sig_entries_in}
use Rattle.resolve_names.proofs.Gathering.{end_on}
use Rattle.resolve_names.proofs.Entering.{walk_next}
use Rattle.resolve_names.proofs.entries.push_sigs_in.Goals as goal

pub loop-place-preserved : goal.loop-place-preserved
loop-place-preserved c =
    walk_next (sig_entries_in c.args.instance) (λ (k : ℕ) (p : Paragraph). numbered (sig_entry c.args.instance k) 0 (sigs_in p)) (λ k y ys. refl) c.args.paragraphs.now c.loop-place.place c.index-paragraphs-place.result c.loop-place.all c.push_sigs.new.all _
    c.loop-place-test.true c.index-paragraphs-place.is c.loop-place.invariant (cc (c.in_ok-push_sigs.ensures, c.in_ok-paragraph.ensures, c.sigs_in-count.ensures))

pub returns : goal.returns
returns c = end_on (sig_entries_in c.args.instance c.loop-place.place) c.args.paragraphs.now c.loop-place.place c.loop-place.all _ refl c.loop-place-test.false c.loop-place.invariant
