use Rattle.std.proofs.Common.{ℕ, replicate, refl}
use Rattle.syntax_tree.specs.declared.module.Paragraph.{Paragraph}
use Rattle.resolve_names.specs.Gathered.{bodies_in}
use Rattle.resolve_names.specs.Entries.{body_entry, body_entries_in}
use Rattle.resolve_names.proofs.Gathering.{end_on}
use Rattle.resolve_names.proofs.Entering.{walk_next}
use Rattle.resolve_names.proofs.entries.push_bodies_in.Goals as goal

pub loop-place-preserved : goal.loop-place-preserved
loop-place-preserved c =
    walk_next (body_entries_in c.args.instance) (λ (k : ℕ) (p : Paragraph). replicate (bodies_in p) (body_entry c.args.instance k)) (λ k y ys. refl) c.args.paragraphs.now c.loop-place.place c.index-paragraphs-place.result c.loop-place.all c.push_bodies.new.all _
    c.loop-place-test.true c.index-paragraphs-place.is c.loop-place.invariant (cc (c.in_ok-push_bodies.ensures, c.in_ok-paragraph.ensures, c.bodies_in-count.ensures))

pub returns : goal.returns
returns c = end_on (body_entries_in c.args.instance c.loop-place.place) c.args.paragraphs.now c.loop-place.place c.loop-place.all _ refl c.loop-place-test.false c.loop-place.invariant
