use Rattle.std.proofs.Common.{refl}
use Rattle.syntax_tree.specs.Instances.{sigs_in}
use Rattle.resolve_names.specs.Gathered.{declared_by_all, fields_in, bodies_in}
use Rattle.resolve_names.proofs.Gathering.{paragraphs_next, sum_next, sum_end, end_on}
use Rattle.resolve_names.proofs.declared.add_paragraphs.Goals as goal

pub loop-paragraph-preserved : goal.loop-paragraph-preserved
loop-paragraph-preserved c = record {
  declared = paragraphs_next c.args.instance c.args.paragraphs.now c.loop-paragraph.paragraph-index c.loop-paragraph.counts.sigs c.in_ok-counts.counts.sigs c.loop-paragraph.counts.fields
      c.in_ok-counts.counts.fields c.loop-paragraph.counts.bodies c.in_ok-counts.counts.bodies c.paragraph-item.result c.loop-paragraph.declared c.add_paragraph.new.declared _
      c.loop-paragraph-test.true c.paragraph-item.is c.loop-paragraph.invariant.declared c.in_ok-counts.ensures.declared c.in_ok-counts.ensures.sigs c.in_ok-counts.ensures.fields
      c.in_ok-counts.ensures.bodies;
  sigs = sum_next sigs_in c.args.paragraphs.now c.loop-paragraph.paragraph-index c.loop-paragraph.counts.sigs c.in_ok-counts.counts.sigs c.paragraph-item.result _
      c.loop-paragraph-test.true c.paragraph-item.is c.loop-paragraph.invariant.sigs c.in_ok-counts.ensures.sigs;
  fields = sum_next fields_in c.args.paragraphs.now c.loop-paragraph.paragraph-index c.loop-paragraph.counts.fields c.in_ok-counts.counts.fields c.paragraph-item.result _
      c.loop-paragraph-test.true c.paragraph-item.is c.loop-paragraph.invariant.fields c.in_ok-counts.ensures.fields;
  bodies = sum_next bodies_in c.args.paragraphs.now c.loop-paragraph.paragraph-index c.loop-paragraph.counts.bodies c.in_ok-counts.counts.bodies c.paragraph-item.result _
      c.loop-paragraph-test.true c.paragraph-item.is c.loop-paragraph.invariant.bodies c.in_ok-counts.ensures.bodies;
}

pub returns-clause-declared : goal.returns-clause-declared
returns-clause-declared c =
    end_on (declared_by_all c.args.instance c.loop-paragraph.counts.sigs c.loop-paragraph.counts.fields c.loop-paragraph.counts.bodies) c.args.paragraphs.now c.loop-paragraph.paragraph-index
    c.loop-paragraph.declared _ refl c.loop-paragraph-test.false c.loop-paragraph.invariant.declared

pub returns-clause-sigs : goal.returns-clause-sigs
returns-clause-sigs c = sum_end sigs_in c.args.paragraphs.now c.loop-paragraph.paragraph-index c.loop-paragraph.counts.sigs _ c.loop-paragraph-test.false c.loop-paragraph.invariant.sigs

pub returns-clause-fields : goal.returns-clause-fields
returns-clause-fields c = sum_end fields_in c.args.paragraphs.now c.loop-paragraph.paragraph-index c.loop-paragraph.counts.fields _ c.loop-paragraph-test.false c.loop-paragraph.invariant.fields

pub returns-clause-bodies : goal.returns-clause-bodies
returns-clause-bodies c = sum_end bodies_in c.args.paragraphs.now c.loop-paragraph.paragraph-index c.loop-paragraph.counts.bodies _ c.loop-paragraph-test.false c.loop-paragraph.invariant.bodies
