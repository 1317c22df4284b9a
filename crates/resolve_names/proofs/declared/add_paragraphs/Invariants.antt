use Rattle.std.proofs.Common.{◌≡◌, ◌+◌, ◌++◌, drop}
use Rattle.std.specs.Prelude.{sum_by}
use Rattle.syntax_tree.specs.Instances.{sigs_in}
use Rattle.resolve_names.specs.Gathered.{declared_by_all, fields_in, bodies_in}
use Rattle.resolve_names.proofs.declared.add_paragraphs.Given as goal

-- what was added, and the paragraphs that are left
abbrev pub invariant-loop-paragraph : goal.invariant-loop-paragraph
invariant-loop-paragraph l = record {
  declared : l.declared ++ declared_by_all l.instance l.counts.sigs l.counts.fields l.counts.bodies (drop l.paragraph-index l.paragraphs)
      ≡ l.initial.declared ++ declared_by_all l.instance l.fn.before.sigs l.fn.before.fields l.fn.before.bodies l.paragraphs;
  sigs : l.counts.sigs + sum_by sigs_in (drop l.paragraph-index l.paragraphs) ≡ l.fn.before.sigs + sum_by sigs_in l.paragraphs;
  fields : l.counts.fields + sum_by fields_in (drop l.paragraph-index l.paragraphs) ≡ l.fn.before.fields + sum_by fields_in l.paragraphs;
  bodies : l.counts.bodies + sum_by bodies_in (drop l.paragraph-index l.paragraphs) ≡ l.fn.before.bodies + sum_by bodies_in l.paragraphs;
}
