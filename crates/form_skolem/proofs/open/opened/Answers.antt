use Rattle.std.proofs.Common.{refl, ◌∙◌}
use Rattle.core_tree.specs.Columns.{no_columns}
use Rattle.core_tree.specs.Types.{no_rows}
use Rattle.form_skolem.proofs.Typing.{typed_fields}
use Rattle.form_skolem.proofs.open.opened.Goals as goal

pub returns : goal.returns
returns c = λ has are.
    let other = c.with_formula-commands.ensures has.command has.runs.chosen in
    record {
      sigs = refl;
      fields = typed_fields c.args.model c.args.model.sigs c.args.model.fields _ 0 has.body.parameters no_columns no_rows c.args.types.now are (c.in_ok-formula.ensures.fields has.body has.runs.body_is);
      facts = refl;
      asserts = refl;
      bodies = refl;
      asked = other.asked;
      commands = other.commands;
      same = other.same;
      formula = other.formula ∙ c.in_ok-formula.ensures.formula has.body has.runs.body_is;
    }
