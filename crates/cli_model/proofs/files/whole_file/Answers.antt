use Rattle.std.proofs.Common.{◌+◌}
use Rattle.base_types.specs.declared.library.Fetch.TheVariants.{Found, Absent}
use Rattle.cli_model.specs.Files.{IsFile}
use Rattle.cli_model.proofs.Fetched.{same_value, absent_rule, found_file, whole_length}
use Rattle.cli_model.proofs.files.whole_file.Goals as goal

pub returns-in-Ok-Absent-clause-file : goal.returns-in-Ok-Absent-clause-file
returns-in-Ok-Absent-clause-file g c file is =
    let allows = IsFile (g.L.Libraries.told c.args.libraries.now) c.args.name.now c.args.most (g.L.Libraries.counts c.args.libraries.now) (g.L.Libraries.counts c.fetch_first.new.self) in
    same_value allows _ file is (
      c.fetch_first.ensures.cause.other (λ e. cc (c.in-Ok-Absent.is, e)),
      λ told tells. absent_rule told c.args.name.now c.args.most (c.args.most + 1) (c.fetch_first.ensures.answer told Absent tells (cc (c.in-Ok-Absent.is, c.in-Ok-Absent.field-0-is))),
    )

pub returns-in-Ok-Found-clause-file : goal.returns-in-Ok-Found-clause-file
returns-in-Ok-Found-clause-file g c file is =
    let allows = IsFile (g.L.Libraries.told c.args.libraries.now) c.args.name.now c.args.most (g.L.Libraries.counts c.args.libraries.now) (g.L.Libraries.counts c.fetch_first.new.self) in
    same_value allows _ file is (
    found_file (g.L.Libraries.told c.args.libraries.now) c.args.name.now c.args.most (g.L.Libraries.counts c.args.libraries.now) (g.L.Libraries.counts c.fetch_first.new.self)
    c.in-Ok-Found.text (c.fetch_first.ensures.cause.other (λ e. cc (c.in-Ok-Found.is, e)))
    (λ told tells. c.fetch_first.ensures.answer told (Found c.in-Ok-Found.text) tells (cc (c.in-Ok-Found.is, c.in-Ok-Found.field-0-is)))
    c.within.result c.within.ensures
    )

pub returns-in-Ok-Found-clause-short : goal.returns-in-Ok-Found-clause-short
returns-in-Ok-Found-clause-short g c text is = whole_length c.in-Ok-Found.text text c.args.most (cc (is, c.within.ensures))
