use Rattle.std.proofs.Common.{◌≡◌, Some}
use Rattle.cli_model.specs.declared.files.File.TheVariants.{Whole, Broken, Failed}
use Rattle.cli_model.proofs.OnModel.{said_after, refused_after, failed_after}
use Rattle.cli_model.proofs.traced.on_second.Goals as goal

pub returns-in-Whole-clause-after : goal.returns-in-Whole-clause-after
returns-in-Whole-clause-after g c =
    let named : c.args.settings.now.second ≡ Some c.text-name.result.now = cc (c.in-Some.is, c.text-name.ensures) in
    let file = c.whole_file.ensures.file (Whole c.in-Whole.trace) (cc (c.in_ok-trace.was, c.in-Whole.is)) in
    said_after c.args.ready.now.loaded c.args.settings.now (g.L.Libraries.told c.args.libraries.now) (g.L.Libraries.counts c.args.libraries.now) (g.L.Libraries.counts c.whole_file.new.libraries)
    c.on_trace.result c.text-name.result.now c.in-Whole.trace named file (rw c.deref.ensures.value at c.on_trace.ensures)

pub returns-in-Broken-clause-after : goal.returns-in-Broken-clause-after
returns-in-Broken-clause-after g c =
    let named : c.args.settings.now.second ≡ Some c.text-name.result.now = cc (c.in-Some.is, c.text-name.ensures) in
    let file = c.whole_file.ensures.file (Broken c.in-Broken.rule) (cc (c.in_ok-trace.was, c.in-Broken.is)) in
    refused_after c.args.ready.now.loaded c.args.settings.now (g.L.Libraries.told c.args.libraries.now) (g.L.Libraries.counts c.args.libraries.now) (g.L.Libraries.counts c.whole_file.new.libraries)
    c.refused.result c.in-Broken.rule c.text-name.result.now c.requires.mode named file c.refused.ensures

pub returns-in-Failed-clause-after : goal.returns-in-Failed-clause-after
returns-in-Failed-clause-after g c =
    let named : c.args.settings.now.second ≡ Some c.text-name.result.now = cc (c.in-Some.is, c.text-name.ensures) in
    failed_after c.args.ready.now.loaded c.args.settings.now (g.L.Libraries.told c.args.libraries.now) (g.L.Libraries.counts c.args.libraries.now) (g.L.Libraries.counts c.whole_file.new.libraries)
    c.read_fault.result c.text-name.result.now named (c.whole_file.ensures.file Failed (cc (c.in_ok-trace.was, c.in-Failed.is))) c.read_fault.ensures
