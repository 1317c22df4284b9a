use Rattle.std.proofs.Common.{◌≡◌, [], ap, Some}
use Rattle.base_types.specs.declared.limits.TheConstants.{FILE_BYTES}
use Rattle.cli_model.specs.Files.{second_asked}
use Rattle.cli_model.specs.declared.files.File.TheVariants.{Whole, Broken, Failed}
use Rattle.cli_run.proofs.Allowed.{proof_allows, if_ok, broken_allows, failed_allows}
use Rattle.cli_run.proofs.work.proof.Goals as goal

pub returns-in-Whole-clause-allowed : goal.returns-in-Whole-clause-allowed
returns-in-Whole-clause-allowed g c answer is =
    let named : c.args.settings.now.second ≡ Some c.text-name.result.now = cc (c.in-Some.is, c.text-name.ensures) in
    let file = c.whole_file.ensures.file (Whole c.in-Whole.lines) (cc (c.in_ok-lines.was, c.in-Whole.is)) in
    let on = if_ok _ c.on_proof.result answer c.on_proof.ensures is in
    rw (ap second_asked named) (proof_allows c.args.settings.now (g.L.Libraries.told c.args.libraries.now) (g.L.Libraries.counts c.args.libraries.now) (g.L.Libraries.counts c.whole_file.new.libraries)
    c.text-name.result.now FILE_BYTES c.requires.mode named c.args.clauses.now c.requires.tells c.in-Whole.lines file answer (rw c.deref.ensures.value at on))

pub returns-in-Broken-clause-allowed : goal.returns-in-Broken-clause-allowed
returns-in-Broken-clause-allowed g c answer is =
    let named : c.args.settings.now.second ≡ Some c.text-name.result.now = cc (c.in-Some.is, c.text-name.ensures) in
    let asks = ap second_asked named in
    broken_allows c.args.settings.now (g.L.Libraries.told c.args.libraries.now) (g.L.Libraries.counts c.args.libraries.now) (g.L.Libraries.counts c.whole_file.new.libraries)
    c.text-name.result.now FILE_BYTES (second_asked c.args.settings.now.second) [] asks c.refused.result answer is c.in-Broken.rule (c.whole_file.ensures.file (Broken c.in-Broken.rule) (cc (c.in_ok-lines.was, c.in-Broken.is))) c.refused.ensures

pub returns-in-Failed-clause-allowed : goal.returns-in-Failed-clause-allowed
returns-in-Failed-clause-allowed g c answer is =
    let named : c.args.settings.now.second ≡ Some c.text-name.result.now = cc (c.in-Some.is, c.text-name.ensures) in
    let asks = ap second_asked named in
    failed_allows c.args.settings.now (g.L.Libraries.told c.args.libraries.now) (g.L.Libraries.counts c.args.libraries.now) (g.L.Libraries.counts c.whole_file.new.libraries)
    c.text-name.result.now FILE_BYTES (second_asked c.args.settings.now.second) [] asks c.read_fault.result answer is (c.whole_file.ensures.file Failed (cc (c.in_ok-lines.was, c.in-Failed.is))) c.read_fault.ensures
