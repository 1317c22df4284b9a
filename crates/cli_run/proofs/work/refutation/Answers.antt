use Rattle.std.proofs.Common.{◌∙◌, ◌∷◌, ap, sym}
use Rattle.base_types.specs.declared.limits.TheConstants.{FILE_BYTES}
use Rattle.cli_model.specs.Files.{asked, second_asked}
use Rattle.cli_model.specs.declared.files.File.TheVariants.{Whole, Broken, Failed}
use Rattle.cli_model.proofs.OnModel.{then_later}
use Rattle.cli_run.proofs.Allowed.{asked_lrat, then_allows, broken_allows, failed_allows}
use Rattle.cli_run.proofs.work.refutation.Goals as goal

pub proof-requires-clause-tells : goal.proof-requires-clause-tells
proof-requires-clause-tells g c told tells =
    let file = c.whole_file.ensures.file (Whole c.in-Whole.clauses) (cc (c.in_ok-clauses.was, c.in-Whole.is)) in
    rw (c.deref.ensures.value, ← c.text-name.ensures) (file.1 told (sym c.whole_file.ensures.keeps ∙ tells)).0

pub proof-requires-clause-short : goal.proof-requires-clause-short
proof-requires-clause-short g c = rw c.deref.ensures.value (c.whole_file.ensures.short c.in-Whole.clauses (cc (c.in_ok-clauses.was, c.in-Whole.is)))

pub returns-in-Whole-clause-later : goal.returns-in-Whole-clause-later
returns-in-Whole-clause-later g c =
    let file = c.whole_file.ensures.file (Whole c.in-Whole.clauses) (cc (c.in_ok-clauses.was, c.in-Whole.is)) in
    then_later (g.L.Libraries.counts c.args.libraries.now) (g.L.Libraries.counts c.whole_file.new.libraries) (g.L.Libraries.counts c.proof.new.libraries) file.0 c.proof.ensures.later

pub returns-in-Whole-clause-allowed : goal.returns-in-Whole-clause-allowed
returns-in-Whole-clause-allowed g c answer is =
    let more = second_asked c.args.settings.now.second in
    let asks = asked_lrat c.args.settings.now c.requires.mode ∙ ap (λ n. (n, FILE_BYTES) ∷ more) (sym c.text-name.ensures) in
    then_allows c.args.settings.now (g.L.Libraries.told c.args.libraries.now) (g.L.Libraries.told c.whole_file.new.libraries) (g.L.Libraries.counts c.args.libraries.now)
    (g.L.Libraries.counts c.whole_file.new.libraries) (g.L.Libraries.counts c.proof.new.libraries) c.text-name.result.now FILE_BYTES (asked c.args.settings.now) more asks answer c.in-Whole.clauses
    (c.whole_file.ensures.file (Whole c.in-Whole.clauses) (cc (c.in_ok-clauses.was, c.in-Whole.is))) c.whole_file.ensures.keeps (c.proof.ensures.allowed answer is)

pub returns-in-Broken-clause-allowed : goal.returns-in-Broken-clause-allowed
returns-in-Broken-clause-allowed g c answer is =
    let more = second_asked c.args.settings.now.second in
    let asks = asked_lrat c.args.settings.now c.requires.mode ∙ ap (λ n. (n, FILE_BYTES) ∷ more) (sym c.text-name.ensures) in
    broken_allows c.args.settings.now (g.L.Libraries.told c.args.libraries.now) (g.L.Libraries.counts c.args.libraries.now) (g.L.Libraries.counts c.whole_file.new.libraries)
    c.text-name.result.now FILE_BYTES (asked c.args.settings.now) more asks c.refused.result answer is c.in-Broken.rule (c.whole_file.ensures.file (Broken c.in-Broken.rule) (cc (c.in_ok-clauses.was, c.in-Broken.is))) c.refused.ensures

pub returns-in-Failed-clause-allowed : goal.returns-in-Failed-clause-allowed
returns-in-Failed-clause-allowed g c answer is =
    let more = second_asked c.args.settings.now.second in
    let asks = asked_lrat c.args.settings.now c.requires.mode ∙ ap (λ n. (n, FILE_BYTES) ∷ more) (sym c.text-name.ensures) in
    failed_allows c.args.settings.now (g.L.Libraries.told c.args.libraries.now) (g.L.Libraries.counts c.args.libraries.now) (g.L.Libraries.counts c.whole_file.new.libraries)
    c.text-name.result.now FILE_BYTES (asked c.args.settings.now) more asks c.read_fault.result answer is (c.whole_file.ensures.file Failed (cc (c.in_ok-clauses.was, c.in-Failed.is))) c.read_fault.ensures
