use Rattle.std.proofs.Common.{◌∙◌, ◌∷◌, [], ap, sym, subst}
use Rattle.base_types.specs.declared.limits.TheConstants.{MODULE_BYTES}
use Rattle.cli_model.specs.Files.{asked, IsFile}
use Rattle.cli_model.specs.declared.files.File.TheVariants.{Whole, Broken, Failed}
use Rattle.cli_model.proofs.OnModel.{then_later}
use Rattle.cli_run.proofs.Allowed.{whole_allows, broken_allows, failed_allows}
use Rattle.cli_run.proofs.work.model.Goals as goal

pub on_model-requires-clause-short : goal.on_model-requires-clause-short
on_model-requires-clause-short g c = rw c.deref.ensures.value (c.whole_file.ensures.short c.in-Whole.text (cc (c.in_ok-text.was, c.in-Whole.is)))

pub returns-in-Whole-clause-later : goal.returns-in-Whole-clause-later
returns-in-Whole-clause-later g c =
    let file = c.whole_file.ensures.file (Whole c.in-Whole.text) (cc (c.in_ok-text.was, c.in-Whole.is)) in
    then_later (g.L.Libraries.counts c.args.libraries.now) (g.L.Libraries.counts c.whole_file.new.libraries) (g.L.Libraries.counts c.on_model.new.libraries) file.0 c.on_model.ensures.later

pub returns-in-Whole-clause-allowed : goal.returns-in-Whole-clause-allowed
returns-in-Whole-clause-allowed g c answer is =
    let told = g.L.Libraries.told c.args.libraries.now in
    let before = g.L.Libraries.counts c.args.libraries.now in
    let mid = g.L.Libraries.counts c.whole_file.new.libraries in
    let file = c.whole_file.ensures.file (Whole c.in-Whole.text) (cc (c.in_ok-text.was, c.in-Whole.is)) in
    whole_allows c.args.settings.now told (g.L.Libraries.told c.whole_file.new.libraries) before mid (g.L.Libraries.counts c.on_model.new.libraries) c.requires.asks c.requires.mode c.on_model.result answer is c.in-Whole.text
    (subst (λ n. IsFile told n MODULE_BYTES before mid (Whole c.in-Whole.text)) c.text-name.ensures file) c.whole_file.ensures.keeps (rw c.deref.ensures.value at c.on_model.ensures.on)

pub returns-in-Broken-clause-allowed : goal.returns-in-Broken-clause-allowed
returns-in-Broken-clause-allowed g c answer is =
    let asks = c.requires.asks ∙ ap (λ n. (n, MODULE_BYTES) ∷ []) (sym c.text-name.ensures) in
    broken_allows c.args.settings.now (g.L.Libraries.told c.args.libraries.now) (g.L.Libraries.counts c.args.libraries.now) (g.L.Libraries.counts c.whole_file.new.libraries)
    c.text-name.result.now MODULE_BYTES (asked c.args.settings.now) [] asks c.refused.result answer is c.in-Broken.rule (c.whole_file.ensures.file (Broken c.in-Broken.rule) (cc (c.in_ok-text.was, c.in-Broken.is))) c.refused.ensures

pub returns-in-Failed-clause-allowed : goal.returns-in-Failed-clause-allowed
returns-in-Failed-clause-allowed g c answer is =
    let asks = c.requires.asks ∙ ap (λ n. (n, MODULE_BYTES) ∷ []) (sym c.text-name.ensures) in
    failed_allows c.args.settings.now (g.L.Libraries.told c.args.libraries.now) (g.L.Libraries.counts c.args.libraries.now) (g.L.Libraries.counts c.whole_file.new.libraries)
    c.text-name.result.now MODULE_BYTES (asked c.args.settings.now) [] asks c.read_fault.result answer is (c.whole_file.ensures.file Failed (cc (c.in_ok-text.was, c.in-Failed.is))) c.read_fault.ensures
