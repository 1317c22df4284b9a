use Rattle.cli_model.proofs.OnModel.{found_on, loaded_of, search_fault_on}
use Rattle.cli_model.proofs.analysis.search.Goals as goal

pub returns-in-Ok-clause-on : goal.returns-in-Ok-clause-on
returns-in-Ok-clause-on g c =
    let told = g.L.Libraries.told c.args.libraries.now in
    found_on c.args.settings.now told c.args.text.now (g.L.Libraries.counts c.args.libraries.now) (g.L.Libraries.counts c.load_tree.new.libraries) c.analysed.result c.in-Ok.loaded c.in-Ok.ensures.cause
    (loaded_of told c.text-name.result.now c.args.settings.now.file c.args.text.now c.args.parsed.tree c.in-Ok.loaded c.text-name.ensures c.requires.spells c.in-Ok.ensures.texts c.in-Ok.ensures.opens c.in-Ok.ensures.named c.in-Ok.ensures.distinct c.in-Ok.ensures.reached c.in-Ok.ensures.numbered)
    c.requires.mode c.analysed.ensures

pub returns-in-Err-clause-on : goal.returns-in-Err-clause-on
returns-in-Err-clause-on g c =
    search_fault_on c.args.settings.now (g.L.Libraries.told c.args.libraries.now) c.args.text.now (g.L.Libraries.counts c.args.libraries.now) (g.L.Libraries.counts c.load_tree.new.libraries)
    c.not_loaded.result c.in-Err.fault c.text-name.result.now c.args.parsed.tree c.text-name.ensures c.in-Err.ensures.cause c.in-Err.ensures.refused c.requires.spells c.requires.mode c.not_loaded.ensures
