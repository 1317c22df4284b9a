use Rattle.std.proofs.Common.{rules, refl}
use Rattle.load_modules.proofs.Known.{keeps_same, keeps_on, stays_plain, stays_same, stays_on}
use Rattle.load_modules.proofs.loader.open_plain.Goals as goal

pub returns-clause-texts : goal.returns-clause-texts
returns-clause-texts g c =
    let held = g.L.Libraries.told c.args.libraries.now in
    let root = c.args.root.now in
    keeps_on held _ root c.args.loading.now c.open_all.new.loading c.finish.new.loading
    (keeps_on held _ root c.args.loading.now _ c.open_all.new.loading (keeps_same held root c.args.loading.now _ refl refl) c.in_ok-doors.ensures.texts refl)
    (keeps_same (g.L.Libraries.told c.open_all.new.libraries) root c.open_all.new.loading c.finish.new.loading c.finish.ensures.texts c.finish.ensures.asked) c.open_all.ensures.keeps

pub returns-clause-distinct : goal.returns-clause-distinct
returns-clause-distinct g c =
    stays_on c.args.loading.now.keys.items c.open_all.new.loading.keys.items c.finish.new.loading.keys.items
    (stays_on c.args.loading.now.keys.items c.add_plain.new.keys.items c.open_all.new.loading.keys.items
    (stays_plain c.args.loading.now.keys.items c.add_plain.new.keys.items c.args.loading.now.keys.items _ c.in_ok-instance.ensures.pairs c.requires refl) c.in_ok-doors.ensures.distinct)
    (stays_same c.open_all.new.loading.keys.items c.finish.new.loading.keys.items c.finish.ensures.instances)
