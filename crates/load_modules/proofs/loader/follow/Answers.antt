use Rattle.std.proofs.Common.{rules, List, refl, subst, ◌∙◌}
use Rattle.syntax_tree.specs.declared.instance.Instance.{Instance}
use Rattle.load_modules.specs.Reached.{AreReached}
use Rattle.load_modules.specs.Told.{Keeps}
use Rattle.load_modules.proofs.Known.{keeps_same, keeps_on, keeps_path, stays_same, stays_on, follows, distinct_end}
use Rattle.load_modules.proofs.Led.{opens_from}
use Rattle.load_modules.proofs.Told.{numbered_from}
use Rattle.load_modules.proofs.loader.follow.Goals as goal

pub returns-clause-texts : goal.returns-clause-texts
returns-clause-texts g c =
    let held = g.L.Libraries.told c.args.libraries.now in
    let root = c.args.root.now in
    let keeps : Keeps held root c.args.loading c.finish.new.loading =
    keeps_on held _ root c.args.loading c.open_integer.new.loading c.finish.new.loading
    (keeps_on held _ root c.args.loading c.open_all.new.loading c.open_integer.new.loading
    (keeps_on held _ root c.args.loading _ c.open_all.new.loading (keeps_same held root c.args.loading _ refl refl) c.in_ok-doors.ensures.texts refl)
    c.in_ok-integer.ensures.texts c.open_all.ensures.keeps)
    (keeps_same held root c.open_integer.new.loading c.finish.new.loading c.finish.ensures.texts c.finish.ensures.asked) refl in
    let same = c.open_integer.ensures.keeps ∙ c.open_all.ensures.keeps in
    let on : Keeps held root c.args.loading c.text_of_path.new.loading =
    keeps_on held _ root c.args.loading c.finish.new.loading c.text_of_path.new.loading keeps
    (keeps_path (g.L.Libraries.told c.open_integer.new.libraries) root c.finish.new.loading c.text_of_path.new.loading _ _ c.in_ok-integers.ensures.answer) same in
    follows held root c.args.loading c.text_of_path.new.loading c.in_ok-loaded.loaded.texts on c.in_ok-loaded.ensures.texts

pub returns-clause-opens : goal.returns-clause-opens
returns-clause-opens g c =
    let held = g.L.Libraries.told c.args.libraries.now in
    let root = c.args.root.now in
    let keeps : Keeps held root c.args.loading c.finish.new.loading =
    keeps_on held _ root c.args.loading c.open_integer.new.loading c.finish.new.loading
    (keeps_on held _ root c.args.loading c.open_all.new.loading c.open_integer.new.loading
    (keeps_on held _ root c.args.loading _ c.open_all.new.loading (keeps_same held root c.args.loading _ refl refl) c.in_ok-doors.ensures.texts refl)
    c.in_ok-integer.ensures.texts c.open_all.ensures.keeps)
    (keeps_same held root c.open_integer.new.loading c.finish.new.loading c.finish.ensures.texts c.finish.ensures.asked) refl in
    let same = c.open_integer.ensures.keeps ∙ c.open_all.ensures.keeps in
    let on : Keeps held root c.args.loading c.text_of_path.new.loading =
    keeps_on held _ root c.args.loading c.finish.new.loading c.text_of_path.new.loading keeps
    (keeps_path (g.L.Libraries.told c.open_integer.new.libraries) root c.finish.new.loading c.text_of_path.new.loading _ _ c.in_ok-integers.ensures.answer) same in
    opens_from held root c.args.loading c.text_of_path.new.loading c.in_ok-loaded.loaded.texts c.in_ok-loaded.loaded.instances on c.in_ok-loaded.ensures.led c.in_ok-loaded.ensures.texts

pub returns-clause-distinct : goal.returns-clause-distinct
returns-clause-distinct g c =
    distinct_end c.args.loading.keys.items c.add_plain.new.keys.items c.text_of_path.new.loading.keys.items _ _ c.requires c.in_ok-first.ensures.pairs
    (stays_on c.add_plain.new.keys.items c.finish.new.loading.keys.items c.text_of_path.new.loading.keys.items
    (stays_on c.add_plain.new.keys.items c.open_integer.new.loading.keys.items c.finish.new.loading.keys.items
    (stays_on c.add_plain.new.keys.items c.open_all.new.loading.keys.items c.open_integer.new.loading.keys.items c.in_ok-doors.ensures.distinct c.in_ok-integer.ensures.distinct)
    (stays_same c.open_integer.new.loading.keys.items c.finish.new.loading.keys.items c.finish.ensures.instances))
    (stays_same c.finish.new.loading.keys.items c.text_of_path.new.loading.keys.items c.text_of_path.ensures.instances))
    c.in_ok-loaded.ensures.instances

pub returns-clause-reached : goal.returns-clause-reached
returns-clause-reached g c = subst (λ (is : List Instance). AreReached is) c.as_slice.ensures c.in_ok-reach_all.ensures

pub returns-clause-numbered : goal.returns-clause-numbered
returns-clause-numbered g c =
    let held = g.L.Libraries.told c.args.libraries.now in
    let root = c.args.root.now in
    let keeps : Keeps held root c.args.loading c.finish.new.loading =
    keeps_on held _ root c.args.loading c.open_integer.new.loading c.finish.new.loading
    (keeps_on held _ root c.args.loading c.open_all.new.loading c.open_integer.new.loading
    (keeps_on held _ root c.args.loading _ c.open_all.new.loading (keeps_same held root c.args.loading _ refl refl) c.in_ok-doors.ensures.texts refl)
    c.in_ok-integer.ensures.texts c.open_all.ensures.keeps)
    (keeps_same held root c.open_integer.new.loading c.finish.new.loading c.finish.ensures.texts c.finish.ensures.asked) refl in
    numbered_from held (g.L.Libraries.told c.open_integer.new.libraries) root _ c.args.loading c.finish.new.loading c.text_of_path.new.loading c.in_ok-loaded.loaded.texts c.in_ok-loaded.loaded.instances c.in_ok-integers.integers keeps
    c.in_ok-integers.ensures.answer (c.open_integer.ensures.keeps ∙ c.open_all.ensures.keeps) refl c.in_ok-order_all.ensures c.in_ok-loaded.ensures.texts
