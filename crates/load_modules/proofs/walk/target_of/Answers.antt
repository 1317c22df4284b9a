use Rattle.std.proofs.Common.{rules, refl}
use Rattle.std.proofs.lemmas.Result.{IfErr-at_err}
use Rattle.load_state.specs.Keys.{texts_of, text_at}
use Rattle.load_state.specs.Places.{IsInText}
use Rattle.load_modules.proofs.Placed.{place_grown, refuses_open, refuses_path}
use Rattle.load_modules.proofs.walk.target_of.Goals as goal

pub returns-in-Err-clause-refused : goal.returns-in-Err-clause-refused
returns-in-Err-clause-refused g c =
    let mid = c.text_of_path.new.loading in
    let here = place_grown c.args.loading.now.keys.items mid.keys.items c.args.loading.now.sources.items mid.sources.items c.args.instance c.args.request.now.place c.requires c.text_of_path.ensures.instances
    c.in_ok-found.ensures.grown in
    let at = IfErr-at_err (IsInText (text_at mid.keys.items (texts_of mid.sources.items) c.args.instance)) c.in-Err.is (c.found_or_refused.ensures.refused here) in
    refuses_path (g.L.Libraries.told c.args.libraries.now) (g.L.Libraries.told c.text_of_path.new.libraries) c.args.root.now _ c.args.loading.now mid c.in_ok-found.found c.in-Err.fault c.in_ok-found.ensures.answer
    (refuses_open (g.L.Libraries.told c.text_of_path.new.libraries) c.args.root.now mid mid.keys.items mid.sources.items c.args.instance c.in-Err.fault refl at) c.text_of_path.ensures.keeps
