use Rattle.std.proofs.Common.{rules}
use Rattle.std.proofs.lemmas.Result.{IfOk-weaker}
use Rattle.syntax_tree.specs.declared.loaded.Loaded.{Loaded}
use Rattle.load_modules.specs.Led.{OpensTold, OpensFrom}
use Rattle.load_modules.specs.Numbered.{NumberedTold, NumberedFrom}
use Rattle.load_modules.proofs.Led.{opens_given}
use Rattle.load_modules.proofs.Told.{numbered_given}
use Rattle.load_modules.proofs.loader.load_text.Goals as goal

pub returns-clause-opens : goal.returns-clause-opens
returns-clause-opens g c =
    let held = g.L.Libraries.told c.args.libraries.now in
    let root = c.args.root.now in
    IfOk-weaker c.follow.result (λ (m : Loaded). OpensFrom held root _ m.texts m.instances) (λ (m : Loaded). OpensTold held root m.texts m.instances)
    (λ m from. opens_given held root _ m.texts m.instances c.args.text.now c.in_ok-number.number _ _ from c.in_ok-number.ensures.taken (search rules) c.in_ok-number.ensures.number c.in_ok-note.ensures.noted (search rules))
    c.follow.ensures.opens

pub returns-clause-numbered : goal.returns-clause-numbered
returns-clause-numbered g c =
    let held = g.L.Libraries.told c.args.libraries.now in
    let root = c.args.root.now in
    IfOk-weaker c.follow.result (λ (m : Loaded). NumberedFrom held root _ m.texts m.instances) (λ (m : Loaded). NumberedTold held root m.texts m.instances)
    (λ m from. numbered_given held root _ m.texts m.instances c.args.text.now c.in_ok-number.number _ _ from c.in_ok-number.ensures.taken (search rules) c.in_ok-number.ensures.number c.in_ok-note.ensures.noted (search rules))
    c.follow.ensures.numbered
