use Rattle.form_target.proofs.Tails.{sig_parts, children_there}
use Rattle.form_target.proofs.sigs.sig_formulas.Goals as goal

pub apart-requires : goal.apart-requires
apart-requires c = children_there c.args.model.now c.args.all.now.items c.args.all.now.items c.args.number c.args.sig.now c.requires.there c.args.children.now c.requires.children

pub returns : goal.returns
returns c = sig_parts c.args.model.now c.args.all.now.items c.appended.new.all.items c.placed.new.all.items c.covered.new.all.items c.apart.new.all.items c.counted.new.all.items c.args.number c.args.sig.now c.args.children.now c.requires.children c.in_ok-placed.ensures c.in_ok-covered.ensures c.in_ok-apart.ensures c.in_ok-counted.ensures c.in_ok-appended.ensures
