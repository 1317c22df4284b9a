use Rattle.std.proofs.Common.{◌≡◌, ◌∙◌, ap, pos, get_or, rules, w64, SFits}
use Rattle.std.proofs.lemmas.Int.{to_z-of_z}
use Rattle.sat_dropped.specs.Part.{slot_of}
use Rattle.sat_dropped.proofs.Filing.{entry_made, filed_pushed, entry_pushed, entry_added}
use Rattle.sat_dropped.proofs.dropped.Dropped.enter.Goals as goal

pub returns-clause-filed : goal.returns-clause-filed
returns-clause-filed c =
    let s = c.args.trail.now in
    let literals = c.clause-literals.result.now in
    let k = c.shortest.result in
    let literal_fits : SFits w64 c.literal_at.result = search rules in
    let at : c.slot-list.result ≡ slot_of (get_or literals k (pos 0)) = (simp to_z-of_z at c.slot-list.ensures) ∙ ap slot_of c.literal_at.ensures in
    let entry = entry_made s literals c.args.number c.slot-list.result c.kept_signature.result k c.requires.number c.clause-literals.ensures.clause c.kept_signature.ensures c.shortest.ensures at in
    filed_pushed s c.args.self.now.signatures c.args.self.now.numbers c.file.new.self.signatures c.file.new.self.numbers c.slot-list.result c.kept_signature.result c.args.number c.in_ok-file.ensures.list.0 c.in_ok-file.ensures.list.1 c.in_ok-file.ensures.signatures c.in_ok-file.ensures.numbers entry c.requires.filed

pub returns-clause-kept : goal.returns-clause-kept
returns-clause-kept c = λ n h. entry_pushed c.args.self.now c.file.new.self c.slot-list.result c.args.number n c.in_ok-file.ensures.list.1 c.in_ok-file.ensures.numbers h

pub returns-clause-added : goal.returns-clause-added
returns-clause-added c = λ _. entry_added c.args.self.now c.file.new.self c.slot-list.result c.args.number c.in_ok-file.ensures.list.1 c.in_ok-file.ensures.numbers
