use Rattle.std.proofs.Common.{◌∙◌, ap}
use Rattle.sat_dropped.specs.Entries.{Entries}
use Rattle.sat_dropped.specs.Kept.{entries_of}
use Rattle.sat_dropped.proofs.Filing.{filed_as}
use Rattle.sat_dropped.proofs.Taking.{part_taken, filed_taken, others_taken, none_taken}
use Rattle.sat_dropped.proofs.dropped.Dropped.take_part.Goals as goal

pub find-requires-clause-filed : goal.find-requires-clause-filed
find-requires-clause-filed c =
    filed_as c.args.trail.now c.args.self.now.signatures c.args.self.now.numbers c.deref-2.result.now c.deref-3.result.now (c.deref-2.ensures.value ∙ ap (λ (x : Entries). x.signatures) c.self.view_is) (c.deref-3.ensures.value ∙ ap (λ (x : Entries). x.numbers) c.self.view_is) c.requires.filed

pub returns-in-None-clause-filed : goal.returns-in-None-clause-filed
returns-in-None-clause-filed c =
    filed_as c.args.trail.now c.args.self.now.signatures c.args.self.now.numbers c.self.inside.signatures.items c.self.inside.numbers.items (ap (λ (x : Entries). x.signatures) c.self.view_is) (ap (λ (x : Entries). x.numbers) c.self.view_is) c.requires.filed

pub returns-in-None-clause-none : goal.returns-in-None-clause-none
returns-in-None-clause-none c = none_taken c.args.trail.now c.args.literals.now (entries_of c.self.inside) c.args.self.now c.deref-3.result.now c.self.view_is c.deref-3.ensures.value c.in-None.ensures.none

pub returns-in-Some-clause-part : goal.returns-in-Some-clause-part
returns-in-Some-clause-part c =
    part_taken c.args.trail.now c.args.literals.now (entries_of c.self.inside) c.args.self.now c.deref-3.result.now c.in-Some.spot.list c.in-Some.spot.at c.take_out.result c.self.view_is c.deref-3.ensures.value c.take_out.ensures.number c.requires.filed c.in-Some.ensures.found

pub returns-in-Some-clause-filed : goal.returns-in-Some-clause-filed
returns-in-Some-clause-filed c =
    filed_taken c.args.trail.now c.args.literals.now (entries_of c.self.inside) c.args.self.now c.take_out.new.self c.deref-3.result.now c.in-Some.spot.list c.in-Some.spot.at c.self.view_is c.deref-3.ensures.value c.take_out.ensures.signatures c.take_out.ensures.numbers c.requires.filed
    c.in-Some.ensures.found

pub returns-in-Some-clause-others : goal.returns-in-Some-clause-others
returns-in-Some-clause-others c = λ n h.
    others_taken c.args.trail.now c.args.literals.now (entries_of c.self.inside) c.args.self.now c.take_out.new.self c.deref-3.result.now c.in-Some.spot.list c.in-Some.spot.at c.take_out.result n c.self.view_is c.deref-3.ensures.value c.take_out.ensures.number c.take_out.ensures.numbers
    c.in-Some.ensures.found h
