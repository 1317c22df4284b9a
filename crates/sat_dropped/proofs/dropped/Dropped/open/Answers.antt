use Rattle.std.proofs.Common.{◌*◌, ◌<◌, length, ◌∙◌, refl, sym, ap, subst}
use Rattle.sat_dropped.specs.Entries.{Entries, list_at}
use Rattle.sat_dropped.proofs.Filing.{made_room, none_made}
use Rattle.sat_dropped.proofs.dropped.Dropped.open.Goals as goal

pub returns-then-self-clause-room : goal.returns-then-self-clause-room
returns-then-self-clause-room c =
    subst (λ (e : Entries). 2 * e.variables < length e.numbers) c.self.view_is (made_room c.self.inside.numbers.items c.self.inside.variables c.self.inside.is_open c.self.invariant.numbers c.if-self.true)

pub returns-then-self-clause-same : goal.returns-then-self-clause-same
returns-then-self-clause-same c = λ x. (refl, refl)

pub returns-clause-same : goal.returns-clause-same
returns-clause-same c = λ x.
    let d = c.self.inside in
    let none = c.in_ok-opened.ensures.none x in (
      ap (λ (e : Entries). list_at e.signatures x) c.drop.view_is ∙ (none.0 ∙ (sym (none_made d.signatures.items d.variables d.is_open c.self.invariant.signatures c.if-self.false x) ∙ ap (λ (e : Entries). list_at e.signatures x) c.self.view_is)),
      ap (λ (e : Entries). list_at e.numbers x) c.drop.view_is ∙ (none.1 ∙ (sym (none_made d.numbers.items d.variables d.is_open c.self.invariant.numbers c.if-self.false x) ∙ ap (λ (e : Entries). list_at e.numbers x) c.self.view_is)),
    )
