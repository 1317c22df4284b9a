use Rattle.std.proofs.Common.{◌≡◌, Bool, refl, rules, ap, ◌∙◌, w64, SFits}
use Rattle.std.proofs.lemmas.Int.{to_z-of_z}
use Rattle.bound_definitions.specs.Places.{first_from, place_if}
use Rattle.bound_definitions.specs.Trees.{is_outside}
use Rattle.bound_scopes.proofs.wide.with_wide.Goals as goal

pub returns-in-Number : goal.returns-in-Number
returns-in-Number c =
    let f : SFits w64 c.in-Number.number = search rules in
    let wide : c.is_wide.result ≡ is_outside c.args.half c.in-Number.number = simp to_z-of_z at c.is_wide.ensures in
    rw c.in-Number.is (c.with_place.ensures ∙ ap (λ (b : Bool). first_from c.args.found (place_if b c.in-Number.at)) wide)

pub returns-in-Call : goal.returns-in-Call
returns-in-Call c = rw c.in-Call.is refl
