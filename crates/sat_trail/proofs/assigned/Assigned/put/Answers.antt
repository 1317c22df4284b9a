use Rattle.std.proofs.Common.{ℕ, ◌≡◌, set, ◌∙◌, ◌<◌, ◌∷◌, ◌++◌, [], ap, length, arith, rules, w8, w64, SFits, length-set}
use Rattle.std.proofs.lemmas.Int.{to_z-of_z}
use Rattle.std.proofs.lemmas.List.{take_more_set}
use Rattle.sat_trail.specs.Literal.{index, IsLiteral}
use Rattle.sat_trail.specs.Assignment.{Assignment}
use Rattle.sat_trail.proofs.Assigning.{room_step, room, IsAssigned-put, apart_from, room_of}
use Rattle.sat_trail.proofs.assigned.Assigned.put.Goals as goal

pub index_mut-requires-5 : goal.index_mut-requires-5
index_mut-requires-5 c =
    let zero = room_step _ _ _ _ _ _ _ c.args.literal c.self.invariant.0 c.self.view_is c.requires.literal c.requires.not_true c.requires.not_false in
    let variables = ap (λ (v : Assignment). length v.values) c.self.view_is in
    let literal : IsLiteral (length c.self.inside.values.items) c.args.literal = rw variables c.requires.literal in
    omega (arith, room _ _ _ _ c.args.literal c.self.invariant.0 literal zero, c.self.invariant.0.same_trail, c.self.inside.trail.ok.0)

pub invariant_of-self : goal.invariant_of-self
invariant_of-self c =
    let literal_fits : SFits w64 c.args.literal = c.ranges.literal in
    let sign_fits : SFits w8 c.sign.result = search rules in
    let i = simp to_z-of_z at c.index-at.ensures.value in
    let s = simp to_z-of_z at c.sign.ensures in
    let zero = room_step _ _ _ _ _ _ _ c.args.literal c.self.invariant.0 c.self.view_is c.requires.literal c.requires.not_true c.requires.not_false in
    let variables = ap (λ (v : Assignment). length v.values) c.self.view_is in
    let literal : IsLiteral (length c.self.inside.values.items) c.args.literal = rw variables c.requires.literal in
    simp to_z-of_z (rw (i, s) (IsAssigned-put _ _ _ _ c.args.literal c.self.invariant.0 literal zero, simp length-set c.self.invariant.1, simp length-set c.self.invariant.2))

pub returns-clause-trail : goal.returns-clause-trail
returns-clause-trail c =
    let literal_fits : SFits w64 c.args.literal = c.ranges.literal in
    let zero = room_step _ _ _ _ _ _ _ c.args.literal c.self.invariant.0 c.self.view_is c.requires.literal c.requires.not_true c.requires.not_false in
    let variables = ap (λ (v : Assignment). length v.values) c.self.view_is in
    let literal : IsLiteral (length c.self.inside.values.items) c.args.literal = rw variables c.requires.literal in
    let within : c.self.inside.len < length c.self.inside.trail.items = omega (arith, room _ _ _ _ c.args.literal c.self.invariant.0 literal zero, c.self.invariant.0.same_trail) in
    simp to_z-of_z (take_more_set c.self.inside.trail.items c.self.inside.len c.args.literal within ∙ ap (λ (v : Assignment). v.trail ++ c.args.literal ∷ []) c.self.view_is)

pub returns-clause-put : goal.returns-clause-put
returns-clause-put c =
    let literal_fits : SFits w64 c.args.literal = c.ranges.literal in
    let i = c.self.invariant in
    let at : c.index-at.result ≡ index c.args.literal = simp to_z-of_z at c.index-at.ensures.value in
    let sizes = room_of _ _ _ _ _ _ c.args.literal c.self.view_is i.1 i.2 c.requires.literal in
    record {
      trail = returns-clause-trail c;
      apart = λ j k. apart_from _ _ _ _ _ _ _ c.args.literal i.0 c.self.view_is c.requires.literal c.requires.not_true c.requires.not_false j k;
      in_levels = sizes.0;
      in_reasons = sizes.1;
      levels = ap (λ (n : ℕ). set c.self.inside.levels.items n c.args.level) at ∙ ap (λ (v : Assignment). set v.levels (index c.args.literal) c.args.level) c.self.view_is;
      reasons = ap (λ (n : ℕ). set c.self.inside.reasons.items n c.args.reason) at ∙ ap (λ (v : Assignment). set v.reasons (index c.args.literal) c.args.reason) c.self.view_is;
    }
