use Rattle.std.proofs.Common.{ℕ, List, ◌≡◌, ◌+◌, ◌++◌, sym, subst, set, take, ◌<◌, ◌∷◌, ◌∙◌, [], ap, length, arith, w64, SFits, length-append}
use Rattle.std.proofs.lemmas.Int.{to_z-of_z}
use Rattle.std.proofs.lemmas.List.{length-take-le, take_more_set}
use Rattle.sat_trail.specs.Search.{net, search_of}
use Rattle.sat_trail.specs.Reasons.{AreReasoned, IsPut}
use Rattle.sat_trail.proofs.Reasoning.{reasoned_open}
use Rattle.sat_trail.proofs.Sounding.{IsSound-open}
use Rattle.sat_trail.proofs.trail.Trail.assign.Goals as goal

pub invariant_of-self : goal.invariant_of-self
invariant_of-self c =
    let literal_fits : SFits w64 c.args.literal = c.ranges.literal in
    let i = c.self.invariant in
    let longer = simp to_z-of_z at c.put.ensures.trail in
    let room : c.self.inside.top < c.self.inside.arena.variables = omega (arith, i.sound.top, ap length longer, length-append c.self.inside.assigned.trail (c.args.literal ∷ []), c.put.ensures.fits, c.put.ensures.variables, i.variables) in
    record {
      copied = i.copied;
      variables = c.put.ensures.variables ∙ i.variables;
      reasoned =
          let s = search_of c.self.inside in
          let lens = c.self.inside.lens.items in
          let put = simp to_z-of_z at c.put.ensures.put in
          let size : length (take c.self.inside.top lens) ≡ c.self.inside.top = length-take-le c.self.inside.top lens (omega (arith, i.sound.levels, i.sound.room.0)) in
          let opened = reasoned_open s c.put.new.self c.args.literal i.reasoned (subst (λ (n : ℕ). IsPut s.assignment c.put.new.self c.args.literal (n + 1) 0) (sym size) put) in
          let limits : take (c.self.inside.top + 1) (set lens c.self.inside.top c.len-len.result) ≡ s.limits ++ length s.assignment.trail ∷ [] =
          take_more_set lens c.self.inside.top c.len-len.result (omega (arith, room, i.sound.room.0)) ∙ ap (λ (n : ℕ). s.limits ++ n ∷ []) c.len-len.ensures.count in
          subst (λ (xs : List ℕ). AreReasoned (record s { assignment = c.put.new.self; limits = xs })) (sym limits) opened;
      sound = rw c.len-len.ensures.count (IsSound-open (net c.self.inside) c.put.new.self.trail c.args.literal i.sound room longer);
    }
