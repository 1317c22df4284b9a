use Rattle.std.proofs.Common.{ℕ, ℤ, List, Bool, true, ◌≡◌, ◌++◌, ◌∷◌, [], ◌∙◌, ap, sym, subst, refl, pos, length, arith}
use Rattle.sat_trail.specs.State.{Search, Adds}
use Rattle.sat_trail.specs.Search.{net, search_of}
use Rattle.sat_trail.proofs.Adding.{sound_alike, no_pair_alike, clause_added}
use Rattle.sat_trail.proofs.Copying.{IsCopied-more}
use Rattle.std.proofs.lemmas.List.{append_assoc}
use Rattle.sat_trail.proofs.Reasoning.{reasoned_add}
use Rattle.sat_trail.proofs.trail.Trail.add_short.Goals as goal

pub invariant_of-self-2 : goal.invariant_of-self-2
invariant_of-self-2 c =
    let i = c.self.invariant in
    let m = net c.self.inside in
    let ls = c.args.literals.now in
    let last : c.len.result ≡ length m.ends = omega (arith, c.len.ensures, c.reserve.new.self.ends.ok.0, ap length c.reserve.ensures.ends) in
    record {
      variables = i.variables ∙ sym (c.push.ensures.variables ∙ c.reserve.ensures.variables);
      sound = sound_alike m ls _ _ _ _ _ _ _ _ _ c.self.inside.arena.in_order i.sound c.requires.alike
          (c.push.ensures.literals ∙ ap (λ (xs : List ℤ). xs ++ ls) c.reserve.ensures.literals)
          (c.push.ensures.ends ∙ ap (λ (xs : List ℕ). xs ++ length c.push.new.self.literals.items ∷ []) c.reserve.ensures.ends)
          (c.push_in_room-2.ensures.items ∙ ap (λ (xs : List ℕ). xs ++ 0 ∷ []) (c.push_in_room.ensures.items ∙ ap (λ (xs : List ℕ). xs ++ 0 ∷ []) c.reserve-2.ensures.items))
          last
          (c.push_in_room-5.ensures.items ∙ ap (λ (xs : List ℕ). xs ++ c.len.result ∷ []) c.reserve-4.ensures.items)
          (c.push.ensures.variables ∙ c.reserve.ensures.variables)
          (c.push_in_room-6.ensures.items ∙ ap (λ (xs : List Bool). xs ++ true ∷ []) c.reserve-5.ensures.items) refl;
      reasoned = reasoned_add (search_of c.self.inside) _ ls _ c.self.inside.arena.in_order
          (c.push.ensures.literals ∙ ap (λ (xs : List ℤ). xs ++ ls) c.reserve.ensures.literals)
          (c.push.ensures.ends ∙ ap (λ (xs : List ℕ). xs ++ length c.push.new.self.literals.items ∷ []) c.reserve.ensures.ends) refl refl i.reasoned;
      copied =
          let a = c.self.inside.arena.in_order in
          let copies = c.self.inside.watches.copies.items in
          let places : c.push_in_room-2.new.items.items ≡ m.at ++ 0 ∷ 0 ∷ [] =
          (c.push_in_room-2.ensures.items ∙ ap (λ (xs : List ℕ). xs ++ 0 ∷ []) (c.push_in_room.ensures.items ∙ ap (λ (xs : List ℕ). xs ++ 0 ∷ []) c.reserve-2.ensures.items)) ∙ append_assoc m.at (0 ∷ []) (0 ∷ []) in
          let literals : c.push.new.self.literals.items ≡ m.literals ++ ls = c.push.ensures.literals ∙ ap (λ (xs : List ℤ). xs ++ ls) c.reserve.ensures.literals in
          let ends : c.push.new.self.ends.items ≡ m.ends ++ length (m.literals ++ ls) ∷ [] = c.push.ensures.ends ∙ (ap (λ (xs : List ℕ). xs ++ length c.push.new.self.literals.items ∷ []) c.reserve.ensures.ends ∙ ap (λ (xs : List ℤ). m.ends ++ length xs ∷ []) literals) in
          let all_copies : c.push_in_room-4.new.items.items ≡ copies ++ pos 0 ∷ pos 0 ∷ [] =
          c.push_in_room-4.ensures.items ∙ (ap (λ (xs : List ℤ). xs ++ pos 0 ∷ []) (c.push_in_room-3.ensures.items ∙ ap (λ (xs : List ℤ). xs ++ pos 0 ∷ []) c.reserve-3.ensures.items) ∙ append_assoc copies (pos 0 ∷ []) (pos 0 ∷ [])) in
          rw (literals, ends, places, all_copies) (IsCopied-more m.literals ls m.ends m.at copies m.variables (length (m.literals ++ ls)) 0 0 (pos 0) (pos 0) a i.sound.woven.two_each i.copied
          (λ p. absurd (no_pair_alike m ls 0 0 a c.requires.alike p)));
    }

pub returns-clause-added : goal.returns-clause-added
returns-clause-added c =
    let ls = c.args.literals.now in
    let old = search_of c.self.inside in
    let new : Search = record old { literals = c.push.new.self.literals.items; ends = c.push.new.self.ends.items; attached = c.push_in_room-6.new.items.items; variables = c.push.new.self.variables } in
    let added = clause_added old new ls c.self.inside.arena.in_order
    (c.push.ensures.literals ∙ ap (λ (xs : List ℤ). xs ++ ls) c.reserve.ensures.literals)
    (c.push.ensures.ends ∙ ap (λ (xs : List ℕ). xs ++ length c.push.new.self.literals.items ∷ []) c.reserve.ensures.ends)
    (c.push_in_room-6.ensures.items ∙ ap (λ (xs : List Bool). xs ++ true ∷ []) c.reserve-5.ensures.items) in
    (subst (λ (s : Search). Adds s new ls) c.self.view_is added.0, omega (arith, c.len-2.ensures, c.push.new.self.ends.ok.0))
