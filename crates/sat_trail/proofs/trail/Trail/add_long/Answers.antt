use Rattle.std.proofs.Common.{ℕ, ℤ, List, ◌≡◌, ◌≢◌, ◌+◌, ◌<◌, ◌++◌, ◌∷◌, [], ◌∙◌, Bool, true, ap, sym, subst, refl, length, neg_ℤ, arith, rules, w64, SFits}
use Rattle.std.specs.List.{All}
use Rattle.std.proofs.lemmas.Int.{to_z-of_z}
use Rattle.sat_trail.specs.Literal.{IsLiteral, list_of}
use Rattle.sat_trail.specs.Assignment.{value_at}
use Rattle.sat_trail.specs.State.{Search, Adds}
use Rattle.sat_trail.specs.Search.{net, search_of}
use Rattle.sat_trail.proofs.Adding.{sound_long, watched_one, watched_two, clause_added}
use Rattle.sat_trail.proofs.Copying.{IsCopied-more}
use Rattle.std.proofs.lemmas.List.{append_assoc}
use Rattle.sat_trail.proofs.Reasoning.{reasoned_add}
use Rattle.sat_trail.proofs.trail.Trail.add_long.Goals as goal

pub invariant_of-self-2 : goal.invariant_of-self-2
invariant_of-self-2 c =
    let i = c.self.invariant in
    let m = net c.self.inside in
    let ls = c.args.literals.now in
    let l₁ = value_at ls c.args.one in
    let l₂ = value_at ls c.args.two in
    let fits₁ : SFits w64 l₁ = search rules in
    let fits₂ : SFits w64 l₂ = search rules in
    let variables = ap (λ (x : Search). x.variables) c.self.view_is in
    let all : All (IsLiteral m.variables) ls = subst (λ (n : ℕ). All (IsLiteral n) ls) (sym variables) c.requires.literals in
    let first : c.len-first.result ≡ length m.literals = omega (arith, c.len-first.ensures, c.reserve.new.self.literals.ok.0, ap length c.reserve.ensures.literals) in
    let f₁ : c.list_of.result ≡ list_of l₁ = simp to_z-of_z at c.list_of.ensures in
    let f₂ : c.list_of-2.result ≡ list_of l₂ = simp to_z-of_z at c.list_of-2.ensures in
    let none₁ : (j : ℕ) → j < length m.trail → j < c.bound.result → value_at m.trail j ≢ neg_ℤ l₁ = simp to_z-of_z at c.bound.ensures in
    let none₂ : (j : ℕ) → j < length m.trail → j < c.bound-2.result → value_at m.trail j ≢ neg_ℤ l₂ = simp to_z-of_z at c.bound-2.ensures in
    let node_is : c.len-node.result ≡ length m.at = omega (arith, c.len-node.ensures, c.reserve-2.new.self.ok.0, ap length c.reserve-2.ensures.items) in
    record {
      variables = i.variables ∙ sym (c.push.ensures.variables ∙ c.reserve.ensures.variables);
      sound = sound_long m ls c.args.one c.args.two _ _ _ _ _ _ _ _ c.min-limit.result l₁ l₂ _ _ _ _ _ c.self.inside.arena.in_order i.sound all c.requires.places.0 c.requires.places.1 c.requires.different
          refl refl f₁ f₂ (ap (λ (n : ℕ). n + c.args.one) first) (ap (λ (n : ℕ). n + c.args.two) first)
          (c.push.ensures.literals ∙ ap (λ (xs : List ℤ). xs ++ ls) c.reserve.ensures.literals)
          (c.push.ensures.ends ∙ ap (λ (xs : List ℕ). xs ++ length c.push.new.self.literals.items ∷ []) c.reserve.ensures.ends)
          (c.push_in_room-2.ensures.items ∙ ap (λ (xs : List ℕ). xs ++ (c.len-first.result + c.args.two) ∷ []) (c.push_in_room.ensures.items ∙ ap (λ (xs : List ℕ). xs ++ (c.len-first.result + c.args.one) ∷ []) c.reserve-2.ensures.items))
          node_is c.in_ok-add_pair.ensures.ok
          (c.push.ensures.variables ∙ c.reserve.ensures.variables)
          (c.push_in_room-3.ensures.items ∙ ap (λ (xs : List Bool). xs ++ true ∷ []) c.reserve-4.ensures.items)
          (omega (arith, c.min-self-inside.ensures)) (omega (arith, c.min-self-inside.ensures))
          c.lower.ensures.len c.lower.ensures.lowered
          (λ j k l. none₁ j k (omega (arith, c.min-limit.ensures))) (λ j k l. none₂ j k (omega (arith, c.min-limit.ensures)));
      reasoned = reasoned_add (search_of c.self.inside) _ ls _ c.self.inside.arena.in_order
          (c.push.ensures.literals ∙ ap (λ (xs : List ℤ). xs ++ ls) c.reserve.ensures.literals)
          (c.push.ensures.ends ∙ ap (λ (xs : List ℕ). xs ++ length c.push.new.self.literals.items ∷ []) c.reserve.ensures.ends) refl refl i.reasoned;
      copied =
          let a = c.self.inside.arena.in_order in
          let copies = c.self.inside.watches.copies.items in
          let f = length m.literals in
          let places : c.push_in_room-2.new.items.items ≡ m.at ++ (f + c.args.one) ∷ (f + c.args.two) ∷ [] =
          (c.push_in_room-2.ensures.items ∙ ap (λ (xs : List ℕ). xs ++ (c.len-first.result + c.args.two) ∷ []) (c.push_in_room.ensures.items ∙ ap (λ (xs : List ℕ). xs ++ (c.len-first.result + c.args.one) ∷ []) c.reserve-2.ensures.items))
          ∙ (append_assoc m.at ((c.len-first.result + c.args.one) ∷ []) ((c.len-first.result + c.args.two) ∷ []) ∙ ap (λ (n : ℕ). m.at ++ (n + c.args.one) ∷ (n + c.args.two) ∷ []) first) in
          let literals : c.push.new.self.literals.items ≡ m.literals ++ ls = c.push.ensures.literals ∙ ap (λ (xs : List ℤ). xs ++ ls) c.reserve.ensures.literals in
          let ends : c.push.new.self.ends.items ≡ m.ends ++ length (m.literals ++ ls) ∷ [] = c.push.ensures.ends ∙ (ap (λ (xs : List ℕ). xs ++ length c.push.new.self.literals.items ∷ []) c.reserve.ensures.ends ∙ ap (λ (xs : List ℤ). m.ends ++ length xs ∷ []) literals) in
          let third = c.push_literal.ensures.items in
          let fourth = c.push_literal-2.ensures.items in
          let all_copies : c.push_literal-2.new.literals.items ≡ copies ++ l₁ ∷ l₂ ∷ [] =
          fourth ∙ (ap (λ (xs : List ℤ). xs ++ l₂ ∷ []) (third ∙ ap (λ (xs : List ℤ). xs ++ l₁ ∷ []) c.reserve-3.ensures.items) ∙ append_assoc copies (l₁ ∷ []) (l₂ ∷ [])) in
          rw (literals, ends, places, all_copies) (IsCopied-more m.literals ls m.ends m.at copies m.variables (length (m.literals ++ ls)) (f + c.args.one) (f + c.args.two) l₁ l₂ a i.sound.woven.two_each i.copied
          (λ _. (sym (watched_one m.literals ls m.at c.args.one (f + c.args.two)), sym (watched_two m.literals ls m.at (f + c.args.one) c.args.two))));
    }

pub returns-clause-added : goal.returns-clause-added
returns-clause-added c =
    let ls = c.args.literals.now in
    let old = search_of c.self.inside in
    let new : Search = record old { literals = c.push.new.self.literals.items; ends = c.push.new.self.ends.items; attached = c.push_in_room-3.new.items.items; variables = c.push.new.self.variables } in
    let added = clause_added old new ls c.self.inside.arena.in_order
    (c.push.ensures.literals ∙ ap (λ (xs : List ℤ). xs ++ ls) c.reserve.ensures.literals)
    (c.push.ensures.ends ∙ ap (λ (xs : List ℕ). xs ++ length c.push.new.self.literals.items ∷ []) c.reserve.ensures.ends)
    (c.push_in_room-3.ensures.items ∙ ap (λ (xs : List Bool). xs ++ true ∷ []) c.reserve-4.ensures.items) in
    (subst (λ (s : Search). Adds s new ls) c.self.view_is added.0, omega (arith, c.len.ensures, c.push.new.self.ends.ok.0))
