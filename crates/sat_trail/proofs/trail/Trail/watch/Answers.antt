use Rattle.std.proofs.Common.{ℕ, ℤ, List, set, ◌≡◌, ◌≢◌, ◌+◌, ◌*◌, ◌<◌, ◌∙◌, neg_ℤ, ap, refl, subst, length, arith, rules, w64, SFits}
use Rattle.std.proofs.lemmas.Int.{to_z-of_z}
use Rattle.sat_lists.specs.Nodes.{added}
use Rattle.sat_trail.specs.Literal.{IsLiteral, list_of}
use Rattle.sat_trail.specs.Assignment.{value_at}
use Rattle.sat_trail.specs.State.{Search}
use Rattle.sat_trail.specs.Search.{net, search_of}
use Rattle.sat_trail.proofs.Adding.{in_literals}
use Rattle.sat_trail.proofs.Attaching.{AreLate, two_places, IsSound-attach, IsCopied-attach}
use Rattle.sat_trail.proofs.Reasoning.{reasoned_as}
use Rattle.sat_trail.proofs.trail.Trail.watch.Goals as goal

pub start-from-requires : goal.start-from-requires
start-from-requires c = omega (arith, c.requires.clause, ap (λ (x : Search). length x.ends) c.self.view_is)

pub overflow_add-place : goal.overflow_add-place
overflow_add-place c =
    let m = net c.self.inside in
    let lits = c.self.inside.arena.literals in
    let places = two_places (search_of c.self.inside) c.args.self.now m.at c.args.clause c.args.one c.args.two _ _ c.self.view_is c.self.invariant.sound.woven.two_each c.requires.clause c.requires.one c.requires.two c.requires.different
    (ap (λ (n : ℕ). n + c.args.one) c.start-from.ensures) (ap (λ (n : ℕ). n + c.args.two) c.start-from.ensures) in
    omega (arith, in_literals m.literals m.ends m.variables c.args.clause (c.start-from.result + c.args.one) c.self.inside.arena.in_order places.0 places.1.one, lits.ok.0, lits.ok.1, lits.small)

pub overflow_add-other : goal.overflow_add-other
overflow_add-other c =
    let m = net c.self.inside in
    let lits = c.self.inside.arena.literals in
    let places = two_places (search_of c.self.inside) c.args.self.now m.at c.args.clause c.args.one c.args.two _ _ c.self.view_is c.self.invariant.sound.woven.two_each c.requires.clause c.requires.one c.requires.two c.requires.different
    (ap (λ (n : ℕ). n + c.args.one) c.start-from.ensures) (ap (λ (n : ℕ). n + c.args.two) c.start-from.ensures) in
    omega (arith, in_literals m.literals m.ends m.variables c.args.clause (c.start-from.result + c.args.two) c.self.inside.arena.in_order places.0 places.1.two, lits.ok.0, lits.ok.1, lits.small)

pub overflow_mul-node : goal.overflow_mul-node
overflow_mul-node c =
    let at = c.self.inside.watches.at in
    omega (arith, c.requires.clause, ap (λ (x : Search). length x.ends) c.self.view_is, c.self.invariant.sound.woven.two_each, at.ok.0, at.ok.1, at.small)

pub literal_at-first-requires : goal.literal_at-first-requires
literal_at-first-requires c =
    let m = net c.self.inside in
    let places = two_places (search_of c.self.inside) c.args.self.now m.at c.args.clause c.args.one c.args.two _ _ c.self.view_is c.self.invariant.sound.woven.two_each c.requires.clause c.requires.one c.requires.two c.requires.different
    (ap (λ (n : ℕ). n + c.args.one) c.start-from.ensures) (ap (λ (n : ℕ). n + c.args.two) c.start-from.ensures) in
    omega (arith, in_literals m.literals m.ends m.variables c.args.clause (c.start-from.result + c.args.one) c.self.inside.arena.in_order places.0 places.1.one, c.self.inside.arena.literals.ok.0)

pub literal_at-second-requires : goal.literal_at-second-requires
literal_at-second-requires c =
    let m = net c.self.inside in
    let places = two_places (search_of c.self.inside) c.args.self.now m.at c.args.clause c.args.one c.args.two _ _ c.self.view_is c.self.invariant.sound.woven.two_each c.requires.clause c.requires.one c.requires.two c.requires.different
    (ap (λ (n : ℕ). n + c.args.one) c.start-from.ensures) (ap (λ (n : ℕ). n + c.args.two) c.start-from.ensures) in
    omega (arith, in_literals m.literals m.ends m.variables c.args.clause (c.start-from.result + c.args.two) c.self.inside.arena.in_order places.0 places.1.two, c.self.inside.arena.literals.ok.0)

pub list_of-requires : goal.list_of-requires
list_of-requires c =
    let m = net c.self.inside in
    let arena = c.self.inside.arena.in_order in
    let place = c.start-from.result + c.args.one in
    let places = two_places (search_of c.self.inside) c.args.self.now m.at c.args.clause c.args.one c.args.two _ _ c.self.view_is c.self.invariant.sound.woven.two_each c.requires.clause c.requires.one c.requires.two c.requires.different
    (ap (λ (n : ℕ). n + c.args.one) c.start-from.ensures) (ap (λ (n : ℕ). n + c.args.two) c.start-from.ensures) in
    let there = in_literals m.literals m.ends m.variables c.args.clause place arena places.0 places.1.one in
    let fits : SFits w64 c.literal_at-first.result = search rules in
    let is : c.literal_at-first.result ≡ value_at m.literals place = c.literal_at-first.ensures in
    simp to_z-of_z (rw is (arena.literal place there).0)

pub list_of-requires-2 : goal.list_of-requires-2
list_of-requires-2 c =
    let m = net c.self.inside in
    let arena = c.self.inside.arena.in_order in
    let place = c.start-from.result + c.args.two in
    let places = two_places (search_of c.self.inside) c.args.self.now m.at c.args.clause c.args.one c.args.two _ _ c.self.view_is c.self.invariant.sound.woven.two_each c.requires.clause c.requires.one c.requires.two c.requires.different
    (ap (λ (n : ℕ). n + c.args.one) c.start-from.ensures) (ap (λ (n : ℕ). n + c.args.two) c.start-from.ensures) in
    let there = in_literals m.literals m.ends m.variables c.args.clause place arena places.0 places.1.two in
    let fits : SFits w64 c.literal_at-second.result = search rules in
    let is : c.literal_at-second.result ≡ value_at m.literals place = c.literal_at-second.ensures in
    simp to_z-of_z (rw is (arena.literal place there).0)

pub write_literal-requires-clause-fits : goal.write_literal-requires-clause-fits
write_literal-requires-clause-fits c =
    let m = net c.self.inside in
    let arena = c.self.inside.arena.in_order in
    let place = c.start-from.result + c.args.one in
    let places = two_places (search_of c.self.inside) c.args.self.now m.at c.args.clause c.args.one c.args.two _ _ c.self.view_is c.self.invariant.sound.woven.two_each c.requires.clause c.requires.one c.requires.two c.requires.different
    (ap (λ (n : ℕ). n + c.args.one) c.start-from.ensures) (ap (λ (n : ℕ). n + c.args.two) c.start-from.ensures) in
    let there = in_literals m.literals m.ends m.variables c.args.clause place arena places.0 places.1.one in
    let fits : SFits w64 c.literal_at-first.result = search rules in
    let is : c.literal_at-first.result ≡ value_at m.literals place = c.literal_at-first.ensures in
    let literal : IsLiteral m.variables c.literal_at-first.result = rw is (arena.literal place there) in
    simp to_z-of_z (omega (arith, literal.1, c.self.inside.arena.small))

pub write_literal-requires-2-clause-fits : goal.write_literal-requires-2-clause-fits
write_literal-requires-2-clause-fits c =
    let m = net c.self.inside in
    let arena = c.self.inside.arena.in_order in
    let place = c.start-from.result + c.args.two in
    let places = two_places (search_of c.self.inside) c.args.self.now m.at c.args.clause c.args.one c.args.two _ _ c.self.view_is c.self.invariant.sound.woven.two_each c.requires.clause c.requires.one c.requires.two c.requires.different
    (ap (λ (n : ℕ). n + c.args.one) c.start-from.ensures) (ap (λ (n : ℕ). n + c.args.two) c.start-from.ensures) in
    let there = in_literals m.literals m.ends m.variables c.args.clause place arena places.0 places.1.two in
    let fits : SFits w64 c.literal_at-second.result = search rules in
    let is : c.literal_at-second.result ≡ value_at m.literals place = c.literal_at-second.ensures in
    let literal : IsLiteral m.variables c.literal_at-second.result = rw is (arena.literal place there) in
    simp to_z-of_z (omega (arith, literal.1, c.self.inside.arena.small))

pub invariant_of-self-2 : goal.invariant_of-self-2
invariant_of-self-2 c =
    let i = c.self.invariant in
    let m = net c.self.inside in
    let arena = c.self.inside.arena.in_order in
    let clause = c.args.clause in
    let one = c.start-from.result + c.args.one in
    let two = c.start-from.result + c.args.two in
    let places = two_places (search_of c.self.inside) c.args.self.now m.at clause c.args.one c.args.two _ _ c.self.view_is i.sound.woven.two_each c.requires.clause c.requires.one c.requires.two c.requires.different
    (ap (λ (n : ℕ). n + c.args.one) c.start-from.ensures) (ap (λ (n : ℕ). n + c.args.two) c.start-from.ensures) in
    let l₁ = c.literal_at-first.result in
    let l₂ = c.literal_at-second.result in
    let fits₁ : SFits w64 l₁ = search rules in
    let fits₂ : SFits w64 l₂ = search rules in
    let is₁ : l₁ ≡ value_at m.literals one = c.literal_at-first.ensures in
    let is₂ : l₂ ≡ value_at m.literals two = c.literal_at-second.ensures in
    let list₁ : c.list_of.result ≡ list_of (value_at m.literals one) = (simp to_z-of_z at c.list_of.ensures) ∙ ap list_of is₁ in
    let list₂ : c.list_of-2.result ≡ list_of (value_at m.literals two) = (simp to_z-of_z at c.list_of-2.ensures) ∙ ap list_of is₂ in
    let none₁ : (j : ℕ) → j < length m.trail → j < c.bound.result → value_at m.trail j ≢ neg_ℤ l₁ = simp to_z-of_z at c.bound.ensures in
    let none₂ : (j : ℕ) → j < length m.trail → j < c.bound-2.result → value_at m.trail j ≢ neg_ℤ l₂ = simp to_z-of_z at c.bound-2.ensures in
    let late : AreLate m.literals m.trail one two c.min-limit.result = record {
      one = λ j k l. subst (λ (z : ℤ). value_at m.trail j ≢ neg_ℤ z) is₁ (none₁ j k (omega (arith, c.min-limit.ensures)));
      two = λ j k l. subst (λ (z : ℤ). value_at m.trail j ≢ neg_ℤ z) is₂ (none₂ j k (omega (arith, c.min-limit.ensures)));
    } in
    let lists : c.add_pair.new.self ≡ added (added m.lists (list_of (value_at m.literals one)) (2 * clause)) (list_of (value_at m.literals two)) (2 * clause + 1) =
    c.in_ok-add_pair.ensures.ok ∙ (ap (λ (n : ℕ). added (added m.lists n (2 * clause)) c.list_of-2.result (2 * clause + 1)) list₁ ∙ ap (λ (n : ℕ). added (added m.lists (list_of (value_at m.literals one)) (2 * clause)) n (2 * clause + 1)) list₂) in
    let copies = c.self.inside.watches.copies.items in
    let written₁ : c.write_literal.new.literals.items ≡ set copies (2 * clause) l₁ = simp to_z-of_z at c.write_literal.ensures in
    let written₂ : c.write_literal-2.new.literals.items ≡ set c.write_literal.new.literals.items (2 * clause + 1) l₂ = simp to_z-of_z at c.write_literal-2.ensures in
    let written : c.write_literal-2.new.literals.items ≡ set (set copies (2 * clause) l₁) (2 * clause + 1) l₂ = written₂ ∙ ap (λ (xs : List ℤ). set xs (2 * clause + 1) l₂) written₁ in
    record {
      variables = i.variables;
      sound = IsSound-attach m clause one two c.min-limit.result c.add_pair.new.self c.lower.new.numbers.items _ arena i.sound places.0 places.1 late lists
          (omega (arith, c.min-self-inside.ensures)) (omega (arith, c.min-self-inside.ensures)) c.lower.ensures.len c.lower.ensures.lowered;
      copied = rw written (IsCopied-attach m.literals m.ends m.at c.self.inside.watches.copies.items clause one two l₁ l₂ places.1 is₁ is₂ i.copied);
      reasoned = reasoned_as (search_of c.self.inside) _ refl refl refl refl i.reasoned;
    }

pub bound-requires : goal.bound-requires
bound-requires c =
    let m = net c.self.inside in
    let arena = c.self.inside.arena.in_order in
    let place = c.start-from.result + c.args.one in
    let places = two_places (search_of c.self.inside) c.args.self.now m.at c.args.clause c.args.one c.args.two _ _ c.self.view_is c.self.invariant.sound.woven.two_each c.requires.clause c.requires.one c.requires.two c.requires.different
    (ap (λ (n : ℕ). n + c.args.one) c.start-from.ensures) (ap (λ (n : ℕ). n + c.args.two) c.start-from.ensures) in
    let there = in_literals m.literals m.ends m.variables c.args.clause place arena places.0 places.1.one in
    let fits : SFits w64 c.literal_at-first.result = search rules in
    let is : c.literal_at-first.result ≡ value_at m.literals place = c.literal_at-first.ensures in
    let literal : IsLiteral m.variables c.literal_at-first.result = rw is (arena.literal place there) in
    simp to_z-of_z (rw c.self.invariant.variables literal)

pub bound-requires-2 : goal.bound-requires-2
bound-requires-2 c =
    let m = net c.self.inside in
    let arena = c.self.inside.arena.in_order in
    let place = c.start-from.result + c.args.two in
    let places = two_places (search_of c.self.inside) c.args.self.now m.at c.args.clause c.args.one c.args.two _ _ c.self.view_is c.self.invariant.sound.woven.two_each c.requires.clause c.requires.one c.requires.two c.requires.different
    (ap (λ (n : ℕ). n + c.args.one) c.start-from.ensures) (ap (λ (n : ℕ). n + c.args.two) c.start-from.ensures) in
    let there = in_literals m.literals m.ends m.variables c.args.clause place arena places.0 places.1.two in
    let fits : SFits w64 c.literal_at-second.result = search rules in
    let is : c.literal_at-second.result ≡ value_at m.literals place = c.literal_at-second.ensures in
    let literal : IsLiteral m.variables c.literal_at-second.result = rw is (arena.literal place there) in
    simp to_z-of_z (rw c.self.invariant.variables literal)
