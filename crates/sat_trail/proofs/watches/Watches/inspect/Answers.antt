use Rattle.std.proofs.Common.{◌≡◌, ◌<◌, ◌/◌, ◌∙◌, ⊎_elim, sym, refl, length, get_or, subst, neg_ℤ, rules, arith, w64, SFits}
use Rattle.std.specs.List.{Contains}
use Rattle.std.proofs.lemmas.Int.{to_z-of_z}
use Rattle.std.proofs.lemmas.List.{get_or_default}
use Rattle.std.proofs.lemmas.Bool.{false≢true}
use Rattle.sat_trail.specs.Assignment.{value_at}
use Rattle.sat_trail.specs.Watched.{sibling}
use Rattle.sat_trail.proofs.Weaving.{sibling_in_clause}
use Rattle.sat_trail.proofs.Copying.{sibling_beside, copy_of_sibling}
use Rattle.sat_trail.proofs.watches.Watches.inspect.Goals as goal

pub literal_at-other-requires : goal.literal_at-other-requires
literal_at-other-requires c =
    let beside = sibling_beside c.args.node (length c.args.arena.now.ends.items) (omega (arith, c.requires.two_each, c.requires.in_range)) in
    omega (arith, beside.0, c.other_node.ensures, c.requires.two_each, c.requires.copied.same_length, c.args.self.now.copies.ok.0)

pub is_true-requires : goal.is_true-requires
is_true-requires c =
    let literal_fits : SFits w64 c.literal_at-other.result = search rules in
    let other = copy_of_sibling _ _ _ _ _ c.args.node _ c.literal_at-other.result c.args.arena.now.in_order c.requires.copied c.requires.two_each c.requires.in_range c.requires.pair c.other_node.ensures c.literal_at-other.ensures in
    simp to_z-of_z (rw c.requires.variables other.1)

pub is_false-requires : goal.is_false-requires
is_false-requires c =
    let literal_fits : SFits w64 c.literal_at-other.result = search rules in
    let other = copy_of_sibling _ _ _ _ _ c.args.node _ c.literal_at-other.result c.args.arena.now.in_order c.requires.copied c.requires.two_each c.requires.in_range c.requires.pair c.other_node.ensures c.literal_at-other.ensures in
    simp to_z-of_z (rw c.requires.variables other.1)

pub returns-then-is_false : goal.returns-then-is_false
returns-then-is_false c =
    let literal_fits : SFits w64 c.literal_at-other.result = search rules in
    let closed = simp to_z-of_z at (c.find_open-place.ensures.closed (omega (arith, c.find_open-place.ensures.within.1, c.if-place-last.false))) in
    let is_false = simp to_z-of_z at (c.if-is_false.ensures.0 refl) in
    let in_ends : c.args.node / 2 < length c.args.arena.now.ends.items = omega (arith, c.requires.two_each, c.requires.in_range) in
    let last = c.index.ensures ∙ get_or_default c.args.arena.now.ends.items (c.args.node / 2) c.index.result.now 0 in_ends in
    λ p h. ⊎_elim (λ (e : value_at c.args.arena.now.literals.items p ≡ c.literal_at-other.result). rw e is_false)
    (λ (f : Contains c.args.assigned.now.trail (neg_ℤ (value_at c.args.arena.now.literals.items p))). f)
    (closed p (omega (arith, c.start.ensures, h.0)) (omega (arith, last, h.1, c.if-place-last.false)))

pub returns : goal.returns
returns c =
    let literal_fits : SFits w64 c.literal_at-other.result = search rules in
    let closed = simp to_z-of_z at (c.find_open-place.ensures.closed (omega (arith, c.find_open-place.ensures.within.1, c.if-place-last.false))) in
    let in_ends : c.args.node / 2 < length c.args.arena.now.ends.items = omega (arith, c.requires.two_each, c.requires.in_range) in
    let last = c.index.ensures ∙ get_or_default c.args.arena.now.ends.items (c.args.node / 2) c.index.result.now 0 in_ends in
    let other = copy_of_sibling _ _ _ _ _ c.args.node _ c.literal_at-other.result c.args.arena.now.in_order c.requires.copied c.requires.two_each c.requires.in_range c.requires.pair c.other_node.ensures c.literal_at-other.ensures in
    simp to_z-of_z (
      other.0,
      (λ h. false≢true (c.if-is_true.ensures.1 (simp to_z-of_z h))),
      (λ h. false≢true (c.if-is_false.ensures.1 (simp to_z-of_z h))),
      (λ p h. closed p (omega (arith, c.start.ensures, h.0)) (omega (arith, last, h.1, c.if-place-last.false))),
    )

pub returns-then-place-last : goal.returns-then-place-last
returns-then-place-last c =
    let literal_fits : SFits w64 c.literal_at-other.result = search rules in
    let in_ends : c.args.node / 2 < length c.args.arena.now.ends.items = omega (arith, c.requires.two_each, c.requires.in_range) in
    let other = copy_of_sibling _ _ _ _ _ c.args.node _ c.literal_at-other.result c.args.arena.now.in_order c.requires.copied c.requires.two_each c.requires.in_range c.requires.pair c.other_node.ensures c.literal_at-other.ensures in
    let last = c.index.ensures ∙ get_or_default c.args.arena.now.ends.items (c.args.node / 2) c.index.result.now 0 in_ends in
    let unlike = simp to_z-of_z at (c.find_open-place.ensures.unlike c.if-place-last.true) in
    ((omega (arith, c.start.ensures, c.find_open-place.ensures.within.0), omega (arith, last, c.if-place-last.true)), (λ e. unlike (e ∙ sym other.0)), c.find_open-place.ensures.not_false c.if-place-last.true)

pub returns-then-is_true : goal.returns-then-is_true
returns-then-is_true c =
    let literal_fits : SFits w64 c.literal_at-other.result = search rules in
    let other = copy_of_sibling _ _ _ _ _ c.args.node _ c.literal_at-other.result c.args.arena.now.in_order c.requires.copied c.requires.two_each c.requires.in_range c.requires.pair c.other_node.ensures c.literal_at-other.ensures in
    let true_now = simp to_z-of_z at (c.if-is_true.ensures.0 refl) in
    (get_or c.args.self.now.at.items (sibling c.args.node) 0, sibling_in_clause _ _ _ c.args.node c.requires.pair, subst (Contains c.args.assigned.now.trail) other.0 true_now)
