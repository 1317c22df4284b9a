use Rattle.std.proofs.Common.{ℕ, ◌≡◌, ◌∷◌, ◌++◌, [], set, length, true, sym, subst, rules, w64, SFits}
use Rattle.std.proofs.lemmas.Int.{to_z-of_z}
use Rattle.sat_trail.specs.Literal.{index, IsLiteral}
use Rattle.sat_analysis.specs.Noted.{Notes, HasVariable, IsNoted}
use Rattle.sat_analysis.proofs.Noting.{noted_push}
use Rattle.sat_analysis.proofs.noted.Noted.add.Goals as goal

pub invariant_of-self-2 : goal.invariant_of-self-2
invariant_of-self-2 c =
    let literal_fits : SFits w64 c.args.literal = c.ranges.literal in
    let at : c.index.result ≡ index c.args.literal = simp to_z-of_z at c.index.ensures.value in
    let items : c.push.new.self.items ≡ c.self.inside.items.items ++ c.args.literal ∷ [] = search rules in
    let literal : IsLiteral (length c.self.inside.marks.items) c.args.literal = subst (λ (n : Notes). IsLiteral n.variables c.args.literal) (sym c.self.view_is) c.requires.literal in
    let fresh : HasVariable c.self.inside.items.items (index c.args.literal) → ⊥ = subst (λ (n : Notes). HasVariable n.literals (index c.args.literal) → ⊥) (sym c.self.view_is) c.requires.fresh in
    let pushed = noted_push c.self.inside.marks.items c.self.inside.items.items c.args.literal c.self.invariant literal fresh in
    subst (λ (i : ℕ). IsNoted (set c.self.inside.marks.items i true) c.push.new.self.items) (sym at) (subst (IsNoted (set c.self.inside.marks.items (index c.args.literal) true)) (sym items) pushed)
