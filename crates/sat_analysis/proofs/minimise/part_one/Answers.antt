use Rattle.std.proofs.Common.{◌≡◌, ◌++◌, ◌∷◌, [], rules, arith, w64, SFits}
use Rattle.std.proofs.lemmas.Int.{to_z-of_z}
use Rattle.sat_analysis.proofs.Taking.{high_step, kept_step, lost_step, low_step, has_step, same_longer}
use Rattle.sat_analysis.proofs.minimise.part_one.Goals as goal

pub returns-then-level_of-top-clause-parted : goal.returns-then-level_of-top-clause-parted
returns-then-level_of-top-clause-parted c = λ first before all h.
    let literal_fits : SFits w64 c.literal-literal.result = search rules in
    let level_is = simp to_z-of_z at c.level_of.ensures in
    high_step c.args.trail.now first c.args.place c.args.noted.now.literals c.args.learnt.now.items c.args.dropped.now.items c.literal-literal.result c.level_of.result c.literal-literal.ensures.value level_is
    (omega (arith, c.if-level_of-top.true, c.top.ensures)) h

pub is_forced-requires-clause-low : goal.is_forced-requires-clause-low
is_forced-requires-clause-low c =
    let literal_fits : SFits w64 c.literal-literal.result = search rules in
    let level_is = simp to_z-of_z at c.level_of.ensures in
    simp to_z-of_z (low_step c.args.trail.now c.args.noted.now.literals c.args.place c.literal-literal.result c.level_of.result c.requires.trail c.requires.fails c.requires.within c.literal-literal.ensures.value level_is
    (omega (arith, c.if-level_of-top.false, c.top.ensures)))

pub is_forced-requires-clause-has : goal.is_forced-requires-clause-has
is_forced-requires-clause-has c =
    let literal_fits : SFits w64 c.literal-literal.result = search rules in
    simp to_z-of_z (has_step c.args.noted.now.literals c.args.place c.literal-literal.result c.requires.within c.literal-literal.ensures.value)

pub returns-then-branch-clause-longer : goal.returns-then-branch-clause-longer
returns-then-branch-clause-longer c = (c.in_ok-is_forced.ensures.spread c.if-branch.true).longer

pub returns-then-branch-clause-parted : goal.returns-then-branch-clause-parted
returns-then-branch-clause-parted c = λ first before all h.
    let literal_fits : SFits w64 c.literal-literal.result = search rules in
    let spread = simp to_z-of_z at (c.in_ok-is_forced.ensures.spread c.if-branch.true) in
    let pushed : c.push.new.self.items ≡ c.args.dropped.now.items ++ c.literal-literal.result ∷ [] = search rules in
    lost_step c.args.trail.now first c.args.place c.args.noted.now.literals c.is_forced.new.noted.literals c.args.learnt.now.items c.args.dropped.now.items c.push.new.self.items c.literal-literal.result c.literal-literal.ensures.apart before all
    c.literal-literal.ensures.value spread pushed h

pub returns-clause-longer : goal.returns-clause-longer
returns-clause-longer c = same_longer c.args.noted.now.literals c.is_forced.new.noted.literals (c.in_ok-is_forced.ensures.same c.if-branch.false)

pub returns-clause-parted : goal.returns-clause-parted
returns-clause-parted c = λ first before all h.
    let literal_fits : SFits w64 c.literal-literal.result = search rules in
    let level_is = simp to_z-of_z at c.level_of.ensures in
    let pushed : c.push-2.new.self.items ≡ c.args.learnt.now.items ++ c.literal-literal.result ∷ [] = search rules in
    kept_step c.args.trail.now first c.args.place c.args.noted.now.literals c.is_forced.new.noted.literals c.args.learnt.now.items c.push-2.new.self.items c.args.dropped.now.items c.literal-literal.result c.level_of.result
    c.literal-literal.ensures.apart c.requires.within c.literal-literal.ensures.value level_is (omega (arith, c.if-level_of-top.false, c.top.ensures)) (c.in_ok-is_forced.ensures.same c.if-branch.false) pushed h
