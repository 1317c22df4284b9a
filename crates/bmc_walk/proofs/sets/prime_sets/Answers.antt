use Rattle.std.proofs.Common.{ℕ, List, subst}
use Rattle.core_tree.specs.Trees.{term_of, prime}
use Rattle.bmc_stack.proofs.StoreLaws.{store_kept}
use Rattle.bmc_places.specs.Rounds.{AreNextSets}
use Rattle.bmc_places.proofs.StoreLaws.{extends_refl, extends_trans}
use Rattle.bmc_leaves.proofs.LoopLaws.{chosen_of}
use Rattle.bmc_leaves.proofs.RightLaws.{prime_right}
use Rattle.bmc_walk.specs.Walked.{read_in}
use Rattle.bmc_walk.proofs.WalkLaws.{one_part, are_kept}
use Rattle.bmc_walk.proofs.sets.prime_sets.Goals as goal

pub next_sets-requires-clause-stored : goal.next_sets-requires-clause-stored
next_sets-requires-clause-stored g c = store_kept g.G.Gates.belongs g.G.Gates.node_value c.part_sets.new.gates c.loop_choices.new.gates c.loop_choices.ensures.keeps c.part_sets.new.store c.in_ok-first.ensures.stored

pub returns-clause-extends : goal.returns-clause-extends
returns-clause-extends g c = extends_trans c.args.store.now c.part_sets.new.store c.next_sets.new.store c.in_ok-first.ensures.extends c.in_ok-made.ensures.extends

pub returns-clause-right : goal.returns-clause-right
returns-clause-right g c =
    let value = g.G.Gates.node_value in
    let belongs = g.G.Gates.belongs in
    let ground = c.args.walk.now.ground.now in
    let known = c.args.known.now in
    let e = term_of c.args.a.now in
    let begun = c.part_sets.new.gates in
    let now = c.loop_choices.new.gates in
    let later = c.next_sets.new.gates in
    let b = c.part_sets.new.store in
    let d = c.next_sets.new.store in
    let choices = c.in_ok-choices.choices in
    let first = c.in_ok-first.first.items in
    let made = c.in_ok-made.made.items in
    let next = subst (λ (xs : List ℕ). AreNextSets (value now) (value later) b.matrices.items d.matrices.items ground.setting.frame.now choices xs made) c.deref.ensures.value c.in_ok-made.ensures.next in
    one_part belongs value ground known c.args.gates.now begun later c.args.store.now.matrices.items b.matrices.items d.matrices.items e (prime e) first made
    (λ n le. le) c.in_ok-first.ensures.right
    (λ n ok le right.
    let r = read_in ground known n in
    let here = are_kept belongs value ground known begun now c.loop_choices.ensures.keeps b b c.in_ok-first.ensures.stored (extends_refl b) r e first right in
    prime_right r (value now) (value later) b.matrices.items d.matrices.items e first made ok le here
    (λ s i j p at is stands. (let (m, there, means) = next s i j p at is stands in (m, there, λ x shown. means x (chosen_of r (value now) choices x s c.in_ok-choices.ensures.choices shown)))))
