use Rattle.std.proofs.Common.{◌≡◌, ◌∙◌, ℕ, List, length, ap, sym, subst, arith}
use Rattle.bmc_windows.specs.declared.frame.Frame.{Frame}
use Rattle.bmc_stack.proofs.StoreLaws.{store_kept}
use Rattle.core_tree.specs.Trees.{term_of, compare}
use Rattle.bmc_places.specs.Numbers.{AreCompared}
use Rattle.bmc_places.proofs.StoreLaws.{extends_trans}
use Rattle.bmc_walk.proofs.NumberLaws.{two_compared, compare_right}
use Rattle.bmc_walk.proofs.integers.compare_row.Goals as goal

pub returns-clause-right : goal.returns-clause-right
returns-clause-right g c =
    let value = g.G.Gates.node_value in
    let belongs = g.G.Gates.belongs in
    let ground = c.args.walk.now.ground.now in
    let known = c.args.known.now in
    let b = c.part_integers.new.store in
    let d = c.part_integers-2.new.store in
    let old = value c.part_integers-2.new.gates in
    let new = value c.compared_row.new.gates in
    let op = c.args.op in
    let many = c.len-count.result in
    let first = c.in_ok-first.first.items in
    let second = c.in_ok-second.second.items in
    let row = c.in_ok-row.row in
    let x = term_of c.args.a.now in
    let y = term_of c.args.b.now in
    let many_is : many ≡ length ground.setting.frame.now.shown.items = omega (arith, c.len-count.ensures, ground.setting.frame.now.shown.ok.0) in
    let are = subst (λ (xs : List ℕ). AreCompared op old new d.integers.items xs second many row) c.deref.ensures.value
    (subst (λ (ys : List ℕ). AreCompared op old new d.integers.items c.deref.result.now ys many row) c.deref-2.ensures.value c.in_ok-row.ensures.compared) in
    two_compared belongs value ground known c.args.gates.now c.part_integers.new.gates c.part_integers-2.new.gates c.compared_row.new.gates c.args.store.now b d x y (compare op x y) first second row
    c.part_integers.ensures.keeps c.part_integers-2.ensures.keeps c.requires.stored c.in_ok-first.ensures.stored c.in_ok-first.ensures.extends c.in_ok-second.ensures.extends
    (λ n le. le) c.in_ok-first.ensures.right c.in_ok-second.ensures.right
    (λ r ok frame left right. compare_right r old new d.integers.items op x y first second many row ok (many_is ∙ ap (λ (f : Frame). length f.shown.items) (sym frame)) left right are)

pub returns-clause-stored : goal.returns-clause-stored
returns-clause-stored g c = store_kept g.G.Gates.belongs g.G.Gates.node_value c.part_integers-2.new.gates c.compared_row.new.gates c.compared_row.ensures.keeps c.part_integers-2.new.store c.in_ok-second.ensures.stored

pub returns-clause-extends : goal.returns-clause-extends
returns-clause-extends g c = extends_trans c.args.store.now c.part_integers.new.store c.part_integers-2.new.store c.in_ok-first.ensures.extends c.in_ok-second.ensures.extends
