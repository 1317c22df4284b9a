use Rattle.std.proofs.Common.{◌≡◌, ◌∙◌, ℕ, length, replicate, ap, arith}
use Rattle.bmc_leaves.specs.Relations.{reading_of}
use Rattle.bmc_leaves.specs.Shown.{under}
use Rattle.bmc_leaves.proofs.KeptLaws.{added_grows}
use Rattle.bmc_leaves.proofs.RightLaws.{ok_under, name_right}
use Rattle.bmc_leaves.proofs.leaves.name_sets.Goals as goal

pub returns-clause-grows : goal.returns-clause-grows
returns-clause-grows g c = added_grows c.args.store.now c.one_set.new.store _ c.in_ok-row.ensures.added

pub returns-clause-right : goal.returns-clause-right
returns-clause-right g c = λ depth atoms x ok same.
    let r = reading_of c.args.setting.now depth in
    let shown = c.args.setting.now.frame.now.shown.items in
    let before = c.args.store.now.matrices.items in
    let long : c.len-count.result ≡ length shown = omega (arith, c.len-count.ensures, c.args.setting.now.frame.now.shown.ok.0) in
    name_right (under r atoms) (ok_under r atoms ok) (g.G.Gates.node_value c.args.gates.now) before c.one_set.new.store.matrices.items _ c.args.atom x c.in_ok-row.row.items
    c.in_ok-row.ensures.added.matrices (c.in_ok-row.ensures.numbers ∙ ap (λ (n : ℕ). replicate n (length before)) long) c.in_ok-matrix.ensures.means same
