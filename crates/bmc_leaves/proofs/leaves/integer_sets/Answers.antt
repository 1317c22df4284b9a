use Rattle.std.proofs.Common.{◌≡◌, ◌∙◌, ◌+◌, ◌^◌, ℕ, length, replicate, ap, arith}
use Rattle.core_meaning.specs.Kept.{atom_count}
use Rattle.bmc_leaves.specs.Relations.{reading_of}
use Rattle.bmc_leaves.proofs.KeptLaws.{added_grows}
use Rattle.bmc_leaves.proofs.LeafLaws.{ints_right}
use Rattle.bmc_leaves.proofs.leaves.integer_sets.Goals as goal

pub returns-clause-grows : goal.returns-clause-grows
returns-clause-grows g c = added_grows c.args.store.now c.one_set.new.store _ c.in_ok-row.ensures.added

pub returns-clause-of : goal.returns-clause-of
returns-clause-of g c = λ depth ok.
    let r = reading_of c.args.setting.now depth in
    let shown = c.args.setting.now.frame.now.shown.items in
    let before = c.args.store.now.matrices.items in
    let scopes = c.args.setting.now.scopes.now in
    let universe = c.args.setting.now.universe in
    let long : c.len-count.result ≡ length shown = omega (arith, c.len-count.ensures, c.args.setting.now.frame.now.shown.ok.0) in
    let valid = ok.universe.valid in
    let integers = c.integer_count-integers.ensures valid.most in
    let few = valid.numbers in
    let end : c.saturating_add-end.result ≡ universe.atoms + 2 ^ universe.bits = omega (arith, c.saturating_add-end.ensures, integers, few) in
    ints_right r ok (g.G.Gates.node_value c.args.gates.now) before c.one_set.new.store.matrices.items _ c.in_ok-row.row.items universe.atoms c.saturating_add-end.result
    ok.universe.atoms (end ∙ ap (λ (n : ℕ). n + 2 ^ universe.bits) ok.universe.atoms ∙ ap (λ (b : ℕ). atom_count scopes.numbers + 2 ^ b) ok.universe.bits)
    c.in_ok-row.ensures.added.matrices (c.in_ok-row.ensures.numbers ∙ ap (λ (n : ℕ). replicate n (length before)) long) c.in_ok-matrix.ensures.means
