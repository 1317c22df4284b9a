use Rattle.std.proofs.Common.{◌≡◌, ◌++◌, ◌∷◌, [], ℕ, List, length, ap, ◌∙◌, subst, arith}
use Rattle.gate_trait.specs.declared.node.Node.{Node}
use Rattle.gate_matrix.specs.Matrices.{MatrixEntries}
use Rattle.bmc_stack.specs.Steps.{AllAnswered}
use Rattle.bmc_stack.specs.Rows.{IsSpread}
use Rattle.bmc_stack.proofs.PlaceLaws.{answered_at}
use Rattle.bmc_stack.proofs.RowLaws.{no_nodes}
use Rattle.bmc_stack.proofs.places.asked.Goals as goal

pub returns-clause-sets : goal.returns-clause-sets
returns-clause-sets g c = λ of is.
    let value = g.G.Gates.node_value in
    let old = c.args.store.now in
    let p = c.in_ok-push_constant.ensures.pushed in
    let none : p.0 ≡ [] = no_nodes p.0 p.2.long in
    let r = c.in_ok-answers_of.ensures.rows old.rows.items (p.1.rows ∙ ap (λ (row : List Node). old.rows.items ++ row ∷ []) none) in
    let s = c.in_ok-spread_top.ensures.rows old.rows.items r.0 r.1 in
    let pairs = c.in_ok-pairs.pairs.pairs.items in
    let which = c.in_ok-pairs.pairs.row.items in
    let one : c.deref.result.now ≡ pairs = cc in
    let two : c.deref-2.result.now ≡ which = cc in
    let first = value c.args.gates.now in
    let later = value c.answers_of.new.gates in (
      s.0,
      s.1,
      answered_at of c.args.question first later old.matrices.items c.args.a.now c.args.b.now pairs which r.0 s.0 is c.in_ok-pairs.ensures
          (subst (λ (ps : List (ℕ × ℕ)). AllAnswered c.args.question first later old.matrices.items ps r.0) one (subst (λ (ms : List MatrixEntries). AllAnswered c.args.question first later ms c.deref.result.now r.0) p.1.matrices r.2))
          (subst (λ (ws : List ℕ). IsSpread later r.0 ws s.0) two s.2),
    )
