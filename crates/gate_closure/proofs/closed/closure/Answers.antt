use Rattle.std.proofs.Common.{◌≡◌, ◌↔◌, ◌≤◌, true, sym, ap, subst, ◌∙◌, arith}
use Rattle.gate_trait.proofs.KeptLemmas.{keeps_refl}
use Rattle.gate_matrix.specs.Matrices.{MatrixEntries, AllBelong, truth}
use Rattle.gate_matrix.proofs.BasicLemmas.{keeps_trans}
use Rattle.gate_closure.proofs.WalkLaw.{one_step, pairs_wide, squared_truth, closed_truth}
use Rattle.gate_closure.specs.Walks.{IsReachedWithin}
use Rattle.gate_closure.proofs.closed.closure.Goals as goal

pub loop-steps-init : goal.loop-steps-init
loop-steps-init g c =
    let value = g.G.Gates.node_value in
    let belongs = g.G.Gates.belongs in
    let first = c.args.gates.now in
    let a = c.args.a.now in
    let same = c.in_ok-pairs.ensures in
    record {
      keeps = keeps_refl belongs value first;
      belongs = subst (λ (m : MatrixEntries). AllBelong (belongs first) m.entries) (sym same) c.requires.belongs;
      arity = ap (λ (m : MatrixEntries). m.arity) same ∙ c.requires.columns;
      least = omega arith;
      most = omega arith;
      limit = omega (arith, c.from-limit.ensures, c.ranges.atoms.fits);
      truth = λ x t. subst (λ (m : MatrixEntries). (truth (value first x) m t ≡ true) ↔ IsReachedWithin (value first x) a 1 t) (sym same) (one_step (value first x) a t (pairs_wide (value first x) a c.arity.ensures.matrix c.requires.columns));
    }

pub loop-steps-preserved : goal.loop-steps-preserved
loop-steps-preserved g c =
    let value = g.G.Gates.node_value in
    let before = c.loop-steps.invariant in
    let first = c.args.gates.now in
    let now = c.loop-steps.gates in
    let later = c.doubled.new.gates in
    record {
      keeps = keeps_trans g.G.Gates.belongs value first now later before.keeps c.doubled.ensures.keeps;
      belongs = c.in_ok-pairs-2.ensures.belongs;
      arity = c.in_ok-pairs-2.ensures.arity;
      least = omega arith;
      most = omega arith;
      limit = before.limit;
      truth = λ x. squared_truth (value first x) (value now x) (value later x) c.args.a.now c.loop-steps.pairs c.in_ok-pairs-2.pairs c.loop-steps.steps before.least (before.truth x) (c.in_ok-pairs-2.ensures.truth x);
    }

pub returns-clause-truth : goal.returns-clause-truth
returns-clause-truth g c =
    let value = g.G.Gates.node_value in
    let enough : c.args.atoms ≤ c.loop-steps.steps = omega (arith, c.from-limit.ensures) in
    λ x t. closed_truth (value c.args.gates.now x) (value c.loop-steps.gates x) c.args.a.now c.loop-steps.pairs c.args.atoms c.loop-steps.steps c.requires.numbers enough (λ u. c.loop-steps.invariant.truth x u) t
