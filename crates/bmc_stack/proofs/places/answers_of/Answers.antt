use Rattle.std.proofs.Common.{◌≡◌, ◌++◌, ◌∷◌, [], ℕ, List, ap, ◌∙◌, subst, arith}
use Rattle.gate_trait.specs.declared.node.Node.{Node}
use Rattle.gate_trait.proofs.KeptLemmas.{keeps_trans}
use Rattle.gate_matrix.specs.Matrices.{MatrixEntries}
use Rattle.gate_sets.specs.Belonging.{AllLists}
use Rattle.bmc_stack.specs.Steps.{AnswersSets}
use Rattle.bmc_stack.proofs.PlaceLaws.{answered_none, answered_more, answered_all, last_belongs, pair_found}
use Rattle.bmc_stack.proofs.RowLaws.{beside_refl, beside_trans}
use Rattle.gate_trait.proofs.KeptLemmas.{keeps_refl}
use Rattle.bmc_stack.proofs.places.answers_of.Goals as goal

pub loop-place-init : goal.loop-place-init
loop-place-init g c =
    let value = g.G.Gates.node_value in
    let belongs = g.G.Gates.belongs in
    record {
      keeps = keeps_refl belongs value c.args.gates.now;
      stored = c.requires;
      beside = beside_refl c.args.store.now;
      rows = λ rest e. ([], e, answered_none _ _ _ _ _);
    }

pub loop-place-preserved : goal.loop-place-preserved
loop-place-preserved g c =
    let value = g.G.Gates.node_value in
    let belongs = g.G.Gates.belongs in
    let before = c.loop-place.invariant in
    let first = c.args.gates.now in
    let now = c.loop-place.gates in
    let later = c.ask_at.new.gates in
    let more = c.ask_at.ensures.keeps in
    let s = c.args.store.now in
    let step = c.in_ok-ask_at.ensures in
    let pair = c.pair_at-pair.result in
    let here = pair_found c.args.pairs.now c.loop-place.place pair c.loop-place-test.true c.pair_at-pair.ensures in
    record {
      keeps = keeps_trans belongs value first now later before.keeps more;
      stored = step.stored;
      beside = beside_trans s c.loop-place.store c.ask_at.new.store before.beside step.beside;
      rows = λ rest e.
          let r = before.rows rest e in
          let t = step.rows rest r.0 r.1 in
          let a = t.2 in (
            t.0,
            t.1,
            answered_more belongs value c.args.question first now later s.matrices.items c.args.pairs.now r.0 t.0 a.0 c.loop-place.place pair
                before.keeps more c.requires.matrices (last_belongs (belongs now) rest r.0 (subst (λ (rs : List (List Node)). AllLists (belongs now) rs) r.1 before.stored.rows)) here r.2
                (subst (λ (ms : List MatrixEntries). AnswersSets c.args.question (value now) (value later) ms pair a.0) before.beside.matrices a.2) a.1,
          );
    }

pub returns-clause-rows : goal.returns-clause-rows
returns-clause-rows g c = λ rest e.
    let r = c.loop-place.invariant.rows rest e in
    (r.0, r.1, answered_all _ _ _ _ _ c.loop-place.place r.0 (omega (arith, c.loop-place-test.false)) r.2)
