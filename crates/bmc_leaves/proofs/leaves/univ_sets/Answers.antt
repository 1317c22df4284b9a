use Rattle.std.proofs.Common.{◌≡◌, List, length, ap, arith}
use Rattle.gate_trait.proofs.KeptLemmas.{keeps_refl, keeps_trans}
use Rattle.core_meaning.specs.declared.scopes.SigScope.{SigScope}
use Rattle.bmc_leaves.proofs.KeptLaws.{grows_trans}
use Rattle.bmc_leaves.specs.Relations.{reading_of}
use Rattle.bmc_leaves.proofs.LeafLaws.{begin_univ, end_univ}
use Rattle.bmc_leaves.proofs.leaves.univ_sets.Goals as goal

pub loop-number-init : goal.loop-number-init
loop-number-init g c =
    let value = g.G.Gates.node_value in
    record {
      keeps = keeps_refl g.G.Gates.belongs value c.args.gates.now;
      stored = c.in_ok-all.ensures.stored;
      grows = c.in_ok-all.ensures.grows;
      all = λ depth ok. begin_univ (reading_of c.args.setting.now depth) (value c.args.gates.now) c.integer_sets.new.store.matrices.items c.in_ok-all.all.items (c.in_ok-all.ensures.of depth ok);
    }

pub loop-number-preserved : goal.loop-number-preserved
loop-number-preserved g c =
    let before = c.loop-number.invariant in
    let step = c.in_ok-all-2.ensures in
    record {
      keeps = keeps_trans g.G.Gates.belongs g.G.Gates.node_value c.args.gates.now c.loop-number.gates c.with_top.new.gates before.keeps c.with_top.ensures.keeps;
      stored = step.stored;
      grows = grows_trans c.args.store.now c.loop-number.store c.with_top.new.store before.grows step.grows;
      all = λ depth ok. step.more depth ok (before.all depth ok);
    }

pub returns-clause-of : goal.returns-clause-of
returns-clause-of g c = λ depth ok.
    let same : c.as_slice-sigs.result.now ≡ c.args.setting.now.scopes.now.numbers = cc in
    let long = ap (λ (ns : List SigScope). length ns) same in
    let end : c.loop-number.number ≡ length c.args.setting.now.scopes.now.numbers = omega (arith, long, c.loop-number-test.false, c.loop-number.auto.number-end) in
    end_univ (reading_of c.args.setting.now depth) (g.G.Gates.node_value c.loop-number.gates) c.loop-number.store.matrices.items c.loop-number.all.items c.loop-number.number end (c.loop-number.invariant.all depth ok)
