use Rattle.std.proofs.Common.{sym, subst}
use Rattle.bmc_leaves.specs.Relations.{reading_of}
use Rattle.bmc_walk.specs.declared.walk.Ready.{Ready}
use Rattle.bmc_walk.specs.Walked.{AreReady}
use Rattle.bmc_walk.proofs.whole.first_row.Goals as goal

pub returns-clause-belongs : goal.returns-clause-belongs
returns-clause-belongs g c = (let h = rw c.in-Row.is at c.in_ok-answer.ensures.answers in h.1)

pub returns-clause-right : goal.returns-clause-right
returns-clause-right g c = λ depth ok le. (let h = rw c.in-Row.is at c.in_ok-answer.ensures.answers in
    h.2.right depth (record {
      reading = ok;
      kept = c.in_ok-kept.ensures.kept depth ok;
      ready = subst (λ (all : Ready). AreReady (reading_of c.args.setting.now depth) (g.G.Gates.node_value c.kept_of.new.gates) c.kept_of.new.store.matrices.items depth all) (sym c.requires) tt;
    }) le)
