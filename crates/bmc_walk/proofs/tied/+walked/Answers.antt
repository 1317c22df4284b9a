use Rattle.std.proofs.Common.{arith}
use Rattle.bmc_places.proofs.StoreLaws.{cut_extended, stays_extends}
use Rattle.bmc_walk.proofs.tied.+walked.Goals as goal

pub returns-in_ok-sets-in-Sets-clause-answers : goal.returns-in_ok-sets-in-Sets-clause-answers
returns-in_ok-sets-in-Sets-clause-answers g t c = rw c.in-Sets.is c.in_ok-sets-in-Sets.ensures.right

pub returns-in_ok-made-in-Integers-clause-answers : goal.returns-in_ok-made-in-Integers-clause-answers
returns-in_ok-made-in-Integers-clause-answers g t c = rw c.in-Integers.is c.in_ok-made-in-Integers.ensures.right

pub returns-in_ok-row-in-Holds-clause-extends : goal.returns-in_ok-row-in-Holds-clause-extends
returns-in_ok-row-in-Holds-clause-extends g t c =
    let s = c.args.store.now in
    stays_extends s c.cut_to.new.store (cut_extended s c.row_once.new.store c.cut_to.new.store c.len-matrices.result c.len-integers.result (omega (arith, c.len-matrices.ensures, s.matrices.ok.0)) (omega (arith, c.len-integers.ensures, s.integers.ok.0)) c.in_ok-row-in-Holds.ensures.extends c.cut_to.ensures.matrices c.cut_to.ensures.integers)

pub returns-in_ok-row-in-Holds-clause-answers : goal.returns-in_ok-row-in-Holds-clause-answers
returns-in_ok-row-in-Holds-clause-answers g t c =
    let s = c.args.store.now in
    rw c.in-Holds.is (
      cut_extended s c.row_once.new.store c.cut_to.new.store c.len-matrices.result c.len-integers.result (omega (arith, c.len-matrices.ensures, s.matrices.ok.0)) (omega (arith, c.len-integers.ensures, s.integers.ok.0)) c.in_ok-row-in-Holds.ensures.extends c.cut_to.ensures.matrices c.cut_to.ensures.integers,
      c.in_ok-row-in-Holds.ensures.belongs,
      c.in_ok-row-in-Holds.ensures.right,
    )
