use Rattle.std.proofs.Common.{subst}
use Rattle.sat_solver.specs.News.{AreAllFilled}
use Rattle.answer_search.proofs.written.clauses_of.Goals as goal
use Rattle.answer_search.proofs.SayLaw.{say_target}
use Rattle.answer_search.proofs.StandsLaw.{TableLaws}

pub returns-clause-filled : goal.returns-clause-filled
returns-clause-filled c = subst AreAllFilled c.clauses-list.ensures (c.are_filled-filled.ensures c.if-not-filled.false)

pub returns-clause-says : goal.returns-clause-says
returns-clause-says c laid =
    let laws : TableLaws = record {
      told = c.candidates_are_told.ensures;
      one_loop = c.values_tell.ensures.one_loop;
      agreeing = c.values_tell.ensures.decoded;
      alike = c.values_tell.ensures.alike;
      candidates = c.one_lasso_is_decoded.ensures.candidate;
      agree = c.one_lasso_is_decoded.ensures.agrees;
    } in
    say_target c.args.target.now c.args.bounds.now c.args.table.now c.circuit_of.new.store c.in_ok-circuit.circuit.sure c.in_ok-circuit.circuit.roots c.in_ok-cnf.cnf c.in_ok-cnf.ensures.written
    (c.has_inputs-whole.ensures c.if-not-whole.false) laid c.in_ok-circuit.ensures.says c.have_sets.ensures c.naming_is_decided.ensures laws
