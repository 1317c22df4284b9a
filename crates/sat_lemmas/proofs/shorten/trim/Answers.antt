use Rattle.std.proofs.Common.{◌≡◌, sym, subst, take, List, true}
use Rattle.std.specs.List.{list_any}
use Rattle.sat_lrat.specs.declared.line.Line.{Line}
use Rattle.sat_lrat.specs.Step.{Refutes, is_empty_lemma}
use Rattle.sat_lemmas.specs.Kept.{ArePart}
use Rattle.sat_lemmas.proofs.Keeping.{front_refutes, part_taken, part_few, part_same}
use Rattle.sat_lemmas.proofs.shorten.trim.Goals as goal

pub returns-clause-refutes : goal.returns-clause-refutes
returns-clause-refutes c = λ refutes.
    let lines = c.args.lines in
    let count = c.in-Some.count in
    let empty : list_any is_empty_lemma (take count lines) ≡ true = subst (λ (ls : List Line). list_any is_empty_lemma (take count ls) ≡ true) c.lines.ensures c.in-Some.ensures.empty in
    c.in_ok-rest.ensures.refutes c.args.cnf.now.clauses (sym c.len.ensures)
    (subst (λ (ls : List Line). Refutes c.args.cnf.now.clauses ls) (sym c.truncate.ensures) (front_refutes c.args.cnf.now.clauses lines count empty refutes))

pub returns-clause-part : goal.returns-clause-part
returns-clause-part c =
    part_taken c.in_ok-rest.rest c.args.lines c.in-Some.count (subst (λ (ls : List Line). ArePart c.in_ok-rest.rest ls) c.truncate.ensures c.in_ok-rest.ensures.part)

pub returns-clause-few : goal.returns-clause-few
returns-clause-few c = part_few c.in_ok-rest.rest c.args.lines (returns-clause-part c)

pub returns-in_default-clause-part : goal.returns-in_default-clause-part
returns-in_default-clause-part c = part_same c.args.lines
