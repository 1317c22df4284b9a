use Rattle.std.proofs.Common.{◌≡◌, sym, ap, ◌∙◌, subst, List, Bool, true}
use Rattle.sat_lrat.specs.declared.line.Line.{Line}
use Rattle.sat_lrat.specs.Step.{Refutes}
use Rattle.sat_lemmas.specs.Kept.{is_marked, are_right, kept, ArePart}
use Rattle.sat_lemmas.proofs.Keeping.{kept_refutes, part_kept, part_same}
use Rattle.sat_lemmas.proofs.shorten.needed.Goals as goal

pub returns-clause-refutes : goal.returns-clause-refutes
returns-clause-refutes c = λ formula same refutes.
    let lines = c.args.lines in
    let marks = c.deref.result.now in
    let marked : c.deref-2.result.now ≡ marks = c.deref-2.ensures.value ∙ sym c.deref.ensures.value in
    let right : are_right c.args.clauses (is_marked marks) 0 lines ≡ true =
    subst (λ (ls : List Line). are_right c.args.clauses (is_marked marks) 0 ls ≡ true) c.lines-3.ensures (sym c.are_right.ensures ∙ c.if-not-are_right.false) in
    let rest : c.in_ok-rest.rest ≡ kept (is_marked marks) 0 lines = c.in_ok-rest.ensures ∙ ap (λ (m : List Bool). kept (is_marked m) 0 lines) marked in
    subst (λ (r : List Line). Refutes formula r) (sym rest)
    (kept_refutes (is_marked marks) formula lines (subst (λ n. are_right n (is_marked marks) 0 lines ≡ true) (sym same) right) refutes)

pub returns-clause-part : goal.returns-clause-part
returns-clause-part c =
    subst (λ (r : List Line). ArePart r c.args.lines) (sym c.in_ok-rest.ensures) (part_kept (is_marked c.deref-2.result.now) c.args.lines 0)

pub returns-then-not-are_right-clause-part : goal.returns-then-not-are_right-clause-part
returns-then-not-are_right-clause-part c = part_same c.args.lines
