use Rattle.std.proofs.Common.{◌≡◌, ◌∙◌, ℕ, ℤ, List, sym, subst}
use Rattle.std.specs.List.{All}
use Rattle.sat_dimacs.specs.Literal.{IsWithin}
use Rattle.sat_trail.specs.Literal.{IsLiteral}
use Rattle.sat_lrat.specs.declared.line.Line.TheVariants.{Lemma}
use Rattle.sat_solver.proofs.Sharing.{within_literals, back_within, lemma_passes, taken_passes}
use Rattle.sat_solver.proofs.Covering.{indexed_added}
use Rattle.sat_solver.proofs.Searching.{learnt_as, taken_more, kept_whole, kept, kept_fewer}
use Rattle.sat_solver.specs.Covered.{HasNoPart}
use Rattle.sat_solver.proofs.round.keep.Goals as goal

pub undo_to-requires : goal.undo_to-requires
undo_to-requires c = back_within c.args.trail.now _ _ c.requires.learnt.back_to

pub returns-clause-passes : goal.returns-clause-passes
returns-clause-passes c =
    let learnt = learnt_as c.args.trail.now c.args.analysis.now.literals.items c.in_ok-clause.clause c.args.analysis.now.hints.items c.in_ok-hints.hints c.args.analysis.now.back_to (c.in_ok-clause.ensures ∙ c.deref.ensures.value) (c.in_ok-hints.ensures ∙ c.deref-2.ensures.value) c.requires.learnt in
    let step_is = lemma_passes c.args.trail.now c.undo_to.new.self c.add_clause.new.self c.args.log.now.checker c.in_ok-id.id c.in_ok-clause.clause c.in_ok-hints.hints c.requires.shared c.undo_to.ensures.clauses.0 c.undo_to.ensures.clauses.1 c.in_ok-id.ensures.added.0 c.in_ok-id.ensures.added.1 learnt.passes in
    (taken_passes (Lemma c.in_ok-id.id c.in_ok-clause.clause c.in_ok-hints.hints) c.args.log.now.lines c.args.log.now.checker c.in_ok-taken.taken c.take.new.self.lines c.take.new.self.checker _ step_is c.in_ok-taken.ensures.taken).0

pub returns-clause-more : goal.returns-clause-more
returns-clause-more c =
    taken_more (Lemma c.in_ok-id.id c.in_ok-clause.clause c.in_ok-hints.hints) c.args.log.now.lines c.take.new.self.lines c.args.log.now.checker c.take.new.self.checker c.in_ok-taken.taken (returns-clause-passes c) c.in_ok-taken.ensures.taken

pub returns-clause-fewer : goal.returns-clause-fewer
returns-clause-fewer c = λ formula count d h none is.
    let s = c.args.trail.now in
    let clause = c.in_ok-clause.clause in
    let same_clause = c.in_ok-clause.ensures ∙ c.deref.ensures.value in
    let learnt = learnt_as s c.args.analysis.now.literals.items clause c.args.analysis.now.hints.items c.in_ok-hints.hints c.args.analysis.now.back_to same_clause (c.in_ok-hints.ensures ∙ c.deref-2.ensures.value) c.requires.learnt in
    kept_fewer s formula c.args.log.now.lines c.take.new.self.lines c.args.log.now.checker c.take.new.self.checker count d c.in_ok-id.id clause c.in_ok-hints.hints c.args.analysis.now.back_to c.in_ok-taken.taken h (subst (HasNoPart s d) (sym same_clause) none) learnt
    (subst (All (IsLiteral s.variables)) (sym same_clause) c.requires.literals) c.in_ok-taken.ensures.taken (c.in_ok-taken.ensures.leaves formula h.lemmas) is

pub returns-clause-taken : goal.returns-clause-taken
returns-clause-taken c = λ formula count d h none.
    let s = c.args.trail.now in
    let u = c.undo_to.new.self in
    let t = c.add_clause.new.self in
    let id = c.in_ok-id.id in
    let clause = c.in_ok-clause.clause in
    let hints = c.in_ok-hints.hints in
    let back = c.args.analysis.now.back_to in
    let literals = c.undo_to.ensures.clauses.0 in
    let ends = c.undo_to.ensures.clauses.1 in
    let added = c.in_ok-id.ensures.added in
    let learnt = learnt_as s c.args.analysis.now.literals.items clause c.args.analysis.now.hints.items hints back (c.in_ok-clause.ensures ∙ c.deref.ensures.value) (c.in_ok-hints.ensures ∙ c.deref-2.ensures.value) c.requires.learnt in
    let whole =
    kept_whole s u t clause hints back c.trail-literals.ensures.reasoned c.trail-literals.ensures.arena c.trail-literals.ensures.flags literals ends c.undo_to.ensures.clauses.3 c.undo_to.ensures.clauses.2 c.undo_to.ensures.trail c.undo_to.ensures.limits added.0 c.in_ok-id.ensures.assignment.1 c.in_ok-id.ensures.assignment.2 learnt h.whole in
    kept s u t formula c.args.log.now.lines c.take.new.self.lines c.args.log.now.checker c.take.new.self.checker count d id clause hints back c.in_ok-taken.taken h (subst (HasNoPart s d) (sym (c.in_ok-clause.ensures ∙ c.deref.ensures.value)) none) learnt
    (subst (All (IsLiteral s.variables)) (sym (c.in_ok-clause.ensures ∙ c.deref.ensures.value)) c.requires.literals) (c.in_ok-id.ensures.assignment.0 ∙ c.undo_to.ensures.clauses.3) literals ends c.undo_to.ensures.clauses.2 c.trail-literals.ensures.flags added.0 added.1 whole c.in_ok-taken.ensures.taken (c.in_ok-taken.ensures.leaves formula h.lemmas)

pub add_clause-requires : goal.add_clause-requires
add_clause-requires c =
    let clause = c.in_ok-clause.clause in
    let same_clause : clause ≡ c.args.analysis.now.literals.items = c.in_ok-clause.ensures ∙ c.deref.ensures.value in
    subst (λ (n : ℕ). IsWithin n clause) (sym c.undo_to.ensures.clauses.3)
    (subst (λ (xs : List ℤ). IsWithin c.args.trail.now.variables xs) (sym same_clause) (within_literals c.args.trail.now.variables c.args.analysis.now.literals.items c.requires.literals))

pub returns-clause-indexed : goal.returns-clause-indexed
returns-clause-indexed c = λ d h.
    indexed_added c.args.trail.now c.undo_to.new.self c.add_clause.new.self c.in_ok-clause.clause d c.undo_to.ensures.clauses.0 c.undo_to.ensures.clauses.1 (c.in_ok-id.ensures.assignment.0 ∙ c.undo_to.ensures.clauses.3) c.in_ok-id.ensures.added.0 h
