use Rattle.std.proofs.Common.{◌<◌, length, sym, subst, arith}
use Rattle.answer_trace.specs.declared.label.Shown.{Shown}
use Rattle.answer_laws.specs.Form.{HasAtom}
use Rattle.answer_checks.proofs.labels.has_atom.Goals as goal

pub returns-in-Line : goal.returns-in-Line
returns-in-Line c = λ t. subst (λ (s : Shown). HasAtom c.args.labels.now c.args.relation.now.columns s) (sym c.in-Line.is) tt

pub returns-in-Nothing : goal.returns-in-Nothing
returns-in-Nothing c = λ t. subst (λ (s : Shown). HasAtom c.args.labels.now c.args.relation.now.columns s) (sym c.in-Nothing.is) tt

pub returns-in-Just : goal.returns-in-Just
returns-in-Just c = λ t.
    let is = c.is_atom.ensures t in
    let low : c.in-Just.atom < length c.args.labels.now.atoms = omega (arith, is.1, c.len.ensures) in
    subst (λ (s : Shown). HasAtom c.args.labels.now c.args.relation.now.columns s) (sym c.in-Just.is) (is.0, low, is.2)
