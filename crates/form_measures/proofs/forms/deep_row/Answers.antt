use Rattle.std.proofs.Common.{max, ap, ◌∙◌}
use Rattle.form_measures.specs.Weights.{weight_at}
use Rattle.form_measures.proofs.FormCounts.{row_alone, row_other, row_same}
use Rattle.form_measures.proofs.forms.deep_row.Goals as goal

pub returns-then-level-eq0 : goal.returns-then-level-eq0
returns-then-level-eq0 c = λ d. c.in_ok-apart.ensures d ∙ row_alone c.args.level c.args.own (weight_at d c.args.first) (weight_at d c.args.second) c.if-level-eq0.true

pub returns-then-own-level : goal.returns-then-own-level
returns-then-own-level c = λ d. c.in_ok-apart-2.ensures d ∙ row_other c.args.level c.args.own (weight_at d c.args.first) (weight_at d c.args.second) c.if-level-eq0.false c.if-own-level.true

pub returns : goal.returns
returns c = λ d. c.in_ok-row.ensures d ∙ ap (max (weight_at d c.args.first)) (c.in_ok-rest.ensures d) ∙ row_same c.args.level c.args.own (weight_at d c.args.first) (weight_at d c.args.second) c.if-level-eq0.false c.if-own-level.false
