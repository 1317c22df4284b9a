use Rattle.std.proofs.Common.{◌+◌, ◌∙◌, ap}
use Rattle.bound_uppers.proofs.Sizes.{layout_by}
use Rattle.bound_uppers.proofs.numbering.layout.Goals as goal

pub returns : goal.returns
returns c = record {
  exact = λ table. layout_by c.args.bounds.now (record { relations = c.in_ok-relations.relations; loops = c.in_ok-loops.loops; variables = c.in_ok-variables.variables }) c.as_slice-bound_list.result.now c.in_ok-all.all c.in_ok-stride.stride c.saturating_sub-later.result c.in_ok-behind.behind c.in_ok-last.last c.as_slice-bound_list.ensures table c.in_ok-relations.ensures c.in_ok-all.ensures c.in_ok-stride.ensures c.saturating_sub-later.ensures c.in_ok-behind.ensures c.in_ok-last.ensures.sum c.in_ok-loops.ensures.sum c.in_ok-loops.ensures.fits (c.in_ok-variables.ensures.sum ∙ ap (λ n. c.in_ok-last.last + n) c.choices.ensures);
}
