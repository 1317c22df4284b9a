use Rattle.std.proofs.Common.{◌∙◌, sym, take}
use Rattle.resolve_told_types.proofs.OuterLaws.{univ_is}
use Rattle.resolve_told_types.proofs.outermost.is_univ.Goals as goal

pub returns-then-univ-eq1 : goal.returns-then-univ-eq1
returns-then-univ-eq1 c = λ h. univ_is c.args.sigs.now c.args.univ.now (take c.in-Some.count c.as_slice-rows.result.now) c.in-Some.ensures c.if-univ-eq1.true (sym c.as_slice-rows.ensures ∙ c.is_last_int.ensures h)
