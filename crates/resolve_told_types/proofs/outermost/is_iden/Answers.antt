use Rattle.std.proofs.Common.{◌∙◌, List, ap, sym}
use Rattle.resolve_types.specs.Types.{Row}
use Rattle.resolve_told_types.specs.Kinds.{kinds_of}
use Rattle.resolve_told_types.specs.Steps.{pairs_of}
use Rattle.resolve_told_types.proofs.OuterLaws.{iden_is}
use Rattle.resolve_told_types.proofs.outermost.is_iden.Goals as goal

pub returns-then-iden-eq2 : goal.returns-then-iden-eq2
returns-then-iden-eq2 c = λ h.
    iden_is (kinds_of c.args.sigs.now) c.args.univ.now c.args.iden.now c.requires c.if-iden-eq2.true
    (sym c.as_slice.ensures ∙ c.are_pairs.ensures h ∙ ap (λ (rows : List Row). pairs_of rows) c.as_slice-then-iden-eq2.ensures)
