use Rattle.std.proofs.Common.{All, Contains, List, subst}
use Rattle.std.proofs.lemmas.List.Elements.{All-contains}
use Rattle.resolve_types.specs.Types.{Row}
use Rattle.resolve_told_types.specs.Steps.{rows_at}
use Rattle.resolve_told_types.proofs.types.has_given.Goals as goal

pub returns-in-Sig : goal.returns-in-Sig
returns-in-Sig c = λ h row.
    let all = subst (λ (l : List Row). All (Contains c.args.rows.now) l) c.rows_of.ensures (c.has_rows.ensures h) in
    rw c.in-Sig.is (λ g. All-contains (Contains c.args.rows.now) (rows_at c.args.types.now c.in-Sig.sig) row all g)
