-- What a text says by its readings is one thing.
use Rattle.std.proofs.Common.{◌≡◌, [], Option, sym, subst, slice_get}
use Rattle.base_types.specs.declared.place.Position.{Position}
use Rattle.core_tree.specs.Trees.{Claim, Term}
use Rattle.resolve_picks.specs.Picks.{picked_in}
use Rattle.resolve_picks.specs.declared.target.Target.{Target}
use Rattle.resolve_read.specs.Reads.{IsRead}
use Rattle.resolve_read.specs.declared.types.Ground.TheVariants as ground
use Rattle.resolve_read.specs.declared.types.Types.{Types}
use Rattle.resolve_readings.specs.declared.part.RootPlace.TheVariants as place
use Rattle.resolve_said.specs.Operators.{a_formula, a_set}
use Rattle.resolve_told_sigs.specs.Says.{no_type, picks_of, read_at, standing}
use Rattle.resolve_laws.specs.One.{FormulasAreOne, ValuesAreOne}
use Rattle.resolve_laws.specs.Readings.{FormulasAgree, RootsAgree}
use Rattle.resolve_laws.specs.Rows.{RightRowsHaveLinks}
use Rattle.resolve_laws.specs.Said.{SaidIsOne}

one_set : (t u : Term) → a_set t ≡ a_set u → t ≡ u
one_set t u same = cc same

one_formula : (c d : Claim) → a_formula c ≡ a_formula d → c ≡ d
one_formula c d same = cc same

pub values_one : SaidIsOne → RootsAgree → RightRowsHaveLinks → ValuesAreOne
values_one said roots rows scopes model types p q k tree t u differ right first second =
    let agree = roots (read_at scopes types k [] no_type ground.Anywhere (picked_in p)) (picked_in q) [] place.Value tree first.meaning second.meaning first.read second.read in
    one_set t u (said (standing scopes model k [] (picked_in p)) (picked_in q) [] tree (a_set t) (a_set u) differ (rows tree right) first.said second.said agree.1)

pub formulas_one : SaidIsOne → FormulasAgree → RightRowsHaveLinks → FormulasAreOne
formulas_one said formulas rows scopes model r s k tree c d same differ right first second =
    let p : Position → Option Target = picks_of (slice_get r.of_instances k) in
    let q : Position → Option Target = picks_of (slice_get s.of_instances k) in
    let read : IsRead (read_at scopes r.types k [] no_type ground.Anywhere q) [] tree = subst (λ (types : Types). IsRead (read_at scopes types k [] no_type ground.Anywhere q) [] tree) (sym same) second.read in
    one_formula c d (said (standing scopes model k [] p) q [] tree (a_formula c) (a_formula d) differ (rows tree right) first.said second.said
    (formulas (read_at scopes r.types k [] no_type ground.Anywhere p) q [] tree first.read read))
