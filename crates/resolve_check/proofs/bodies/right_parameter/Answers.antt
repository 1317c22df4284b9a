use Rattle.std.proofs.Common.{◌≡◌, IfSome, sym, ◌∙◌}
use Rattle.std.proofs.lemmas.Option.{IfSome_then}
use Rattle.resolve_check.specs.Names.{names_of}
use Rattle.resolve_check.specs.Fits.{shapes_in}
use Rattle.resolve_check.specs.Parameters.{named_next, IsParameter}
use Rattle.resolve_check.proofs.Results.{if_ok}
use Rattle.resolve_check.proofs.Ends.{any_bound_end}
use Rattle.resolve_check.proofs.bodies.right_parameter.Goals as goal

pub returns-in-Some : goal.returns-in-Some
returns-in-Some c =
    let right = any_bound_end c.args.model.now c.args.shape.now c.requires (names_of c.args.names.now) c.args.parameter.now.bound _ (sym c.in_ok-bound_columns.ensures ∙ c.in-Some.is) in
    if_ok (λ o. IfSome o (λ m. m ≡ named_next (shapes_in c.args.plain.now) c.args.names.now c.args.place c.args.parameter.now)) (λ o. IfSome o (IsParameter c.args.model.now (shapes_in c.args.plain.now) c.args.names.now c.args.place c.args.parameter.now)) (λ o h. IfSome_then o {P = λ m. m ≡ named_next (shapes_in c.args.plain.now) c.args.names.now c.args.place c.args.parameter.now} {Q = IsParameter c.args.model.now (shapes_in c.args.plain.now) c.args.names.now c.args.place c.args.parameter.now} h (λ m e. record { same = e; right = right })) c.next_parameter.result c.next_parameter.ensures
