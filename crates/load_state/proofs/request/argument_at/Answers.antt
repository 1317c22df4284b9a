use Rattle.std.proofs.Common.{◌≡◌, length, Some, refl, sym, subst, ◌∙◌, slice_get}
use Rattle.std.proofs.lemmas.Option.{same_Some, slice_get_read}
use Rattle.std.proofs.lemmas.Result.{IfOk-weaker, IfErr-weaker}
use Rattle.syntax_tree.specs.declared.module.SigName.{SigName}
use Rattle.load_state.specs.Opens.{Fits}
use Rattle.load_state.specs.Places.{IsAtArgument, IsAtSome}
use Rattle.load_state.proofs.Refusals.{refused_some}
use Rattle.load_state.proofs.request.argument_at.Goals as goal

pub returns-clause-refused : goal.returns-clause-refused
returns-clause-refused c =
    let here = slice_get_read c.args.names.now (length c.args.names.now) c.args.place c.index-names-place.result refl c.requires c.index-names-place.is in
    IfErr-weaker c.argument.result (IsAtArgument c.args.opener.source.now.text.name c.index-names-place.result) (IsAtSome c.args.opener.source.now.text.name c.args.names.now)
    (λ fault at. refused_some c.args.opener.source.now.text.name c.args.names.now c.args.place c.index-names-place.result fault at here) c.argument.ensures.refused

pub returns-clause-fits : goal.returns-clause-fits
returns-clause-fits c =
    let here = slice_get_read c.args.names.now (length c.args.names.now) c.args.place c.index-names-place.result refl c.requires c.index-names-place.is in
    IfOk-weaker c.argument.result (Fits c.index-names-place.result) (λ found. (name : SigName) → slice_get c.args.names.now c.args.place ≡ Some name → Fits name found)
    (λ found fits name at. subst (λ (n : SigName). Fits n found) (same_Some c.index-names-place.result name (sym here ∙ at)) fits) c.argument.ensures.fits
