use Rattle.std.proofs.Common.{subst}
use Rattle.std.specs.Prelude.{Contains}
use Rattle.resolve_names.specs.declared.table.Decl.TheVariants as named
use Rattle.resolve_told.proofs.Named.{body_seen}
use Rattle.resolve_told.proofs.asked.names_body.Goals as goal

pub returns : goal.returns
returns c = λ yes.
    body_seen c.args.names.now.scopes c.args.name.now c.in_ok-decls.decls.items c.args.body c.in_ok-decls.ensures
    (subst (λ ds. Contains ds (named.Body c.args.body)) c.as_slice.ensures.value (c.has_body.ensures yes))
