use Rattle.std.proofs.Common.{sym}
use Rattle.std.proofs.lemmas.Option.{get_or_from_slice_get}
use Rattle.resolve_names.specs.declared.table.Decl.TheVariants as named
use Rattle.resolve_told.proofs.Running.{contained}
use Rattle.resolve_told.proofs.asked.has_body.Goals as goal

pub returns-then-is_body : goal.returns-then-is_body
returns-then-is_body c = λ yes.
    contained c.args.decls.now c.loop-place.place c.decl_at-decl.result (named.Body c.args.body) c.loop-place-test.true
    (sym (get_or_from_slice_get c.args.decls.now c.loop-place.place c.decl_at-decl.result c.decl_at-decl.result c.decl_at-decl.ensures)) (c.is_body.ensures c.if-is_body.true)
