use Rattle.std.proofs.Common.{[], ◌++◌, ◌∙◌, ap, sym}
use Rattle.std.specs.List.{cons_option}
use Rattle.std.proofs.lemmas.Option.{get_or_from_slice_get}
use Rattle.resolve_hierarchy.specs.Rules.{member_of}
use Rattle.resolve_told.proofs.Walk.{filter_next}
use Rattle.resolve_told.proofs.scopes.members_of.Goals as goal

pub loop-place-preserved : goal.loop-place-preserved
loop-place-preserved c =
    filter_next (member_of c.args.names.now.scopes) c.args.decls.now c.loop-place.place c.decl_at-decl.result c.loop-place.all c.push_some.new.self c.loop-place-test.true
    (sym (get_or_from_slice_get c.args.decls.now c.loop-place.place c.decl_at-decl.result c.decl_at-decl.result c.decl_at-decl.ensures)) c.loop-place.invariant
    (c.in_ok-push_some.ensures ∙ ap (λ m. c.loop-place.all ++ cons_option m []) c.in_ok-member.ensures)
