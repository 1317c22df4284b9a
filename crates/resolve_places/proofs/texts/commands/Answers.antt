use Rattle.std.proofs.Common.{◌∙◌, ◌++◌, ap, sym}
use Rattle.std.specs.Prelude.{slice_get}
use Rattle.resolve_places.specs.Places.{declared_by}
use Rattle.resolve_places.specs.declared.texts.Kind.TheVariants.{Commands}
use Rattle.resolve_places.proofs.Walk.{root_first}
use Rattle.resolve_places.proofs.texts.commands.Goals as goal

pub returns : goal.returns
returns c =
    let texts = c.args.loaded.now.texts in
    let root = c.get-root.result.now in
    c.in_ok-push_instance.ensures ∙ (ap (λ z. z ++ declared_by Commands 0 (slice_get texts root.text)) c.new-all.ensures ∙ sym (root_first texts c.args.loaded.now.instances root c.get-root.ensures))
