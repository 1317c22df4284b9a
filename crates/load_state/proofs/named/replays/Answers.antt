use Rattle.std.proofs.Common.{rules, ◌≡◌, ◌∙◌, List, Option, Some, refl, sym, ap, subst, slice_get}
use Rattle.syntax_tree.specs.declared.instance.Opened.{Opened}
use Rattle.std.specs.HashMap.{get_by_text}
use Rattle.syntax_tree.specs.declared.instance.SigRef.{SigRef}
use Rattle.load_state.specs.Keys.{texts_of}
use Rattle.load_state.specs.Named.{AreGiven}
use Rattle.load_state.proofs.Replay.{replaying_next}
use Rattle.load_state.proofs.named.replays.Goals as goal

pub returns-in_ok-noted-in-Some : goal.returns-in_ok-noted-in-Some
returns-in_ok-noted-in-Some c = λ yes.
    let texts = texts_of c.args.sources.now in
    let own : c.as_slice-arguments.result.now ≡ c.args.instance.now.arguments = search rules in
    let at : slice_get c.args.instance.now.opens c.args.k ≡ Some c.in-Some.opened.now = ap (λ (os : List Opened). slice_get os c.args.k) (sym c.as_slice.ensures) ∙ c.in-Some.ensures.some in
    replaying_next c.args.instances.now texts c.args.finished.now c.args.number c.args.k c.args.instance.now c.args.source.now.text c.in-Some.opened.now c.is_private_at-hidden.result c.args.doors.now.reach _
    (get_by_text c.args.doors.now.aliases) _ c.requires.is c.requires.inside at c.is_private_at-hidden.ensures c.requires.done (c.in_ok-noted-in-Some.ensures yes)
    (λ o target asks there. subst (λ (xs : List (Option SigRef)). AreGiven c.args.instances.now texts c.args.number c.args.k xs o.arguments target.arguments) own
    (c.is_open_named-named.ensures texts
    (record {
      instance = c.args.instance.now;
      is = c.requires.is;
      own = own;
      paired = c.requires.paired;
      shelf = refl;
      listed = c.requires.listed;
      noted = c.requires.before.noted;
      behind = c.requires.before.behind;
      replayed = c.requires.done;
    }) (search rules) o target asks there))
    c.requires.before
