use Rattle.std.proofs.Common.{◌≡◌, ◌++◌, ℕ, List, Some, slice_get, sym, ap, ◌∙◌, append-nil}
use Rattle.std.proofs.lemmas.Option.{slice_get_past, slice_get-get_or}
use Rattle.std.proofs.lemmas.Result.{on_ok_weaker}
use Rattle.core_tree.specs.Types.{TypeRows}
use Rattle.resolve_type_check.proofs.Rising.{here_none, above_none, here_at, above_at}
use Rattle.resolve_type_check.proofs.levels.add_here.Goals as goal

pub returns-in-None-clause-rows : goal.returns-in-None-clause-rows
returns-in-None-clause-rows c = sym (append-nil c.args.all.now) ∙ ap (λ (r : TypeRows). c.args.all.now ++ r) (here_none c.args.sigs.now c.args.sig (slice_get_past c.args.sigs.now c.args.sig c.in-None.ensures.lookup.3))

pub returns-in-None-clause-next : goal.returns-in-None-clause-next
returns-in-None-clause-next c = sym (append-nil c.args.next.now.items) ∙ ap (λ (r : List ℕ). c.args.next.now.items ++ r) (above_none c.args.sigs.now c.args.sig (slice_get_past c.args.sigs.now c.args.sig c.in-None.ensures.lookup.3))

pub returns-in-Some-clause-rows : goal.returns-in-Some-clause-rows
returns-in-Some-clause-rows c =
    let at : slice_get c.args.sigs.now c.args.sig ≡ Some c.in-Some.there.now = slice_get-get_or c.args.sigs.now c.args.sig c.in-Some.there.now c.in-Some.ensures.lookup.3.0 ∙ ap Some (sym c.in-Some.ensures.lookup.1) in
    on_ok_weaker c.add_kind.result (λ e. e ∙ ap (λ (r : TypeRows). c.args.all.now ++ r) (here_at c.args.sigs.now c.args.sig c.in-Some.there.now at)) c.add_kind.ensures.rows

pub returns-in-Some-clause-next : goal.returns-in-Some-clause-next
returns-in-Some-clause-next c =
    let at : slice_get c.args.sigs.now c.args.sig ≡ Some c.in-Some.there.now = slice_get-get_or c.args.sigs.now c.args.sig c.in-Some.there.now c.in-Some.ensures.lookup.3.0 ∙ ap Some (sym c.in-Some.ensures.lookup.1) in
    on_ok_weaker c.add_kind.result (λ e. e ∙ ap (λ (r : List ℕ). c.args.next.now.items ++ r) (above_at c.args.sigs.now c.args.sig c.in-Some.there.now at)) c.add_kind.ensures.next
