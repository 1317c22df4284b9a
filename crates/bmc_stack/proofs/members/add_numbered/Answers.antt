use Rattle.std.proofs.Common.{◌≡◌, ◌∙◌, ◌<◌, ap, sym, Some, length, arith}
use Rattle.std.proofs.lemmas.Option.{slice_get-get_or}
use Rattle.bmc_stack.proofs.MemberLaws.{adds_from}
use Rattle.bmc_stack.proofs.members.add_numbered.Goals as goal

pub returns : goal.returns
returns c =
    let ms = c.args.store.now.matrices.items in
    let m = c.index.result.now in
    adds_from ms c.args.number m c.args.all.now.items c.add_tuples.new.all.items (slice_get-get_or ms c.args.number m (omega arith) ∙ ap Some (sym c.index.ensures)) c.in_ok-add_tuples.ensures
