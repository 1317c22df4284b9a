use Rattle.std.proofs.Common.{IfSome, List, Option, Vec, Global, sym, subst}
use Rattle.load_state.specs.Doors.{AreReplayed}
use Rattle.load_state.specs.Keys.{texts_of}
use Rattle.load_state.specs.declared.loading.Finished.{Finished}
use Rattle.load_state.proofs.Replay.{named_all}
use Rattle.load_state.proofs.named.all_named.Goals as goal

pub returns-in-Some : goal.returns-in-Some
returns-in-Some c = λ yes.
    let instances = c.args.instances.now in
    let texts = texts_of c.args.sources.now in
    let replayed : AreReplayed instances texts c.in-Some.done.items =
    subst (λ (found : Option (Vec Finished Global)). IfSome found (λ done. AreReplayed instances texts done.items)) c.in-Some.is c.in_ok-done.ensures in
    named_all instances texts c.deref-in-Some.result.now (subst (λ (fs : List Finished). AreReplayed instances texts fs) (sym c.deref-in-Some.ensures.value) replayed) (c.has_all.ensures yes)
