use Rattle.std.proofs.Common.{sym}
use Rattle.load_state.proofs.Faults.{failed_fault}
use Rattle.load_modules.proofs.walk.fetch_text.Goals as goal

pub returns-in-Err-Failed-clause-cause : goal.returns-in-Err-Failed-clause-cause
returns-in-Err-Failed-clause-cause g c =
    failed_fault c.args.root.now (g.L.Libraries.counts c.args.libraries.now) (g.L.Libraries.counts c.fetch_first.new.self) c.args.name.now c.unread.result
    c.requires (rw c.in-Err-Failed.field-0-is at c.in-Err-Failed.ensures.cause) c.unread.ensures
