use Rattle.std.proofs.Common.{rules}
use Rattle.load_state.specs.Keys.{texts_of}
use Rattle.load_state.proofs.Led.{sig_stands}
use Rattle.load_state.proofs.leads.is_sig_named.Goals as goal

pub returns-in-Some-source_at : goal.returns-in-Some-source_at
returns-in-Some-source_at c = λ is.
    sig_stands c.args.instances.now (texts_of c.args.sources.now) c.args.number c.args.written.now c.args.argument c.in-Some.sig c.in-Some-instance_at.instance.now c.in-Some-source_at.source.now.text
    c.last_part-name.result.now c.is_same-is_own.result (search rules) c.in-Some-instance_at.ensures c.in-Some-source_at.ensures (search rules) (c.is_declared.ensures is) c.is_same-is_own.ensures
