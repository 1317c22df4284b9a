use Rattle.std.proofs.Common.{false, refl}
use Rattle.resolve_names.specs.Gathered.{named_from, sig_of}
use Rattle.resolve_names.proofs.Gathering.{named_next, length_next, length_end, end_on}
use Rattle.resolve_names.proofs.declared.add_sig_names.Goals as goal

pub loop-name-preserved : goal.loop-name-preserved
loop-name-preserved c = record {
  declared = named_next (sig_of c.args.instance) false c.args.names.now c.loop-name.name-index c.loop-name.number c.in_ok-number.number c.name-item.result c.loop-name.declared c.add_declared.new.declared _
      c.loop-name-test.true c.name-item.is c.loop-name.invariant.declared c.in_ok-add_declared.ensures c.in_ok-number.ensures;
  next = length_next c.args.names.now c.loop-name.name-index c.loop-name.number c.in_ok-number.number c.name-item.result _ c.loop-name-test.true c.name-item.is c.loop-name.invariant.next c.in_ok-number.ensures;
}

pub returns-clause-declared : goal.returns-clause-declared
returns-clause-declared c =
    end_on (named_from (sig_of c.args.instance) false c.loop-name.number) c.args.names.now c.loop-name.name-index c.loop-name.declared _ refl c.loop-name-test.false c.loop-name.invariant.declared

pub returns-clause-next : goal.returns-clause-next
returns-clause-next c = length_end c.args.names.now c.loop-name.name-index c.loop-name.number _ c.loop-name-test.false c.loop-name.invariant.next
