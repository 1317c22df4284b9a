use Rattle.std.proofs.Common.{ap}
use Rattle.core_tuples.specs.Sets.{TupleList}
use Rattle.bound_uppers.specs.AtomSets.{IsColumn}
use Rattle.bound_uppers.proofs.Giving.{are_given}
use Rattle.bound_uppers.proofs.given.atom_sets.Goals as goal

pub returns : goal.returns
returns c =
    let column : IsColumn c.in_ok-integers.integers = (c.arity-columns.ensures.set, c.in_ok-integers.ensures.columns) in
    let empty : IsColumn c.empty-none.result = (c.arity-columns-2.ensures.set, ap (λ (s : TupleList). s.arity) c.empty-none.ensures) in
    are_given c.args.model.now c.args.scopes.now c.args.spans.now c.args.ups.now c.args.standing.now (record { sigs = c.in_ok-sigs.sigs; integers = c.in_ok-integers.integers; none = c.empty-none.result }) c.requires.tops c.requires.spans c.requires.standing c.requires.counted c.requires.above c.in_ok-sigs.ensures c.in_ok-integers.ensures column c.empty-none.ensures empty
