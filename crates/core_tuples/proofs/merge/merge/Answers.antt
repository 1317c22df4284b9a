use Rattle.std.proofs.Common.{◌⊎◌, ◌<◌, sym, inl, inr, length, arith}
use Rattle.core_tuples.proofs.MergeLaw.{first_at, second_at, both_at, less_within, greater_within, equal_within}
use Rattle.core_tuples.proofs.merge.merge.Goals as goal
use Rattle.core_tuples.proofs.merge.merge.Goals.{then-i-a, else-i-a+then-j-b}

pub heads_at-requires-clause-columns : goal.heads_at-requires-clause-columns
heads_at-requires-clause-columns c = (c.args.arity, c.requires.first.columns, c.requires.second.columns)

pub loop-i-preserved-in-Less : goal.loop-i-preserved-in-Less
loop-i-preserved-in-Less c =
    let lt : c.loop-i.i < length c.args.a.now = less_within c.args.a.now c.args.b.now c.loop-i.i c.loop-i.j (sym c.in-Less.ensures) in
    record {
      first_place = omega arith;
      second_place = c.loop-i.invariant.second_place;
      merging = rw c.in_ok-add_if-in-Less.ensures (first_at _ c.args.kept _ c.loop-i.all.items c.args.a.now c.args.b.now c.loop-i.i c.loop-i.j c.index-a-i.result (sym c.in-Less.ensures) lt c.index-a-i.is c.loop-i.invariant.merging);
    }

pub loop-i-preserved-in-Greater : goal.loop-i-preserved-in-Greater
loop-i-preserved-in-Greater c =
    let lt : c.loop-i.j < length c.args.b.now = greater_within c.args.a.now c.args.b.now c.loop-i.i c.loop-i.j (sym c.in-Greater.ensures) in
    record {
      first_place = c.loop-i.invariant.first_place;
      second_place = omega arith;
      merging = rw c.in_ok-add_if-in-Greater.ensures (second_at _ c.args.kept _ c.loop-i.all.items c.args.a.now c.args.b.now c.loop-i.i c.loop-i.j c.index-b-j.result (sym c.in-Greater.ensures) lt c.index-b-j.is c.loop-i.invariant.merging);
    }

pub loop-i-preserved : goal.loop-i-preserved
loop-i-preserved c =
    let some : (c.loop-i.i < length c.args.a.now) ⊎ (c.loop-i.j < length c.args.b.now) = elim c.if-i-a.branch [ then-i-a w ↦ inl w.if-i-a.true | else-i-a+then-j-b w ↦ inr w.if-j-b.true ] in
    let within = equal_within c.args.a.now c.args.b.now c.loop-i.i c.loop-i.j (sym c.in-Equal.ensures) some in
    record {
      first_place = omega (arith, within.0);
      second_place = omega (arith, within.1);
      merging = rw c.in_ok-add_if-in-Equal.ensures (both_at _ c.args.kept _ c.loop-i.all.items c.args.a.now c.args.b.now c.loop-i.i c.loop-i.j c.index-a-i-in-Equal.result (sym c.in-Equal.ensures) within.0 within.1 c.index-a-i-in-Equal.is c.loop-i.invariant.merging);
    }
