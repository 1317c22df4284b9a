use Rattle.std.proofs.Common.{arith, map}
use Rattle.resolve_told.specs.Commands.{IsCount}
use Rattle.resolve_told.specs.CommandViews.{seen_count}
use Rattle.resolve_told.proofs.Walk.{each_more, got_seen}
use Rattle.resolve_told.proofs.scopes.are_counts.Goals as goal

pub loop-place-preserved : goal.loop-place-preserved
loop-place-preserved c =
    each_more (λ n d e. IsCount c.args.names.now.scopes d e) (map seen_count c.args.counts.now) c.args.entries.now c.loop-place.place (seen_count c.index-counts-place.result) c.entry_at-entry.result.now
    (got_seen seen_count c.args.counts.now c.loop-place.place c.index-counts-place.result (omega arith) c.index-counts-place.is) c.entry_at-entry.ensures c.loop-place.invariant (c.in_ok-is_right.ensures c.if-not-is_right.false)
