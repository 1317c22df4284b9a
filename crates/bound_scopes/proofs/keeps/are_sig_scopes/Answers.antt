use Rattle.std.proofs.Common.{IfSome, slice_get, arith}
use Rattle.core_tree.specs.declared.model.Sig.{Sig}
use Rattle.bound_scopes.specs.Numbers.{IsSigScope}
use Rattle.bound_numbers.proofs.Places.{front_more, front_all}
use Rattle.bound_scopes.proofs.Pairs.{here_got}
use Rattle.bound_scopes.proofs.keeps.are_sig_scopes.Goals as goal

pub loop-place-preserved : goal.loop-place-preserved
loop-place-preserved c =
    front_more (λ k (d : Sig). IfSome (slice_get c.args.numbers.now k) (IsSigScope d)) c.args.sigs.now c.loop-place.place c.loop-place.invariant
    (here_got c.args.sigs.now c.args.numbers.now c.loop-place.place c.get-sig.result.now c.get-scope.result.now c.get-sig.ensures c.get-scope.ensures (c.is_sig_scope.ensures c.if-not-is_sig_scope.false))

pub returns : goal.returns
returns c = λ t. front_all (λ k (d : Sig). IfSome (slice_get c.args.numbers.now k) (IsSigScope d)) c.args.sigs.now c.loop-place.place (omega arith) c.loop-place.invariant
