use Rattle.std.proofs.Common.{◌≡◌, ◌+◌, [], ◌∷◌, length, length-append, Some, slice_get, ap, ◌∙◌, arith}
use Rattle.core_tree.specs.declared.model.Sig.{Sig}
use Rattle.bound_definitions.specs.Numbers.{scope_of}
use Rattle.bound_numbers.specs.Tables.{table_of}
use Rattle.bound_numbers.proofs.Places.{front_all}
use Rattle.bound_numbers.proofs.Rules.{scopes_more}
use Rattle.bound_numbers.proofs.sig_numbers.scopes_of.Goals as goal

pub loop-place-preserved : goal.loop-place-preserved
loop-place-preserved c = (
  ap length c.in_ok-push.ensures.ok ∙ length-append c.loop-place.list (c.scope_of-scope.result ∷ []) ∙ ap (λ n. n + 1) c.loop-place.invariant.0,
  scopes_more c.args.sigs.now (table_of c.args.numbers.now) c.loop-place.place c.get-sig.result.now c.known_at-known.result c.scope_of-scope.result c.loop-place.list c.push.new.self c.get-sig.ensures c.known_at-known.ensures c.scope_of-scope.ensures c.loop-place.invariant.0 c.in_ok-push.ensures.ok c.loop-place.invariant.1,
)

pub returns-clause-each : goal.returns-clause-each
returns-clause-each c = front_all (λ k (d : Sig). slice_get c.loop-place.list k ≡ Some (scope_of d (table_of c.args.numbers.now k))) c.args.sigs.now c.loop-place.place (omega arith) c.loop-place.invariant.1
