use Rattle.std.proofs.Common.{ℕ, List, ◌-◌, subst, arith}
use Rattle.std.specs.List.{Contains}
use Rattle.std.proofs.lemmas.List.Sorted.{Contains-permutation, IsPermutation-sym, IsNonDecreasingBy-from_sort}
use Rattle.sat_analysis.proofs.Passing.{passes}
use Rattle.sat_analysis.proofs.Taking.{hints_are}
use Rattle.sat_analysis.proofs.hints.gather_hints.Goals as goal

pub gather_reasons-requires : goal.gather_reasons-requires
gather_reasons-requires c = λ j m.
    c.requires.places j
    (Contains-permutation c.sort_unstable.new.self.items c.args.places.now.items j (IsPermutation-sym c.args.places.now.items c.sort_unstable.new.self.items c.sort_unstable.ensures.permutation)
    (subst (λ (xs : List ℕ). Contains xs j) c.as_slice.ensures.value m))

pub returns : goal.returns
returns c = λ noted literals h.
    passes c.args.trail.now (c.args.conflict - 1) noted literals c.args.places.now.items c.sort_unstable.new.self.items c.push.new.self.items c.requires.trail (omega (arith, c.requires.conflict.0, c.requires.conflict.1)) c.sort_unstable.ensures.permutation
    (IsNonDecreasingBy-from_sort (λ (x : ℕ). x) c.sort_unstable.new.self.items c.sort_unstable.ensures.sorted)
    (hints_are c.args.trail.now c.args.hints.now.items c.gather_reasons.new.hints.items c.push.new.self.items c.as_slice.result.now c.sort_unstable.new.self.items c.args.conflict c.requires.conflict.0 c.requires.none c.as_slice.ensures.value
    c.in_ok-gather_reasons.ensures c.in_ok-push.ensures.items)
    h
