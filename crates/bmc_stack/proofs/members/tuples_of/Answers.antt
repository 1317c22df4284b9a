use Rattle.std.proofs.Common.{◌≡◌, ◌∙◌, ℕ, List, get_or, slice_get, Some, ap, sym, subst, arith}
use Rattle.std.proofs.lemmas.Option.{slice_get-get_or}
use Rattle.bmc_stack.proofs.MemberLaws.{members_more, members_all, pair_here}
use Rattle.bmc_stack.proofs.members.tuples_of.Goals as goal

pub loop-place-preserved : goal.loop-place-preserved
loop-place-preserved c =
    let pairs = c.in_ok-pairs.pairs.pairs.items in
    let p = c.pair_at-pair.result in
    let same : c.deref.result.now ≡ pairs = cc in
    members_more c.args.store.now.matrices.items pairs c.loop-place.place p.0 p.1 c.loop-place.all.items c.add_numbered.new.all.items
    (pair_here pairs c.loop-place.place p (omega arith) (subst (λ (ps : List (ℕ × ℕ)). (m n : ℕ) → slice_get ps c.loop-place.place ≡ Some (m, n) → p ≡ (m, n)) same c.pair_at-pair.ensures)) c.loop-place.invariant c.in_ok-add_numbered.ensures

pub returns : goal.returns
returns c = members_all c.args.store.now.matrices.items c.in_ok-pairs.pairs.pairs.items c.in_ok-pairs.pairs.row.items c.args.row.now c.loop-place.place c.loop-place.all.items c.in_ok-made.made.items (omega (arith, c.loop-place-test.false)) c.in_ok-pairs.ensures c.loop-place.invariant (λ t has. (c.in_ok-made.ensures t).1 has)
