use Rattle.std.proofs.Common.{ℕ, Option, ◌++◌, subst}
use Rattle.std.specs.List.{filter_map}
use Rattle.resolve_names.specs.Lookup.{seen_in}
use Rattle.resolve_names.proofs.Chained.{begun, over, ended, goes_on, place_within, IsOnChain}
use Rattle.resolve_names.proofs.index.add_chain.Goals as goal

pub loop-step-init : goal.loop-step-init
loop-step-init c = begun c.args.is_own c.args.name.now c.args.list.now c.args.start c.args.all.now.items c.requires.start

pub loop-step-preserved : goal.loop-step-preserved
loop-step-preserved c =
    goes_on c.args.is_own c.args.name.now c.args.list.now c.args.next.now c.loop-step._step c.in-Some.place c.in_ok-at-in-Some.at c.loop-step.all.items c.add_one.new.all.items
    (c.args.all.now.items ++ filter_map (seen_in c.args.is_own c.args.name.now) c.args.list.now) c.requires.chained
    (subst (λ (o : Option ℕ). IsOnChain c.args.is_own c.args.name.now c.args.list.now c.loop-step._step o c.loop-step.all.items
    (c.args.all.now.items ++ filter_map (seen_in c.args.is_own c.args.name.now) c.args.list.now)) c.in-Some.is c.loop-step.invariant)
    c.in_ok-at-in-Some.ensures.taken c.in_ok-at-in-Some.ensures.added

pub returns : goal.returns
returns c =
    ended c.args.is_own c.args.name.now c.args.list.now c.loop-step._step c.loop-step.at c.loop-step.all.items
    (c.args.all.now.items ++ filter_map (seen_in c.args.is_own c.args.name.now) c.args.list.now) c.loop-step-test.false c.loop-step.invariant

pub returns-in-None : goal.returns-in-None
returns-in-None c =
    over c.args.is_own c.args.name.now c.args.list.now c.loop-step._step c.loop-step.all.items
    (c.args.all.now.items ++ filter_map (seen_in c.args.is_own c.args.name.now) c.args.list.now)
    (subst (λ (o : Option ℕ). IsOnChain c.args.is_own c.args.name.now c.args.list.now c.loop-step._step o c.loop-step.all.items
    (c.args.all.now.items ++ filter_map (seen_in c.args.is_own c.args.name.now) c.args.list.now)) c.in-None.is c.loop-step.invariant)

pub add_one-requires-clause-within : goal.add_one-requires-clause-within
add_one-requires-clause-within c =
    place_within c.args.is_own c.args.name.now c.args.list.now c.loop-step._step c.in-Some.place c.loop-step.all.items
    (c.args.all.now.items ++ filter_map (seen_in c.args.is_own c.args.name.now) c.args.list.now)
    (subst (λ (o : Option ℕ). IsOnChain c.args.is_own c.args.name.now c.args.list.now c.loop-step._step o c.loop-step.all.items
    (c.args.all.now.items ++ filter_map (seen_in c.args.is_own c.args.name.now) c.args.list.now)) c.in-Some.is c.loop-step.invariant)
