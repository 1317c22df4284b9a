use Rattle.std.proofs.Common.{rules, List, map, sym, ap, ◌∙◌}
use Rattle.std.proofs.lemmas.List.{map-id}
use Rattle.std.proofs.lemmas.Iterator.Consumers.{YieldsList-end}
use Rattle.std.proofs.lemmas.Iterator.Adapters.{YieldsList-from_vec}
use Rattle.load_state.specs.Keys.{pair_of}
use Rattle.load_state.specs.declared.loading.Key.{Key}
use Rattle.load_state.proofs.Pairs.{pairs_next}
use Rattle.load_state.proofs.assembly.instances_of.Goals as goal

pub loop-key-preserved : goal.loop-key-preserved
loop-key-preserved c =
    pairs_next c.loop-key.instances c.push.new.self _ c.loop-key.yielded c.in-Some-key.key c.loop-key.invariant c.in_ok-push.ensures.ok (search rules)

pub returns : goal.returns
returns c =
    let end = YieldsList-end (YieldsList-from_vec {s = c.into_iter-key-iterator.result} c.args.keys.items (search rules) (search rules))
    c.loop-key.yielded c.loop-key.key-iterator c.loop-key.yielded_by c.next.result c.next.new.self c.in-None-key.is c.next.ensures.steps in
    c.loop-key.invariant ∙ ap (λ (ks : List Key). map pair_of ks) (sym (map-id c.loop-key.yielded) ∙ end.0)
