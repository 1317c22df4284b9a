use Rattle.std.proofs.Common.{rules, List, [], ◌∷◌, ◌++◌, map, sym, ap, ◌∙◌}
use Rattle.std.proofs.lemmas.List.{map-append, map-id}
use Rattle.std.proofs.lemmas.Iterator.Consumers.{YieldsList-end}
use Rattle.std.proofs.lemmas.Iterator.Adapters.{YieldsList-from_vec}
use Rattle.syntax_tree.specs.declared.instance.Text.{Text}
use Rattle.load_state.specs.declared.source.Source.{Source}
use Rattle.load_state.proofs.Heavy.{count_next}
use Rattle.load_state.proofs.assembly.count_all.Goals as goal

pub loop-source-preserved : goal.loop-source-preserved
loop-source-preserved c =
    let inv = c.loop-source.invariant in
    let counted = count_next c.loop-source.texts c.push-in-loop-source-2.new.self c.loop-source.sigs.items c.push.new.self.items c.loop-source.weights.items c.push-in-loop-source.new.self.items
    c.in-Some.source.text c.in_ok-sig_count.field-0 c.in_ok-names_of.field-0 c.in_ok-plus.field-0 c.in-Some.source.tokens
    inv.0 inv.1 c.in_ok-push-3.ensures.ok c.in_ok-push.ensures.items c.in_ok-push-2.ensures.items
    c.in_ok-sig_count.ensures c.in_ok-names_of.ensures c.in_ok-plus.ensures c.in-Some.source.few in (
      counted.0,
      counted.1,
      c.in_ok-push-3.ensures.ok
          ∙ (ap (λ (ts : List Text). ts ++ c.in-Some.source.text ∷ []) inv.2
          ∙ sym (map-append (λ (s : Source). s.text) c.loop-source.yielded (c.in-Some.source ∷ []))),
    )

pub returns-clause-texts : goal.returns-clause-texts
returns-clause-texts c =
    let end = YieldsList-end (YieldsList-from_vec {s = c.into_iter-source-iterator.result} c.args.sources.items (search rules) (search rules))
    c.loop-source.yielded c.loop-source.source-iterator c.loop-source.yielded_by c.next.result c.next.new.self c.in-None.is c.next.ensures.steps in
    c.loop-source.invariant.2 ∙ ap (λ (ss : List Source). map (λ (s : Source). s.text) ss) (sym (map-id c.loop-source.yielded) ∙ end.0)
