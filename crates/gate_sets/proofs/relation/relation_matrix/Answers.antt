use Rattle.std.proofs.Common.{◌≡◌, ◌≤◌, ◌&&◌, ℕ, Bool, List, All, length, ap, sym, ◌∙◌, arith, take_all, subst}
use Rattle.std.proofs.lemmas.List.Elements.{All-push}
use Rattle.core_tuples.specs.Index.{IsNumber}
use Rattle.core_tuples.specs.Sets.{is_same}
use Rattle.gate_matrix.specs.declared.entry.Entry.{Entry}
use Rattle.gate_matrix.specs.Matrices.{AllBelong, has}
use Rattle.gate_matrix.proofs.BasicLemmas.{keeps_trans, all_here, all_as, any_push, has_kept, belong_kept}
use Rattle.gate_sets.proofs.Masks.{or_both}
use Rattle.gate_sets.proofs.Variables.{any_variable, any_next, any_means}
use Rattle.gate_sets.proofs.relation.relation_matrix.Goals as goal

pub loop-place-preserved : goal.loop-place-preserved
loop-place-preserved g c =
    let value = g.G.Gates.node_value in
    let belongs = g.G.Gates.belongs in
    let before = c.loop-place.invariant in
    let first = c.args.gates.now in
    let now = c.loop-place.gates in
    let later = c.input.new.self in
    let upper = c.args.upper.now in
    let ts = c.keyed-tuples.result.now in
    let s = c.index-tuples-place.result in
    let i = c.loop-place.place in
    let set = c.keyed-tuples.ensures.set in
    let wide : length s ≡ upper.arity = all_here (λ (t : List ℕ). length t ≡ upper.arity) ts i s (all_as (λ (t : List ℕ). length t ≡ upper.arity) ts upper.tuples c.keyed-tuples.ensures.all set.columns) c.loop-place-test.true c.index-tuples-place.is in
    let small : All IsNumber s = all_here (λ (t : List ℕ). All IsNumber t) ts i s (all_as (λ (t : List ℕ). All IsNumber t) ts upper.tuples c.keyed-tuples.ensures.all set.numbers) c.loop-place-test.true c.index-tuples-place.is in
    let made : c.in_ok-tuple.tuple ≡ s = c.in_ok-tuple.ensures in
    let added : Entry = record { tuple = c.in_ok-tuple.tuple; node = c.in_ok-node.node } in
    let old : AllBelong (belongs later) c.loop-place.all.items = belong_kept belongs value now later c.input.ensures.keeps c.loop-place.all.items before.belong in
    record {
      keeps = keeps_trans belongs value first now later before.keeps c.input.ensures.keeps;
      belong = rw c.in_ok-push.ensures.items (All-push (λ (f : Entry). belongs later f.node) c.loop-place.all.items added old c.in_ok-node.ensures.ok.there);
      columns = rw c.in_ok-push.ensures.items (All-push (λ (f : Entry). length f.tuple ≡ upper.arity) c.loop-place.all.items added before.columns (ap (λ (t : List ℕ). length t) made ∙ wide));
      numbers = rw c.in_ok-push.ensures.items (All-push (λ (f : Entry). All IsNumber f.tuple) c.loop-place.all.items added before.numbers (subst (λ (t : List ℕ). All IsNumber t) (sym made) small));
      truth = λ x t.
          ap (λ (fs : List Entry). has (value later x) fs t) c.in_ok-push.ensures.items ∙ any_push (λ (f : Entry). is_same f.tuple t && value later x f.node) c.loop-place.all.items added
          ∙ or_both
          (has_kept belongs value now later c.input.ensures.keeps c.loop-place.all.items before.belong x t ∙ before.truth x t)
          (ap (λ (r : List ℕ). is_same r t && value later x c.in_ok-node.node) made ∙ ap (λ (b : Bool). is_same s t && b) (c.in_ok-node.ensures.ok.gives x))
          ∙ sym (any_next x c.args.first ts i s t c.loop-place-test.true c.index-tuples-place.is);
    }

pub returns-clause-means : goal.returns-clause-means
returns-clause-means g c = λ x t.
    let ts = c.keyed-tuples.result.now in
    let over : length ts ≤ c.loop-place.place = omega (arith, c.loop-place-test.false) in
    let said = c.in_ok-made.ensures.truth x t ∙ c.loop-place.invariant.truth x t
    ∙ ap (λ (rs : List (List ℕ)). any_variable x c.args.first rs t) (take_all c.loop-place.place ts over ∙ c.keyed-tuples.ensures.all) in
    let means = any_means x c.args.first c.args.upper.now.tuples t in
    ((λ e. means.0 (sym said ∙ e)), (λ q. said ∙ means.1 q))
