use Rattle.std.proofs.Common.{◌≡◌, ◌↔◌, ◌<◌, ◌+◌, ◌^◌, [], ℕ, Bool, true, List, All, length, ap, sym, subst, ◌∙◌, arith}
use Rattle.std.proofs.lemmas.List.Elements.{All-push, All-cons, All-nil}
use Rattle.gate_trait.specs.declared.node.Node.{Node}
use Rattle.gate_trait.proofs.KeptLemmas.{keeps_trans, values_kept}
use Rattle.core_tuples.specs.Index.{IsNumber}
use Rattle.gate_integers.specs.Numbers.{binary, from_bits, signed}
use Rattle.gate_matrix.specs.declared.entry.Entry.{Entry}
use Rattle.gate_matrix.specs.Matrices.{has}
use Rattle.gate_matrix.proofs.BasicLemmas.{has_kept, belong_kept}
use Rattle.gate_arithmetic.specs.Members.{amount_from}
use Rattle.gate_arithmetic.specs.Singles.{IsEarly}
use Rattle.gate_arithmetic.proofs.SingleLaw.{early_more, early_means, iff_from, iff_as}
use Rattle.gate_arithmetic.proofs.singles.matrix_of.Goals as goal

pub loop-place-preserved : goal.loop-place-preserved
loop-place-preserved g c =
    let value = g.G.Gates.node_value in
    let belongs = g.G.Gates.belongs in
    let first = c.args.gates.now in
    let now = c.loop-place.gates in
    let after = c.has_amount.new.gates in
    let before = c.loop-place.invariant in
    let grows = c.has_amount.ensures.keeps in
    let u = c.args.universe in
    let place = c.loop-place.place in
    let bits = c.args.bits.now in
    let old = c.loop-place.all.items in
    let e = c.in_ok-entry.entry in
    let tuple = c.in_ok-entry.ensures.tuple in
    let node = c.in_ok-entry.ensures.node in
    let small : u.atoms + place < 16384 = omega (arith, c.requires.universe.numbers, c.loop-place-test.true) in
    record {
      keeps = keeps_trans belongs value first now after before.keeps grows;
      belongs = rw c.in_ok-push.ensures.items (All-push (λ (f : Entry). belongs after f.node) old e (belong_kept belongs value now after grows old before.belongs) (subst (λ (n : Node). belongs after n) (sym node) c.in_ok-node.ensures.belongs));
      columns = rw c.in_ok-push.ensures.items (All-push (λ (f : Entry). length f.tuple ≡ 1) old e before.columns (ap (λ (t : List ℕ). length t) tuple));
      numbers = rw c.in_ok-push.ensures.items (All-push (λ (f : Entry). All IsNumber f.tuple) old e before.numbers (subst (λ (t : List ℕ). All IsNumber t) (sym tuple) (All-cons IsNumber (u.atoms + place) [] small (All-nil IsNumber))));
      means = λ x t.
          let z = signed (value first x) bits in
          let same : signed (value now x) bits ≡ z = ap (λ (bs : List Bool). from_bits (length bits) (binary bs)) (values_kept belongs value first now before.keeps bits c.requires.belongs x) in
          let here : (value after x e.node ≡ true) ↔ (z ≡ from_bits u.bits (amount_from u place)) =
          iff_as (value after x e.node) (value after x c.in_ok-node.node) (signed (value now x) bits) z (from_bits u.bits c.amount_at-amount.result) (from_bits u.bits (amount_from u place))
          (ap (λ (n : Node). value after x n) node) same (ap (λ (k : ℕ). from_bits u.bits k) c.amount_at-amount.ensures.amount) (c.in_ok-node.ensures.value x) in
          let sofar : (has (value after x) old t ≡ true) ↔ IsEarly u place z t =
          iff_from (has (value after x) old t) (has (value now x) old t) (IsEarly u place z t) (has_kept belongs value now after grows old before.belongs x t) (before.means x t) in
          subst (λ (es : List Entry). (has (value after x) es t ≡ true) ↔ IsEarly u (place + 1) z t) (sym c.in_ok-push.ensures.items) (early_more u (value after x) old e place z t tuple here sofar);
    }

pub returns-clause-means : goal.returns-clause-means
returns-clause-means g c = λ x t.
    let value = g.G.Gates.node_value in
    let u = c.args.universe in
    let v = value c.args.gates.now x in
    let end : c.loop-place.place ≡ 2 ^ u.bits = omega arith in
    let all = c.loop-place.invariant.means x t in
    let is = early_means u v c.args.bits.now c.loop-place.place t c.requires.width c.requires.universe.least end in
    let said = c.in_ok-made.ensures.truth x t in
    ((λ e. is.0 (all.0 (sym said ∙ e))), (λ q. said ∙ all.1 (is.1 q)))
