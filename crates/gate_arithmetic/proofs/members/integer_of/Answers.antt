use Rattle.std.proofs.Common.{◌≡◌, ◌≤◌, ◌<◌, ◌+◌, ◌*◌, ◌%◌, ◌^◌, ℕ, Bool, List, All, length, take, get_or, ap, sym, ◌∙◌, arith, subst, take_all}
use Rattle.std.proofs.Math.Nat.{zero-mod, mod-add-mod}
use Rattle.std.proofs.lemmas.List.Sums.{sum_by_more}
use Rattle.gate_trait.specs.declared.node.Node.{Node}
use Rattle.gate_trait.proofs.KeptLemmas.{keeps_refl, keeps_trans, all_same}
use Rattle.core_tuples.specs.Index.{IsNumber}
use Rattle.gate_integers.specs.Numbers.{number, bit, from_bits}
use Rattle.gate_integers.proofs.BinaryLemmas.{binary_zeros}
use Rattle.gate_integers.proofs.WrappedLemmas.{wrap_count}
use Rattle.gate_integers.specs.Numbers.{binary}
use Rattle.gate_matrix.specs.declared.entry.Entry.{Entry}
use Rattle.gate_matrix.specs.Joined.{first_of}
use Rattle.gate_matrix.proofs.BasicLemmas.{all_here, all_as}
use Rattle.gate_arithmetic.specs.Members.{amount_for, sum_of_members}
use Rattle.gate_arithmetic.proofs.SumLaw.{members_sum}
use Rattle.gate_arithmetic.proofs.members.integer_of.Goals as goal

pub loop-entry-init : goal.loop-entry-init
loop-entry-init g c =
    let value = g.G.Gates.node_value in
    let belongs = g.G.Gates.belongs in
    let first = c.args.gates.now in
    record {
      keeps = keeps_refl belongs value first;
      belongs = c.in_ok-total.ensures.belongs;
      width = c.in_ok-total.ensures.width;
      sum = λ x. ap binary (c.in_ok-total.ensures.values x) ∙ binary_zeros c.args.universe.bits ∙ sym (zero-mod (2 ^ c.args.universe.bits));
    }

pub add_member-requires : goal.add_member-requires
add_member-requires g c =
    let value = g.G.Gates.node_value in
    let belongs = g.G.Gates.belongs in
    let first = c.args.gates.now in
    let now = c.loop-entry.gates in
    let before = c.loop-entry.invariant in
    let es = c.entries-entries.result.now in
    let e = c.entry-item.result in
    let i = c.loop-entry.entry-index in
    let single : All (λ f. length f.tuple ≡ 1) c.args.matrix.now.entries = subst (λ (k : ℕ). All (λ f. length f.tuple ≡ k) c.args.matrix.now.entries) c.requires.single c.entries-entries.ensures.matrix.columns in
    let small : All IsNumber e.tuple = all_here (λ (f : Entry). All IsNumber f.tuple) es i e (all_as (λ (f : Entry). All IsNumber f.tuple) es c.args.matrix.now.entries c.entries-entries.ensures.all c.entries-entries.ensures.matrix.numbers) c.loop-entry-test.true c.entry-item.is in
    let wide : length e.tuple ≡ 1 = all_here (λ (f : Entry). length f.tuple ≡ 1) es i e (all_as (λ (f : Entry). length f.tuple ≡ 1) es c.args.matrix.now.entries c.entries-entries.ensures.all single) c.loop-entry-test.true c.entry-item.is in
    record {
      universe = c.requires.universe;
      within = subst (λ (t : List ℕ). get_or t 0 0 < 16384) (sym c.numbers.ensures.same) (small 0 0 (omega (arith, wide)));
      total_belongs = all_same (belongs now) c.loop-entry.total c.nodes.result.now c.nodes.ensures before.belongs;
      node_belongs = before.keeps.belong e.node (all_here (λ (f : Entry). belongs first f.node) es i e (all_as (λ (f : Entry). belongs first f.node) es c.args.matrix.now.entries c.entries-entries.ensures.all c.requires.belongs) c.loop-entry-test.true c.entry-item.is);
      width = ap (λ (ns : List Node). length ns) c.nodes.ensures ∙ before.width;
    }

pub loop-entry-preserved : goal.loop-entry-preserved
loop-entry-preserved g c =
    let value = g.G.Gates.node_value in
    let belongs = g.G.Gates.belongs in
    let first = c.args.gates.now in
    let now = c.loop-entry.gates in
    let after = c.add_member.new.gates in
    let before = c.loop-entry.invariant in
    let es = c.entries-entries.result.now in
    let e = c.entry-item.result in
    let i = c.loop-entry.entry-index in
    let u = c.args.universe in
    let p = 2 ^ u.bits in
    let there : belongs first e.node = all_here (λ (f : Entry). belongs first f.node) es i e (all_as (λ (f : Entry). belongs first f.node) es c.args.matrix.now.entries c.entries-entries.ensures.all c.requires.belongs) c.loop-entry-test.true c.entry-item.is in
    record {
      keeps = keeps_trans belongs value first now after before.keeps c.add_member.ensures.keeps;
      belongs = c.in_ok-sum.ensures.belongs;
      width = c.in_ok-sum.ensures.width;
      sum = λ x.
          let added : ℕ = bit (value first x e.node) * amount_for u (first_of e) in
          c.in_ok-sum.ensures.sum x
          ∙ ap (λ (ns : List Node). (number (value now x) ns + bit (value now x e.node) * amount_for u (get_or c.numbers.result.now 0 0)) % p) c.nodes.ensures
          ∙ ap (λ (k : ℕ). (k + bit (value now x e.node) * amount_for u (get_or c.numbers.result.now 0 0)) % p) (before.sum x)
          ∙ ap (λ (b : Bool). (sum_of_members u (value first x) (take i es) % p + bit b * amount_for u (get_or c.numbers.result.now 0 0)) % p) (before.keeps.values e.node there x)
          ∙ ap (λ (t : List ℕ). (sum_of_members u (value first x) (take i es) % p + bit (value first x e.node) * amount_for u (get_or t 0 0)) % p) c.numbers.ensures.same
          ∙ mod-add-mod (sum_of_members u (value first x) (take i es)) p added
          ∙ ap (λ (k : ℕ). (sum_of_members u (value first x) (take i es) + k) % p) (ap (λ (f : Entry). bit (value first x f.node) * amount_for u (first_of f)) c.entry-item.is)
          ∙ ap (λ (k : ℕ). k % p) (sym (sum_by_more (λ (f : Entry). bit (value first x f.node) * amount_for u (first_of f)) es i e c.loop-entry-test.true));
    }

pub returns-clause-value : goal.returns-clause-value
returns-clause-value g c = λ x.
    let value = g.G.Gates.node_value in
    let v = value c.args.gates.now x in
    let w = value c.loop-entry.gates x in
    let u = c.args.universe in
    let es = c.entries-entries.result.now in
    let over : length es ≤ c.loop-entry.entry-index = omega arith in
    ap (λ (k : ℕ). from_bits k (number w c.loop-entry.total)) c.loop-entry.invariant.width
    ∙ ap (λ (k : ℕ). from_bits u.bits k) (c.loop-entry.invariant.sum x ∙ ap (λ (fs : List Entry). sum_of_members u v fs % 2 ^ u.bits) (take_all c.loop-entry.entry-index es over ∙ c.entries-entries.ensures.all))
    ∙ wrap_count u.bits (sum_of_members u v c.args.matrix.now.entries)
    ∙ members_sum u v c.args.matrix.now.entries c.requires.universe.least
