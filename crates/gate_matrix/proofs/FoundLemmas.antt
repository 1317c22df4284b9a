-- Entries in order: each tuple has one node at most, and its entry is found.
use Rattle.std.proofs.Common.{◌≡◌, ℕ, suc, zero, ◌<◌, Bool, true, false, ◌&&◌, ◌||◌, cond, List, [], ◌∷◌, length, get_or, Option, Some, sym, ap, ◌∙◌, refl, arith, inl, inr}
use Rattle.std.specs.declared.cmp.Ordering.TheVariants.{Less}
use Rattle.std.specs.List.{AllByRecursion}
use Rattle.std.specs.List.Sorted.{IsStrictlySortedBy}
use Rattle.std.specs.Cmp.Lexicographic.{nat_list_eq_equiv}
use Rattle.std.proofs.lemmas.Bool.{cases_Bool}
use Rattle.gate_trait.specs.declared.node.Node.{Node}
use Rattle.gate_trait.specs.Built.{Keeps}
use Rattle.core_tuples.specs.Sets.{tuple_cmp, is_same}
use Rattle.core_tuples.proofs.OrderedLemmas.{same_exact, same_itself, apart, or_false}
use Rattle.gate_matrix.specs.declared.entry.Entry.{Entry}
use Rattle.gate_matrix.specs.Matrices.{MatrixEntries, IsMatrix, AllBelong, tuples_of, node_at, truth_of, truth, has}
use Rattle.gate_matrix.proofs.BasicLemmas.{option_kept, found_belongs}

pub rec_at : (P : List ℕ → Type 0) (es : List Entry) (k : ℕ) (d : Entry) → AllByRecursion P (tuples_of es) → k < length es → P (get_or es k d).tuple
rec_at P [] k d all lt = absurd (omega arith)
rec_at P (e ∷ es) zero d all lt = all.0
rec_at P (e ∷ es) (suc k) d all lt = rec_at P es k d all.1 (omega arith)

-- the entry at a place is the one that is found
pub node_here : (es : List Entry) (k : ℕ) (d : Entry) → IsStrictlySortedBy tuple_cmp (tuples_of es) → k < length es → node_at es (get_or es k d).tuple ≡ Some (get_or es k d).node
unfolding IsStrictlySortedBy
node_here [] k d s lt = absurd (omega arith)
node_here (e ∷ es) zero d s lt = ap (λ (b : Bool). cond b (Some e.node) (node_at es e.tuple)) (same_itself e.tuple)
node_here (e ∷ es) (suc k) d s lt =
    let f = get_or es k d in
    ap (λ (b : Bool). cond b (Some e.node) (node_at es f.tuple)) (apart e.tuple f.tuple (rec_at (λ (y : List ℕ). tuple_cmp e.tuple y ≡ Less) es k d s.0 (omega arith)))
    ∙ node_here es k d s.1 (omega arith)

-- a tuple that is below all of them isn't among them
pub no_more : (value : Node → Bool) (s t : List ℕ) (es : List Entry) → AllByRecursion (λ y. tuple_cmp s y ≡ Less) (tuples_of es) → s ≡ t → has value es t ≡ false
no_more value s t [] all e = refl
no_more value s t (f ∷ es) all e =
    let other : is_same f.tuple t ≡ false = ap (λ (q : List ℕ). is_same f.tuple q) (sym e) ∙ nat_list_eq_equiv.symm f.tuple s ∙ apart s f.tuple all.0 in
    ap (λ (b : Bool). (b && value f.node) || has value es t) other ∙ no_more value s t es all.1 e

-- in order, to have a true entry is to be true at the node that is found
pub has_truth : (value : Node → Bool) (es : List Entry) (t : List ℕ) → IsStrictlySortedBy tuple_cmp (tuples_of es) → has value es t ≡ truth_of value (node_at es t)
unfolding IsStrictlySortedBy
has_truth value [] t s = refl
has_truth value (e ∷ es) t s = elim (cases_Bool (is_same e.tuple t)) [
  | inl h ↦ ap (λ (b : Bool). (b && value e.node) || has value es t) h
      ∙ ap (λ (b : Bool). value e.node || b) (no_more value e.tuple t es s.0 (same_exact e.tuple t h))
      ∙ or_false (value e.node)
      ∙ ap (λ (b : Bool). truth_of value (cond b (Some e.node) (node_at es t))) (sym h)
  | inr h ↦ ap (λ (b : Bool). (b && value e.node) || has value es t) h
      ∙ has_truth value es t s.1
      ∙ ap (λ (b : Bool). truth_of value (cond b (Some e.node) (node_at es t))) (sym h)
]

-- a true tuple has an entry
pub found_entry : (value : Node → Bool) (es : List Entry) (t : List ℕ) → truth_of value (node_at es t) ≡ true → (k : ℕ) × (e : Entry) × (k < length es) × (get_or es k e ≡ e) × (e.tuple ≡ t) × (value e.node ≡ true)
found_entry value [] t h = absurd (cc)
found_entry value (e ∷ es) t h = elim (cases_Bool (is_same e.tuple t)) [
  | inl s ↦ (zero, e, omega arith, refl, same_exact e.tuple t s, sym (ap (λ (b : Bool). truth_of value (cond b (Some e.node) (node_at es t))) s) ∙ h)
  | inr s ↦ (let r = found_entry value es t (sym (ap (λ (b : Bool). truth_of value (cond b (Some e.node) (node_at es t))) s) ∙ h) in
      (suc r.0, r.1, omega (arith, r.2), r.3, r.4, r.5))
]

pub truth_here : (value : Node → Bool) (m : MatrixEntries) (k : ℕ) (e : Entry) → IsMatrix m → k < length m.entries → get_or m.entries k e ≡ e → truth value m e.tuple ≡ value e.node
truth_here value m k e i lt is =
    ap (λ (f : Entry). truth value m f.tuple) (sym is)
    ∙ ap (λ (o : Option Node). truth_of value o) (node_here m.entries k e i.sorted lt)
    ∙ ap (λ (f : Entry). value f.node) is

-- matrices whose nodes belong mean the same in a circuit that has grown
pub truth_kept : {S : Type 0} (belongs : S → Node → Type 0) (value : S → (ℕ → Bool) → Node → Bool) (g h : S) → Keeps belongs value g h → (m : MatrixEntries) → AllBelong (belongs g) m.entries → (x : ℕ → Bool) (t : List ℕ) → truth (value h x) m t ≡ truth (value g x) m t
truth_kept belongs value g h keeps m b x t = option_kept belongs value g h keeps (node_at m.entries t) x (λ n is. found_belongs (belongs g) m.entries t n b is)
