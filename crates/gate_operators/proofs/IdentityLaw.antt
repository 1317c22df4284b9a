-- Each atom of a set with itself.
use Rattle.std.proofs.Common.{◌≡◌, ◌↔◌, ◌&&◌, ◌∷◌, [], ℕ, Bool, true, List, length, get_or, refl, ap, sym, ◌∙◌, arith}
use Rattle.std.specs.List.{list_any}
use Rattle.std.proofs.lemmas.List.Folds.{Any-from_list_any, list_any_at}
use Rattle.gate_trait.specs.declared.node.Node.{Node}
use Rattle.core_tuples.specs.Sets.{is_same}
use Rattle.core_tuples.proofs.OrderedLemmas.{both, same_exact, same_itself}
use Rattle.gate_matrix.specs.declared.entry.Entry.{Entry}
use Rattle.gate_matrix.specs.Matrices.{MatrixEntries, IsMatrix, truth}
use Rattle.gate_matrix.proofs.FoundLemmas.{found_entry, truth_here}
use Rattle.gate_operators.specs.Sets.{set_of, pairs_with_itself}

only_one : (t : List ℕ) → length t ≡ 1 → t ≡ get_or t 0 0 ∷ []
only_one [] long = absurd (omega arith)
only_one (x ∷ []) long = refl
only_one (x ∷ (y ∷ t)) long = absurd (omega arith)

and_two : (p q : Bool) → p ≡ true → q ≡ true → p && q ≡ true
and_two p q e f = let g : true && true ≡ true = refl in cc

pub doubled_means : (value : Node → Bool) (a : MatrixEntries) (t : List ℕ) → IsMatrix a → a.arity ≡ 1 → (list_any (λ e. is_same (get_or e.tuple 0 0 ∷ get_or e.tuple 0 0 ∷ []) t && value e.node) a.entries ≡ true) ↔ pairs_with_itself (set_of value a) t
doubled_means value a t i single = (
  (λ h.
      let o = Any-from_list_any (λ (e : Entry). is_same (get_or e.tuple 0 0 ∷ get_or e.tuple 0 0 ∷ []) t && value e.node) a.entries h in
      let e = o.1 in
      let parts = both (is_same (get_or e.tuple 0 0 ∷ get_or e.tuple 0 0 ∷ []) t) (value e.node) o.4 in
      let wide : length e.tuple ≡ 1 = ap (λ (d : Entry). length d.tuple) (sym o.3) ∙ i.columns o.0 o.1 o.2 ∙ single in (
        get_or e.tuple 0 0,
        ap (λ (s : List ℕ). truth value a s) (sym (only_one e.tuple wide)) ∙ truth_here value a o.0 e i o.2 o.3 ∙ parts.1,
        sym (same_exact (get_or e.tuple 0 0 ∷ get_or e.tuple 0 0 ∷ []) t parts.0),
      )),
  (λ f.
      let o = found_entry value a.entries (f.0 ∷ []) f.1 in
      let e = o.1 in
      let begins : get_or e.tuple 0 0 ∷ get_or e.tuple 0 0 ∷ [] ≡ t = ap (λ (s : List ℕ). get_or s 0 0 ∷ get_or s 0 0 ∷ []) o.4 ∙ sym f.2 in
      let p = λ (d : Entry). is_same (get_or d.tuple 0 0 ∷ get_or d.tuple 0 0 ∷ []) t && value d.node in
      list_any_at p a.entries o.0 e o.2 (ap p o.3 ∙ and_two (is_same (get_or e.tuple 0 0 ∷ get_or e.tuple 0 0 ∷ []) t) (value e.node)
      (ap (λ (s : List ℕ). is_same (get_or e.tuple 0 0 ∷ get_or e.tuple 0 0 ∷ []) s) (sym begins) ∙ same_itself (get_or e.tuple 0 0 ∷ get_or e.tuple 0 0 ∷ [])) o.5)),
)
