-- What was found of the literals is what is told of them.
use Rattle.std.proofs.Common.{◌≡◌, ◌∙◌, ℕ, ◌+◌, ◌<◌, List, length, codes, Option, sym, ap, arith}
use Rattle.std.proofs.lemmas.Option.{same_Some, slice_get_within}
use Rattle.syntax_tree.specs.declared.instance.Instance.{Instance}
use Rattle.syntax_tree.specs.declared.instance.Text.{Text}
use Rattle.core_tree.specs.declared.model.Sig.{Sig}
use Rattle.resolve_told_literals.specs.Told.{AreLiteralsTold, HasLabel, IsWritten, LabelsDiffer, quoted}
use Rattle.resolve_told_literals.specs.Marks.{AreFound, Finds}

module _ (sigs : List Sig) where
  -- a sig has one label
  same_label : (n : ℕ) (a b : List ℕ) → HasLabel sigs n a → HasLabel sigs n b → a ≡ b
  same_label n a b left right = sym left.2 ∙ ap (λ (d : Sig). d.label) (same_Some left.0 right.0 (sym left.1 ∙ right.1)) ∙ right.2

  inside : (n : ℕ) (a : List ℕ) → HasLabel sigs n a → n < length sigs
  inside n a has = slice_get_within sigs n has.0 has.1

  pub told : (texts : List Text) (instances : List Instance) (string first : ℕ) (find : List ℕ → Option ℕ) → first ≡ string + 1 → HasLabel sigs string (codes "String") →
      Finds sigs first (length sigs) find → AreFound find (IsWritten texts instances) first (length sigs) → LabelsDiffer sigs → AreLiteralsTold texts instances sigs
  told texts instances string first find next is_string finds found differ = record {
    string = string;
    is_string = is_string;
    each = λ n label low has.
        let it = found.each n (omega (arith, next, low)) (inside n label has) in
        (it.0, it.1, same_label n label (quoted it.0) has (finds.each (quoted it.0) n it.2).1);
    every = λ t written.
        let it = found.found t written in
        let there = finds.each (quoted t) it.0 it.1 in
        (it.0, omega (arith, next, there.0), there.1);
    differ = differ;
  }

  -- where each sig is found by its label
  pub differing : (find : List ℕ → Option ℕ) → Finds sigs 0 (length sigs) find → LabelsDiffer sigs
  differing find finds m n label left right =
      same_Some m n (sym (finds.every m left.0 (omega arith) (inside m label left) left.1) ∙ ap find (left.2 ∙ sym right.2)
      ∙ finds.every n right.0 (omega arith) (inside n label right) right.1)
