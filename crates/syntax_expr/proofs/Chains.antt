-- What was read in turns: one part, and then another.
use Rattle.std.proofs.Common.{◌≡◌, ◌++◌, sym, ap, ◌∙◌, append_assoc}
use Rattle.syntax_tree.specs.Words.{Spelled}

module _ (p q c : Spelled) where
  pub then_read : {a b : Spelled} → a ≡ p ++ b → b ≡ q ++ c → a ≡ (p ++ q) ++ c
  then_read e f = e ∙ (ap (λ w. p ++ w) f ∙ sym (append_assoc p q c))

  -- a tree that is spelled as what stands on its left and what was read after that
  pub goes_on : {whole old : Spelled} → whole ≡ p ++ q → old ≡ q ++ c → p ++ old ≡ whole ++ c
  goes_on e r = ap (λ w. p ++ w) r ∙ (sym (append_assoc p q c) ∙ ap (λ w. w ++ c) (sym e))

-- a tree that is spelled as the words that were read
pub tree_read : (words c : Spelled) {whole a : Spelled} → whole ≡ words → a ≡ words ++ c → a ≡ whole ++ c
tree_read words c e r = r ∙ ap (λ w. w ++ c) (sym e)
