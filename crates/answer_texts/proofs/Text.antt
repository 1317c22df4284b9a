-- The lines of commands, one paragraph after another.
use Rattle.std.proofs.Common.{◌≡◌, ℕ, suc, ◌+◌, ◌<◌, ◌≤◌, List, ◌∷◌, ◌++◌, length, drop, get_or, sym, ap, ◌∙◌, append_assoc, append-nil, drop-cons, add-one}
use Rattle.std.proofs.lemmas.List.{drop_all}
use Rattle.syntax_tree.specs.declared.module.Command.{Command}
use Rattle.syntax_tree.specs.declared.module.Paragraph.{Paragraph}
use Rattle.answer_texts.specs.Lines.{command_in, commands_in, lines_from}

pub regrouped : (a b c : List ℕ) → (a ++ b) ++ c ≡ a ++ (b ++ c)
regrouped a b c = append_assoc a b c

-- one paragraph more
pub line_next : (ps : List Paragraph) (i : ℕ) (p : Paragraph) (text now whole : List ℕ) (number next : ℕ) → i < length ps → p ≡ get_or ps i p →
    text ++ lines_from number (commands_in (drop i ps)) ≡ whole →
    ((rest : List Command) → now ++ lines_from next rest ≡ text ++ lines_from number (command_in p ++ rest)) →
    now ++ lines_from next (commands_in (drop (i + 1) ps)) ≡ whole
line_next ps i p text now whole number next inside at was adds =
    let front : drop i ps ≡ p ∷ drop (i + 1) ps =
    drop-cons ps i p inside ∙ ap (λ z. z ∷ drop (suc i) ps) (sym at) ∙ ap (λ k. p ∷ drop k ps) (sym (add-one i)) in
    adds (commands_in (drop (i + 1) ps)) ∙ (ap (λ r. text ++ lines_from number (commands_in r)) (sym front) ∙ was)

-- no paragraph is left
pub line_end : (ps : List Paragraph) (i : ℕ) (text whole : List ℕ) (number : ℕ) → length ps ≤ i → text ++ lines_from number (commands_in (drop i ps)) ≡ whole → text ≡ whole
line_end ps i text whole number past was =
    sym (append-nil text) ∙ (ap (λ r. text ++ lines_from number (commands_in r)) (sym (drop_all i ps past)) ∙ was)
