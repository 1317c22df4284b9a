use Rattle.std.proofs.Common.{◌∙◌, ℕ, List, Contains, sym, ap, subst}
use Rattle.syntax_tree.specs.declared.token.TokenKind.{TokenKind}
use Rattle.syntax_tree.specs.declared.token.TokenKind.TheVariants as kind
use Rattle.syntax_tree.specs.ModuleWords.{module_words}
use Rattle.indexmap.specs.IndexMap.{get_by_text}
use Rattle.resolve_names.specs.Gathered.{module_in}
use Rattle.resolve_told_literals.specs.Marks.{AreMarked}
use Rattle.resolve_told_literals.proofs.marks.mark_instance.Goals as goal

pub returns : goal.returns
returns c = λ is_marked.
    subst (λ (words : List TokenKind). AreMarked (get_by_text c.args.numbers.now) (λ (t : List ℕ). Contains words (kind.Literal t)) c.args.marks.now.items c.mark_tokens.new.marks.items)
    (c.as_slice.ensures.value ∙ c.in_ok-tokens.ensures ∙ ap (λ o. module_words (module_in o)) (sym c.get-text.ensures))
    (c.in_ok-is_marked.ensures is_marked)
