use Rattle.std.proofs.Common.{◌∷◌, sym, ap, ◌∙◌}
use Rattle.syntax_tree.specs.declared.token.TokenKind.TheVariants as kind
use Rattle.syntax_tree.specs.Spelling.{kinds}
use Rattle.syntax_expr.proofs.cursor.Cursor.name.Goals as goal

pub returns-in_ok-copied-in-Name : goal.returns-in_ok-copied-in-Name
returns-in_ok-copied-in-Name c =
    let same = sym c.text.ensures ∙ sym c.in_ok-copied-in-Name.ensures in
    c.advance.ensures ∙ ap (λ k. k ∷ kinds c.advance.new.self) (sym c.kind.ensures ∙ (c.in-Name.is ∙ ap (λ t. kind.Name t) same))
