use Rattle.std.proofs.Common.{◌≡◌, ℕ, List}
use Rattle.syntax_tree.specs.declared.token.TokenKind.TheVariants as kind
use Rattle.indexmap.specs.IndexMap.{get_by_text}
use Rattle.resolve_told_literals.proofs.Marking.{marked_none, marked_same}
use Rattle.resolve_told_literals.proofs.marks.mark_token.Goals as goal

pub returns-in_ok-is_marked-in-Literal : goal.returns-in_ok-is_marked-in-Literal
returns-in_ok-is_marked-in-Literal c = λ is_marked.
    marked_same (get_by_text c.args.numbers.now) (λ (t : List ℕ). c.text.result.now ≡ t) (λ (t : List ℕ). c.args.token.now ≡ kind.Literal t) c.args.marks.now.items c.mark_literal.new.marks.items
    (λ t same. let at = c.in-Literal.is in let of = c.text.ensures in cc)
    (λ t same. let at = c.in-Literal.is in let of = c.text.ensures in cc)
    (c.in_ok-is_marked-in-Literal.ensures is_marked)

pub returns-in-Name : goal.returns-in-Name
returns-in-Name c = λ t. marked_none (get_by_text c.args.numbers.now) (λ (t : List ℕ). c.args.token.now ≡ kind.Literal t) c.args.marks.now.items (λ t same. let other = c.in-Name.is in cc)

pub returns-in-Number : goal.returns-in-Number
returns-in-Number c = λ t. marked_none (get_by_text c.args.numbers.now) (λ (t : List ℕ). c.args.token.now ≡ kind.Literal t) c.args.marks.now.items (λ t same. let other = c.in-Number.is in cc)

pub returns-in-Word : goal.returns-in-Word
returns-in-Word c = λ t. marked_none (get_by_text c.args.numbers.now) (λ (t : List ℕ). c.args.token.now ≡ kind.Literal t) c.args.marks.now.items (λ t same. let other = c.in-Word.is in cc)

pub returns-in-Symbol : goal.returns-in-Symbol
returns-in-Symbol c = λ t. marked_none (get_by_text c.args.numbers.now) (λ (t : List ℕ). c.args.token.now ≡ kind.Literal t) c.args.marks.now.items (λ t same. let other = c.in-Symbol.is in cc)

pub returns-in-End : goal.returns-in-End
returns-in-End c = λ t. marked_none (get_by_text c.args.numbers.now) (λ (t : List ℕ). c.args.token.now ≡ kind.Literal t) c.args.marks.now.items (λ t same. let other = c.in-End.is in cc)
