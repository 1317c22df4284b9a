use Rattle.std.proofs.Common.{◌∙◌, sym}
use Rattle.indexmap.specs.IndexMap.{get_by_text}
use Rattle.resolve_told_literals.proofs.Marking.{marked_one}
use Rattle.resolve_told_literals.proofs.marks.mark_literal.Goals as goal

pub returns-in-Some : goal.returns-in-Some
returns-in-Some c = λ is_marked.
    marked_one (get_by_text c.args.numbers.now) c.args.text.now c.in-Some.number c.args.marks.now.items c.mark.new.marks.items (sym c.in_ok-literal_number.ensures ∙ c.in-Some.is) (c.mark.ensures is_marked)
