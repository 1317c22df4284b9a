use Rattle.std.proofs.Common.{◌∙◌, sym, ap}
use Rattle.std.specs.List.{list_any}
use Rattle.base_words.specs.Words.{is_feed}
use Rattle.answer_checks.proofs.texts.is_line.Goals as goal

pub returns : goal.returns
returns c = λ t. sym (c.has_feed.ensures ∙ ap (list_any is_feed) c.bytes_of.ensures) ∙ c.if-has_feed.false
