use Rattle.std.proofs.Common.{ℕ, List, Some, if◌then◌else◌, string_bytes, ◌∙◌, ap}
use Rattle.std.specs.Str.{bytes_eq}
use Rattle.std.specs.Map.{lookup}
use Rattle.indexmap.specs.IndexMap.{get_by_text}
use Rattle.resolve_names.proofs.Chained.{looked_put}
use Rattle.resolve_told_literals.proofs.labels.note.Goals as goal

pub returns-clause-new : goal.returns-clause-new
returns-clause-new c = λ q.
    ap (lookup (λ k. bytes_eq q (string_bytes k))) c.in_ok-old.ensures.entries
    ∙ looked_put string_bytes c.in_ok-key.key c.args.number q c.args.numbers.now.entries
    ∙ ap (λ (t : List ℕ). if bytes_eq t q then Some c.args.number else get_by_text c.args.numbers.now q) c.in_ok-key.ensures.ok
