use Rattle.std.proofs.Common.{◌∙◌, sym}
use Rattle.std.proofs.lemmas.Slice.Eq.{bytes_eq-Decides}
use Rattle.resolve_told.proofs.words.same_text.Goals as goal

pub returns : goal.returns
returns c = λ yes. (bytes_eq-Decides c.args.a.now c.args.b.now).0 (sym c.have_same-is_same.ensures ∙ yes)
