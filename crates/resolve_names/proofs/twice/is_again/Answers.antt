use Rattle.std.proofs.Common.{◌∙◌}
use Rattle.std.specs.Str.{bytes_eq}
use Rattle.resolve_names.specs.Noted.{has_text}
use Rattle.resolve_names.proofs.Noting.{cond_or}
use Rattle.resolve_names.proofs.twice.is_again.Goals as goal

pub returns-clause-known : goal.returns-clause-known
returns-clause-known c = λ q.
    c.in_ok-is_new.ensures.updates.0 (record { ref_ptr = (0, 0); now = q })
    ∙ cond_or (bytes_eq c.args.text.now q) (has_text c.args.known.now q)
