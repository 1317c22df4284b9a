use Rattle.std.proofs.Common.{◌≡◌, ◌∙◌, false, length, replicate, ap}
use Rattle.std.proofs.lemmas.List.{length-replicate}
use Rattle.answer_certificates.proofs.Staying.{whole_part}
use Rattle.answer_certificates.proofs.shrink.all_kept.Goals as goal

pub returns : goal.returns
returns c =
    let target = c.args.question.now.target.now in
    let flags : c.in_ok-dropped.dropped.items ≡ replicate c.args.question.now.facts false = c.in_ok-dropped.ensures.items_if_clones_equal (λ y e. e) in (
      ap length flags ∙ length-replicate c.args.question.now.facts false,
      c.requires.refuted,
      record {
        part = target;
        is_part = whole_part target c.args.question.now.first c.args.question.now.facts c.in_ok-dropped.dropped.items flags;
        says = c.requires.says.0;
        ruled = c.requires.ruled;
      },
      c.requires.says.1,
    )
