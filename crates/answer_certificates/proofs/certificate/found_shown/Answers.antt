use Rattle.std.proofs.Common.{refl}
use Rattle.answer_certificates.proofs.certificate.found_shown.Goals as goal

pub returns : goal.returns
returns c = c.in_ok-text.ensures c.args.prepared.now refl (c.in_ok-holds.ensures.trace c.if-not-holds.false) (c.in_ok-holds.ensures.fits c.if-not-holds.false) c.requires
