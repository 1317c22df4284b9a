use Rattle.answer_certificates.proofs.EncodedLaw.{units_say_model, units_say_part, units_say_kept}
use Rattle.answer_certificates.proofs.units_say_the_model.Goals as goal

pub returns-clause-whole : goal.returns-clause-whole
returns-clause-whole c = units_say_model

pub returns-clause-part : goal.returns-clause-part
returns-clause-part c = units_say_part

pub returns-clause-kept : goal.returns-clause-kept
returns-clause-kept c = units_say_kept
