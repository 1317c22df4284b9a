use Rattle.answer_laws.proofs.Held.{labels_have}
use Rattle.answer_laws.proofs.labels_have_lassos.Goals as goal

pub returns : goal.returns
returns c = λ model scopes labels labelled numbered are. labels_have model scopes labelled numbered labels are
