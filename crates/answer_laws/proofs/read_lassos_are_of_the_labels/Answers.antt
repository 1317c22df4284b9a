use Rattle.answer_laws.proofs.read_lassos_are_of_the_labels.Goals as goal
use Rattle.answer_laws.proofs.Built.{allow_of}
use Rattle.answer_laws.proofs.Ended.{text_of_read}

pub returns : goal.returns
returns c = λ labels text lasso have read. (text_of_read labels (allow_of labels have) text lasso read.0 read.1 read.2).1
