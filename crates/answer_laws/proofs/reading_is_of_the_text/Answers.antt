use Rattle.answer_laws.proofs.reading_is_of_the_text.Goals as goal
use Rattle.answer_laws.proofs.Built.{allow_of}
use Rattle.answer_laws.proofs.Ended.{text_of_read}

pub returns : goal.returns
returns c = λ labels text lasso rest lines have way. text_of_read labels (allow_of labels have) text lasso rest lines way
