use Rattle.form_measures.proofs.forms.over_row.Goals as goal

pub returns-in_ok-whole-in-Past : goal.returns-in_ok-whole-in-Past
returns-in_ok-whole-in-Past c = λ d. rw c.in-Past.is (c.in_ok-whole-in-Past.ensures d)

pub returns-in_ok-whole-in-Depth : goal.returns-in_ok-whole-in-Depth
returns-in_ok-whole-in-Depth c = λ d. rw c.in-Depth.is (c.in_ok-whole-in-Depth.ensures d)
