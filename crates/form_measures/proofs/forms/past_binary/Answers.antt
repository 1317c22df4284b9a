use Rattle.std.proofs.Common.{refl}
use Rattle.form_measures.proofs.forms.past_binary.Goals as goal

pub returns-in-Until : goal.returns-in-Until
returns-in-Until c = λ d. rw c.in-Until.is refl

pub returns-in-Releases : goal.returns-in-Releases
returns-in-Releases c = λ d. rw c.in-Releases.is refl

pub returns-in-Then : goal.returns-in-Then
returns-in-Then c = λ d. rw c.in-Then.is refl

pub returns-in_ok-whole-in-Since : goal.returns-in_ok-whole-in-Since
returns-in_ok-whole-in-Since c = λ d. rw c.in-Since.is (c.in_ok-whole-in-Since.ensures d)

pub returns-in_ok-whole-in-Triggered : goal.returns-in_ok-whole-in-Triggered
returns-in_ok-whole-in-Triggered c = λ d. rw c.in-Triggered.is (c.in_ok-whole-in-Triggered.ensures d)
