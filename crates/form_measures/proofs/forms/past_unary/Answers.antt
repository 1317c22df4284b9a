use Rattle.std.proofs.Common.{refl}
use Rattle.form_measures.proofs.forms.past_unary.Goals as goal

pub returns-in-After : goal.returns-in-After
returns-in-After c = λ d. rw c.in-After.is refl

pub returns-in-Always : goal.returns-in-Always
returns-in-Always c = λ d. rw c.in-Always.is refl

pub returns-in-Eventually : goal.returns-in-Eventually
returns-in-Eventually c = λ d. rw c.in-Eventually.is refl

pub returns-in_ok-whole-in-Before : goal.returns-in_ok-whole-in-Before
returns-in_ok-whole-in-Before c = λ d. rw c.in-Before.is (c.in_ok-whole-in-Before.ensures d)

pub returns-in_ok-whole-in-Historically : goal.returns-in_ok-whole-in-Historically
returns-in_ok-whole-in-Historically c = λ d. rw c.in-Historically.is (c.in_ok-whole-in-Historically.ensures d)

pub returns-in_ok-whole-in-Once : goal.returns-in_ok-whole-in-Once
returns-in_ok-whole-in-Once c = λ d. rw c.in-Once.is (c.in_ok-whole-in-Once.ensures d)
