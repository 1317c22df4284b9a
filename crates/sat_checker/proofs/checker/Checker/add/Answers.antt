use Rattle.std.proofs.Common.{◌≡◌, sym, ◌∙◌, [], ◌∷◌, IsTrue, refl}
use Rattle.std.proofs.lemmas.Result.{IfOk-weaker}
use Rattle.sat_lrat.specs.declared.line.Line.{Line}
use Rattle.sat_lrat.specs.declared.line.Line.TheVariants.{Lemma, Delete}
use Rattle.sat_lrat.specs.Step.{Follows, IsUnsatisfiable, is_empty_lemma}
use Rattle.sat_checker.specs.declared.fault.Step.TheVariants.{Refuted}
use Rattle.sat_checker.specs.Answers.{kind_of}
use Rattle.sat_checker.proofs.checker.Checker.add.Goals as goal

-- a line that refutes is an empty lemma
is_empty : (line : Line) → kind_of line ≡ Refuted → IsTrue (is_empty_lemma line)
is_empty (Lemma id [] hints) e = refl
is_empty (Lemma id (x ∷ xs) hints) e = cc
is_empty (Delete ids) e = cc

pub returns-in-Lemma-clause-follows : goal.returns-in-Lemma-clause-follows
returns-in-Lemma-clause-follows c = λ formula follows.
    IfOk-weaker c.add_lemma.result _ (λ _. Follows formula c.add_lemma.new.self)
    (λ kind passed. c.step_is_sound.ensures.follows formula c.args.self.now (Lemma c.in-Lemma.id c.in-Lemma.clause c.in-Lemma.hints) _ passed.0 follows) c.add_lemma.ensures.passes

pub returns-in-Lemma-clause-refuted : goal.returns-in-Lemma-clause-refuted
returns-in-Lemma-clause-refuted c = λ formula follows.
    IfOk-weaker c.add_lemma.result _ (λ kind. kind ≡ Refuted → IsUnsatisfiable formula)
    (λ kind passed refuted. c.step_is_sound.ensures.refutes formula c.args.self.now (Lemma c.in-Lemma.id c.in-Lemma.clause c.in-Lemma.hints) _ passed.0 (is_empty (Lemma c.in-Lemma.id c.in-Lemma.clause c.in-Lemma.hints) (sym passed.1 ∙ refuted)) follows) c.add_lemma.ensures.passes

pub returns-in-Delete-clause-follows : goal.returns-in-Delete-clause-follows
returns-in-Delete-clause-follows c = λ formula follows.
    IfOk-weaker c.delete.result _ (λ _. Follows formula c.delete.new.self)
    (λ kind passed. c.step_is_sound.ensures.follows formula c.args.self.now (Delete c.in-Delete.ids) _ passed.0 follows) c.delete.ensures.passes
