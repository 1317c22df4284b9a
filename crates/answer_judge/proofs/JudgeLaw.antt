-- What the parts of a judgement say together.
use Rattle.std.proofs.Common.{◌≡◌, ◌↔◌, ℕ, ◌+◌, ◌<◌, List, [], ◌∷◌, ◌++◌, refl, sym, subst, length, take, get_or, All, Option, Some, None, is_none, Bool, true, ◌&&◌, IsTrue}
use Rattle.std.specs.List.{list_all}
use Rattle.std.proofs.lemmas.Bool.{and_parts, and_from}
use Rattle.std.proofs.lemmas.List.{take_more}
use Rattle.std.proofs.lemmas.List.Elements.{All-nil, All-cons, All-head, All-tail}
use Rattle.answer_analysis.specs.declared.ready.Ready.{Ready}
use Rattle.core_tree.specs.declared.model.Command.{Command}
use Rattle.core_tree.specs.declared.model.Fact.{Fact}
use Rattle.core_meaning.specs.Sequence.{LassoValue}
use Rattle.core_meaning.specs.Satisfied.{DeclaresAt}
use Rattle.answer_texts.specs.Judged.{is_satisfied}
use Rattle.answer_texts.specs.declared.judgement.JudgedFact.{JudgedFact}
use Rattle.answer_texts.specs.declared.judgement.Judgement.{Judgement}
use Rattle.answer_analysis.proofs.NoneLaw.{same_item}
use Rattle.eval_trace.specs.Asked.{IsFirstWithout}
use Rattle.core_tree.specs.Trees.{Term, claim_of}
use Rattle.answer_judge.specs.declared.answer.TraceAnswer.{TraceAnswer}
use Rattle.answer_judge.specs.declared.answer.TraceAnswer.TheVariants.{Judged, Valued, BadTrace}
use Rattle.answer_judge.specs.Judged.{HoldsFirst, IsJudgedFact, AreJudged, IsRight, IsSatisfied, IsNotRead, IsJudgement, IsValue}

-- an answer that a text is no trace is one of each mode
pub not_judged : (ready : Ready) (trace : List ℕ) (answer : TraceAnswer) → IsNotRead ready trace answer → IsJudgement ready trace answer
not_judged ready trace (Judged satisfied text) is = absurd is
not_judged ready trace (Valued text) is = absurd is
not_judged ready trace (BadTrace line) is = is

pub not_valued : (ready : Ready) (value : Term) (position : ℕ) (trace : List ℕ) (answer : TraceAnswer) → IsNotRead ready trace answer → IsValue ready value position trace answer
not_valued ready value position trace (Judged satisfied text) is = absurd is
not_valued ready value position trace (Valued text) is = absurd is
not_valued ready value position trace (BadTrace line) is = is

module _ (ready : Ready) (lasso : LassoValue) where
  abbrev Holds : Fact → Type 0
  Holds fact = HoldsFirst ready lasso (claim_of fact.formula)

  -- one fact more
  judged_more : (js : List JudgedFact) (ps : List Fact) (j : JudgedFact) (p : Fact) → AreJudged ready lasso js ps → IsJudgedFact ready lasso j p → AreJudged ready lasso (js ++ j ∷ []) (ps ++ p ∷ [])
  judged_more [] [] j p all here = (here, tt)
  judged_more (x ∷ js) (y ∷ ps) j p (first, all) here = (first, judged_more js ps j p all here)
  judged_more [] (y ∷ ps) j p all here = absurd all
  judged_more (x ∷ js) [] j p all here = absurd all

  pub judged_next : (js : List JudgedFact) (ps : List Fact) (k : ℕ) (d : Fact) (j : JudgedFact) → k < length ps → AreJudged ready lasso js (take k ps) → IsJudgedFact ready lasso j (get_or ps k d) → AreJudged ready lasso (js ++ j ∷ []) (take (k + 1) ps)
  judged_next js ps k d j lt all here = subst (AreJudged ready lasso (js ++ j ∷ [])) (sym (take_more ps k d lt)) (judged_more js (take k ps) j (get_or ps k d) all here)

  -- the facts hold just where it is said of each
  facts_hold : (js : List JudgedFact) (ps : List Fact) → AreJudged ready lasso js ps → list_all (λ (j : JudgedFact). j.holds) js ≡ true → All Holds ps
  facts_hold [] [] all e = All-nil Holds
  facts_hold (x ∷ js) (y ∷ ps) ((name, just), all) e =
      let (here, rest) = and_parts x.holds (list_all (λ (j : JudgedFact). j.holds) js) e in
      All-cons Holds y ps (just.0 here) (facts_hold js ps all rest)
  facts_hold [] (y ∷ ps) all e = absurd all
  facts_hold (x ∷ js) [] all e = absurd all

  facts_told : (js : List JudgedFact) (ps : List Fact) → AreJudged ready lasso js ps → All Holds ps → list_all (λ (j : JudgedFact). j.holds) js ≡ true
  facts_told [] [] all h = refl
  facts_told (x ∷ js) (y ∷ ps) ((name, just), all) h =
      and_from x.holds (list_all (λ (j : JudgedFact). j.holds) js) (just.1 (All-head Holds y ps h)) (facts_told js ps all (All-tail Holds y ps h))
  facts_told [] (y ∷ ps) all h = absurd all
  facts_told (x ∷ js) [] all h = absurd all

  -- the declarations hold at each position just where there is no first one at which they don't
  never_fails : (o : Option ℕ) → IsFirstWithout (DeclaresAt ready.model ready.scopes lasso) o → is_none o ≡ true → (i : ℕ) → DeclaresAt ready.model ready.scopes lasso i
  never_fails None is e = is
  never_fails (Some k) is e = absurd cc

  none_fails : (o : Option ℕ) → IsFirstWithout (DeclaresAt ready.model ready.scopes lasso) o → ((i : ℕ) → DeclaresAt ready.model ready.scopes lasso i) → is_none o ≡ true
  none_fails None is all = refl
  none_fails (Some k) is all = absurd (is.0 (all k))

  module _ (judgement : Judgement) (right : IsRight ready lasso judgement) where
    all_parts : is_satisfied judgement ≡ true → IsSatisfied ready lasso
    all_parts e =
        let (three, command) = and_parts (judgement.scopes && is_none judgement.broken_at && list_all (λ (j : JudgedFact). j.holds) judgement.facts) judgement.command e in
        let (two, facts) = and_parts (judgement.scopes && is_none judgement.broken_at) (list_all (λ (j : JudgedFact). j.holds) judgement.facts) three in
        let (scopes, declared) = and_parts judgement.scopes (is_none judgement.broken_at) two in
        record {
          command = right.command;
          chosen = right.chosen;
          satisfies = record {
            keeps = right.scopes_are.0 scopes;
            declared = never_fails judgement.broken_at right.declared declared;
            facts_hold = facts_hold judgement.facts ready.model.facts right.facts_are facts;
            command_holds = right.command_is.0 command;
          };
        }

    of_parts : IsSatisfied ready lasso → is_satisfied judgement ≡ true
    of_parts is =
        let s = is.satisfies in
        let same = same_item ready.model.commands ready.command ready.command is.command right.command refl is.chosen right.chosen in
        and_from (judgement.scopes && is_none judgement.broken_at && list_all (λ (j : JudgedFact). j.holds) judgement.facts) judgement.command
        (and_from (judgement.scopes && is_none judgement.broken_at) (list_all (λ (j : JudgedFact). j.holds) judgement.facts)
        (and_from judgement.scopes (is_none judgement.broken_at) (right.scopes_are.1 s.keeps) (none_fails judgement.broken_at right.declared s.declared))
        (facts_told judgement.facts ready.model.facts right.facts_are s.facts_hold))
        (right.command_is.1 (subst (λ (c : Command). HoldsFirst ready lasso (claim_of c.formula)) same s.command_holds))

    pub satisfied_is : (b : Bool) → b ≡ is_satisfied judgement → IsTrue b ↔ IsSatisfied ready lasso
    satisfied_is b e = subst (λ (z : Bool). IsTrue z ↔ IsSatisfied ready lasso) (sym e) (all_parts, of_parts)
