-- What a lemma leaves of a search, and what becomes of the step before it.
use Rattle.std.proofs.Common.{◌≡◌, ℕ, suc, ◌+◌, ◌-◌, ◌*◌, ◌^◌, ◌<◌, ◌≤◌, ℤ, nat_abs, neg_ℤ, false, List, [], ◌∷◌, ◌++◌, length, Option, Some, None, Ok, Err, IsSomeAnd, refl, sym, ap, ◌∙◌, subst, arith}
use Rattle.std.proofs.lemmas.List.{length-append}
use Rattle.sat_lrat.specs.declared.line.Line.TheVariants.{Lemma}
use Rattle.sat_lrat.specs.Step.{State, among, rest_of, step, clause_at, with_clause, start, is_empty_lemma}
use Rattle.sat_lrat.specs.declared.line.Rest.TheVariants.{One}
use Rattle.sat_lemmas.specs.declared.log.LemmaLog.{LemmaLog}
use Rattle.sat_lemmas.specs.declared.log.Taken.TheVariants.{Added, Failed}
use Rattle.sat_lemmas.specs.Outcome.{AreLemmas, Leaves, IsTaken}
use Rattle.test_dpll.specs.declared.path.Step.{Step}
use Rattle.test_dpll.specs.declared.path.Path.{Path}
use Rattle.test_dpll.specs.Steps.{denial_of, IsApart}
use Rattle.test_dpll.specs.Path.{steps_of, IsPath, IsFree}
use Rattle.test_dpll.specs.Progress.{number_of, come_to, left}
use Rattle.test_dpll.specs.Search.{HoldsFormula, IsUnit, HasReason, HaveReasons, CanDeny, hints_by, IsSearch, IsDenied, IsTurned, IsShorter, IsTurn, end_of}
use Rattle.test_dpll.specs.declared.search.Turn.TheVariants.{On, Full}
use Rattle.test_dpll.specs.declared.scan.Found.TheVariants as has
use Rattle.test_dpll.specs.Scan.{IsUnitAt, IsFound}
use Rattle.test_dpll.proofs.Progressing.{length_apart, come_to_more, end_less, end_tried, left_less}
use Rattle.test_dpll.proofs.Standing.{at_same, denial_passes, formula_stays, reasons_stay, own_rest, last_nonempty, some_steps, start_holds, unit_stands}

-- the lemma passes, by the names that its parts have
passes_as : (formula : List (List ℤ)) (log : LemmaLog) (path : Path) (id : ℕ) (clause : List ℤ) (hints : List ℕ) (first : ℕ) (second : Option ℕ)
    → IsSearch formula log path → CanDeny log.checker (steps_of path) first second → id ≡ length formula + length log.lines + 1 → clause ≡ denial_of (steps_of path) → hints ≡ hints_by first second
    → step log.checker (Lemma id clause hints) ≡ Ok (with_clause log.checker id clause)
passes_as formula log path id clause hints first second search can number is hints_are =
    let above : log.checker.top < id = (let t : log.checker.top ≡ length formula + length log.lines = search.top in omega arith) in
    subst (λ c. step log.checker (Lemma id c hints) ≡ Ok (with_clause log.checker id c)) (sym is)
    (subst (λ h. step log.checker (Lemma id (denial_of (steps_of path)) h) ≡ Ok (with_clause log.checker id (denial_of (steps_of path)))) (sym hints_are)
    (denial_passes log.checker (length path.values.items) id (steps_of path) first second search.ready.apart above can))

-- a lemma that was added stands
pub denied_added : (formula : List (List ℤ)) (log new : LemmaLog) (path : Path) (id : ℕ) (clause : List ℤ) (hints : List ℕ) (first : ℕ) (second : Option ℕ)
    → IsSearch formula log path → CanDeny log.checker (steps_of path) first second → id ≡ length formula + length log.lines + 1 → clause ≡ denial_of (steps_of path) → hints ≡ hints_by first second
    → IsTaken (Lemma id clause hints) log.lines log.checker Added new.lines new.checker → Leaves formula Added new.lines new.checker → IsDenied formula new path (Some id)
denied_added formula log new path id clause hints first second search can number is hints_are taken leaves =
    let passes = passes_as formula log path id clause hints first second search can number is hints_are in
    let both : Ok (with_clause log.checker id clause) ≡ Ok new.checker = sym passes ∙ taken.1 in
    let same : with_clause log.checker id clause ≡ new.checker = cc in
    let top : log.checker.top ≡ length formula + length log.lines = search.top in
    let above : log.checker.top < id = omega arith in
    let over : length formula < id = omega arith in
    let longer : length new.lines ≡ length log.lines + 1 = ap length taken.0 ∙ length-append log.lines (Lemma id clause hints ∷ []) in
    let top_is : id ≡ new.checker.top = ap (λ (s : State). s.top) same in
    let there : clause_at new.checker id ≡ Some clause = subst (λ s. clause_at s id ≡ Some clause) same (at_same log.checker.standing id clause) in
    let after : AreLemmas (start formula) (log.lines ++ Lemma id clause hints ∷ []) new.checker = subst (λ ls. AreLemmas (start formula) ls new.checker) taken.0 leaves in
    let nonempty : is_empty_lemma (Lemma id clause hints) ≡ false = last_nonempty log.lines (Lemma id clause hints) (start formula) new.checker after in (
      record {
        lemmas = leaves;
        top = sym top_is ∙ number ∙ omega arith;
        holds = subst (λ s. HoldsFormula formula s) same (formula_stays formula log.checker id clause over search.holds);
        ready = search.ready;
        reasons = subst (λ s. HaveReasons s (steps_of path)) same (reasons_stay log.checker id clause (steps_of path) above search.reasons);
      },
      omega arith,
      there ∙ ap Some is,
      some_steps (steps_of path) id hints (subst (λ c. is_empty_lemma (Lemma id c hints) ≡ false) is nonempty),
    )

-- a lemma that denies the steps can't fail
pub denied_failed : (formula : List (List ℤ)) (log new : LemmaLog) (path : Path) (id : ℕ) (clause : List ℤ) (hints : List ℕ) (first : ℕ) (second : Option ℕ)
    → IsSearch formula log path → CanDeny log.checker (steps_of path) first second → id ≡ length formula + length log.lines + 1 → clause ≡ denial_of (steps_of path) → hints ≡ hints_by first second
    → IsTaken (Lemma id clause hints) log.lines log.checker Failed new.lines new.checker → ⊥
denied_failed formula log new path id clause hints first second search can number is hints_are taken =
    let passes = passes_as formula log path id clause hints first second search can number is hints_are in
    let both : Ok (with_clause log.checker id clause) ≡ Err taken.2 = sym passes ∙ taken.3 in cc

-- ---- a step back

pub popped_apart : (most : ℕ) (path popped : Path) (step : Step) → IsPath path → length path.values.items ≡ most → steps_of path ≡ step ∷ steps_of popped → IsApart most (step ∷ steps_of popped)
popped_apart most path popped step ok size is = subst (IsApart most) is (subst (λ n. IsApart n (steps_of path)) size ok.apart)

pub popped_reasons : (formula : List (List ℤ)) (log : LemmaLog) (path popped : Path) (step : Step) → IsSearch formula log path → steps_of path ≡ step ∷ steps_of popped → HaveReasons log.checker (step ∷ steps_of popped)
popped_reasons formula log path popped step search is = subst (HaveReasons log.checker) is search.reasons

pub popped_search : (formula : List (List ℤ)) (log : LemmaLog) (path popped : Path) (step : Step) (last : ℕ) → IsDenied formula log path (Some last) → steps_of path ≡ step ∷ steps_of popped → IsPath popped → IsSearch formula log popped
popped_search formula log path popped step last denied is ok = record {
  lemmas = denied.0.lemmas;
  top = denied.0.top;
  holds = denied.0.holds;
  ready = ok;
  reasons = (popped_reasons formula log path popped step denied.0 is).1;
}

pub popped_free : (path popped : Path) (step : Step) → IsPath path → length popped.values.items ≡ length path.values.items → steps_of path ≡ step ∷ steps_of popped → IsFree popped step.literal
popped_free path popped step ok size is =
    let apart = popped_apart (length path.values.items) path popped step ok refl is in
    record { nonzero = apart.0; within = subst (λ n. nat_abs step.literal ≤ n) (sym size) apart.1; free = apart.2 }

-- the steps without a forced one can be denied
pub popped_denies : (formula : List (List ℤ)) (log : LemmaLog) (path popped : Path) (step : Step) (last reason : ℕ) → IsDenied formula log path (Some last) → steps_of path ≡ step ∷ steps_of popped → step.reason ≡ Some reason
    → CanDeny log.checker (steps_of popped) reason (Some last)
popped_denies formula log path popped step last reason denied is why =
    let apart = popped_apart (length path.values.items) path popped step denied.0.ready refl is in
    let reasons = popped_reasons formula log path popped step denied.0 is in (
      step.literal,
      apart.0,
      apart.2,
      subst (λ r. HasReason log.checker (steps_of popped) step.literal r) why reasons.0,
      denied.2 ∙ ap (λ steps. Some (denial_of steps)) is,
    )

-- a step that was tried is turned round
pub turned_search : (formula : List (List ℤ)) (log : LemmaLog) (path popped new : Path) (step turned : Step) (last : ℕ) → IsDenied formula log path (Some last) → steps_of path ≡ step ∷ steps_of popped
    → IsPath new → turned.literal ≡ neg_ℤ step.literal → turned.reason ≡ Some last → steps_of new ≡ turned ∷ steps_of popped → IsSearch formula log new
turned_search formula log path popped new step turned last denied is ok literal why steps =
    let most = length path.values.items in
    let apart = popped_apart most path popped step denied.0.ready refl is in
    let there : clause_at log.checker last ≡ Some (neg_ℤ step.literal ∷ denial_of (steps_of popped)) = denied.2 ∙ ap (λ ss. Some (denial_of ss)) is in
    let unit : IsUnit log.checker (steps_of popped) last (neg_ℤ step.literal) = record {
      known = denied.1;
      unit = subst (λ o. IsSomeAnd o (λ c. rest_of (among (denial_of (steps_of popped))) c ≡ One (neg_ℤ step.literal))) (sym there) (own_rest most (steps_of popped) step.literal apart.3 apart.0 apart.2);
    } in
    let reason : HasReason log.checker (steps_of popped) turned.literal turned.reason =
    subst (λ l. HasReason log.checker (steps_of popped) l turned.reason) (sym literal) (subst (λ r. HasReason log.checker (steps_of popped) (neg_ℤ step.literal) r) (sym why) unit) in
    record {
      lemmas = denied.0.lemmas;
      top = denied.0.top;
      holds = denied.0.holds;
      ready = ok;
      reasons = subst (HaveReasons log.checker) (sym steps) (reason, (popped_reasons formula log path popped step denied.0 is).1);
    }

-- ---- a step back, as the search sees it

pub turned_back : (formula : List (List ℤ)) (log : LemmaLog) (path popped new : Path) (step : Step) (last : ℕ) → IsDenied formula log path (Some last) → steps_of path ≡ step ∷ steps_of popped
    → length popped.values.items ≡ length path.values.items → step.reason ≡ None → IsPath new → length new.values.items ≡ length popped.values.items
    → (turned : Step) × (turned.literal ≡ neg_ℤ step.literal) × (turned.reason ≡ Some last) × (steps_of new ≡ turned ∷ steps_of popped) → IsTurned formula path log new
turned_back formula log path popped new step last denied is size none ok same turned =
    let most = length path.values.items in
    record {
      kept = turned_search formula log path popped new step turned.0 last denied is ok turned.1 turned.2 turned.3;
      size = same ∙ size;
      come = ap (λ ss. (number_of ss + 1) * 3 ^ (most - length ss)) is ∙ end_tried most step turned.0 (steps_of popped) last none turned.2 ∙ ap (come_to most) (sym turned.3);
    }

pub shorter_back : (formula : List (List ℤ)) (log : LemmaLog) (path popped : Path) (step : Step) (last reason : ℕ) → IsDenied formula log path (Some last) → IsPath popped → steps_of path ≡ step ∷ steps_of popped
    → length popped.values.items ≡ length path.values.items → step.reason ≡ Some reason → IsShorter formula path log popped reason last
shorter_back formula log path popped step last reason denied ok is size why =
    let most = length path.values.items in
    let apart = popped_apart most path popped step denied.0.ready refl is in
    let room : length (step ∷ steps_of popped) ≤ most = length_apart most (step ∷ steps_of popped) apart in
    record {
      kept = popped_search formula log path popped step last denied is ok;
      size = size;
      follows = popped_denies formula log path popped step last reason denied is why;
      ends = subst (λ ss. (number_of ss + 1) * 3 ^ (most - length ss) ≤ (number_of (steps_of popped) + 1) * 3 ^ (most - length (steps_of popped))) (sym is) (end_less most step (steps_of popped) (omega arith));
      shorter = sym (ap length is ∙ one_more (steps_of popped));
    }
  where
    one_more : (ss : List Step) → suc (length ss) ≡ length ss + 1
    one_more ss = omega arith

pub turn_is_on : (formula : List (List ℤ)) (initial old : Path) (log : LemmaLog) (new : Path) → IsTurned formula old log new → length old.values.items ≡ length initial.values.items
    → come_to (length initial.values.items) (steps_of initial) < end_of (length initial.values.items) (steps_of old) → IsTurn formula (length initial.values.items) initial log new On
turn_is_on formula initial old log new back same before =
    let most = length initial.values.items in
    let come : end_of most (steps_of old) ≡ come_to most (steps_of new) = subst (λ n. end_of n (steps_of old) ≡ come_to n (steps_of new)) same back.come in
    let size : length new.values.items ≡ most = back.size ∙ same in
    let apart : IsApart most (steps_of new) = subst (λ n. IsApart n (steps_of new)) size back.kept.ready.apart in
    (back.kept, size, left_less most (steps_of initial) (steps_of new) (length_apart most (steps_of new) apart) (subst (λ n. come_to most (steps_of initial) < n) come before))

pub less_to_end : (most come : ℕ) (old new : Path) → length old.values.items ≡ most → come < end_of most (steps_of old) → end_of (length old.values.items) (steps_of old) ≤ end_of (length old.values.items) (steps_of new) → come < end_of most (steps_of new)
less_to_end most come old new same before ends =
    less_then come (end_of most (steps_of old)) (end_of most (steps_of new)) before (subst (λ n. end_of n (steps_of old) ≤ end_of n (steps_of new)) same ends)
  where
    less_then : (a b c : ℕ) → a < b → b ≤ c → a < c
    less_then a b c p q = omega arith

-- ---- a turn

pushed_turn : (formula : List (List ℤ)) (log : LemmaLog) (path new : Path) (step : Step) → IsSearch formula log path → IsPath new → length new.values.items ≡ length path.values.items
    → steps_of new ≡ step ∷ steps_of path → HasReason log.checker (steps_of path) step.literal step.reason → IsTurn formula (length path.values.items) path log new On
pushed_turn formula log path new step kept ok size steps reason =
    let most = length path.values.items in
    let apart : IsApart most (step ∷ steps_of path) = subst (IsApart most) steps (subst (λ n. IsApart n (steps_of new)) size ok.apart) in
    let room : length (step ∷ steps_of path) ≤ most = length_apart most (step ∷ steps_of path) apart in (
      record {
        lemmas = kept.lemmas;
        top = kept.top;
        holds = kept.holds;
        ready = ok;
        reasons = subst (HaveReasons log.checker) (sym steps) (reason, kept.reasons);
      },
      size,
      subst (λ ss. left most ss < left most (steps_of path)) (sym steps) (left_less most (steps_of path) (step ∷ steps_of path) room (come_to_more most step (steps_of path) (omega arith))),
    )

-- with a unit clause's literal
pub unit_turn : (formula : List (List ℤ)) (log : LemmaLog) (path new : Path) (number : ℕ) (literal : ℤ) → IsSearch formula log path → IsUnitAt path formula number literal → IsPath new
    → length new.values.items ≡ length path.values.items → (step : Step) × (step.literal ≡ literal) × (step.reason ≡ Some number) × (steps_of new ≡ step ∷ steps_of path)
    → IsTurn formula (length path.values.items) path log new On
unit_turn formula log path new number literal kept unit ok size pushed =
    let top : log.checker.top ≡ length formula + length log.lines = kept.top in
    let room : length formula ≤ log.checker.top = omega arith in
    let here : IsUnit log.checker (steps_of path) number literal = unit_stands formula log.checker (steps_of path) number literal kept.holds room unit.positive unit.unit in
    pushed_turn formula log path new pushed.0 kept ok size pushed.3
    (subst (λ l. HasReason log.checker (steps_of path) l pushed.0.reason) (sym pushed.1) (subst (λ r. HasReason log.checker (steps_of path) literal r) (sym pushed.2) here))

-- with a variable that is tried
pub open_turn : (formula : List (List ℤ)) (log : LemmaLog) (path new : Path) → IsSearch formula log path → IsPath new → length new.values.items ≡ length path.values.items
    → (step : Step) × (step.reason ≡ None) × (steps_of new ≡ step ∷ steps_of path) → IsTurn formula (length path.values.items) path log new On
open_turn formula log path new kept ok size pushed =
    pushed_turn formula log path new pushed.0 kept ok size pushed.2 (subst (λ r. HasReason log.checker (steps_of path) pushed.0.literal r) (sym pushed.1) tt)

-- ---- the whole search

pub search_starts : (formula : List (List ℤ)) (log : LemmaLog) (path : Path) → log.lines ≡ [] → log.checker ≡ start formula → AreLemmas (start formula) log.lines log.checker → IsPath path → steps_of path ≡ []
    → IsSearch formula log path
search_starts formula log path lines checker lemmas ok steps = record {
  lemmas = lemmas;
  top = ap (λ (s : State). s.top) checker ∙ none (length formula) (length log.lines) (ap length lines);
  holds = subst (λ s. HoldsFormula formula s) (sym checker) (start_holds formula);
  ready = ok;
  reasons = subst (HaveReasons log.checker) (sym steps) tt;
}
  where
    none : (n k : ℕ) → k ≡ 0 → n ≡ n + k
    none n k e = omega arith

pub on_turn : (formula : List (List ℤ)) (most : ℕ) (old : Path) (log : LemmaLog) (new : Path) → length old.values.items ≡ most → IsTurn formula (length old.values.items) old log new On
    → IsSearch formula log new × (length new.values.items ≡ most) × (left most (steps_of new) < left most (steps_of old))
on_turn formula most old log new size turn = (turn.0, turn.1 ∙ size, subst (λ n. left n (steps_of new) < left n (steps_of old)) size turn.2)

pub full_turn : (formula : List (List ℤ)) (most : ℕ) (old : Path) (log : LemmaLog) (new : Path) → length old.values.items ≡ most → IsTurn formula (length old.values.items) old log new Full
    → IsPath new × (length new.values.items ≡ most) × IsFound new formula (length formula) has.True
full_turn formula most old log new size turn = (turn.0, turn.1 ∙ size, turn.2)
