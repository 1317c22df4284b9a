-- Two texts that agree in their first lines are read alike up to there.
use Rattle.std.proofs.Common.{◌≡◌, ℕ, zero, suc, ◌+◌, ◌-◌, ◌<◌, ◌≤◌, Bool, true, false, cond, List, [], ◌∷◌, ◌++◌, take, codes, Option, Some, None, refl, sym, ap, ◌∙◌, arith, subst}
use Rattle.std.specs.Str.{bytes_eq}
use Rattle.core_tuples.specs.Sets.{TupleList}
use Rattle.answer_trace.specs.declared.label.Shown.{Shown}
use Rattle.answer_trace.specs.declared.label.Shown.TheVariants.{Line, Nothing, Just}
use Rattle.answer_trace.specs.declared.label.RelationLabel.{RelationLabel}
use Rattle.answer_trace.specs.declared.label.Labels.{Labels}
use Rattle.answer_trace.specs.Reading.{Way, go, after_line, on_line, no_line, where_true, line_set, hidden_set, shown_way, relation_way, relations_way, with_state, is_state_line, state_line_way, state_way, states_way, is_over, over_way, end_way, with_start, header_of, body_way, lines_way}
use Rattle.answer_trace.specs.Reading.Way.{on, off}
use Rattle.answer_laws.specs.Fault.{ended}

-- ---- lists

abbrev tail_of : {X : Type 0} → List X → List X
tail_of [] = []
tail_of (x ∷ xs) = xs

abbrev has_end : List (List ℕ × Bool) → Bool
has_end [] = false
has_end (x ∷ xs) = x.1

abbrev first_line : List (List ℕ × Bool) → List ℕ
first_line [] = []
first_line (x ∷ xs) = x.0

-- lines that agree in one with a line feed, and further
pub record Next (j : ℕ) (line : List ℕ) (rest lines : List (List ℕ)) : Type 0 where
  pub next : List ℕ
  pub more : List (List ℕ)
  pub is : lines ≡ line ∷ next ∷ more
  pub agree : take j (ended rest) ≡ take j (ended (next ∷ more))

alike_next : (j : ℕ) (line next : List ℕ) (more lines : List (List ℕ)) → take (suc j) (ended (line ∷ next ∷ more)) ≡ take (suc j) (ended lines) → Next j line (next ∷ more) lines
alike_next j line next more [] e = cc
alike_next j line next more (l ∷ []) e = absurd (let bad : true ≡ false = ap has_end e in cc)
alike_next j line next more (l ∷ m ∷ ls) e =
    let same : line ≡ l = ap first_line e in
    record { next = m; more = ls; is = ap (λ x. x ∷ m ∷ ls) (sym same); agree = ap tail_of e }

-- ---- what reads alike

-- where it leaves the lines of a trace, or goes on behind some lines, it does so too at lines that agree up to there
abbrev pub Stays : {A : Type 0} → (List (List ℕ) → ℕ → Way A) → Type 0
Stays F = (lines others : List (List ℕ)) (n k : ℕ) → F lines n ≡ off k → (n < k) × ((j : ℕ) → k ≡ n + j → take j (ended lines) ≡ take j (ended others) → F others n ≡ off k)

pub record Local {A : Type 0} (F : List (List ℕ) → ℕ → Way A) : Type 0 where
  pub stays : Stays F
  pub goes : (lines others : List (List ℕ)) (n : ℕ) (a : A) (rest : List (List ℕ)) (m : ℕ) → F lines n ≡ on a rest m
      → (n ≤ m) × ((i j : ℕ) → m ≡ n + i → take (i + j) (ended lines) ≡ take (i + j) (ended others) → (left : List (List ℕ)) × (F others n ≡ on a left m) × (take j (ended rest) ≡ take j (ended left)))

abbrev pub left_at : {A : Type 0} → Way A → ℕ
left_at (on a lines n) = 0
left_at (off k) = k

abbrev pub off_way : (A : Type 0) → ℕ → Way A
off_way A k = off k

pub off_is : {A : Type 0} (i k : ℕ) → off_way A i ≡ off_way A k → i ≡ k
off_is i k e = ap left_at e

-- ---- a line

line_off : {A : Type 0} (f : List ℕ → Option A) (lines others : List (List ℕ)) (n k : ℕ) → on_line f lines n ≡ off k → (k ≡ suc n) × (take 1 (ended lines) ≡ take 1 (ended others) → on_line f others n ≡ off k)
line_off f [] others n k e = (let same : suc n ≡ k = off_is (suc n) k e in sym same, λ agree. by_others others agree)
  where
    by_others : (ls : List (List ℕ)) → [] ≡ take 1 (ended ls) → on_line f ls n ≡ off k
    by_others [] agree = e
    by_others (l ∷ []) agree = cc
    by_others (l ∷ m ∷ ls) agree = cc
line_off f (line ∷ []) others n k e = (let same : suc n ≡ k = off_is (suc n) k e in sym same, λ agree. by_others others agree)
  where
    by_others : (ls : List (List ℕ)) → (line, false) ∷ [] ≡ take 1 (ended ls) → on_line f ls n ≡ off k
    by_others [] agree = cc
    by_others (l ∷ []) agree = e
    by_others (l ∷ m ∷ ls) agree = absurd (let bad : false ≡ true = ap has_end agree in cc)
line_off {A} f (line ∷ next ∷ more) others n k e = by_found (f line) refl e
  where
    by_found : (o : Option A) → f line ≡ o → after_line (next ∷ more) n o ≡ off k → (k ≡ suc n) × (take 1 (ended (line ∷ next ∷ more)) ≡ take 1 (ended others) → on_line f others n ≡ off k)
    by_found (Some a) found e = cc
    by_found None found e = (
      let same : suc n ≡ k = off_is (suc n) k e in sym same,
      λ agree. let there = alike_next 0 line next more others agree in ap (λ ls. on_line f ls n) there.is ∙ ap (after_line (there.next ∷ there.more) n) found ∙ e,
    )

pub line_on : {A : Type 0} (f : List ℕ → Option A) (lines : List (List ℕ)) (n : ℕ) (a : A) (rest : List (List ℕ)) (m : ℕ) → on_line f lines n ≡ on a rest m
    → (line next : List ℕ) × (more : List (List ℕ)) × (lines ≡ line ∷ next ∷ more) × (f line ≡ Some a) × (rest ≡ next ∷ more) × (m ≡ suc n)
line_on f [] n a rest m e = cc
line_on f (line ∷ []) n a rest m e = cc
line_on {A} f (line ∷ next ∷ more) n a rest m e = by_found (f line) refl e
  where
    by_found : (o : Option A) → f line ≡ o → after_line (next ∷ more) n o ≡ on a rest m
        → (l x : List ℕ) × (xs : List (List ℕ)) × (line ∷ next ∷ more ≡ l ∷ x ∷ xs) × (f l ≡ Some a) × (rest ≡ x ∷ xs) × (m ≡ suc n)
    by_found None found e = cc
    by_found (Some b) found e =
        let value : b ≡ a = cc in
        let left : next ∷ more ≡ rest = cc in
        let count : suc n ≡ m = cc in
        (line, next, more, refl, found ∙ ap Some value, sym left, sym count)

pub local_line : {A : Type 0} (f : List ℕ → Option A) → Local (λ lines n. on_line f lines n)
local_line {A} f = record { stays = stays; goes = goes }
  where
    stays : (lines others : List (List ℕ)) (n k : ℕ) → on_line f lines n ≡ off k → (n < k) × ((j : ℕ) → k ≡ n + j → take j (ended lines) ≡ take j (ended others) → on_line f others n ≡ off k)
    stays lines others n k e =
        let found = line_off f lines others n k e in
        let number : k ≡ suc n = found.0 in
        (omega arith, λ j is agree. found.1 (let one : j ≡ 1 = omega arith in subst (λ i. take i (ended lines) ≡ take i (ended others)) one agree))

    goes : (lines others : List (List ℕ)) (n : ℕ) (a : A) (rest : List (List ℕ)) (m : ℕ) → on_line f lines n ≡ on a rest m
        → (n ≤ m) × ((i j : ℕ) → m ≡ n + i → take (i + j) (ended lines) ≡ take (i + j) (ended others) → (left : List (List ℕ)) × (on_line f others n ≡ on a left m) × (take j (ended rest) ≡ take j (ended left)))
    goes lines others n a rest m e =
        let found = line_on f lines n a rest m e in
        let line : List ℕ = found.0 in
        let next : List ℕ = found.1 in
        let more : List (List ℕ) = found.2 in
        let count : m ≡ suc n = found.6 in (
          omega arith,
          λ i j is agree.
              let one : i + j ≡ suc j = omega arith in
              let alike : take (suc j) (ended (line ∷ next ∷ more)) ≡ take (suc j) (ended others) = subst (λ ls. take (suc j) (ended ls) ≡ take (suc j) (ended others)) found.3 (subst (λ c. take c (ended lines) ≡ take c (ended others)) one agree) in
              let there = alike_next j line next more others alike in (
                there.next ∷ there.more,
                ap (λ ls. on_line f ls n) there.is ∙ ap (after_line (there.next ∷ there.more) n) found.4 ∙ ap (λ c. on a (there.next ∷ there.more) c) (sym count),
                ap (λ ls. take j (ended ls)) found.5 ∙ there.agree,
              ),
        )

-- ---- no line

pub local_on : {A : Type 0} (a : A) → Local (λ lines n. on a lines n)
local_on {A} a = record { stays = λ lines others n k e. cc; goes = goes }
  where
    goes : (lines others : List (List ℕ)) (n : ℕ) (b : A) (rest : List (List ℕ)) (m : ℕ) → on a lines n ≡ on b rest m
        → (n ≤ m) × ((i j : ℕ) → m ≡ n + i → take (i + j) (ended lines) ≡ take (i + j) (ended others) → (left : List (List ℕ)) × (on a others n ≡ on b left m) × (take j (ended rest) ≡ take j (ended left)))
    goes lines others n b rest m e =
        let value : a ≡ b = cc in
        let same : lines ≡ rest = cc in
        let count : n ≡ m = cc in (
          omega arith,
          λ i j is agree.
              let all : i + j ≡ j = omega arith in (
                others,
                ap (λ v. on v others n) value ∙ ap (λ c. on b others c) count,
                ap (λ ls. take j (ended ls)) (sym same) ∙ subst (λ c. take c (ended lines) ≡ take c (ended others)) all agree,
              ),
        )

pub local_off : {A : Type 0} → Local {A = A} (λ lines n. off (suc n))
local_off {A} = record { stays = stays; goes = λ lines others n a rest m e. cc }
  where
    stays : (lines others : List (List ℕ)) (n k : ℕ) → off_way A (suc n) ≡ off k → (n < k) × ((j : ℕ) → k ≡ n + j → take j (ended lines) ≡ take j (ended others) → off_way A (suc n) ≡ off k)
    stays lines others n k e = let same : suc n ≡ k = off_is (suc n) k e in (omega arith, λ j is agree. e)

pub local_none : {A : Type 0} (o : Option A) → Local (λ lines n. no_line lines n o)
local_none None = local_off
local_none (Some a) = local_on a

-- ---- one after the other

pub stays_go : {A B : Type 0} (F : List (List ℕ) → ℕ → Way A) (G : A → List (List ℕ) → ℕ → Way B) → Local F → ((a : A) → Stays (G a)) → Stays (λ lines n. go G (F lines n))
stays_go {A} {B} F G first then lines others n k e = by_way (F lines n) refl e
  where
    by_way : (w : Way A) → F lines n ≡ w → go G w ≡ off k → (n < k) × ((j : ℕ) → k ≡ n + j → take j (ended lines) ≡ take j (ended others) → go G (F others n) ≡ off k)
    by_way (off i) was e =
        let all = first.stays lines others n k (was ∙ ap off (off_is i k e)) in
        (all.0, λ j is agree. ap (go G) (all.1 j is agree))
    by_way (on a rest m) was e =
        let here = first.goes lines others n a rest m was in
        let low : n ≤ m = here.0 in
        let high : m < k = (then a rest rest m k e).0 in (
          omega arith,
          λ j is agree.
              let i : ℕ = m - n in
              let more : ℕ = k - m in
              let sum : i + more ≡ j = omega arith in
              let left = here.1 i more (omega arith) (subst (λ c. take c (ended lines) ≡ take c (ended others)) (sym sum) agree) in
              ap (go G) left.1 ∙ (then a rest left.0 m k e).1 more (omega arith) left.2,
        )

pub local_go : {A B : Type 0} (F : List (List ℕ) → ℕ → Way A) (G : A → List (List ℕ) → ℕ → Way B) → Local F → ((a : A) → Local (G a)) → Local (λ lines n. go G (F lines n))
local_go {A} {B} F G first then = record { stays = stays_go F G first (λ a. (then a).stays); goes = goes }
  where
    goes : (lines others : List (List ℕ)) (n : ℕ) (b : B) (rest : List (List ℕ)) (m : ℕ) → go G (F lines n) ≡ on b rest m
        → (n ≤ m) × ((i j : ℕ) → m ≡ n + i → take (i + j) (ended lines) ≡ take (i + j) (ended others) → (left : List (List ℕ)) × (go G (F others n) ≡ on b left m) × (take j (ended rest) ≡ take j (ended left)))
    goes lines others n b rest m e = by_way (F lines n) refl e
      where
        by_way : (w : Way A) → F lines n ≡ w → go G w ≡ on b rest m
            → (n ≤ m) × ((i j : ℕ) → m ≡ n + i → take (i + j) (ended lines) ≡ take (i + j) (ended others) → (left : List (List ℕ)) × (go G (F others n) ≡ on b left m) × (take j (ended rest) ≡ take j (ended left)))
        by_way (off i) was e = cc
        by_way (on a middle c) was e =
            let here = first.goes lines others n a middle c was in
            let low : n ≤ c = here.0 in
            let high : c ≤ m = ((then a).goes middle middle c b rest m e).0 in (
              omega arith,
              λ i j is agree.
                  let one : ℕ = c - n in
                  let two : ℕ = m - c in
                  let sum : one + (two + j) ≡ i + j = omega arith in
                  let left = here.1 one (two + j) (omega arith) (subst (λ d. take d (ended lines) ≡ take d (ended others)) (sym sum) agree) in
                  let more = ((then a).goes middle left.0 c b rest m e).1 two j (omega arith) left.2 in
                  (more.0, ap (go G) left.1 ∙ more.1, more.2),
            )

-- ---- the reader

local_shown : (atoms : List (List ℕ)) (r : RelationLabel) (shown : Shown) → Local (λ lines n. shown_way atoms r shown lines n)
local_shown atoms r Line = local_line (line_set atoms r)
local_shown atoms r Nothing = local_none (hidden_set r.columns None)
local_shown atoms r (Just a) = local_none (hidden_set r.columns (Some a))

local_relations : (atoms : List (List ℕ)) (sets : List TupleList) (rs : List RelationLabel) → Local (λ lines n. relations_way atoms sets rs lines n)
local_relations atoms sets [] = local_on sets
local_relations atoms sets (r ∷ rs) =
    local_go (λ lines n. relation_way atoms r lines n) (λ set rest m. relations_way atoms (sets ++ set ∷ []) rs rest m) (local_shown atoms r r.shown) (λ set. local_relations atoms (sets ++ set ∷ []) rs)

local_state : (labels : Labels) (number : ℕ) → Local (λ lines n. state_way labels number lines n)
local_state labels number =
    local_go (λ lines n. state_line_way number lines n) (λ none rest m. go (with_state labels.relations) (relations_way labels.atoms [] labels.relations rest m))
    (local_line (λ line. where_true (is_state_line number line)))
    (λ none. local_go (λ lines n. relations_way labels.atoms [] labels.relations lines n) (with_state labels.relations) (local_relations labels.atoms [] labels.relations) (λ sets. local_on _))

local_states : (labels : Labels) (k : ℕ) (states : List (List TupleList)) (number : ℕ) → Local (λ lines n. states_way labels k states number lines n)
local_states labels zero states number = local_on states
local_states labels (suc k) states number =
    local_go (λ lines n. state_way labels number lines n) (λ state rest m. states_way labels k (states ++ state ∷ []) (suc number) rest m) (local_state labels number) (λ state. local_states labels k (states ++ state ∷ []) (suc number))

over_alike : (lines others : List (List ℕ)) → take 1 (ended lines) ≡ take 1 (ended others) → is_over lines ≡ is_over others
over_alike [] [] e = refl
over_alike [] (l ∷ []) e = cc
over_alike [] (l ∷ m ∷ ls) e = cc
over_alike (l ∷ []) [] e = cc
over_alike (l ∷ m ∷ ls) [] e = cc
over_alike (l ∷ []) (k ∷ []) e = ap (λ x. is_over (x ∷ [])) (ap first_line e)
over_alike (l ∷ []) (k ∷ m ∷ ls) e = absurd (let bad : false ≡ true = ap has_end e in cc)
over_alike (l ∷ m ∷ ls) (k ∷ []) e = absurd (let bad : true ≡ false = ap has_end e in cc)
over_alike (l ∷ m ∷ ls) (k ∷ o ∷ ks) e = over_none l m ls ∙ sym (over_none k o ks)
  where
    over_none : (x y : List ℕ) (ys : List (List ℕ)) → is_over (x ∷ y ∷ ys) ≡ false
    over_none [] y ys = refl
    over_none (b ∷ bs) y ys = refl

over_stays : Stays (λ lines n. over_way lines n)
over_stays lines others n k e = by_test (is_over lines) refl e
  where
    by_test : (b : Bool) → is_over lines ≡ b → cond {A = Way ℕ} b (on 0 lines n) (off (suc n)) ≡ off k → (n < k) × ((j : ℕ) → k ≡ n + j → take j (ended lines) ≡ take j (ended others) → over_way others n ≡ off k)
    by_test true t e = cc
    by_test false t e =
        let same : suc n ≡ k = off_is (suc n) k e in (
          omega arith,
          λ j is agree.
              let one : j ≡ 1 = omega arith in
              let alike : is_over lines ≡ is_over others = over_alike lines others (subst (λ i. take i (ended lines) ≡ take i (ended others)) one agree) in
              ap (λ b. cond {A = Way ℕ} b (on 0 others n) (off (suc n))) (sym alike ∙ t) ∙ e,
        )

end_stays : Stays (λ lines n. end_way lines n)
end_stays = stays_go (λ lines n. on_line (λ line. where_true (bytes_eq line (codes "end"))) lines n) (λ none rest m. over_way rest m) (local_line (λ line. where_true (bytes_eq line (codes "end")))) (λ none. over_stays)

last_stays : (start : ℕ) (states : List (List TupleList)) → Stays (λ lines n. go (λ none rest m. with_start start states rest m) (end_way lines n))
last_stays start states lines others n k e = by_way (end_way lines n) refl e
  where
    by_way : (w : Way ℕ) → end_way lines n ≡ w → go (λ none rest m. with_start start states rest m) w ≡ off k
        → (n < k) × ((j : ℕ) → k ≡ n + j → take j (ended lines) ≡ take j (ended others) → go (λ none rest m. with_start start states rest m) (end_way others n) ≡ off k)
    by_way (on a rest m) was e = cc
    by_way (off i) was e =
        let all = end_stays lines others n k (was ∙ ap off (off_is i k e)) in
        (all.0, λ j is agree. ap (go (λ none rest m. with_start start states rest m)) (all.1 j is agree))

body_stays : (labels : Labels) (header : ℕ × ℕ) → Stays (λ lines n. body_way labels header lines n)
body_stays labels header =
    stays_go (λ lines n. states_way labels header.0 [] 0 lines n) (λ states others k. go (λ none rest m. with_start header.1 states rest m) (end_way others k)) (local_states labels header.0 [] 0) (λ states. last_stays header.1 states)

-- where a text leaves the lines of a trace, each text leaves them that has the same lines up to there
pub lines_stay : (labels : Labels) (lines others : List (List ℕ)) (k : ℕ) → lines_way labels lines 0 ≡ off k → take k (ended lines) ≡ take k (ended others) → lines_way labels others 0 ≡ off k
lines_stay labels lines others k e agree = (stays_go (λ ls n. on_line header_of ls n) (body_way labels) (local_line header_of) (body_stays labels) lines others 0 k e).1 k (omega arith) agree
