-- What lines gave, as the lines of values; and lines that are left, as the beginning of those of other values.
use Rattle.std.proofs.Common.{◌≡◌, ℕ, zero, suc, ◌+◌, ◌≤◌, Bool, true, false, cond, ◌&&◌, eqb, List, [], ◌∷◌, ◌++◌, map, length, codes, decimal, Option, Some, None, nat_lt, refl, sym, ap, ◌∙◌, arith, append_assoc, subst, length-append}
use Rattle.std.specs.List.{AllByRecursion}
use Rattle.std.proofs.lemmas.List.{append-nil}
use Rattle.core_tuples.specs.Sets.{TupleList}
use Rattle.answer_trace.specs.declared.label.Shown.{Shown}
use Rattle.answer_trace.specs.declared.label.Shown.TheVariants.{Line, Nothing, Just}
use Rattle.answer_trace.specs.declared.label.RelationLabel.{RelationLabel}
use Rattle.answer_trace.specs.declared.label.Labels.{Labels}
use Rattle.answer_trace.specs.Text.{tuples_text}
use Rattle.answer_trace.specs.Reading.{Way, go, after_line, on_line, no_line, where_true, is_width, set_with, line_set, hidden_set, shown_way, relation_way, relations_way, orders_of, arranged, with_state, is_state_line, state_line_way, state_way, states_way}
use Rattle.answer_trace.specs.Reading.Way.{on, off}
use Rattle.answer_laws.proofs.Again.{IsTuple, ComeAfter}
use Rattle.answer_laws.proofs.Whole.{HoldsTuples}
use Rattle.answer_laws.proofs.Sound.{line_is, state_line_is}
use Rattle.answer_laws.proofs.Local.{line_on, off_is}

-- ---- lines that were taken

pub record Goes (n m : ℕ) (lines rest taken : List (List ℕ)) : Type 0 where
  pub are : lines ≡ taken ++ rest
  pub count : m ≡ n + length taken
  pub some : 1 ≤ length lines → 1 ≤ length rest

pub record Sticks (n k : ℕ) (lines whole : List (List ℕ)) : Type 0 where
  pub taken : List (List ℕ)
  pub left : List (List ℕ)
  pub rest : List (List ℕ)
  pub begins : whole ≡ taken ++ left
  pub are : lines ≡ taken ++ rest
  pub count : k ≡ suc (n + length taken)
  pub some : 1 ≤ length lines → 1 ≤ length rest

goes_none : (n : ℕ) (lines : List (List ℕ)) → Goes n n lines lines []
goes_none n lines = record { are = refl; count = omega arith; some = λ h. h }

pub goes_both : (n m o : ℕ) (lines middle rest one two : List (List ℕ)) → Goes n m lines middle one → Goes m o middle rest two → Goes n o lines rest (one ++ two)
goes_both n m o lines middle rest one two a b =
    let long : length (one ++ two) ≡ length one + length two = length-append one two in
    let first : m ≡ n + length one = a.count in
    let second : o ≡ m + length two = b.count in
    record { are = a.are ∙ ap (λ x. one ++ x) b.are ∙ sym (append_assoc one two rest); count = omega arith; some = λ h. b.some (a.some h) }

-- nothing was taken
pub sticks_first : (n : ℕ) (lines whole : List (List ℕ)) → Sticks n (suc n) lines whole
sticks_first n lines whole = record { taken = []; left = whole; rest = lines; begins = refl; are = refl; count = omega arith; some = λ h. h }

-- it sticks behind what was taken
pub sticks_behind : (n m k : ℕ) (lines middle one whole : List (List ℕ)) → Goes n m lines middle one → Sticks m k middle whole → Sticks n k lines (one ++ whole)
sticks_behind n m k lines middle one whole a s =
    let long : length (one ++ s.taken) ≡ length one + length s.taken = length-append one s.taken in
    let first : m ≡ n + length one = a.count in
    let second : k ≡ suc (m + length s.taken) = s.count in
    record {
      taken = one ++ s.taken;
      left = s.left;
      rest = s.rest;
      begins = ap (λ x. one ++ x) s.begins ∙ sym (append_assoc one s.taken s.left);
      are = a.are ∙ ap (λ x. one ++ x) s.are ∙ sym (append_assoc one s.taken s.rest);
      count = omega arith;
      some = λ h. s.some (a.some h);
    }

-- what stands behind changes nothing
pub sticks_before : (n k : ℕ) (lines whole more : List (List ℕ)) → Sticks n k lines whole → Sticks n k lines (whole ++ more)
sticks_before n k lines whole more s = record {
  taken = s.taken;
  left = s.left ++ more;
  rest = s.rest;
  begins = ap (λ x. x ++ more) s.begins ∙ append_assoc s.taken s.left more;
  are = s.are;
  count = s.count;
  some = s.some;
}

-- ---- a line

pub record Took {A : Type 0} (f : List ℕ → Option A) (n m : ℕ) (a : A) (lines rest : List (List ℕ)) : Type 0 where
  pub line : List ℕ
  pub gave : f line ≡ Some a
  pub goes : Goes n m lines rest (line ∷ [])

pub took : {A : Type 0} (f : List ℕ → Option A) (lines : List (List ℕ)) (n : ℕ) (a : A) (rest : List (List ℕ)) (m : ℕ) → on_line f lines n ≡ on a rest m → Took f n m a lines rest
took f lines n a rest m e =
    let found = line_on f lines n a rest m e in
    let left : rest ≡ found.1 ∷ found.2 = found.5 in
    let count : m ≡ suc n = found.6 in
    let some : 1 ≤ length rest = subst (λ (x : List (List ℕ)). 1 ≤ length x) (sym left) (omega arith) in
    record { line = found.0; gave = found.4; goes = record { are = found.3 ∙ ap (λ x. found.0 ∷ x) (sym left); count = omega arith; some = λ h. some } }

off_first : {A : Type 0} (f : List ℕ → Option A) (lines : List (List ℕ)) (n k : ℕ) → on_line f lines n ≡ off k → k ≡ suc n
off_first f [] n k e = sym (off_is (suc n) k e)
off_first f (line ∷ []) n k e = sym (off_is (suc n) k e)
off_first {A} f (line ∷ next ∷ more) n k e = by_found (f line) e
  where
    by_found : (o : Option A) → after_line (next ∷ more) n o ≡ off k → k ≡ suc n
    by_found None e = sym (off_is (suc n) k e)
    by_found (Some a) e = cc

pub sticks_at : {A : Type 0} (f : List ℕ → Option A) (lines whole : List (List ℕ)) (n k : ℕ) → on_line f lines n ≡ off k → Sticks n k lines whole
sticks_at f lines whole n k e = subst (λ c. Sticks n c lines whole) (sym (off_first f lines n k e)) (sticks_first n lines whole)

-- ---- a relation

-- a set for a relation
pub record IsSet (labels : Labels) (r : RelationLabel) (set : TupleList) : Type 0 where
  pub columns : set.arity ≡ r.columns
  pub width : is_width r.columns ≡ true
  pub tuples : AllByRecursion (IsTuple labels.atoms r.columns) set.tuples
  pub order : ComeAfter [] set.tuples
  pub holds : HoldsTuples r.shown set.tuples

-- some set for each relation
abbrev pub HasSome : Labels → RelationLabel → Type 0
HasSome labels r = (set : TupleList) × IsSet labels r set

abbrev pub shown_lines : List (List ℕ) → RelationLabel → Shown → TupleList → List (List ℕ)
shown_lines atoms r Line set = (r.label ++ codes " =" ++ tuples_text atoms set.tuples) ∷ []
shown_lines atoms r Nothing set = []
shown_lines atoms r (Just a) set = []

-- what is known of a hidden relation
abbrev pub IsGiven : Labels → RelationLabel → Shown → Type 0
IsGiven labels r Line = Unit {0}
IsGiven labels r Nothing = is_width r.columns ≡ true
IsGiven labels r (Just a) = (is_width r.columns ≡ true) × IsTuple labels.atoms r.columns (a ∷ []) × (((eqb r.columns 1) && nat_lt a 16384) ≡ true)

no_line_on : {A : Type 0} (lines : List (List ℕ)) (n : ℕ) (o : Option A) (a : A) (rest : List (List ℕ)) (m : ℕ) → no_line lines n o ≡ on a rest m → (o ≡ Some a) × (lines ≡ rest) × (n ≡ m)
no_line_on lines n None a rest m e = cc
no_line_on lines n (Some b) a rest m e =
    let value : b ≡ a = cc in
    let left : lines ≡ rest = cc in
    let count : n ≡ m = cc in
    (ap Some value, left, count)

same_goes : (n m : ℕ) (lines rest : List (List ℕ)) → lines ≡ rest → n ≡ m → Goes n m lines rest []
same_goes n m lines rest e f = record { are = e; count = omega arith; some = λ h. subst (λ (x : List (List ℕ)). 1 ≤ length x) e h }

shown_on : (labels : Labels) (r : RelationLabel) (shown : Shown) → r.shown ≡ shown → IsGiven labels r shown → (lines : List (List ℕ)) (n : ℕ) (set : TupleList) (rest : List (List ℕ)) (m : ℕ) → shown_way labels.atoms r shown lines n ≡ on set rest m
    → IsSet labels r set × Goes n m lines rest (shown_lines labels.atoms r shown set)
shown_on labels r Line is given lines n set rest m e =
    let one = took (line_set labels.atoms r) lines n set rest m e in
    let found = line_is labels.atoms r one.line set one.gave in (
      record { columns = found.columns; width = found.width; tuples = found.tuples; order = found.order; holds = subst (λ (s : Shown). HoldsTuples s set.tuples) (sym is) tt },
      subst (λ l. Goes n m lines rest (l ∷ [])) found.text one.goes,
    )
shown_on labels r Nothing is given lines n set rest m e =
    let found = no_line_on lines n (hidden_set r.columns None) set rest m e in
    let whole : Some (set_with r.columns []) ≡ Some set = sym (ap (λ b. cond b (Some (set_with r.columns [])) None) given) ∙ found.0 in
    let same : set_with r.columns [] ≡ set = cc in (
      record {
        columns = sym (ap (λ (s : TupleList). s.arity) same);
        width = given;
        tuples = subst (λ (s : TupleList). AllByRecursion (IsTuple labels.atoms r.columns) s.tuples) same tt;
        order = subst (λ (s : TupleList). ComeAfter [] s.tuples) same tt;
        holds = subst (λ (s : Shown). HoldsTuples s set.tuples) (sym is) (sym (ap (λ (s : TupleList). s.tuples) same));
      },
      same_goes n m lines rest found.1 found.2,
    )
shown_on labels r (Just a) is given lines n set rest m e =
    let found = no_line_on lines n (hidden_set r.columns (Some a)) set rest m e in
    let whole : Some (set_with r.columns ((a ∷ []) ∷ [])) ≡ Some set = sym (ap (λ b. cond b (Some (set_with r.columns ((a ∷ []) ∷ []))) None) given.2) ∙ found.0 in
    let same : set_with r.columns ((a ∷ []) ∷ []) ≡ set = cc in (
      record {
        columns = sym (ap (λ (s : TupleList). s.arity) same);
        width = given.0;
        tuples = subst (λ (s : TupleList). AllByRecursion (IsTuple labels.atoms r.columns) s.tuples) same (given.1, tt);
        order = subst (λ (s : TupleList). ComeAfter [] s.tuples) same (refl, tt);
        holds = subst (λ (s : Shown). HoldsTuples s set.tuples) (sym is) (sym (ap (λ (s : TupleList). s.tuples) same));
      },
      same_goes n m lines rest found.1 found.2,
    )

no_line_off : {A : Type 0} (lines : List (List ℕ)) (n : ℕ) (o : Option A) (k : ℕ) → no_line lines n o ≡ off k → k ≡ suc n
no_line_off lines n None k e = sym (off_is (suc n) k e)
no_line_off lines n (Some a) k e = cc

shown_off : (labels : Labels) (r : RelationLabel) (shown : Shown) (lines whole : List (List ℕ)) (n k : ℕ) → shown_way labels.atoms r shown lines n ≡ off k → Sticks n k lines whole
shown_off labels r Line lines whole n k e = sticks_at (line_set labels.atoms r) lines whole n k e
shown_off labels r Nothing lines whole n k e = subst (λ c. Sticks n c lines whole) (sym (no_line_off lines n (hidden_set r.columns None) k e)) (sticks_first n lines whole)
shown_off labels r (Just a) lines whole n k e = subst (λ c. Sticks n c lines whole) (sym (no_line_off lines n (hidden_set r.columns (Some a)) k e)) (sticks_first n lines whole)

-- ---- the relations of a state

abbrev pub rel_lines : List (List ℕ) → List RelationLabel → List TupleList → List (List ℕ)
rel_lines atoms [] sets = []
rel_lines atoms (r ∷ rs) [] = []
rel_lines atoms (r ∷ rs) (set ∷ sets) = shown_lines atoms r r.shown set ++ rel_lines atoms rs sets

abbrev pub AreSets : Labels → List RelationLabel → List TupleList → Type 0
AreSets labels [] [] = Unit {0}
AreSets labels [] (set ∷ sets) = ⊥
AreSets labels (r ∷ rs) [] = ⊥
AreSets labels (r ∷ rs) (set ∷ sets) = IsSet labels r set × AreSets labels rs sets

-- what each relation has: what it holds if it is hidden, and some set
abbrev pub AreGiven : Labels → List RelationLabel → Type 0
AreGiven labels = AllByRecursion (λ r. IsGiven labels r r.shown × HasSome labels r)

pub some_sets : (labels : Labels) (rs : List RelationLabel) → AreGiven labels rs → (sets : List TupleList) × AreSets labels rs sets
some_sets labels [] given = ([], tt)
some_sets labels (r ∷ rs) given =
    let more = some_sets labels rs given.1 in
    (given.0.1.0 ∷ more.0, (given.0.1.1, more.1))

pub record SetsOn (labels : Labels) (before : List TupleList) (rs : List RelationLabel) (n m : ℕ) (lines rest : List (List ℕ)) (result : List TupleList) : Type 0 where
  pub more : List TupleList
  pub are : AreSets labels rs more
  pub is : result ≡ before ++ more
  pub goes : Goes n m lines rest (rel_lines labels.atoms rs more)

relations_on : (labels : Labels) (before : List TupleList) (rs : List RelationLabel) → AreGiven labels rs → (lines : List (List ℕ)) (n : ℕ) (result : List TupleList) (rest : List (List ℕ)) (m : ℕ) → relations_way labels.atoms before rs lines n ≡ on result rest m
    → SetsOn labels before rs n m lines rest result
relations_on labels before [] given lines n result rest m e =
    let value : before ≡ result = cc in
    let left : lines ≡ rest = cc in
    let count : n ≡ m = cc in
    record { more = []; are = tt; is = sym value ∙ sym (append-nil before); goes = same_goes n m lines rest left count }
relations_on labels before (r ∷ rs) given lines n result rest m e = by_way (relation_way labels.atoms r lines n) refl e (λ set others c f. relations_on labels (before ++ set ∷ []) rs given.1 others c result rest m f)
  where
    by_way : (w : Way TupleList) → relation_way labels.atoms r lines n ≡ w → go (λ set others c. relations_way labels.atoms (before ++ set ∷ []) rs others c) w ≡ on result rest m
        → ((set : TupleList) (others : List (List ℕ)) (c : ℕ) → relations_way labels.atoms (before ++ set ∷ []) rs others c ≡ on result rest m → SetsOn labels (before ++ set ∷ []) rs c m others rest result)
        → SetsOn labels before (r ∷ rs) n m lines rest result
    by_way (off i) was e more = cc
    by_way (on set others c) was e more =
        let here = shown_on labels r r.shown refl given.0.0 lines n set others c was in
        let tail = more set others c e in
        record {
          more = set ∷ tail.more;
          are = (here.0, tail.are);
          is = tail.is ∙ append_assoc before (set ∷ []) tail.more;
          goes = goes_both n c m lines others rest (shown_lines labels.atoms r r.shown set) (rel_lines labels.atoms rs tail.more) here.1 tail.goes;
        }

pub record SetsOff (labels : Labels) (rs : List RelationLabel) (n k : ℕ) (lines : List (List ℕ)) : Type 0 where
  pub more : List TupleList
  pub are : AreSets labels rs more
  pub sticks : Sticks n k lines (rel_lines labels.atoms rs more)

relations_off : (labels : Labels) (before : List TupleList) (rs : List RelationLabel) → AreGiven labels rs → (lines : List (List ℕ)) (n k : ℕ) → relations_way labels.atoms before rs lines n ≡ off k → SetsOff labels rs n k lines
relations_off labels before [] given lines n k e = cc
relations_off labels before (r ∷ rs) given lines n k e = by_way (relation_way labels.atoms r lines n) refl e (λ set others c f. relations_off labels (before ++ set ∷ []) rs given.1 others c k f)
  where
    by_way : (w : Way TupleList) → relation_way labels.atoms r lines n ≡ w → go (λ set others c. relations_way labels.atoms (before ++ set ∷ []) rs others c) w ≡ off k
        → ((set : TupleList) (others : List (List ℕ)) (c : ℕ) → relations_way labels.atoms (before ++ set ∷ []) rs others c ≡ off k → SetsOff labels rs c k others)
        → SetsOff labels (r ∷ rs) n k lines
    by_way (off i) was e more =
        let some = some_sets labels (r ∷ rs) given in
        record { more = some.0; are = some.1; sticks = shown_off labels r r.shown lines (rel_lines labels.atoms (r ∷ rs) some.0) n k (was ∙ ap off (off_is i k e)) }
    by_way (on set others c) was e more =
        let here = shown_on labels r r.shown refl given.0.0 lines n set others c was in
        let tail = more set others c e in
        record {
          more = set ∷ tail.more;
          are = (here.0, tail.are);
          sticks = sticks_behind n c k lines others (shown_lines labels.atoms r r.shown set) (rel_lines labels.atoms rs tail.more) here.1 tail.sticks;
        }

-- ---- a state

abbrev pub state_lines : Labels → ℕ → List TupleList → List (List ℕ)
state_lines labels i sets = (codes "state " ++ decimal i) ∷ rel_lines labels.atoms labels.relations sets

pub where_is : (b : Bool) (a : ℕ) → where_true b ≡ Some a → b ≡ true
where_is true a e = refl
where_is false a e = cc

pub record StateOn (labels : Labels) (i n m : ℕ) (lines rest : List (List ℕ)) (state : List TupleList) : Type 0 where
  pub sets : List TupleList
  pub are : AreSets labels labels.relations sets
  pub is : state ≡ arranged (orders_of labels.relations) sets
  pub goes : Goes n m lines rest (state_lines labels i sets)

first_goes : (labels : Labels) (i : ℕ) (lines : List (List ℕ)) (n a : ℕ) (rest : List (List ℕ)) (m : ℕ) → state_line_way i lines n ≡ on a rest m → Goes n m lines rest ((codes "state " ++ decimal i) ∷ [])
first_goes labels i lines n a rest m e =
    let one = took (λ line. where_true (is_state_line i line)) lines n a rest m e in
    subst (λ l. Goes n m lines rest (l ∷ [])) (state_line_is i one.line (where_is (is_state_line i one.line) a one.gave)) one.goes

state_on : (labels : Labels) → AreGiven labels labels.relations → (i : ℕ) (lines : List (List ℕ)) (n : ℕ) (state : List TupleList) (rest : List (List ℕ)) (m : ℕ) → state_way labels i lines n ≡ on state rest m → StateOn labels i n m lines rest state
state_on labels given i lines n state rest m e = by_first (state_line_way i lines n) refl e
  where
    by_sets : (a : ℕ) (others : List (List ℕ)) (c : ℕ) → state_line_way i lines n ≡ on a others c → (w : Way (List TupleList)) → relations_way labels.atoms [] labels.relations others c ≡ w → go (with_state labels.relations) w ≡ on state rest m → StateOn labels i n m lines rest state
    by_sets a others c first (off k) was e = cc
    by_sets a others c first (on sets left d) was e =
        let value : arranged (orders_of labels.relations) sets ≡ state = cc in
        let same : left ≡ rest = cc in
        let count : d ≡ m = cc in
        let found = relations_on labels [] labels.relations given others c sets left d was in
        let goes : Goes c m others rest (rel_lines labels.atoms labels.relations found.more) = subst (λ x. Goes c m others x (rel_lines labels.atoms labels.relations found.more)) same (subst (λ x. Goes c x others left (rel_lines labels.atoms labels.relations found.more)) count found.goes) in
        record {
          sets = found.more;
          are = found.are;
          is = sym value ∙ ap (arranged (orders_of labels.relations)) found.is;
          goes = goes_both n c m lines others rest ((codes "state " ++ decimal i) ∷ []) (rel_lines labels.atoms labels.relations found.more) (first_goes labels i lines n a others c first) goes;
        }

    by_first : (w : Way ℕ) → state_line_way i lines n ≡ w → go (λ none others c. go (with_state labels.relations) (relations_way labels.atoms [] labels.relations others c)) w ≡ on state rest m → StateOn labels i n m lines rest state
    by_first (off k) was e = cc
    by_first (on a others c) was e = by_sets a others c was (relations_way labels.atoms [] labels.relations others c) refl e

pub record StateOff (labels : Labels) (i n k : ℕ) (lines : List (List ℕ)) : Type 0 where
  pub sets : List TupleList
  pub are : AreSets labels labels.relations sets
  pub sticks : Sticks n k lines (state_lines labels i sets)

state_off : (labels : Labels) → AreGiven labels labels.relations → (i : ℕ) (lines : List (List ℕ)) (n k : ℕ) → state_way labels i lines n ≡ off k → StateOff labels i n k lines
state_off labels given i lines n k e = by_first (state_line_way i lines n) refl e
  where
    by_sets : (a : ℕ) (others : List (List ℕ)) (c : ℕ) → state_line_way i lines n ≡ on a others c → (w : Way (List TupleList)) → relations_way labels.atoms [] labels.relations others c ≡ w → go (with_state labels.relations) w ≡ off k → StateOff labels i n k lines
    by_sets a others c first (on sets left d) was e = cc
    by_sets a others c first (off j) was e =
        let found = relations_off labels [] labels.relations given others c k (was ∙ ap off (off_is j k e)) in
        record {
          sets = found.more;
          are = found.are;
          sticks = sticks_behind n c k lines others ((codes "state " ++ decimal i) ∷ []) (rel_lines labels.atoms labels.relations found.more) (first_goes labels i lines n a others c first) found.sticks;
        }

    by_first : (w : Way ℕ) → state_line_way i lines n ≡ w → go (λ none others c. go (with_state labels.relations) (relations_way labels.atoms [] labels.relations others c)) w ≡ off k → StateOff labels i n k lines
    by_first (off j) was e =
        let some = some_sets labels labels.relations given in
        record { sets = some.0; are = some.1; sticks = sticks_at (λ line. where_true (is_state_line i line)) lines (state_lines labels i some.0) n k (was ∙ ap off (off_is j k e)) }
    by_first (on a others c) was e = by_sets a others c was (relations_way labels.atoms [] labels.relations others c) refl e

-- ---- the states

abbrev pub states_lines : Labels → ℕ → List (List TupleList) → List (List ℕ)
states_lines labels i [] = []
states_lines labels i (sets ∷ others) = state_lines labels i sets ++ states_lines labels (suc i) others

abbrev pub each_state : Labels → List (List TupleList) → List (List TupleList)
each_state labels all = map (arranged (orders_of labels.relations)) all

pub record StatesOn (labels : Labels) (count : ℕ) (before : List (List TupleList)) (i n m : ℕ) (lines rest : List (List ℕ)) (result : List (List TupleList)) : Type 0 where
  pub all : List (List TupleList)
  pub long : length all ≡ count
  pub are : AllByRecursion (AreSets labels labels.relations) all
  pub is : result ≡ before ++ each_state labels all
  pub goes : Goes n m lines rest (states_lines labels i all)

pub states_on : (labels : Labels) → AreGiven labels labels.relations → (count : ℕ) (before : List (List TupleList)) (i : ℕ) (lines : List (List ℕ)) (n : ℕ) (result : List (List TupleList)) (rest : List (List ℕ)) (m : ℕ) → states_way labels count before i lines n ≡ on result rest m
    → StatesOn labels count before i n m lines rest result
states_on labels given zero before i lines n result rest m e =
    let value : before ≡ result = cc in
    let left : lines ≡ rest = cc in
    let same : n ≡ m = cc in
    record { all = []; long = refl; are = tt; is = sym value ∙ sym (append-nil before); goes = same_goes n m lines rest left same }
states_on labels given (suc count) before i lines n result rest m e = by_way (state_way labels i lines n) refl e (λ state others c f. states_on labels given count (before ++ state ∷ []) (suc i) others c result rest m f)
  where
    by_way : (w : Way (List TupleList)) → state_way labels i lines n ≡ w → go (λ state others c. states_way labels count (before ++ state ∷ []) (suc i) others c) w ≡ on result rest m
        → ((state : List TupleList) (others : List (List ℕ)) (c : ℕ) → states_way labels count (before ++ state ∷ []) (suc i) others c ≡ on result rest m → StatesOn labels count (before ++ state ∷ []) (suc i) c m others rest result)
        → StatesOn labels (suc count) before i n m lines rest result
    by_way (off k) was e more = cc
    by_way (on state others c) was e more =
        let here = state_on labels given i lines n state others c was in
        let tail = more state others c e in
        record {
          all = here.sets ∷ tail.all;
          long = ap suc tail.long;
          are = (here.are, tail.are);
          is = tail.is ∙ append_assoc before (state ∷ []) (each_state labels tail.all) ∙ ap (λ s. before ++ s ∷ each_state labels tail.all) here.is;
          goes = goes_both n c m lines others rest (state_lines labels i here.sets) (states_lines labels (suc i) tail.all) here.goes tail.goes;
        }

pub record StatesOff (labels : Labels) (count i n k : ℕ) (lines : List (List ℕ)) : Type 0 where
  pub all : List (List TupleList)
  pub long : length all ≡ count
  pub are : AllByRecursion (AreSets labels labels.relations) all
  pub sticks : Sticks n k lines (states_lines labels i all)

pub some_states : (labels : Labels) → AreGiven labels labels.relations → (count : ℕ) → (all : List (List TupleList)) × (length all ≡ count) × AllByRecursion (AreSets labels labels.relations) all
some_states labels given zero = ([], refl, tt)
some_states labels given (suc count) =
    let one = some_sets labels labels.relations given in
    let more = some_states labels given count in
    (one.0 ∷ more.0, ap suc more.1, (one.1, more.2))

pub states_off : (labels : Labels) → AreGiven labels labels.relations → (count : ℕ) (before : List (List TupleList)) (i : ℕ) (lines : List (List ℕ)) (n k : ℕ) → states_way labels count before i lines n ≡ off k → StatesOff labels count i n k lines
states_off labels given zero before i lines n k e = cc
states_off labels given (suc count) before i lines n k e = by_way (state_way labels i lines n) refl e (λ state others c f. states_off labels given count (before ++ state ∷ []) (suc i) others c k f)
  where
    by_way : (w : Way (List TupleList)) → state_way labels i lines n ≡ w → go (λ state others c. states_way labels count (before ++ state ∷ []) (suc i) others c) w ≡ off k
        → ((state : List TupleList) (others : List (List ℕ)) (c : ℕ) → states_way labels count (before ++ state ∷ []) (suc i) others c ≡ off k → StatesOff labels count (suc i) c k others)
        → StatesOff labels (suc count) i n k lines
    by_way (off j) was e more =
        let here = state_off labels given i lines n k (was ∙ ap off (off_is j k e)) in
        let tail = some_states labels given count in
        record {
          all = here.sets ∷ tail.0;
          long = ap suc tail.1;
          are = (here.are, tail.2);
          sticks = sticks_before n k lines (state_lines labels i here.sets) (states_lines labels (suc i) tail.0) here.sticks;
        }
    by_way (on state others c) was e more =
        let here = state_on labels given i lines n state others c was in
        let tail = more state others c e in
        record {
          all = here.sets ∷ tail.all;
          long = ap suc tail.long;
          are = (here.are, tail.are);
          sticks = sticks_behind n c k lines others (state_lines labels i here.sets) (states_lines labels (suc i) tail.all) here.goes tail.sticks;
        }
