-- Sums are right.
use Rattle.std.proofs.Common.{◌≡◌, ◌≢◌, ◌↔◌, ◌≤◌, ◌<◌, ◌+◌, ℕ, zero, suc, Bool, true, IsTrue, List, [], ◌∷◌, ◌++◌, map, drop, length, length-append, Contains, All, AllPairs, slice_get, Some, Vec, Global, refl, sym, ap, ◌∙◌, subst, arith, inl, inr, ℤ}
use Rattle.std.specs.List.Sorted.{IsStrictlySortedBy}
use Rattle.std.proofs.Math.Nat.{max-le}
use Rattle.std.proofs.lemmas.List.Elements.{All-nil, All-cons, All-contains}
use Rattle.std.proofs.lemmas.List.Kept.{AllPairs-cons}
use Rattle.std.proofs.lemmas.Option.{slice_get_within, slice_get-get_or, get_or_from_slice_get}
use Rattle.gate_trait.specs.declared.node.Node.{Node}
use Rattle.gate_trait.specs.Built.{Keeps}
use Rattle.core_tree.specs.declared.tree.Formula.{Formula, Every}
use Rattle.core_tree.specs.Trees.{Term, Variables, Claim, no_variables, more_variables, every, no_claims, claim_list, claim_of, sum_over}
use Rattle.core_tree.specs.Past.{Depths, no_depths, past_in, past_of, past_under}
use Rattle.core_tree.proofs.RowLemmas.{every_is}
use Rattle.core_meaning.specs.Integers.{wrap, sum_of}
use Rattle.core_meaning.specs.World.{World, atom_of}
use Rattle.core_meaning.specs.Kept.{world_of}
use Rattle.core_meaning.specs.Operators.{IsNumber, IsSumOver}
use Rattle.core_meaning.specs.Meaning.{Names, with_name, atom, InTerm, Picked}
use Rattle.core_meaning.specs.Called.{no_bodies}
use Rattle.core_laws.specs.Listed.{AreOnce}
use Rattle.core_laws.proofs.ListedLemmas.{once, same_sum}
use Rattle.core_laws.proofs.UniqueLemmas.{number_once}
use Rattle.core_window.specs.Repeats.{SameTuples}
use Rattle.core_tuples.specs.Sets.{tuple_cmp}
use Rattle.gate_integers.specs.Numbers.{signed}
use Rattle.gate_matrix.specs.Matrices.{MatrixEntries}
use Rattle.gate_temporal.specs.Rows.{row_value}
use Rattle.bmc_windows.proofs.PushLemmas.{push_cases}
use Rattle.bmc_stack.specs.declared.store.Store.{Store}
use Rattle.bmc_stack.specs.Rows.{IsConstant}
use Rattle.bmc_stack.specs.Stored.{AreStored}
use Rattle.bmc_leaves.specs.Shown.{Atoms, names_of, under, none_nested}
use Rattle.bmc_leaves.specs.Relations.{reading_of}
use Rattle.bmc_leaves.proofs.PlaceLaws.{place_within}
use Rattle.bmc_leaves.proofs.RightLaws.{ok_under}
use Rattle.bmc_leaves.proofs.RowLaws.{row_kept}
use Rattle.bmc_places.specs.declared.gathering.Choice.{Choice}
use Rattle.bmc_places.specs.Gathered.{AllRows, IsFound}
use Rattle.bmc_places.specs.Stores.{Extends, Stays}
use Rattle.bmc_places.specs.Sums.{leaves_at, AreSums}
use Rattle.bmc_places.proofs.ListLaws.{contains_cases, contains_none, contains_first, contains_later}
use Rattle.bmc_places.proofs.StoreLaws.{stays_extends}
use Rattle.bmc_places.proofs.SumLaws.{counted_of, counted_sum, counted_has, has_counted, counted_once, leaf_tuples, leaf_from, leaf_of, integer_is, sorted_once, rows_at}
use Rattle.bmc_walk.specs.declared.walk.Known.{Known}
use Rattle.bmc_walk.specs.declared.walk.Ground.{Ground}
use Rattle.bmc_walk.specs.Choices.{FindChoices, PickedHere}
use Rattle.bmc_walk.specs.Sums.{atoms_with, HasBody, AreBodies}
use Rattle.bmc_walk.specs.Walked.{atoms_of, read_in, HasNumbers, HasSingles}
use Rattle.bmc_walk.proofs.WalkLaws.{max_left, max_right, ground_kept}
use Rattle.bmc_walk.proofs.EachLaws.{no_deeper}
use Rattle.bmc_walk.proofs.NumberLaws.{numbers_kept}

-- ---- lists of pairs

abbrev choice_of : List ℕ × ℤ → List ℕ
choice_of p = p.0

abbrev value_of : List ℕ × ℤ → ℤ
value_of p = p.1

contains_map : {X Y : Type 0} (f : X → Y) (xs : List X) (x : X) → Contains xs x → Contains (map f xs) (f x)
contains_map f [] x c = absurd (contains_none x c)
contains_map f (y ∷ ys) x c = elim (contains_cases y ys x c) [
  | inl e ↦ subst (λ z. Contains (f y ∷ map f ys) (f z)) e (contains_first (f y) (map f ys))
  | inr d ↦ contains_later (f y) (map f ys) (f x) (contains_map f ys x d)
]

map_contains : {X Y : Type 0} (f : X → Y) (xs : List X) (y : Y) → Contains (map f xs) y → (x : X) × Contains xs x × (f x ≡ y)
map_contains f [] y c = absurd (contains_none y c)
map_contains f (x ∷ xs) y c = elim (contains_cases (f x) (map f xs) y c) [
  | inl e ↦ (x, contains_first x xs, e)
  | inr d ↦ (let (z, k, e) = map_contains f xs y d in (z, contains_later x xs z k, e))
]

all_of : {X : Type 0} (P : X → Type 0) (xs : List X) → ((x : X) → Contains xs x → P x) → All P xs
all_of P [] h = All-nil P
all_of P (x ∷ xs) h = All-cons P x xs (h x (contains_first x xs)) (all_of P xs (λ y c. h y (contains_later x xs y c)))

all_apart : {X : Type 0} (x : X) (xs : List X) → ¬ Contains xs x → All (λ z. x ≢ z) xs
all_apart x [] none = All-nil (λ z. x ≢ z)
all_apart x (y ∷ ys) none = All-cons (λ z. x ≢ z) y ys (λ e. none (subst (λ z. Contains (y ∷ ys) z) (sym e) (contains_first y ys))) (all_apart x ys (λ c. none (contains_later y ys x c)))

once_pairs : {X : Type 0} (xs : List X) → AreOnce xs → AllPairs (λ x z. x ≢ z) xs
once_pairs [] o = λ i j d lt high. absurd (omega arith)
once_pairs (x ∷ xs) o = AllPairs-cons (λ y z. y ≢ z) x xs (all_apart x xs o.0) (once_pairs xs o.1)

once_by_choice : (ps : List (List ℕ × ℤ)) → AreOnce (map choice_of ps) → AreOnce ps
once_by_choice [] o = tt
once_by_choice (p ∷ ps) o = ((λ c. o.0 (contains_map choice_of ps p c)), once_by_choice ps o.1)

-- ---- the sum over listed choices

first_of : (a b : ℕ) (s t : List ℕ) → a ∷ s ≡ b ∷ t → a ≡ b
first_of a b s t e = cc

rest_of : (a b : ℕ) (s t : List ℕ) → a ∷ s ≡ b ∷ t → s ≡ t
rest_of a b s t e = cc

-- one choice of atoms binds the variables in one way
picked_once : (w : World) (vs : Variables) (P Q : Names → Type 0) (R : Type 0) → ((inner : Names) → P inner → Q inner → R) → (names : Names) (i : ℕ) (earlier u : List ℕ) → Picked w no_bodies vs P names i earlier u → Picked w no_bodies vs Q names i earlier u → R
picked_once w no_variables P Q R both names i earlier u (e, p) (e', q) = both names p q
picked_once w (more_variables x apart b rest) P Q R both names i earlier u (a, t, e, m, off, p) (a', t', e', m', off', q) =
    let heads : a' ≡ a = first_of a' a t' t (sym e' ∙ e) in
    let tails : t' ≡ t = rest_of a' a t' t (sym e' ∙ e) in
    picked_once w rest P Q R both (with_name names x (atom a)) i (a ∷ earlier) t p
    (subst (λ l. Picked w no_bodies rest Q (with_name names x (atom a)) i (a ∷ earlier) l) tails (subst (λ z. Picked w no_bodies rest Q (with_name names x (atom z)) i (z ∷ earlier) t') heads q))

-- what holds where the variables stand for a choice's atoms
picked_with : (w : World) (vs : Variables) (P : Names → Type 0) (atoms : Atoms) (i : ℕ) (earlier u : List ℕ) → Picked w no_bodies vs (λ inner. Unit {0}) (names_of atoms) i earlier u → P (names_of (atoms_with vs u atoms)) → Picked w no_bodies vs P (names_of atoms) i earlier u
picked_with w no_variables P atoms i earlier u (e, p) holds = (e, holds)
picked_with w (more_variables x apart b rest) P atoms i earlier u (a, t, e, m, off, p) holds =
    (a, t, e, m, off, picked_with w rest P ((x, a) ∷ atoms) i (a ∷ earlier) t p (subst (λ l. P (names_of (atoms_with (more_variables x apart b rest) l atoms))) e holds))

module _ (w : World) (vs : Variables) (body : Term) (names : Names) (i : ℕ) (ps : List (List ℕ × ℤ)) where
  abbrev Chosen : (Names → Type 0) → List ℕ → Type 0
  Chosen P u = Picked w no_bodies vs P names i [] u

  abbrev pub ValueAt : List ℕ → ℤ → Type 0
  ValueAt u m = Chosen (λ inner. IsNumber w (InTerm w no_bodies body inner i) m) u

  abbrev pub Total : ℤ
  Total = wrap w.bits (sum_of (map value_of ps))

  module _ (distinct : AreOnce (map choice_of ps)) (listed : (u : List ℕ) → Contains (map choice_of ps) u ↔ Chosen (λ inner. Unit {0}) u) (values : (p : List ℕ × ℤ) → Contains ps p → ValueAt p.0 p.1) where
    is_sum : IsSumOver w (Chosen (λ inner. Unit {0})) ValueAt Total
    is_sum = (
      ps,
      record { distinct = once_pairs (map choice_of ps) distinct; all_and_only = listed },
      all_of (λ (p : List ℕ × ℤ). ValueAt p.0 p.1) ps values,
      refl,
    )

    same_value : (u : List ℕ) (m n : ℤ) → ValueAt u m → ValueAt u n → m ≡ n
    same_value u m n one two = picked_once w vs (λ inner. IsNumber w (InTerm w no_bodies body inner i) m) (λ inner. IsNumber w (InTerm w no_bodies body inner i) n) (m ≡ n) (λ inner a b. number_once w (InTerm w no_bodies body inner i) m n a b) names i [] u one two

    one_sum : (n : ℤ) → IsSumOver w (Chosen (λ inner. Unit {0})) ValueAt n → n ≡ Total
    one_sum n (others, theirs, rights, is) =
        is ∙ ap (λ z. wrap w.bits z) (same_sum value_of others ps (once_by_choice others (once (map choice_of others) theirs.distinct)) (once_by_choice ps distinct)
        (λ p. (
          (λ c.
              let (q, k, same) = map_contains choice_of ps p.0 ((listed p.0).1 ((theirs.all_and_only p.0).0 (contains_map choice_of others p c))) in
              let mine : ValueAt p.0 q.1 = subst (λ u. ValueAt u q.1) same (values q k) in
              let equal : q.1 ≡ p.1 = same_value p.0 q.1 p.1 mine (All-contains (λ (r : List ℕ × ℤ). ValueAt r.0 r.1) others p rights c) in
              subst (λ (r : List ℕ × ℤ). Contains ps r) (ap (λ u. (u, q.1)) same ∙ ap (λ z. (p.0, z)) equal) k),
          (λ c.
              let (q, k, same) = map_contains choice_of others p.0 ((theirs.all_and_only p.0).1 ((listed p.0).0 (contains_map choice_of ps p c))) in
              let theirs_at : ValueAt p.0 q.1 = subst (λ u. ValueAt u q.1) same (All-contains (λ (r : List ℕ × ℤ). ValueAt r.0 r.1) others q rights k) in
              let equal : q.1 ≡ p.1 = same_value p.0 q.1 p.1 theirs_at (values p c) in
              subst (λ (r : List ℕ × ℤ). Contains others r) (ap (λ u. (u, q.1)) same ∙ ap (λ z. (p.0, z)) equal) k),
        )))

    pub sum_is : SameTuples (λ t. t ≡ atom_of w Total ∷ []) (InTerm w no_bodies (sum_over vs body) names i)
    sum_is t = ((λ at. (Total, is_sum, at)), (λ (n, sum, at). at ∙ ap (λ z. atom_of w z ∷ []) (one_sum n sum)))

-- ---- how deep past operators nest

under_zero : (vs : Variables) (d : Depths) (f : Depths → ℕ) (h : ℕ) → past_under none_nested vs d f ≤ h → past_under none_nested vs d (λ e. past_of none_nested (every no_claims) e) ≤ h
under_zero no_variables d f h le = omega arith
under_zero (more_variables x apart e rest) d f h le = max-le (max_left _ _ h le) (under_zero rest _ f h (max_right _ _ h le))

body_past : (vs : Variables) (body : Term) (h : ℕ) → past_under none_nested vs no_depths (λ d. past_in none_nested body d) ≤ h → past_in none_nested body no_depths ≤ h
body_past no_variables body h le = le
body_past (more_variables x apart e rest) body h le = body_past rest body h (subst (λ (d : Depths). past_under none_nested rest d (λ i. past_in none_nested body i) ≤ h) (no_deeper x) (max_right _ _ h le))

-- ---- the integers of each choice

drop_front : {X : Type 0} (xs : List X) (k : ℕ) (x : X) → slice_get xs k ≡ Some x → drop k xs ≡ x ∷ drop (suc k) xs
drop_front [] k x at = absurd cc
drop_front (y ∷ xs) zero x at = (let same : y ≡ x = cc in ap (λ z. z ∷ xs) same)
drop_front (y ∷ xs) (suc k) x at = drop_front xs k x at

pub body_none : (ground : Ground) (known : Known) (old new : (ℕ → Bool) → Node → Bool) (before : List MatrixEntries) (integers : List (List Node)) (e : Term) (numbers t : List ℕ) → HasNumbers ground known old new before integers e numbers → HasBody ground (atoms_with no_variables t (atoms_of known)) old new before integers e numbers
body_none ground known old new before integers e numbers t has = record { right = λ h is le. has.right h is le }

pub body_more : (ground : Ground) (old new : (ℕ → Bool) → Node → Bool) (before : List MatrixEntries) (integers : List (List Node)) (e : Term) (numbers ns : List ℕ) (place later a x apart : ℕ) (bound : Term) (rest : Variables) (atoms inner : Atoms) → slice_get ns place ≡ Some a → later ≡ place + 1 → inner ≡ (x, a) ∷ atoms → HasBody ground (atoms_with rest (drop later ns) inner) old new before integers e numbers → HasBody ground (atoms_with (more_variables x apart bound rest) (drop place ns) atoms) old new before integers e numbers
body_more ground old new before integers e numbers ns place later a x apart bound rest atoms inner at next is has =
    let split : drop place ns ≡ a ∷ drop later ns = drop_front ns place a at ∙ ap (λ (k : ℕ). a ∷ drop k ns) (let s : suc place ≡ later = omega (arith, next) in s) in
    subst (λ (t : List ℕ). HasBody ground (atoms_with (more_variables x apart bound rest) t atoms) old new before integers e numbers) (sym split) (subst (λ (zs : Atoms). HasBody ground (atoms_with rest (drop later ns) zs) old new before integers e numbers) is has)

-- those of the first choices
pub record BodiesTo (ground : Ground) (vs : Variables) (atoms : Atoms) (old new : (ℕ → Bool) → Node → Bool) (before : List MatrixEntries) (integers : List (List Node)) (e : Term) (choices : List Choice) (place : ℕ) (rows : List (Vec ℕ Global)) : Type 0 where
  pub long : length rows ≡ place
  pub bodies : (j : ℕ) (c : Choice) (n : Vec ℕ Global) → slice_get choices j ≡ Some c → slice_get rows j ≡ Some n → HasBody ground (atoms_with vs c.tuple atoms) old new before integers e n.items

pub bodies_none : (ground : Ground) (vs : Variables) (atoms : Atoms) (old new : (ℕ → Bool) → Node → Bool) (before : List MatrixEntries) (integers : List (List Node)) (e : Term) (choices : List Choice) (rows : List (Vec ℕ Global)) → rows ≡ [] → BodiesTo ground vs atoms old new before integers e choices 0 rows
bodies_none ground vs atoms old new before integers e choices rows none = record {
  long = ap (λ (ns : List (Vec ℕ Global)). length ns) none;
  bodies = λ j c n at_c at_n. absurd (let here = ap (λ (ns : List (Vec ℕ Global)). slice_get ns j) (sym none) ∙ at_n in let lt = slice_get_within [] j n here in omega (arith, lt));
}

contained : (cs : List Choice) (q : ℕ) (e : Choice) → slice_get cs q ≡ Some e → Contains cs e
contained cs q e at_e = (q, slice_get_within cs q e at_e, get_or_from_slice_get cs q e e at_e)

push_long : {X : Type 0} (xs : List X) (y : X) → length (xs ++ y ∷ []) ≡ length xs + 1
push_long xs y = length-append xs (y ∷ [])

-- what is found are the choices for the variables
picked_here : (w : World) (vs : Variables) (f : Claim) (names : Names) (k : ℕ) → f ≡ every no_claims → (choices more : List Choice) → choices ≡ more → (v : Node → Bool) (p : ℕ) (q : List ℕ) (b : Bool) → b ≡ true → IsFound v more p q ↔ ((u : List ℕ) × (q ≡ u) × IsTrue b × PickedHere w names k [] vs f u) → IsFound v choices p q ↔ Picked w no_bodies vs (λ inner. Unit {0}) names k [] q
picked_here w vs f names k all_is choices more whole v p q b is found =
    let found_now = subst (λ (cs : List Choice). IsFound v cs p q ↔ ((u : List ℕ) × (q ≡ u) × IsTrue b × PickedHere w names k [] vs (every no_claims) u)) (sym whole) (subst (λ (c : Claim). IsFound v more p q ↔ ((u : List ℕ) × (q ≡ u) × IsTrue b × PickedHere w names k [] vs c u)) all_is found) in (
      (λ on. (let (u, e, on_b, picked) = found_now.0 on in subst (λ (z : List ℕ). Picked w no_bodies vs (λ inner. Unit {0}) names k [] z) (sym e) picked)),
      (λ picked. found_now.1 (q, refl, is, picked)),
    )

module _ {S : Type 0} (belongs : S → Node → Type 0) (value : S → (ℕ → Bool) → Node → Bool) (ground : Ground) (known : Known) where
  body_kept : (first g h : S) (before : List MatrixEntries) (a b : Store) (atoms : Atoms) (e : Term) (numbers : List ℕ) → Keeps belongs value g h → AreStored (belongs g) a → Extends a b → HasBody ground atoms (value first) (value g) before a.integers.items e numbers → HasBody ground atoms (value first) (value h) before b.integers.items e numbers
  body_kept first g h before a b atoms e numbers keeps stored extends has = record {
    right = λ n is le. numbers_kept belongs value ground known g h keeps a b stored extends (under (reading_of ground.setting n) atoms) e numbers (has.right n is le);
  }

  pub bodies_more : (first now later : S) (a b d : Store) (vs : Variables) (atoms : Atoms) (e : Term) (choices : List Choice) (place : ℕ) (rows more : List (Vec ℕ Global)) (c : Choice) (n : Vec ℕ Global) → Keeps belongs value first now → Keeps belongs value now later → AreStored (belongs first) a → AreStored (belongs now) b → Extends a b → Extends b d → slice_get choices place ≡ Some c → more ≡ rows ++ n ∷ []
      → BodiesTo ground vs atoms (value first) (value now) a.matrices.items b.integers.items e choices place rows → HasBody ground (atoms_with vs c.tuple atoms) (value now) (value later) b.matrices.items d.integers.items e n.items
      → BodiesTo ground vs atoms (value first) (value later) a.matrices.items d.integers.items e choices (place + 1) more
  bodies_more first now later a b d vs atoms e choices place rows more c n keeps more_keeps stored stored_b extends extends_b at is to has = record {
    long = ap (λ (ns : List (Vec ℕ Global)). length ns) is ∙ push_long rows n ∙ ap (λ (k : ℕ). k + 1) to.long;
    bodies = λ j b' m at_c at_m.
        elim (push_cases rows n j m (ap (λ (ns : List (Vec ℕ Global)). slice_get ns j) (sym is) ∙ at_m)) [
          | inl there ↦ body_kept first now later a.matrices.items b d (atoms_with vs b'.tuple atoms) e m.items more_keeps stored_b extends_b (to.bodies j b' m at_c there)
          | inr (j_is, n_is) ↦ (let same : c ≡ b' = (let one : slice_get choices place ≡ Some b' = ap (λ (k : ℕ). slice_get choices k) (sym to.long ∙ sym j_is) ∙ at_c in let two : Some c ≡ Some b' = sym at ∙ one in cc) in
              let new : HasBody ground (atoms_with vs c.tuple atoms) (value first) (value later) a.matrices.items d.integers.items e n.items = record {
                right = λ h of le. has.right h (ground_kept belongs value ground known first now keeps a b stored extends h of) le;
              } in
              subst (λ (v : Vec ℕ Global). HasBody ground (atoms_with vs b'.tuple atoms) (value first) (value later) a.matrices.items d.integers.items e v.items) n_is (subst (λ (q : Choice). HasBody ground (atoms_with vs q.tuple atoms) (value first) (value later) a.matrices.items d.integers.items e n.items) same new))
        ];
  }

  -- bodies stay right
  pub bodies_kept : (first g h : S) (before : List MatrixEntries) (a b : Store) (vs : Variables) (atoms : Atoms) (e : Term) (choices : List Choice) (place : ℕ) (rows : List (Vec ℕ Global)) → Keeps belongs value g h → AreStored (belongs g) a → Extends a b → BodiesTo ground vs atoms (value first) (value g) before a.integers.items e choices place rows → BodiesTo ground vs atoms (value first) (value h) before b.integers.items e choices place rows
  bodies_kept first g h before a b vs atoms e choices place rows keeps stored extends to = record {
    long = to.long;
    bodies = λ j c n at_c at_n. body_kept first g h before a b (atoms_with vs c.tuple atoms) e n.items keeps stored extends (to.bodies j c n at_c at_n);
  }

  -- ---- the rule

  pub sum_law : (g h i j : S) (a b c d : Store) (vs : Variables) (f : Claim) (body : Term) (there : List Node) (already choices : List Choice) (rows : List (Vec ℕ Global)) (many : ℕ) (numbers : List ℕ) → Keeps belongs value g h → Keeps belongs value h i → AreStored (belongs g) a → Stays a b → already ≡ [] → f ≡ every no_claims → many ≡ length ground.setting.frame.now.shown.items → IsConstant (value g) many true there
      → FindChoices ground known [] (value g) (value h) a.matrices.items vs f there already choices → AllRows (belongs h) choices → IsStrictlySortedBy tuple_cmp (map (λ (q : Choice). q.tuple) choices)
      → AreBodies ground vs (atoms_of known) (value h) (value i) b.matrices.items c.integers.items body choices rows → AreSums (value i) (value j) c.integers.items d.integers.items ground.setting.universe.bits choices rows many numbers
      → HasSingles ground known (value g) (value j) a.matrices.items d.integers.items (sum_over vs body) numbers
  sum_law g h i j a b c d vs f body there already choices rows many numbers k_gh k_hi stored stays none all_is many_is const find in_rows rising bodies sums = record {
    right = λ n is le. record {
      integers_are = λ loop k s spot.
          let r = read_in ground known n in
          let ok = ok_under (reading_of ground.setting n) (atoms_of known) is.reading in
          let u = is.reading.universe in
          let p = s.start + k in
          let lt : p < many = (let l = place_within r ok loop k s spot in omega (arith, l, many_is)) in
          let (o, at, (t, stands, long, adds)) = sums p lt in
          let is_b = ground_kept belongs value ground known g h k_gh a b stored (stays_extends a b stays) n is in
          let le_body = body_past vs body n le in
          let whole : choices ≡ find.more = find.is ∙ ap (λ (cs : List Choice). cs ++ find.more) none in (
            t,
            (o, at, stands),
            long ∙ u.bits,
            λ x lasso shows at_loop.
                let w = world_of r.scopes lasso in
                let names = names_of (atoms_of known) in
                let v = value i x in
                let integers = c.integers.items in
                let leaves = leaves_at v integers p choices rows in
                let ps = counted_of leaves in
                let found = find.right n is (subst (λ (q : Claim). past_under none_nested vs no_depths (λ e. past_of none_nested q e) ≤ n) (sym all_is) (under_zero vs no_depths (λ e. past_in none_nested body e) n le)) loop k s spot x lasso shows at_loop in
                let picked : (q : List ℕ) → IsFound (value h x) choices p q ↔ Picked w no_bodies vs (λ inner. Unit {0}) names k [] q = λ q. picked_here w vs f names k all_is choices find.more whole (value h x) p q (row_value (value g x) there p) (const.values x p lt) (found q) in
                let row_is : (q : ℕ) (e : Choice) → slice_get choices q ≡ Some e → row_value v e.row p ≡ row_value (value h x) e.row p = λ q e at_e. row_kept belongs value h i k_hi e.row (rows_at (belongs h) choices q e at_e in_rows) x p in
                let distinct = counted_once leaves (subst (λ (ts : List (List ℕ)). AreOnce ts) (sym (leaf_tuples v integers p choices rows bodies.long)) (sorted_once (map (λ (q : Choice). q.tuple) choices) rising)) in
                let listed : (q : List ℕ) → Contains (map choice_of ps) q ↔ Picked w no_bodies vs (λ inner. Unit {0}) names k [] q = λ q. (
                  (λ there_q.
                      let (pair, in_ps, pair_is) = map_contains choice_of ps q there_q in
                      let (l, in_leaves, counts, leaf_is) = counted_has leaves pair in_ps in
                      let (j', e, m, at_e, at_m, tuple, counts_is, integer) = leaf_from v integers p choices rows l in_leaves in
                      let tuple_is : e.tuple ≡ q = sym tuple ∙ ap (λ (z : List ℕ × ℤ). z.0) (sym leaf_is) ∙ pair_is in
                      (picked q).0 (e, contained choices j' e at_e, tuple_is, sym (row_is j' e at_e) ∙ sym counts_is ∙ counts)),
                  (λ on.
                      let (e, in_choices, tuple_is, row_true) = (picked q).1 on in
                      let (l, in_leaves, tuple, counts) = leaf_of v integers p choices rows e bodies.long in_choices in
                      let (j', lt', at_e) = in_choices in
                      let count_is : l.counts ≡ true = counts ∙ row_is j' e (slice_get-get_or choices j' e lt' ∙ ap Some at_e) ∙ row_true in
                      subst (λ (z : List ℕ). Contains (map choice_of ps) z) (tuple ∙ tuple_is) (contains_map choice_of ps (l.tuple, l.integer) (has_counted leaves l in_leaves count_is))),
                ) in
                let values : (pair : List ℕ × ℤ) → Contains ps pair → ValueAt w vs body names k ps pair.0 pair.1 = λ pair in_ps.
                let (l, in_leaves, counts, leaf_is) = counted_has leaves pair in_ps in
                let (j', e, m, at_e, at_m, tuple, counts_is, integer) = leaf_from v integers p choices rows l in_leaves in
                let on : Picked w no_bodies vs (λ inner. Unit {0}) names k [] e.tuple = (picked e.tuple).0 (e, contained choices j' e at_e, refl, sym (row_is j' e at_e) ∙ sym counts_is ∙ counts) in
                let numbers_at = (bodies.bodies j' e m at_e at_m).right n is_b le_body in
                let (b', (o', at_o, stands_o), long_b, number_is) = numbers_at.integers_are loop k s spot in
                let z_is : l.integer ≡ signed v b' = integer ∙ integer_is v integers m.items p o' b' at_o stands_o in
                let mine : ValueAt w vs body names k ps e.tuple (signed v b') = picked_with w vs (λ inner. IsNumber w (InTerm w no_bodies body inner k) (signed v b')) (atoms_of known) k [] e.tuple on (number_is x lasso shows at_loop) in
                subst (λ (z : List ℕ × ℤ). ValueAt w vs body names k ps z.0 z.1) (sym leaf_is) (subst (λ (z : ℤ). ValueAt w vs body names k ps l.tuple z) (sym z_is) (subst (λ (y : List ℕ). ValueAt w vs body names k ps y (signed v b')) (sym tuple) mine)) in
                let total : signed (value j x) t ≡ Total w vs body names k ps = adds x ∙ ap (λ (z : ℤ). wrap ground.setting.universe.bits z) (sym (counted_sum leaves)) ∙ ap (λ (m : ℕ). wrap m (sum_of (map value_of ps))) u.bits in
                subst (λ (z : ℤ). SameTuples (λ q. q ≡ atom_of w z ∷ []) (InTerm w no_bodies (sum_over vs body) names k)) (sym total) (sum_is w vs body names k ps distinct listed values),
          );
    };
  }

-- the formula that is always true
pub all_true : (v : Vec Formula Global) → v.items ≡ [] → claim_of (Every v) ≡ every no_claims
all_true v none = every_is v ∙ ap (λ (fs : List Formula). every (claim_list (map claim_of fs))) none
