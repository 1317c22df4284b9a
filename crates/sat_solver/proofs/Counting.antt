-- Fewer clauses can be new behind one that was.
use Rattle.std.proofs.Common.{ℕ, zero, suc, ◌*◌, ◌^◌, ◌<◌, ◌≤◌, ◌≡◌, ℤ, pos, negsuc, neg_ℤ, unsigned_abs, Bool, true, false, not, cond, ◌&&◌, ◌||◌, List, [], ◌∷◌, ◌++◌, map, length, refl, sym, ap, subst, ◌∙◌, inl, inr, ◌⊎◌, ⊎_elim, arith, length-append}
use Rattle.std.specs.List.{All, list_all}
use Rattle.std.specs.Ordering.{int_eq}
use Rattle.std.specs.Cmp.{signed_Decides}
use Rattle.std.proofs.lemmas.Bool.{cases_lt}
use Rattle.sat_lrat.specs.Step.{among}
use Rattle.sat_trail.specs.Literal.{index, IsLiteral}
use Rattle.sat_trail.specs.Assignment.{value_at}
use Rattle.sat_trail.specs.Reasons.{AreApart}
use Rattle.sat_solver.specs.Remaining.{clauses_over, has_none, count_new, remaining}

-- ---- tests

not_true : (b : Bool) → (b ≡ true → ⊥) → b ≡ false
not_true true h = absurd (h refl)
not_true false h = refl

or_cases : (a b : Bool) → (a || b) ≡ true → (a ≡ true) ⊎ (b ≡ true)
or_cases true b e = inl refl
or_cases false b e = inr e

or_left : (a b : Bool) → a ≡ true → (a || b) ≡ true
or_left true b e = refl
or_left false b e = absurd (cc)

or_right : (a b : Bool) → b ≡ true → (a || b) ≡ true
or_right true b e = refl
or_right false b e = e

and_first : (a b : Bool) → (a && b) ≡ true → a ≡ true
and_first true b e = refl
and_first false b e = absurd (cc)

and_second : (a b : Bool) → (a && b) ≡ true → b ≡ true
and_second true b e = e
and_second false b e = absurd (cc)

and_both : (a b : Bool) → a ≡ true → b ≡ true → (a && b) ≡ true
and_both true b e f = f
and_both false b e f = absurd (cc)

not_first : (a b : Bool) → a ≡ true → (not a && b) ≡ false
not_first true b e = refl
not_first false b e = absurd (cc)

all_first : (p q : ℤ → Bool) (xs : List ℤ) → ((x : ℤ) → p x ≡ true → q x ≡ true) → list_all p xs ≡ true → list_all q xs ≡ true
all_first p q [] h e = refl
all_first p q (x ∷ xs) h e = and_both (q x) (list_all q xs) (h x (and_first (p x) (list_all p xs) e)) (all_first p q xs h (and_second (p x) (list_all p xs) e))

all_of : (p : ℤ → Bool) (xs : List ℤ) → ((k : ℕ) → k < length xs → p (value_at xs k) ≡ true) → list_all p xs ≡ true
all_of p [] h = refl
all_of p (x ∷ xs) h = and_both (p x) (list_all p xs) (h 0 (omega arith)) (all_of p xs (λ k b. h (suc k) (omega (arith, b))))

-- ---- lists of clauses

abbrev Has : List (List ℤ) → List ℤ → Type 0
Has [] clause = ⊥
Has (x ∷ xs) clause = (x ≡ clause) ⊎ Has xs clause

has_left : (xs ys : List (List ℤ)) (clause : List ℤ) → Has xs clause → Has (xs ++ ys) clause
has_left [] ys clause h = absurd h
has_left (x ∷ xs) ys clause h = ⊎_elim (λ (here : x ≡ clause). inl here) (λ (later : Has xs clause). inr (has_left xs ys clause later)) h

has_right : (xs ys : List (List ℤ)) (clause : List ℤ) → Has ys clause → Has (xs ++ ys) clause
has_right [] ys clause h = h
has_right (x ∷ xs) ys clause h = inr (has_right xs ys clause h)

has_with : (l : ℤ) (xs : List (List ℤ)) (clause : List ℤ) → Has xs clause → Has (map (λ (rest : List ℤ). l ∷ rest) xs) (l ∷ clause)
has_with l [] clause h = absurd h
has_with l (x ∷ xs) clause h = ⊎_elim (λ (here : x ≡ clause). inl (ap (λ (rest : List ℤ). l ∷ rest) here)) (λ (later : Has xs clause). inr (has_with l xs clause later)) h

-- ---- the clause of a set, in the order of the list

abbrev with_sign : Bool → Bool → ℕ → List ℤ → List ℤ
with_sign true b n rest = pos (suc n) ∷ rest
with_sign false true n rest = negsuc n ∷ rest
with_sign false false n rest = rest

abbrev normal : ℕ → (ℤ → Bool) → List ℤ
normal zero f = []
normal (suc n) f = with_sign (f (pos (suc n))) (f (negsuc n)) n (normal n f)

has_sign : (a b : Bool) (n : ℕ) (rest : List ℤ) → Has (clauses_over n) rest → Has (clauses_over (suc n)) (with_sign a b n rest)
has_sign true b n rest h =
    has_right (clauses_over n) (map (λ (clause : List ℤ). pos (suc n) ∷ clause) (clauses_over n) ++ map (λ (clause : List ℤ). negsuc n ∷ clause) (clauses_over n)) (pos (suc n) ∷ rest)
    (has_left (map (λ (clause : List ℤ). pos (suc n) ∷ clause) (clauses_over n)) (map (λ (clause : List ℤ). negsuc n ∷ clause) (clauses_over n)) (pos (suc n) ∷ rest) (has_with (pos (suc n)) (clauses_over n) rest h))
has_sign false true n rest h =
    has_right (clauses_over n) (map (λ (clause : List ℤ). pos (suc n) ∷ clause) (clauses_over n) ++ map (λ (clause : List ℤ). negsuc n ∷ clause) (clauses_over n)) (negsuc n ∷ rest)
    (has_right (map (λ (clause : List ℤ). pos (suc n) ∷ clause) (clauses_over n)) (map (λ (clause : List ℤ). negsuc n ∷ clause) (clauses_over n)) (negsuc n ∷ rest) (has_with (negsuc n) (clauses_over n) rest h))
has_sign false false n rest h = has_left (clauses_over n) (map (λ (clause : List ℤ). pos (suc n) ∷ clause) (clauses_over n) ++ map (λ (clause : List ℤ). negsuc n ∷ clause) (clauses_over n)) rest h

has_normal : (n : ℕ) (f : ℤ → Bool) → Has (clauses_over n) (normal n f)
has_normal zero f = inl refl
has_normal (suc n) f = has_sign (f (pos (suc n))) (f (negsuc n)) n (normal n f) (has_normal n f)

-- it has no other literals
sub_with : (l x : ℤ) (f : ℤ → Bool) (rest : List ℤ) → f l ≡ true → (among rest x ≡ true → f x ≡ true) → among (l ∷ rest) x ≡ true → f x ≡ true
sub_with l x f rest is h e = ⊎_elim
    (λ (here : int_eq l x ≡ true). let same : l ≡ x = (signed_Decides l x).0 here in subst (λ (y : ℤ). f y ≡ true) same is)
    (λ (later : among rest x ≡ true). h later)
    (or_cases (int_eq l x) (among rest x) e)

sub_sign : (a b : Bool) (n : ℕ) (x : ℤ) (f : ℤ → Bool) (rest : List ℤ) → f (pos (suc n)) ≡ a → f (negsuc n) ≡ b → (among rest x ≡ true → f x ≡ true) → among (with_sign a b n rest) x ≡ true → f x ≡ true
sub_sign true b n x f rest up down h e = sub_with (pos (suc n)) x f rest up h e
sub_sign false true n x f rest up down h e = sub_with (negsuc n) x f rest down h e
sub_sign false false n x f rest up down h e = h e

sub_normal : (n : ℕ) (f : ℤ → Bool) (x : ℤ) → among (normal n f) x ≡ true → f x ≡ true
sub_normal zero f x e = absurd (cc)
sub_normal (suc n) f x e = sub_sign (f (pos (suc n))) (f (negsuc n)) n x f (normal n f) refl refl (sub_normal n f x) e

-- it has all literals over the variables, where no two are opposite
here_first : (l : ℤ) (rest : List ℤ) → among (l ∷ rest) l ≡ true
here_first l rest = or_left (int_eq l l) (among rest l) ((signed_Decides l l).1 refl)

in_sign : (a b : Bool) (n : ℕ) (rest : List ℤ) (x : ℤ) → among rest x ≡ true → among (with_sign a b n rest) x ≡ true
in_sign true b n rest x e = or_right (int_eq (pos (suc n)) x) (among rest x) e
in_sign false true n rest x e = or_right (int_eq (negsuc n) x) (among rest x) e
in_sign false false n rest x e = e

top_up : (a b : Bool) (n : ℕ) (rest : List ℤ) → a ≡ true → among (with_sign a b n rest) (pos (suc n)) ≡ true
top_up true b n rest e = here_first (pos (suc n)) rest
top_up false b n rest e = absurd (cc)

top_down : (a b : Bool) (n : ℕ) (rest : List ℤ) → (a ≡ true → ⊥) → b ≡ true → among (with_sign a b n rest) (negsuc n) ≡ true
top_down true b n rest never e = absurd (never refl)
top_down false true n rest never e = here_first (negsuc n) rest
top_down false false n rest never e = absurd (cc)

top_sign : (n : ℕ) (f : ℤ → Bool) (rest : List ℤ) (x : ℤ) → unsigned_abs x ≡ suc n → f x ≡ true → (f (neg_ℤ x) ≡ true → ⊥) → among (with_sign (f (pos (suc n))) (f (negsuc n)) n rest) x ≡ true
top_sign n f rest (pos k) e is never =
    subst (λ (j : ℕ). among (with_sign (f (pos (suc n))) (f (negsuc n)) n rest) (pos j) ≡ true) (sym e) (top_up (f (pos (suc n))) (f (negsuc n)) n rest (subst (λ (j : ℕ). f (pos j) ≡ true) e is))
top_sign n f rest (negsuc k) e is never =
    let same : k ≡ n = omega (arith, e) in
    subst (λ (j : ℕ). among (with_sign (f (pos (suc n))) (f (negsuc n)) n rest) (negsuc j) ≡ true) (sym same)
    (top_down (f (pos (suc n))) (f (negsuc n)) n rest (λ up. never (subst (λ (j : ℕ). f (pos (suc j)) ≡ true) (sym same) up)) (subst (λ (j : ℕ). f (negsuc j) ≡ true) same is))

all_normal : (n : ℕ) (f : ℤ → Bool) (x : ℤ) → IsLiteral n x → f x ≡ true → (f (neg_ℤ x) ≡ true → ⊥) → among (normal n f) x ≡ true
all_normal zero f x literal is never = absurd (omega (arith, literal.0, literal.1))
all_normal (suc n) f x literal is never = ⊎_elim
    (λ (low : unsigned_abs x < suc n). in_sign (f (pos (suc n))) (f (negsuc n)) n (normal n f) x (all_normal n f x (literal.0, omega (arith, low)) is never))
    (λ (top : suc n ≤ unsigned_abs x). top_sign n f (normal n f) x (omega (arith, top, literal.1)) is never)
    (cases_lt (unsigned_abs x) (suc n))

-- ---- a clause without a variable twice

among_at : (xs : List ℤ) (k : ℕ) → k < length xs → among xs (value_at xs k) ≡ true
among_at [] k b = absurd (omega (arith, b))
among_at (x ∷ xs) zero b = here_first x xs
among_at (x ∷ xs) (suc k) b = or_right (int_eq x (value_at xs k)) (among xs (value_at xs k)) (among_at xs k (omega (arith, b)))

among_place : (xs : List ℤ) (x : ℤ) → among xs x ≡ true → (k : ℕ) × (k < length xs) × (value_at xs k ≡ x)
among_place [] x e = absurd (cc)
among_place (y ∷ ys) x e = ⊎_elim
    (λ (here : int_eq y x ≡ true). (0, omega arith, (signed_Decides y x).0 here))
    (λ (later : among ys x ≡ true). let c = among_place ys x later in (suc c.0, omega (arith, c.1), c.2))
    (or_cases (int_eq y x) (among ys x) e)

not_opposite : (x y : ℤ) → 0 < unsigned_abs x → y ≡ neg_ℤ x → y ≡ x → ⊥
not_opposite (pos zero) y some e f = omega (arith, some)
not_opposite (pos (suc k)) y some e f = let both : pos (suc k) ≡ negsuc k = sym f ∙ e in absurd (cc)
not_opposite (negsuc k) y some e f = let both : negsuc k ≡ pos (suc k) = sym f ∙ e in absurd (cc)

same_index : (x : ℤ) → index (neg_ℤ x) ≡ index x
same_index (pos zero) = refl
same_index (pos (suc k)) = refl
same_index (negsuc k) = refl

one_sign : (xs : List ℤ) (k : ℕ) → AreApart xs → k < length xs → 0 < unsigned_abs (value_at xs k) → among xs (neg_ℤ (value_at xs k)) ≡ true → ⊥
one_sign xs k apart b some e =
    let j = among_place xs (neg_ℤ (value_at xs k)) e in
    let same : j.0 ≡ k = apart j.0 k j.1 b (ap index j.2 ∙ same_index (value_at xs k)) in
    not_opposite (value_at xs k) (value_at xs j.0) some j.2 (ap (value_at xs) same)

-- ---- counting

none_first : (earlier : List (List ℤ)) (clause other : List ℤ) → ((x : ℤ) → among other x ≡ true → among clause x ≡ true) → All (λ (e : List ℤ). list_all (among clause) e ≡ false) earlier → has_none earlier other ≡ true
none_first [] clause other h all = refl
none_first (e ∷ es) clause other h all =
    let not_part : list_all (among other) e ≡ false = not_true (list_all (among other) e) (λ part.
    let both : true ≡ false = sym (all_first (among other) (among clause) e h part) ∙ all 0 [] (omega arith) in absurd (cc)) in
    and_both (not (list_all (among other) e)) (has_none es other) (ap not not_part) (none_first es clause other h (λ k d b. all (suc k) d (omega (arith, b))))

at_most : (b c : Bool) → (b ≡ true → c ≡ true) → cond b 1 0 ≤ cond c 1 0
at_most true c h = subst (λ (x : Bool). 1 ≤ cond x 1 0) (sym (h refl)) (omega arith)
at_most false c h = omega arith

less : (b c : Bool) → b ≡ false → c ≡ true → cond b 1 0 < cond c 1 0
less true c e f = absurd (cc)
less false true e f = omega arith
less false false e f = absurd (cc)

count_kept : (earlier later all : List (List ℤ)) → ((d : List ℤ) → has_none later d ≡ true → has_none earlier d ≡ true) → count_new later all ≤ count_new earlier all
count_kept earlier later [] h = omega arith
count_kept earlier later (d ∷ ds) h = omega (arith, at_most (has_none later d) (has_none earlier d) (h d), count_kept earlier later ds h)

count_less : (earlier later all : List (List ℤ)) (clause : List ℤ) → ((d : List ℤ) → has_none later d ≡ true → has_none earlier d ≡ true) → Has all clause → has_none later clause ≡ false → has_none earlier clause ≡ true → count_new later all < count_new earlier all
count_less earlier later [] clause h has lost kept = absurd has
count_less earlier later (d ∷ ds) clause h has lost kept = ⊎_elim
    (λ (here : d ≡ clause).
    let below = less (has_none later d) (has_none earlier d) (ap (has_none later) here ∙ lost) (ap (has_none earlier) here ∙ kept) in
    omega (arith, below, count_kept earlier later ds h))
    (λ (further : Has ds clause). omega (arith, at_most (has_none later d) (has_none earlier d) (h d), count_less earlier later ds clause h further lost kept))
    has

-- a new clause over the variables leaves fewer that can be new
pub fewer : (n : ℕ) (earlier : List (List ℤ)) (clause : List ℤ) → All (IsLiteral n) clause → AreApart clause → All (λ (e : List ℤ). list_all (among clause) e ≡ false) earlier → remaining n (clause ∷ earlier) < remaining n earlier
fewer n earlier clause literals apart new =
    let d = normal n (among clause) in
    let whole : list_all (among d) clause ≡ true = all_of (among d) clause (λ k b.
    all_normal n (among clause) (value_at clause k) (literals k (pos 0) b) (among_at clause k b) (one_sign clause k apart b (literals k (pos 0) b).0)) in
    count_less earlier (clause ∷ earlier) (clauses_over n) d
    (λ e is. and_second (not (list_all (among e) clause)) (has_none earlier e) is)
    (has_normal n (among clause))
    (not_first (list_all (among d) clause) (has_none earlier d) whole)
    (none_first earlier clause d (sub_normal n (among clause)) new)

-- ---- how many there are

length_map : (l : ℤ) (xs : List (List ℤ)) → length (map (λ (rest : List ℤ). l ∷ rest) xs) ≡ length xs
length_map l [] = refl
length_map l (x ∷ xs) = ap suc (length_map l xs)

count_within : (earlier all : List (List ℤ)) → count_new earlier all ≤ length all
count_within earlier [] = omega arith
count_within earlier (d ∷ ds) = omega (arith, at_most (has_none earlier d) true (λ e. refl), count_within earlier ds)

length_over : (n : ℕ) → length (clauses_over n) ≡ 3 ^ n
length_over zero = refl
length_over (suc n) =
    let ups = map (λ (clause : List ℤ). pos (suc n) ∷ clause) (clauses_over n) in
    let downs = map (λ (clause : List ℤ). negsuc n ∷ clause) (clauses_over n) in
    let up : length ups ≡ length (clauses_over n) = length_map (pos (suc n)) (clauses_over n) in
    let down : length downs ≡ length (clauses_over n) = length_map (negsuc n) (clauses_over n) in
    let sum = length-append (clauses_over n) (ups ++ downs) in
    let sum_of_two = length-append ups downs in
    let three : 3 ^ suc n ≡ 3 * 3 ^ n = omega arith in
    omega (arith, sum, sum_of_two, up, down, length_over n, three)

-- at first there are at most three ways for each variable
pub within_powers : (n : ℕ) (earlier : List (List ℤ)) → remaining n earlier ≤ 3 ^ n
within_powers n earlier = omega (arith, count_within earlier (clauses_over n), length_over n)

pub some_powers : (n : ℕ) → 0 < 3 ^ n
some_powers zero = omega arith
some_powers (suc n) = let three : 3 ^ suc n ≡ 3 * 3 ^ n = omega arith in omega (arith, three, some_powers n)
