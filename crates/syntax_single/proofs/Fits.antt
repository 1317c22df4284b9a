-- What a tree shows that the reader may read on top of a stack, before these tokens.
use Rattle.std.proofs.Common.{◌≡◌, ◌⊎◌, inl, inr, ℕ, ◌+◌, ◌*◌, ◌<◌, ◌≤◌, Bool, true, false, not, ◌&&◌, ◌||◌, ◌==◌, if◌then◌else◌, nat_le, nat_lt, List, [], ◌∷◌, refl, sym, ap, subst, ◌∙◌, true≢false, arith, eqb-true}
use Rattle.std.proofs.lemmas.Bool.Decides.{nat_tests}
use Rattle.syntax_tree.specs.declared.token.TokenKind.{TokenKind}
use Rattle.syntax_tree.specs.declared.expr.Expr.{Expr}
use Rattle.syntax_tree.specs.declared.shape.Shape.{Shape}
use Rattle.syntax_tree.specs.Words.{Spelled}
use Rattle.syntax_single.proofs.Reader.{Frame, Last, Consequence, Row, Steps, Closing, Items, Arguments, Bounds, Values, Stop, Have, ahead, named, low, least, least_of, forms, complete, settle, settled, operate, inside, go_on, run}

-- Facts of Bools.

pub both_left : (a b : Bool) → (a && b) ≡ true → a ≡ true
both_left true b h = refl
both_left false b h = h

pub both_right : (a b : Bool) → (a && b) ≡ true → b ≡ true
both_right true b h = h
both_right false b h = cc

pub true_or : (a b : Bool) → b ≡ true → (a || b) ≡ true
true_or true b h = refl
true_or false b h = h

pub or_true : (a b : Bool) → a ≡ true → (a || b) ≡ true
or_true true b h = refl
or_true false b h = cc

pub of_not : (b : Bool) → not b ≡ true → b ≡ false
of_not true h = sym h
of_not false h = refl

pub not_of : (b : Bool) → b ≡ false → not b ≡ true
not_of true h = sym h
not_of false h = refl

pub has_first : (a b : Bool) → (not a || (a || b)) ≡ true
has_first true b = refl
has_first false b = refl

pub has_second : (a b : Bool) → (not b || (a || b)) ≡ true
has_second true true = refl
has_second true false = refl
has_second false true = refl
has_second false false = refl

pub itself : (b : Bool) → (not b || b) ≡ true
itself true = refl
itself false = refl

pub at_most : (a b : ℕ) → nat_le a b ≡ true → a ≤ b
at_most a b h = grind (arith, nat_tests)

pub is_at_most : (a b : ℕ) → a ≤ b → nat_le a b ≡ true
is_at_most a b h = grind (arith, nat_tests)

pub is_below : (a b : ℕ) → a < b → nat_lt a b ≡ true
is_below a b h = grind (arith, nat_tests)

pub below : (a b : ℕ) → nat_lt a b ≡ true → a < b
below a b h = grind (arith, nat_tests)

pub is_same : (a : ℕ) → (a == a) ≡ true
is_same a = grind (arith, nat_tests)

-- Below which level the operator must be with which the tokens behind a tree begin.

zero_of_not : (n : ℕ) → (n == 0) ≡ false → 0 < n
zero_of_not n h = grind (arith, nat_tests)

differs : (n m : ℕ) → (n == m) ≡ false → n ≡ m → ⊥
differs n m h e = true≢false (sym (subst (λ k. (n == k) ≡ true) e (is_same n)) ∙ h)

at_least : (l m : ℕ) → (nat_le l m || (m == 0)) ≡ true → 0 < m → l ≤ m
at_least l m h some = by (nat_le l m) refl
  where
    by : (c : Bool) → nat_le l m ≡ c → l ≤ m
    by true e = at_most l m e
    by false e = absurd (true≢false (sym (subst (λ b. (b || (m == 0)) ≡ true) e h) ∙ not_zero m some))
      where
        not_zero : (m : ℕ) → 0 < m → (m == 0) ≡ false
        not_zero m some = grind (arith, nat_tests)

strictly : (a l m : ℕ) → ((l ≡ 4) → ⊥) → a < 2 * l → l ≤ m → m ≡ 4 → a < 7
strictly a l m f lt le e = by_case (nat_lt l 4) refl
  where
    is_just : (l m : ℕ) → l ≤ m → m ≡ 4 → nat_lt l 4 ≡ false → l ≡ 4
    is_just l m le e h = grind (arith, nat_tests)

    by_case : (c : Bool) → nat_lt l 4 ≡ c → a < 7
    by_case true h = let less : l < 4 = below l 4 h in omega (arith, lt, less)
    by_case false h = absurd (f (is_just l m le e h))

abbrev pub limit_of : Bool → Bool → ℕ → ℕ
limit_of true bare level = 1
limit_of false bare level = if (level == 0) || (level == 18) then 38 else (if bare && (level == 4) then 7 else 2 * level)

abbrev pub limit : Shape → ℕ
limit s = limit_of s.is_open s.is_bare s.level

abbrev Plain : Bool → ℕ → Type 0
Plain b n = (0 < n) × ((n ≡ 18) → ⊥) × ((b ≡ true) → (n ≡ 4) → ⊥) × (limit_of false b n ≡ 2 * n)

abbrev Bare : Bool → ℕ → Type 0
Bare b n = (b ≡ true) × (n ≡ 4) × (limit_of false b n ≡ 7)

abbrev Cases : Bool → ℕ → Type 0
Cases b n = (((n ≡ 0) ⊎ (n ≡ 18)) × (limit_of false b n ≡ 38)) ⊎ (Bare b n ⊎ Plain b n)

cases_of : (b : Bool) (n : ℕ) → Cases b n
cases_of b n = by ((n == 0) || (n == 18)) refl b refl (n == 4) refl
  where
    either : (x y : Bool) → (n == 0) ≡ x → (n == 18) ≡ y → (x || y) ≡ true → (n ≡ 0) ⊎ (n ≡ 18)
    either true y e f h = inl (eqb-true n 0 e)
    either false true e f h = inr (eqb-true n 18 f)
    either false false e f h = absurd (true≢false (sym h))

    neither : (x y : Bool) → (n == 0) ≡ x → (n == 18) ≡ y → (x || y) ≡ false → (0 < n) × ((n ≡ 18) → ⊥)
    neither true y e f h = absurd (true≢false h)
    neither false true e f h = absurd (true≢false h)
    neither false false e f h = (zero_of_not n e, differs n 18 f)

    opening : (c : Bool) → b ≡ c → (f : Bool) → (n == 4) ≡ f → (if b && (n == 4) then 7 else 2 * n) ≡ (if c && f then 7 else 2 * n)
    opening c g f h = ap (λ x. if x && (n == 4) then 7 else 2 * n) g ∙ ap (λ x. if c && x then 7 else 2 * n) h

    by : (z : Bool) → ((n == 0) || (n == 18)) ≡ z → (c : Bool) → b ≡ c → (f : Bool) → (n == 4) ≡ f → Cases b n
    by true e c g f h = inl (either (n == 0) (n == 18) refl refl e, ap (λ x. if x then 38 else (if b && (n == 4) then 7 else 2 * n)) e)
    by false e true g true h = inr (inl (g, eqb-true n 4 h, ap (λ x. if x then 38 else (if b && (n == 4) then 7 else 2 * n)) e ∙ opening true g true h))
    by false e true g false h = let two : (0 < n) × ((n ≡ 18) → ⊥) = neither (n == 0) (n == 18) refl refl e in
        inr (inr (two.0, two.1, (λ p q. differs n 4 h q), ap (λ x. if x then 38 else (if b && (n == 4) then 7 else 2 * n)) e ∙ opening true g false h))
    by false e false g f h = let two : (0 < n) × ((n ≡ 18) → ⊥) = neither (n == 0) (n == 18) refl refl e in
        inr (inr (two.0, two.1, (λ p q. true≢false (sym p ∙ g)), ap (λ x. if x then 38 else (if b && (n == 4) then 7 else 2 * n)) e ∙ opening false g f h))

-- a left operand, which is not open
pub lead_limit : (b : Bool) (m a : ℕ) → 0 < m → a < 2 * m → ((b ≡ true) → (m ≡ 4) → a < 7) → nat_lt a (limit_of false b m) ≡ true
lead_limit b m a some lt guard = by (cases_of b m)
  where
    by : Cases b m → nat_lt a (limit_of false b m) ≡ true
    by (inl (inl e, is)) = absurd (omega (arith, some, e))
    by (inl (inr e, is)) = ap (λ n. nat_lt a n) is ∙ is_below a 38 (omega (arith, lt, e))
    by (inr (inl p)) = ap (λ n. nat_lt a n) p.2 ∙ is_below a 7 (guard p.0 p.1)
    by (inr (inr p)) = ap (λ n. nat_lt a n) p.3 ∙ is_below a (2 * m) lt

-- what has a prime behind it
pub prime_limit : (b : Bool) (m : ℕ) → 18 ≤ m → nat_lt 36 (limit_of false b m) ≡ true
prime_limit b m le = by (cases_of b m)
  where
    above : (m ≡ 18 → ⊥) → 36 < 2 * m
    above other = by_case (nat_lt 18 m) refl
      where
        by_case : (c : Bool) → nat_lt 18 m ≡ c → 36 < 2 * m
        by_case true e = let lt : 18 < m = below 18 m e in omega (arith, lt)
        by_case false e = absurd (other (is_just m le e))
          where
            is_just : (m : ℕ) → 18 ≤ m → nat_lt 18 m ≡ false → m ≡ 18
            is_just m le e = grind (arith, nat_tests)

    by : Cases b m → nat_lt 36 (limit_of false b m) ≡ true
    by (inl (e, is)) = ap (λ n. nat_lt 36 n) is
    by (inr (inl p)) = let e : m ≡ 4 = p.1 in absurd (omega (arith, le, e))
    by (inr (inr p)) = ap (λ n. nat_lt 36 n) p.3 ∙ is_below 36 (2 * m) (above p.1)

-- what may stand behind a tree may stand behind its last operand
pub last_limit : (o b c : Bool) (l m a : ℕ) → 0 < l → l ≤ 17 → (not c || b) ≡ true → (nat_le l m || (m == 0)) ≡ true → nat_lt a (limit_of o b l) ≡ true → nat_lt a (limit_of o c m) ≡ true
last_limit true b c l m a some most bare tight h = h
last_limit false b c l m a some most bare tight h = by (cases_of b l) (cases_of c m)
  where
    so_bare : (c ≡ true) → (b ≡ true)
    so_bare e = subst (λ x. (not x || b) ≡ true) e bare

    higher : 0 < m → l ≤ m
    higher p = at_least l m tight p

    seven : Bare b l → a < 7
    seven p = below a 7 (subst (λ n. nat_lt a n ≡ true) p.2 h)

    twice : Plain b l → a < 2 * l
    twice p = below a (2 * l) (subst (λ n. nat_lt a n ≡ true) p.3 h)

    strict : ((l ≡ 4) → ⊥) → a < 2 * l → l ≤ m → m ≡ 4 → a < 7
    strict f lt le e = strictly a l m f lt le e

    by : Cases b l → Cases c m → nat_lt a (limit_of false c m) ≡ true
    by (inl (inl e, is)) q = absurd (omega (arith, some, e))
    by (inl (inr e, is)) q = absurd (omega (arith, most, e))
    by (inr (inl p)) (inl (e, is)) = let lt : a < 7 = seven p in ap (λ n. nat_lt a n) is ∙ is_below a 38 (omega (arith, lt))
    by (inr (inr p)) (inl (e, is)) = let lt : a < 2 * l = twice p in ap (λ n. nat_lt a n) is ∙ is_below a 38 (omega (arith, lt, most))
    by (inr (inl p)) (inr (inl q)) = ap (λ n. nat_lt a n) q.2 ∙ is_below a 7 (seven p)
    by (inr (inl p)) (inr (inr q)) = let lt : a < 7 = seven p in let le : l ≤ m = higher q.0 in let e : l ≡ 4 = p.1 in ap (λ n. nat_lt a n) q.3 ∙ is_below a (2 * m) (omega (arith, lt, le, e))
    by (inr (inr p)) (inr (inl q)) = let e : m ≡ 4 = q.1 in let le : l ≤ m = higher (omega (arith, e)) in ap (λ n. nat_lt a n) q.2 ∙ is_below a 7 (strict (p.2 (so_bare q.0)) (twice p) le e)
    by (inr (inr p)) (inr (inr q)) = let lt : a < 2 * l = twice p in let le : l ≤ m = higher q.0 in ap (λ n. nat_lt a n) q.3 ∙ is_below a (2 * m) (omega (arith, lt, le))

-- an operand of a row, behind which the next operator stands
pub inner_limit : (b : Bool) (level m : ℕ) → 0 < level → level ≤ 17 → (nat_le (level + 1) m || (m == 0)) ≡ true → nat_lt (2 * level) (limit_of false b m) ≡ true
inner_limit b level m some most tight = by (cases_of b m)
  where
    by : Cases b m → nat_lt (2 * level) (limit_of false b m) ≡ true
    by (inl (e, is)) = ap (λ n. nat_lt (2 * level) n) is ∙ is_below (2 * level) 38 (omega (arith, most))
    by (inr (inl p)) = let e : m ≡ 4 = p.1 in let le : level + 1 ≤ m = at_least (level + 1) m tight (omega (arith, e)) in ap (λ n. nat_lt (2 * level) n) p.2 ∙ is_below (2 * level) 7 (omega (arith, le, e))
    by (inr (inr p)) = let le : level + 1 ≤ m = at_least (level + 1) m tight p.0 in ap (λ n. nat_lt (2 * level) n) p.3 ∙ is_below (2 * level) (2 * m) (omega (arith, le))

-- behind a tree stands an operator of a lower level
pub lower : (o b : Bool) (l a : ℕ) → 0 < l → l ≤ 17 → nat_lt a (limit_of o b l) ≡ true → nat_lt a (2 * l) ≡ true
lower true b l a some most h = let lt : a < 1 = below a 1 h in is_below a (2 * l) (omega (arith, lt, some))
lower false b l a some most h = by (cases_of b l)
  where
    by : Cases b l → nat_lt a (2 * l) ≡ true
    by (inl (inl e, is)) = absurd (omega (arith, some, e))
    by (inl (inr e, is)) = absurd (omega (arith, most, e))
    by (inr (inl p)) = let lt : a < 7 = below a 7 (subst (λ n. nat_lt a n ≡ true) p.2 h) in let e : l ≡ 4 = p.1 in is_below a (2 * l) (omega (arith, lt, e))
    by (inr (inr p)) = subst (λ n. nat_lt a n ≡ true) p.3 h

-- behind an implication without `else` stands none
pub bare_lower : (o : Bool) (a : ℕ) → nat_lt a (limit_of o true 4) ≡ true → nat_lt a 7 ≡ true
bare_lower true a h = let lt : a < 1 = below a 1 h in is_below a 7 (omega (arith, lt))
bare_lower false a h = h

-- what isn't an operator may stand behind any tree
pub no_limit : (o b : Bool) (l : ℕ) → nat_lt 0 (limit_of o b l) ≡ true
no_limit true b l = refl
no_limit false b l = by (cases_of b l)
  where
    by : Cases b l → nat_lt 0 (limit_of false b l) ≡ true
    by (inl (e, is)) = ap (λ n. nat_lt 0 n) is
    by (inr (inl p)) = ap (λ n. nat_lt 0 n) p.2
    by (inr (inr p)) = let some : 0 < l = p.0 in ap (λ n. nat_lt 0 n) p.3 ∙ is_below 0 (2 * l) (omega (arith, some))

-- A tree that shows this may be read on this stack before these tokens.
pub record Fits (k : List Frame) (s : Shape) (more : Spelled) : Type 0 where
  pub right : s.right ≡ true
  pub tight : (nat_le (least_of k) (2 * s.level) || (s.level == 0)) ≡ true
  pub zero_in : (forms k || (not s.has_zero && (nat_le 10 s.level || (s.level == 0)))) ≡ true
  pub ends : nat_lt (ahead more) (limit s) ≡ true
  pub shut : (not (forms k) || not (named true more)) ≡ true

-- between brackets
pub whole_fits : (k : List Frame) (s : Shape) (more : Spelled) → least_of k ≡ 1 → forms k ≡ true → ahead more ≡ 0 → named true more ≡ false → s.right ≡ true → Fits k s more
whole_fits k s more one all none shut right = record {
  right = right;
  tight = subst (λ n. (nat_le n (2 * s.level) || (s.level == 0)) ≡ true) (sym one) (any s.level);
  zero_in = or_true (forms k) (not s.has_zero && (nat_le 10 s.level || (s.level == 0))) all;
  ends = subst (λ n. nat_lt n (limit s) ≡ true) (sym none) (no_limit s.is_open s.is_bare s.level);
  shut = true_or (not (forms k)) (not (named true more)) (not_of (named true more) shut);
}
  where
    any : (n : ℕ) → (nat_le 1 (2 * n) || (n == 0)) ≡ true
    any n = grind (arith, nat_tests)

zero_part : (f y z : Bool) (l m : ℕ) → (f || (not y && (nat_le 10 l || (l == 0)))) ≡ true → (not z || y) ≡ true → 0 < l → (nat_le l m || (m == 0)) ≡ true → (f || (not z && (nat_le 10 m || (m == 0)))) ≡ true
zero_part true y z l m h zero_in some tight = refl
zero_part false true z l m h zero_in some tight = cc
zero_part false false true l m h zero_in some tight = cc
zero_part false false false l m h zero_in some tight = grind (arith, nat_tests)

higher : (n l m : ℕ) → (nat_le n (2 * l) || (l == 0)) ≡ true → 0 < l → l ≤ m → (nat_le n (2 * m) || (m == 0)) ≡ true
higher n l m h some le = grind (arith, nat_tests)

-- the first operand of a node, which is not open
pub first_fits : (k : List Frame) (s first : Shape) (more after : Spelled) → Fits k s more → first.right ≡ true → first.is_open ≡ false → 0 < s.level → s.level ≤ first.level → (not first.has_zero || s.has_zero) ≡ true →
    nat_lt (ahead after) (limit_of false first.is_bare first.level) ≡ true → named true after ≡ false → Fits k first after
first_fits k s first more after fits right shut some tight zero_in ends none = record {
  right = right;
  tight = higher (least_of k) s.level first.level fits.tight some tight;
  zero_in = zero_part (forms k) s.has_zero first.has_zero s.level first.level fits.zero_in zero_in some (or_true (nat_le s.level first.level) (first.level == 0) (is_at_most s.level first.level tight));
  ends = subst (λ b. nat_lt (ahead after) (limit_of b first.is_bare first.level) ≡ true) (sym shut) ends;
  shut = true_or (not (forms k)) (not (named true after)) (not_of (named true after) none);
}

-- the last operand of a node
pub last_fits : (f : Frame) (k : List Frame) (s x : Shape) (more : Spelled) → Fits k s more → forms (f ∷ k) ≡ forms k → x.right ≡ true → (nat_le (least f) (2 * x.level) || (x.level == 0)) ≡ true → 0 < s.level → s.level ≤ 17 →
    (nat_le s.level x.level || (x.level == 0)) ≡ true → (not x.has_zero || s.has_zero) ≡ true → s.is_open ≡ x.is_open → (not x.is_bare || s.is_bare) ≡ true → Fits (f ∷ k) x more
last_fits f k s x more fits same right tight some most level zero_in open_ bare = record {
  right = right;
  tight = tight;
  zero_in = subst (λ b. (b || (not x.has_zero && (nat_le 10 x.level || (x.level == 0)))) ≡ true) (sym same) (zero_part (forms k) s.has_zero x.has_zero s.level x.level fits.zero_in zero_in some level);
  ends = last_limit x.is_open s.is_bare x.is_bare s.level x.level (ahead more) some most bare level (subst (λ b. nat_lt (ahead more) (limit_of b s.is_bare s.level) ≡ true) open_ fits.ends);
  shut = subst (λ b. (not b || not (named true more)) ≡ true) (sym same) fits.shut;
}

-- an operand behind which its operator goes on
pub inner_fits : (f : Frame) (k : List Frame) (s x : Shape) (more after : Spelled) → Fits k s more → forms (f ∷ k) ≡ forms k → x.right ≡ true → (nat_le (least f) (2 * x.level) || (x.level == 0)) ≡ true → 0 < s.level →
    (nat_le s.level x.level || (x.level == 0)) ≡ true → (not x.has_zero || s.has_zero) ≡ true → x.is_open ≡ false → nat_lt (ahead after) (limit_of false x.is_bare x.level) ≡ true → named true after ≡ false → Fits (f ∷ k) x after
inner_fits f k s x more after fits same right tight some level zero_in shut ends none = record {
  right = right;
  tight = tight;
  zero_in = subst (λ b. (b || (not x.has_zero && (nat_le 10 x.level || (x.level == 0)))) ≡ true) (sym same) (zero_part (forms k) s.has_zero x.has_zero s.level x.level fits.zero_in zero_in some level);
  ends = subst (λ b. nat_lt (ahead after) (limit_of b x.is_bare x.level) ≡ true) (sym shut) ends;
  shut = true_or (not (forms (f ∷ k))) (not (named true after)) (not_of (named true after) none);
}

-- Steps of the reader.

-- the frame on top is complete
pub pops : (f : Frame) (x : Expr) (k : List Frame) (more : Spelled) → nat_lt (ahead more) (low f) ≡ true → run more (Have x (f ∷ k)) ≡ run more (Have (complete f x) k)
pops f x k [] h = ap (λ b. settled (if b then settle 0 (complete f x) k else (x, f ∷ k))) h
pops f x k (t ∷ ts) h = ap (λ b. run ts (go_on (ahead (t ∷ ts)) t ts (if b then settle (ahead (t ∷ ts)) (complete f x) k else (x, f ∷ k)))) h

-- an operator that goes on with the expression
pub operates : (t : TokenKind) (ts : Spelled) (x : Expr) (k : List Frame) → nat_lt 0 (ahead (t ∷ ts)) ≡ true → settle (ahead (t ∷ ts)) x k ≡ (x, k) → run (t ∷ ts) (Have x k) ≡ run ts (operate t ts x k)
operates t ts x k some is = ap (λ z. run ts (go_on (ahead (t ∷ ts)) t ts z)) is ∙ ap (λ b. run ts (if b then operate t ts x k else inside t ts x k)) some

-- the same with the level of the operator
pub operates_at : (t : TokenKind) (ts : Spelled) (x : Expr) (k : List Frame) (a : ℕ) → ahead (t ∷ ts) ≡ a → nat_lt 0 a ≡ true → settle a x k ≡ (x, k) → run (t ∷ ts) (Have x k) ≡ run ts (operate t ts x k)
operates_at t ts x k a e some is = operates t ts x k (subst (λ n. nat_lt 0 n ≡ true) (sym e) some) (subst (λ n. settle n x k ≡ (x, k)) (sym e) is)

kept : (a : ℕ) (f : Frame) → nat_le (least f) a ≡ true → nat_lt a (low f) ≡ false
kept a (Last n wrap) h = grind (arith, nat_tests)
kept a (Consequence is_word condition) h = grind (arith, nat_tests)
kept a (Row level first links operator) h = grind (arith, nat_tests)
kept a (Steps first steps) h = grind (arith, nat_tests)
kept a (Closing wrap) h = grind (arith, nat_tests)
kept a (Items items) h = grind (arith, nat_tests)
kept a (Arguments first steps arguments) h = grind (arith, nat_tests)
kept a (Bounds form decls is_disjoint names word) h = grind (arith, nat_tests)
kept a (Values bindings name) h = grind (arith, nat_tests)
kept a Stop h = grind (arith, nat_tests)

pub settles : (a : ℕ) (x : Expr) (k : List Frame) → nat_le (least_of k) a ≡ true → settle a x k ≡ (x, k)
settles a x [] h = refl
settles a x (f ∷ k) h = ap (λ b. if b then settle a (complete f x) k else (x, f ∷ k)) (kept a f h)

-- an operator of the level of the node that fits
pub leads : (k : List Frame) (s : Shape) (more : Spelled) (x : Expr) (a : ℕ) → Fits k s more → 0 < s.level → 2 * s.level ≤ a → settle a x k ≡ (x, k)
leads k s more x a fits some le = settles a x k (reached (least_of k) s.level a fits.tight some le)
  where
    reached : (n l a : ℕ) → (nat_le n (2 * l) || (l == 0)) ≡ true → 0 < l → 2 * l ≤ a → nat_le n a ≡ true
    reached n l a h some le = grind (arith, nat_tests)
