-- The least place of a second name, as names are put behind others.
use Rattle.std.proofs.Common.{◌≡◌, ◌⊎◌, ℕ, zero, suc, ◌<◌, ◌≤◌, ◌==◌, Bool, true, false, cond, ◌&&◌, ◌||◌, nat_lt, List, [], ◌∷◌, ◌++◌, length, Option, Some, None, slice_get, Decides, refl, sym, subst, ◌∙◌, ap, inl, inr, arith}
use Rattle.std.specs.Str.{bytes_eq}
use Rattle.std.proofs.lemmas.Slice.Eq.{bytes_eq-Decides}
use Rattle.std.proofs.lemmas.Bool.{cases_lt}
use Rattle.std.proofs.lemmas.Bool.Decides.{Decides-eqb, Decides-ltb, Decides-and, Decides-or, not_from_Decides}
use Rattle.std.proofs.lemmas.Option.{slice_get_within}
use Rattle.base_types.specs.declared.place.Position.{Position}
use Rattle.syntax_tree.specs.declared.expr.Named.{Named}
use Rattle.resolve_names.specs.Twice.{IsSecond, IsSecondAt, IsBefore}
use Rattle.resolve_names.specs.Noted.{is_before, lesser, least_with, IsLeastOf, is_named}

is_before_decides : (a b : Position) → Decides (is_before a b) (IsBefore a b)
is_before_decides a b =
    Decides-or (nat_lt a.line b.line) ((a.line == b.line) && nat_lt a.column b.column) (Decides-ltb a.line b.line)
    (Decides-and (a.line == b.line) (nat_lt a.column b.column) (Decides-eqb a.line b.line) (Decides-ltb a.column b.column))

not_itself : (p : Position) → IsBefore p p → ⊥
not_itself p (inl lt) = absurd (omega arith)
not_itself p (inr both) = absurd (let lt = both.1 in omega arith)

before_both : (p b a : Position) → IsBefore p b → IsBefore b a → IsBefore p a
before_both p b a (inl f) (inl g) = inl (omega arith)
before_both p b a (inl f) (inr g) = inl (let e = g.0 in omega arith)
before_both p b a (inr f) (inl g) = inl (let e = f.0 in omega arith)
before_both p b a (inr f) (inr g) = inr (f.0 ∙ g.0, (let x = f.1 in let y = g.1 in omega arith))

-- what stands before a, which doesn't stand behind b, stands before b
before_through : (p a b : Position) → IsBefore p a → (IsBefore b a → ⊥) → IsBefore p b
before_through p a b f un = by_line (cases_lt b.line a.line) f
  where
    by_column : (b.column < a.column) ⊎ (a.column ≤ b.column) → (p.line ≡ a.line) × (p.column < a.column) → a.line ≡ b.line → IsBefore p b
    by_column (inl lt) g e = absurd (un (inr (sym e, lt)))
    by_column (inr ge) g e = inr (g.0 ∙ e, (let lt = g.1 in omega arith))

    by_lines : (a.line < b.line) ⊎ (b.line ≤ a.line) → a.line ≤ b.line → (p.line ≡ a.line) × (p.column < a.column) → IsBefore p b
    by_lines (inl lt) ge g = inl (let e = g.0 in omega arith)
    by_lines (inr le) ge g = by_column (cases_lt b.column a.column) g (omega arith)

    by_line : (b.line < a.line) ⊎ (a.line ≤ b.line) → IsBefore p a → IsBefore p b
    by_line (inl lt) g = absurd (un (inl lt))
    by_line (inr ge) (inl lt) = inl (omega arith)
    by_line (inr ge) (inr g) = by_lines (cases_lt a.line b.line) ge g

-- the lesser of two least places is the least of both kinds
pub lesser_least : (P Q : Position → Type 0) (a b : Option Position) → IsLeastOf P a → IsLeastOf Q b → IsLeastOf (λ p. P p ⊎ Q p) (lesser a b)
lesser_least P Q None None f g = λ p h. either p h
  where
    either : (p : Position) → P p ⊎ Q p → ⊥
    either p (inl x) = f p x
    either p (inr y) = g p y
lesser_least P Q None (Some b) f g = (inr g.0, λ p h lt. either p h lt)
  where
    either : (p : Position) → P p ⊎ Q p → IsBefore p b → ⊥
    either p (inl x) lt = f p x
    either p (inr y) lt = g.1 p y lt
lesser_least P Q (Some a) None f g = (inl f.0, λ p h lt. either p h lt)
  where
    either : (p : Position) → P p ⊎ Q p → IsBefore p a → ⊥
    either p (inl x) lt = f.1 p x lt
    either p (inr y) lt = g p y
lesser_least P Q (Some a) (Some b) f g = by_test (is_before b a) refl
  where
    behind : IsBefore b a → (p : Position) → P p ⊎ Q p → IsBefore p b → ⊥
    behind ba p (inl x) lt = f.1 p x (before_both p b a lt ba)
    behind ba p (inr y) lt = g.1 p y lt

    before : (IsBefore b a → ⊥) → (p : Position) → P p ⊎ Q p → IsBefore p a → ⊥
    before un p (inl x) lt = f.1 p x lt
    before un p (inr y) lt = g.1 p y (before_through p a b lt un)

    by_test : (t : Bool) → is_before b a ≡ t → IsLeastOf (λ p. P p ⊎ Q p) (cond t (Some b) (Some a))
    by_test true e = (inr g.0, behind ((is_before_decides b a).0 e))
    by_test false e = (inl f.0, before (not_from_Decides (is_before b a) (is_before_decides b a) e))

-- the least place of the same places
least_same : (P Q : Position → Type 0) (o : Option Position) → ((p : Position) → P p → Q p) → ((p : Position) → Q p → P p) → IsLeastOf P o → IsLeastOf Q o
least_same P Q None to from f = λ p y. f p (from p y)
least_same P Q (Some q) to from f = (to q f.0, λ p y lt. f.1 p (from p y) lt)

get_left : (names : List Named) (x a : Named) (i : ℕ) → slice_get names i ≡ Some a → slice_get (names ++ x ∷ []) i ≡ Some a
get_left [] x a i e = absurd cc
get_left (y ∷ ys) x a zero e = e
get_left (y ∷ ys) x a (suc i) e = get_left ys x a i e

get_last : (names : List Named) (x : Named) → slice_get (names ++ x ∷ []) (length names) ≡ Some x
get_last [] x = refl
get_last (y ∷ ys) x = get_last ys x

get_split : (names : List Named) (x b : Named) (j : ℕ) → slice_get (names ++ x ∷ []) j ≡ Some b → (slice_get names j ≡ Some b) ⊎ ((j ≡ length names) × (b ≡ x))
get_split [] x b zero e = inr (refl, cc)
get_split [] x b (suc j) e = absurd cc
get_split (y ∷ ys) x b zero e = inl e
get_split (y ∷ ys) x b (suc j) e = by_part (get_split ys x b j e)
  where
    by_part : (slice_get ys j ≡ Some b) ⊎ ((j ≡ length ys) × (b ≡ x)) → (slice_get ys j ≡ Some b) ⊎ ((suc j ≡ suc (length ys)) × (b ≡ x))
    by_part (inl at) = inl at
    by_part (inr last) = inr (ap suc last.0, last.1)

abbrev NamedAt : List Named → List ℕ → Type 0
NamedAt names text = (i : ℕ) × (a : Named) × (slice_get names i ≡ Some a) × (text ≡ a.name)

named_at : (names : List Named) (text : List ℕ) → is_named names text ≡ true → NamedAt names text
named_at [] text e = absurd cc
named_at (y ∷ ys) text e = by_test (bytes_eq text y.name) refl (named_at ys text) e
  where
    further : NamedAt ys text → NamedAt (y ∷ ys) text
    further f = (suc f.0, f.1, f.2, f.3)

    by_test : (t : Bool) → bytes_eq text y.name ≡ t → (is_named ys text ≡ true → NamedAt ys text) → (t || is_named ys text) ≡ true → NamedAt (y ∷ ys) text
    by_test true same rest h = (0, y, refl, (bytes_eq-Decides text y.name).0 same)
    by_test false same rest h = further (rest h)

or_true : (a b : Bool) → b ≡ true → (a || b) ≡ true
or_true true b e = refl
or_true false b e = e

at_named : (names : List Named) (text : List ℕ) (i : ℕ) (a : Named) → slice_get names i ≡ Some a → text ≡ a.name → is_named names text ≡ true
at_named [] text i a at e = absurd cc
at_named (y ∷ ys) text zero a at e =
    let same : y ≡ a = cc in
    ap (λ t. t || is_named ys text) ((bytes_eq-Decides text y.name).1 (e ∙ sym (ap (λ (n : Named). n.name) same)))
at_named (y ∷ ys) text (suc i) a at e = or_true (bytes_eq text y.name) (is_named ys text) (at_named ys text i a at e)

second_more : (names : List Named) (x b : Named) → IsSecond names b → IsSecond (names ++ x ∷ []) b
second_more names x b s = (s.0, s.1, s.2, s.3, get_left names x s.2 s.0 s.4, get_left names x b s.1 s.5, s.6)

second_last : (names : List Named) (x : Named) → is_named names x.name ≡ true → IsSecond (names ++ x ∷ []) x
second_last names x h =
    let f = named_at names x.name h in
    (f.0, length names, f.1, slice_get_within names f.0 f.1 f.2, get_left names x f.1 f.0 f.2, get_last names x, sym f.3)

second_split : (names : List Named) (x b : Named) → IsSecond (names ++ x ∷ []) b → IsSecond names b ⊎ ((b ≡ x) × (is_named names x.name ≡ true))
second_split names x b s = by_second (get_split names x b s.1 s.5) (get_split names x s.2 s.0 s.4)
  where
    by_second : (slice_get names s.1 ≡ Some b) ⊎ ((s.1 ≡ length names) × (b ≡ x)) → (slice_get names s.0 ≡ Some s.2) ⊎ ((s.0 ≡ length names) × (s.2 ≡ x)) →
        IsSecond names b ⊎ ((b ≡ x) × (is_named names x.name ≡ true))
    by_second (inl at_j) (inl at_i) = inl (s.0, s.1, s.2, s.3, at_i, at_j, s.6)
    by_second (inl at_j) (inr last) = absurd (let within = slice_get_within names s.1 b at_j in let e = last.0 in let lt = s.3 in omega arith)
    by_second (inr at_j) (inl at_i) = inr (at_j.1, at_named names x.name s.0 s.2 at_i (sym (ap (λ (n : Named). n.name) at_j.1) ∙ sym s.6))
    by_second (inr at_j) (inr last) = absurd (let e = last.0 in let f = at_j.0 in let lt = s.3 in omega arith)

-- the least place of a second name, with one more name at the end
pub least_more : (names : List Named) (x : Named) (least : Option Position) (again : Bool) → again ≡ is_named names x.name →
    IsLeastOf (IsSecondAt names) least → IsLeastOf (IsSecondAt (names ++ x ∷ [])) (least_with again least x.place)
least_more names x least true e h =
    least_same (λ p. IsSecondAt names p ⊎ (p ≡ x.place)) (IsSecondAt (names ++ x ∷ [])) (lesser least (Some x.place)) to from
    (lesser_least (IsSecondAt names) (λ p. p ≡ x.place) least (Some x.place) h own)
  where
    own : IsLeastOf (λ p. p ≡ x.place) (Some x.place)
    own = (refl, λ p same lt. not_itself x.place (subst (λ (q : Position). IsBefore q x.place) same lt))

    to : (p : Position) → IsSecondAt names p ⊎ (p ≡ x.place) → IsSecondAt (names ++ x ∷ []) p
    to p (inl s) = (s.0, s.1, second_more names x s.0 s.2)
    to p (inr same) = (x, sym same, second_last names x (sym e))

    split : (p : Position) (b : Named) → b.place ≡ p → IsSecond names b ⊎ ((b ≡ x) × (is_named names x.name ≡ true)) → IsSecondAt names p ⊎ (p ≡ x.place)
    split p b at (inl s) = inl (b, at, s)
    split p b at (inr last) = inr (sym at ∙ ap (λ (n : Named). n.place) last.0)

    from : (p : Position) → IsSecondAt (names ++ x ∷ []) p → IsSecondAt names p ⊎ (p ≡ x.place)
    from p s = split p s.0 s.1 (second_split names x s.0 s.2)
least_more names x least false e h = least_same (IsSecondAt names) (IsSecondAt (names ++ x ∷ [])) least to from h
  where
    to : (p : Position) → IsSecondAt names p → IsSecondAt (names ++ x ∷ []) p
    to p s = (s.0, s.1, second_more names x s.0 s.2)

    split : (p : Position) (b : Named) → b.place ≡ p → IsSecond names b ⊎ ((b ≡ x) × (is_named names x.name ≡ true)) → IsSecondAt names p
    split p b at (inl s) = (b, at, s)
    split p b at (inr last) = let known = last.1 in absurd cc

    from : (p : Position) → IsSecondAt (names ++ x ∷ []) p → IsSecondAt names p
    from p s = split p s.0 s.1 (second_split names x s.0 s.2)

pub none_second : IsLeastOf (IsSecondAt []) None
none_second p s = let at = s.2.4 in absurd cc
