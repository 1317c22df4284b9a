-- Where a tree ends in a text: what stands behind it may not make it longer.
use Rattle.std.proofs.Common.{◌≡◌, ◌⊎◌, inl, inr, ℕ, ◌*◌, Bool, true, false, not, ◌&&◌, ◌||◌, ◌==◌, nat_le, nat_lt, List, [], ◌∷◌, ◌++◌, refl, sym, ap, subst, ◌∙◌, true≢false, arith, append-nil}
use Rattle.std.proofs.lemmas.Bool.Decides.{nat_tests}
use Rattle.syntax_tree.specs.declared.token.TokenKind.{TokenKind}
use Rattle.syntax_tree.specs.declared.token.TokenKind.TheVariants as kind
use Rattle.syntax_tree.specs.declared.token.Word.TheVariants as w
use Rattle.syntax_tree.specs.declared.expr.Expr.{Expr}
use Rattle.syntax_tree.specs.declared.shape.Shape.{Shape}
use Rattle.syntax_tree.specs.Words.{Spelled, word}
use Rattle.syntax_tree.specs.Levels.{may_bound}
use Rattle.syntax_single.proofs.Reader.{Frame, Stop, Need, Have, Stuck, is_name, named, ahead, settle, calculate, go_on, run}
use Rattle.syntax_single.proofs.Fits.{both_left, both_right, not_of, no_limit, limit_of, Fits, whole_fits}
use Rattle.syntax_single.proofs.Forms.{Part}

-- Texts that are equal.

pub heads : (t u : TokenKind) (a b : Spelled) → t ∷ a ≡ u ∷ b → t ≡ u
heads t u a b h = cc

pub tails : (t u : TokenKind) (a b : Spelled) → t ∷ a ≡ u ∷ b → a ≡ b
tails t u a b h = cc

-- what the longer of two beginnings of a text has behind the other one
abbrev Longer : Spelled → Spelled → Spelled → Spelled → Type 0
Longer a b r s = (v : Spelled) × (a ≡ b ++ v) × (s ≡ v ++ r)

prefixes : (a b r s : Spelled) → a ++ r ≡ b ++ s → Longer a b r s ⊎ Longer b a s r
prefixes [] b r s h = inr (b, refl, h)
prefixes (t ∷ a) [] r s h = inl (t ∷ a, refl, sym h)
prefixes (t ∷ a) (u ∷ b) r s h = by (prefixes a b r s (tails t u (a ++ r) (b ++ s) h))
  where
    same : t ≡ u
    same = heads t u (a ++ r) (b ++ s) h

    by : Longer a b r s ⊎ Longer b a s r → Longer (t ∷ a) (u ∷ b) r s ⊎ Longer (u ∷ b) (t ∷ a) s r
    by (inl it) = inl (it.0, ap (λ z. t ∷ z) it.1 ∙ ap (λ z. z ∷ (b ++ it.0)) same, it.2)
    by (inr it) = inr (it.0, ap (λ z. u ∷ z) it.1 ∙ ap (λ z. z ∷ (a ++ it.0)) (sym same), it.2)

-- No beginning of what stands behind a tree makes it longer.
abbrev pub Ends : List Frame → Part → Spelled → Type 0
Ends k p s = (v r : Spelled) → s ≡ v ++ r → Fits k p.shape v × ((v ≡ []) ⊎ (run v (Have p.value k) ≡ Stuck))

-- nothing of the stack takes an expression at the end of the tokens
abbrev pub Rests : List Frame → Type 0
Rests k = (x : Expr) → settle 0 x k ≡ (x, k)

whole : (k : List Frame) → Rests k → (p : Part) → Fits k p.shape [] → run p.words (Need k) ≡ Have p.value k
whole k rests p fits = ap (λ ts. run ts (Need k)) (sym (append-nil p.words)) ∙ (p.reads k [] fits ∙ ap (λ z. Have z.0 z.1) (rests p.value))

same_value : (x y : Expr) (k : List Frame) → Have x k ≡ Have y k → x ≡ y
same_value x y k h = cc

not_stuck : (x : Expr) (k : List Frame) → Have x k ≡ Stuck → ⊥
not_stuck x k h = cc

one_cut : (k : List Frame) → Rests k → (p q : Part) (r s : Spelled) → Fits k p.shape [] → Ends k q s → Longer p.words q.words r s → (p.value ≡ q.value) × (r ≡ s)
one_cut k rests p q r s fits ends it = by (ends it.0 r it.2).1
  where
    is_whole : run p.words (Need k) ≡ Have p.value k
    is_whole = whole k rests p fits

    so : it.0 ≡ [] → p.words ≡ q.words
    so e = it.1 ∙ (ap (λ z. q.words ++ z) e ∙ append-nil q.words)

    by : (it.0 ≡ []) ⊎ (run it.0 (Have q.value k) ≡ Stuck) → (p.value ≡ q.value) × (r ≡ s)
    by (inl e) = (same_value p.value q.value k (sym is_whole ∙ (ap (λ ts. run ts (Need k)) (so e) ∙ whole k rests q (ends [] s refl).0)), sym (it.2 ∙ ap (λ z. z ++ r) e))
    by (inr stuck) = absurd (not_stuck p.value k (sym is_whole ∙ (ap (λ ts. run ts (Need k)) it.1 ∙ (q.reads k it.0 (ends it.0 r it.2).0 ∙ stuck))))

-- two trees with which a text begins, each of which ends there
pub cut : (k : List Frame) → Rests k → (p q : Part) (r s : Spelled) → Ends k p r → Ends k q s → p.words ++ r ≡ q.words ++ s → (p.value ≡ q.value) × (r ≡ s)
cut k rests p q r s p_ends q_ends h = by (prefixes p.words q.words r s h)
  where
    by : Longer p.words q.words r s ⊎ Longer q.words p.words s r → (p.value ≡ q.value) × (r ≡ s)
    by (inl it) = one_cut k rests p q r s (p_ends [] r refl).0 q_ends it
    by (inr it) = let two : (q.value ≡ p.value) × (s ≡ r) = one_cut k rests q p s r (q_ends [] s refl).0 p_ends it in (sym two.0, sym two.1)

-- Where trees end.

stays_stuck : (ts : Spelled) → run ts Stuck ≡ Stuck
stays_stuck [] = refl
stays_stuck (t ∷ ts) = stays_stuck ts

-- the first token is no operator
abbrev pub Quiet : Spelled → Type 0
Quiet [] = Unit {0}
Quiet (t ∷ ts) = (us : Spelled) → ahead (t ∷ us) ≡ 0

-- and shows no variables
abbrev pub Shut : Spelled → Type 0
Shut [] = Unit {0}
Shut (t ∷ ts) = (us : Spelled) → (ahead (t ∷ us) ≡ 0) × (named true (t ∷ us) ≡ false)

any_level : (n : ℕ) → (nat_le 1 (2 * n) || (n == 0)) ≡ true
any_level n = grind (arith, nat_tests)

bound_fits : (s : Shape) (v : Spelled) → may_bound s ≡ true → ahead v ≡ 0 → Fits (Stop ∷ []) s v
bound_fits s v right quiet = record {
  right = both_left s.right (nat_le 10 s.level) (both_left (s.right && nat_le 10 s.level) (not s.has_zero) right);
  tight = any_level s.level;
  zero_in = part (not s.has_zero) (nat_le 10 s.level) (s.level == 0) (both_right (s.right && nat_le 10 s.level) (not s.has_zero) right) (both_right s.right (nat_le 10 s.level) (both_left (s.right && nat_le 10 s.level) (not s.has_zero) right));
  ends = subst (λ n. nat_lt n (limit_of s.is_open s.is_bare s.level) ≡ true) (sym quiet) (no_limit s.is_open s.is_bare s.level);
  shut = refl;
}
  where
    part : (a b c : Bool) → a ≡ true → b ≡ true → (a && (b || c)) ≡ true
    part true true c p q = refl
    part true false c p q = absurd (true≢false (sym q))
    part false b c p q = absurd (true≢false (sym p))

stops_bound : (t : TokenKind) (ts : Spelled) (x : Expr) → ahead (t ∷ ts) ≡ 0 → run (t ∷ ts) (Have x (Stop ∷ [])) ≡ Stuck
stops_bound t ts x quiet = ap (λ n. run ts (go_on n t ts (settle n x (Stop ∷ [])))) quiet ∙ stays_stuck ts

pub bound_ends : (p : Part) → may_bound p.shape ≡ true → (s : Spelled) → Quiet s → Ends (Stop ∷ []) p s
bound_ends p right s quiet [] r is = (bound_fits p.shape [] right refl, inl refl)
bound_ends p right s quiet (t ∷ v) r is = let first : Quiet (t ∷ (v ++ r)) = subst Quiet is quiet in (bound_fits p.shape (t ∷ v) right (first v), inr (stops_bound t v p.value (first v)))

stops : (t : TokenKind) (ts : Spelled) (x : Expr) → ahead (t ∷ ts) ≡ 0 → run (t ∷ ts) (Have x []) ≡ Stuck
stops t ts x quiet = ap (λ n. run ts (go_on n t ts (settle n x []))) quiet ∙ stays_stuck ts

pub value_ends : (p : Part) → p.shape.right ≡ true → (s : Spelled) → Shut s → Ends [] p s
value_ends p right s shut [] r is = (whole_fits [] p.shape [] refl refl refl refl right, inl refl)
value_ends p right s shut (t ∷ v) r is = let first : Shut (t ∷ (v ++ r)) = subst Shut is shut in
    (whole_fits [] p.shape (t ∷ v) refl refl (first v).0 (first v).1 right, inr (stops t v p.value (first v).0))

-- What may stand behind a block: no beginning of it makes a block longer.
abbrev pub Halts : Spelled → Type 0
Halts s = (v r : Spelled) → s ≡ v ++ r → (nat_lt (ahead v) 38 ≡ true) × (named true v ≡ false) × ((v ≡ []) ⊎ ((x : Expr) → run v (Have x []) ≡ Stuck))

pub block_ends : (p : Part) → p.shape.right ≡ true → p.shape.level ≡ 19 → p.shape.is_open ≡ false → (s : Spelled) → Halts s → Ends [] p s
block_ends p right level shut s halts v r is = (fits, by (halts v r is).2)
  where
    limit : (bare : Bool) → limit_of false bare 19 ≡ 38
    limit true = refl
    limit false = refl

    is_limit : limit_of p.shape.is_open p.shape.is_bare p.shape.level ≡ 38
    is_limit = ap (λ b. limit_of b p.shape.is_bare p.shape.level) shut ∙ (ap (λ n. limit_of false p.shape.is_bare n) level ∙ limit p.shape.is_bare)

    fits : Fits [] p.shape v
    fits = record {
      right = right;
      tight = any_level p.shape.level;
      zero_in = refl;
      ends = subst (λ n. nat_lt (ahead v) n ≡ true) (sym is_limit) (halts v r is).0;
      shut = not_of (named true v) (halts v r is).1;
    }

    by : (v ≡ []) ⊎ ((x : Expr) → run v (Have x []) ≡ Stuck) → (v ≡ []) ⊎ (run v (Have p.value []) ≡ Stuck)
    by (inl e) = inl e
    by (inr stuck) = inr (stuck p.value)

-- a token that is never an operator
pub halts_at : (t : TokenKind) (ts : Spelled) → ((us : Spelled) → ahead (t ∷ us) ≡ 0) → ((us : Spelled) → named true (t ∷ us) ≡ false) → Halts (t ∷ ts)
halts_at t ts quiet shut [] r is = (refl, refl, inl refl)
halts_at t ts quiet shut (u ∷ v) r is = subst P (heads t u ts (v ++ r) is) (ap (λ n. nat_lt n 38) (quiet v), shut v, inr (λ x. stops t v x (quiet v)))
  where
    P : TokenKind → Type 0
    P u = (nat_lt (ahead (u ∷ v)) 38 ≡ true) × (named true (u ∷ v) ≡ false) × ((u ∷ v ≡ []) ⊎ ((x : Expr) → run (u ∷ v) (Have x []) ≡ Stuck))

-- a word that is an operator only before an arrow
pub halts_two : (t o : TokenKind) (ts : Spelled) → ahead (t ∷ []) ≡ 0 → ((us : Spelled) → ahead (t ∷ o ∷ us) ≡ 0) → ((us : Spelled) → named true (t ∷ us) ≡ false) → Halts (t ∷ o ∷ ts)
halts_two t o ts last quiet shut [] r is = (refl, refl, inl refl)
halts_two t o ts last quiet shut (u ∷ v) r is = subst P (heads t u (o ∷ ts) (v ++ r) is) (here (by v (tails t u (o ∷ ts) (v ++ r) is)))
  where
    P : TokenKind → Type 0
    P u = (nat_lt (ahead (u ∷ v)) 38 ≡ true) × (named true (u ∷ v) ≡ false) × ((u ∷ v ≡ []) ⊎ ((x : Expr) → run (u ∷ v) (Have x []) ≡ Stuck))

    by : (v : Spelled) → o ∷ ts ≡ v ++ r → ahead (t ∷ v) ≡ 0
    by [] h = last
    by (n ∷ v) h = subst (λ z. ahead (t ∷ z ∷ v) ≡ 0) (heads o n ts (v ++ r) h) (quiet v)

    here : ahead (t ∷ v) ≡ 0 → P t
    here e = (ap (λ n. nat_lt n 38) e, shut v, inr (λ x. stops t v x e))

-- `fun` is an operator only before a token and a name
pub halts_fun : (t n : TokenKind) (ts : Spelled) → is_name n ≡ false → Halts (word w.Fun ∷ t ∷ n ∷ ts)
halts_fun t n ts no_name [] r is = (refl, refl, inl refl)
halts_fun t n ts no_name (u ∷ v) r is = subst P (heads (word w.Fun) u (t ∷ n ∷ ts) (v ++ r) is) (refl, refl, inr (by v (tails (word w.Fun) u (t ∷ n ∷ ts) (v ++ r) is)))
  where
    P : TokenKind → Type 0
    P u = (nat_lt (ahead (u ∷ v)) 38 ≡ true) × (named true (u ∷ v) ≡ false) × ((u ∷ v ≡ []) ⊎ ((x : Expr) → run (u ∷ v) (Have x []) ≡ Stuck))

    third : (m : TokenKind) → is_name m ≡ false → (a : TokenKind) (v : Spelled) (x : Expr) → calculate (a ∷ m ∷ v) x [] ≡ Stuck
    third (kind.Name name) h a v x = absurd (true≢false h)
    third (kind.Number number) h a v x = refl
    third (kind.Literal text) h a v x = refl
    third (kind.Word a) h b v x = refl
    third (kind.Symbol a) h b v x = refl
    third kind.End h a v x = refl

    by : (v : Spelled) → t ∷ n ∷ ts ≡ v ++ r → (x : Expr) → run (word w.Fun ∷ v) (Have x []) ≡ Stuck
    by [] h x = refl
    by (a ∷ []) h x = refl
    by (a ∷ b ∷ v) h x = ap (λ z. run (a ∷ b ∷ v) z) (third b (ap is_name (sym (heads n b ts (v ++ r) (tails t a (n ∷ ts) (b ∷ (v ++ r)) h))) ∙ no_name) a v x) ∙ stays_stuck v
