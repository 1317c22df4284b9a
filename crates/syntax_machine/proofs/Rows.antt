-- Rows of operands with operators between them, which group to the left.
use Rattle.std.proofs.Common.{◌≡◌, ◌⊎◌, inl, inr, ℕ, ◌+◌, ◌<◌, ◌≤◌, max, true, false, not, ◌&&◌, ◌==◌, nat_le, List, [], ◌∷◌, ◌++◌, Option, Some, None, map, fold, refl, sym, ap, subst, ◌∙◌, arith, append_assoc, eqb-true, true≢false}
use Rattle.std.proofs.lemmas.Bool.Decides.{nat_tests}
use Rattle.syntax_tree.specs.declared.token.TokenKind.{TokenKind}
use Rattle.syntax_tree.specs.declared.token.Symbol.TheVariants as s
use Rattle.syntax_tree.specs.declared.token.Word.TheVariants as w
use Rattle.syntax_tree.specs.declared.operator.Infix.{Infix}
use Rattle.syntax_tree.specs.declared.operator.Infix.TheVariants as infixed
use Rattle.syntax_tree.specs.declared.operator.Multiplicity.{Multiplicity}
use Rattle.syntax_tree.specs.declared.operator.Multiplicity.TheVariants as multiplicity
use Rattle.syntax_tree.specs.declared.shape.Shape.{Shape}
use Rattle.syntax_tree.specs.Words.{Spelled, word, symbol, multiplicity_word, infix_words}
use Rattle.syntax_tree.specs.Spelling.{joined, link_words}
use Rattle.syntax_tree.specs.Levels.{may_end, infix_level, linked, begun, chain}
use Rattle.syntax_tree.specs.Depth.{deepest, link_depths}
use Rattle.syntax_machine.specs.declared.thread.Goal.{Goal}
use Rattle.syntax_machine.specs.declared.thread.Mark.{Mark}
use Rattle.syntax_machine.specs.declared.thread.Expected.TheVariants as expected
use Rattle.syntax_machine.specs.declared.thread.Frame.TheVariants as frame
use Rattle.syntax_machine.specs.declared.thread.Item.TheVariants.{Token, Need, Have, Then}
use Rattle.syntax_machine.specs.Machine.{Thread, when, deeper, operand, leads, goes_on, rest_of_row, row, arrow}
use Rattle.syntax_machine.proofs.Lives.{SomeOf, Lives, in_front, in_back, by_guard, goes_on_with, returns}
use Rattle.syntax_machine.proofs.Fits.{Fits, mark, both_left, both_right, both, of_not, not_of, has_first, has_second, allowed, at_most, deeper_below, max_within, first_fits, operand_fits, level_of, leads_on}
use Rattle.syntax_machine.proofs.Forms.{Followed}

-- an operand begins a row or goes on with one, whose depth is then d'
abbrev pub Goes : ℕ → Goal → Mark → ℕ → ℕ → Type 0
Goes level g m d next = ((leads level (level + 1) g m d ≡ true) × (next ≡ deeper d)) ⊎ ((goes_on level g m ≡ true) × (next ≡ d))

pub in_row : (P : Thread → Type 0) (words : Thread) (level : ℕ) (g : Goal) (m : Mark) (d next : ℕ) → Goes level g m d next → P (rest_of_row words level g next) → SomeOf P (row words level g m d)
in_row P words level g m d next (inl (may, is)) p = in_front P (when (leads level (level + 1) g m d) (rest_of_row words level g (deeper d))) _
    (by_guard P (leads level (level + 1) g m d) (rest_of_row words level g (deeper d)) may (subst (λ n. P (rest_of_row words level g n)) is p))
in_row P words level g m d next (inr (may, is)) p = in_back P (when (leads level (level + 1) g m d) (rest_of_row words level g (deeper d))) _
    (by_guard P (goes_on level g m) (rest_of_row words level g d) may (subst (λ n. P (rest_of_row words level g n)) is p))

module _ (tokens : Spelled) (g : Goal) (m : Mark) (d next : ℕ) (k : Thread) where
  -- a thread that waits for the operand behind an operator of this level
  abbrev Waits : ℕ → Type 0
  Waits level = Lives tokens (Need (operand g (level + 1)) ∷ Then (frame.Last g level next) ∷ k)

  one_token : (token : TokenKind) (level : ℕ) → Goes level g m d next → Waits level → SomeOf (λ t. Lives tokens (t ++ k)) (row [] level g m d)
  one_token token level goes waits = in_row (λ t. Lives tokens (t ++ k)) [] level g m d next goes waits

  an_arrow : (before after : Option Multiplicity) → Goes 14 g m d next → Waits 14 → Lives (infix_words (infixed.Arrow before after) ++ tokens) (Have g m d ∷ k)
  an_arrow None None goes waits = goes_on_with (symbol s.Arrow) tokens g m d k (in_front _ (row [] 14 g m d) _ (one_token (symbol s.Arrow) 14 goes waits))
  an_arrow None (Some b) goes waits = goes_on_with (symbol s.Arrow) (word (multiplicity_word b) ∷ tokens) g m d k (in_back _ (row [] 14 g m d) _
      (in_row (λ t. Lives (word (multiplicity_word b) ∷ tokens) (t ++ k)) (Token expected.Multiplicity ∷ []) 14 g m d next goes (a_word b)))
    where
      a_word : (b : Multiplicity) → Lives (word (multiplicity_word b) ∷ tokens) (Token expected.Multiplicity ∷ Need (operand g 15) ∷ Then (frame.Last g 14 next) ∷ k)
      a_word multiplicity.Set = inl waits
      a_word multiplicity.One = inl waits
      a_word multiplicity.Lone = inl waits
      a_word multiplicity.Some = inl waits
  an_arrow (Some a) None goes waits = by a
    where
      by : (a : Multiplicity) → Lives (infix_words (infixed.Arrow (Some a) None) ++ tokens) (Have g m d ∷ k)
      by multiplicity.Set = goes_on_with (word w.Set) (symbol s.Arrow ∷ tokens) g m d k (in_front (λ t. Lives (symbol s.Arrow ∷ tokens) (t ++ k)) (row (Token expected.Arrow ∷ []) 14 g m d) (row (Token expected.Arrow ∷ Token expected.Multiplicity ∷ []) 14 g m d) (in_row (λ t. Lives (symbol s.Arrow ∷ tokens) (t ++ k)) (Token expected.Arrow ∷ []) 14 g m d next goes (inl waits)))
      by multiplicity.One = goes_on_with (word w.One) (symbol s.Arrow ∷ tokens) g m d k (in_front (λ t. Lives (symbol s.Arrow ∷ tokens) (t ++ k)) (row (Token expected.Arrow ∷ []) 14 g m d) (row (Token expected.Arrow ∷ Token expected.Multiplicity ∷ []) 14 g m d) (in_row (λ t. Lives (symbol s.Arrow ∷ tokens) (t ++ k)) (Token expected.Arrow ∷ []) 14 g m d next goes (inl waits)))
      by multiplicity.Lone = goes_on_with (word w.Lone) (symbol s.Arrow ∷ tokens) g m d k (in_front (λ t. Lives (symbol s.Arrow ∷ tokens) (t ++ k)) (row (Token expected.Arrow ∷ []) 14 g m d) (row (Token expected.Arrow ∷ Token expected.Multiplicity ∷ []) 14 g m d) (in_row (λ t. Lives (symbol s.Arrow ∷ tokens) (t ++ k)) (Token expected.Arrow ∷ []) 14 g m d next goes (inl waits)))
      by multiplicity.Some = goes_on_with (word w.Some) (symbol s.Arrow ∷ tokens) g m d k (in_front (λ t. Lives (symbol s.Arrow ∷ tokens) (t ++ k)) (row (Token expected.Arrow ∷ []) 14 g m d) (row (Token expected.Arrow ∷ Token expected.Multiplicity ∷ []) 14 g m d) (in_row (λ t. Lives (symbol s.Arrow ∷ tokens) (t ++ k)) (Token expected.Arrow ∷ []) 14 g m d next goes (inl waits)))
  an_arrow (Some a) (Some b) goes waits = by a
    where
      a_word : (b : Multiplicity) → Lives (symbol s.Arrow ∷ word (multiplicity_word b) ∷ tokens) (Token expected.Arrow ∷ Token expected.Multiplicity ∷ Need (operand g 15) ∷ Then (frame.Last g 14 next) ∷ k)
      a_word multiplicity.Set = inl (inl waits)
      a_word multiplicity.One = inl (inl waits)
      a_word multiplicity.Lone = inl (inl waits)
      a_word multiplicity.Some = inl (inl waits)

      behind : SomeOf (λ t. Lives (symbol s.Arrow ∷ word (multiplicity_word b) ∷ tokens) (t ++ k)) (arrow (Token expected.Arrow ∷ []) g m d)
      behind = in_back (λ t. Lives (symbol s.Arrow ∷ word (multiplicity_word b) ∷ tokens) (t ++ k)) (row (Token expected.Arrow ∷ []) 14 g m d) (row (Token expected.Arrow ∷ Token expected.Multiplicity ∷ []) 14 g m d) (in_row (λ t. Lives (symbol s.Arrow ∷ word (multiplicity_word b) ∷ tokens) (t ++ k)) (Token expected.Arrow ∷ Token expected.Multiplicity ∷ []) 14 g m d next goes (a_word b))

      by : (a : Multiplicity) → Lives (infix_words (infixed.Arrow (Some a) (Some b)) ++ tokens) (Have g m d ∷ k)
      by multiplicity.Set = goes_on_with (word w.Set) (symbol s.Arrow ∷ word (multiplicity_word b) ∷ tokens) g m d k behind
      by multiplicity.One = goes_on_with (word w.One) (symbol s.Arrow ∷ word (multiplicity_word b) ∷ tokens) g m d k behind
      by multiplicity.Lone = goes_on_with (word w.Lone) (symbol s.Arrow ∷ word (multiplicity_word b) ∷ tokens) g m d k behind
      by multiplicity.Some = goes_on_with (word w.Some) (symbol s.Arrow ∷ word (multiplicity_word b) ∷ tokens) g m d k behind

  arithmetic_operator : (token : TokenKind) → Lives (symbol s.Slash ∷ token ∷ tokens) (Token expected.Slash ∷ Token expected.Arithmetic ∷ Need (operand g 11) ∷ Then (frame.Last g 10 next) ∷ k) →
      Goes 10 g m d next → Lives (word w.Fun ∷ symbol s.Slash ∷ token ∷ tokens) (Have g m d ∷ k)
  arithmetic_operator token waits goes = goes_on_with (word w.Fun) (symbol s.Slash ∷ token ∷ tokens) g m d k
      (in_row (λ t. Lives (symbol s.Slash ∷ token ∷ tokens) (t ++ k)) (Token expected.Slash ∷ Token expected.Arithmetic ∷ []) 10 g m d next goes waits)

  pub operator : (i : Infix) → Goes (infix_level i) g m d next → Waits (infix_level i) → Lives (infix_words i ++ tokens) (Have g m d ∷ k)
  operator infixed.OrOr goes waits = goes_on_with (symbol s.OrOr) tokens g m d k (one_token (symbol s.OrOr) 2 goes waits)
  operator infixed.Or goes waits = goes_on_with (word w.Or) tokens g m d k (one_token (word w.Or) 2 goes waits)
  operator infixed.Equivalence goes waits = goes_on_with (symbol s.Equivalence) tokens g m d k (one_token (symbol s.Equivalence) 3 goes waits)
  operator infixed.Iff goes waits = goes_on_with (word w.Iff) tokens g m d k (one_token (word w.Iff) 3 goes waits)
  operator infixed.AndAnd goes waits = goes_on_with (symbol s.AndAnd) tokens g m d k (one_token (symbol s.AndAnd) 5 goes waits)
  operator infixed.And goes waits = goes_on_with (word w.And) tokens g m d k (one_token (word w.And) 5 goes waits)
  operator infixed.Until goes waits = goes_on_with (word w.Until) tokens g m d k (one_token (word w.Until) 6 goes waits)
  operator infixed.Releases goes waits = goes_on_with (word w.Releases) tokens g m d k (one_token (word w.Releases) 6 goes waits)
  operator infixed.Since goes waits = goes_on_with (word w.Since) tokens g m d k (one_token (word w.Since) 6 goes waits)
  operator infixed.Triggered goes waits = goes_on_with (word w.Triggered) tokens g m d k (one_token (word w.Triggered) 6 goes waits)
  operator infixed.Plus goes waits = goes_on_with (symbol s.Plus) tokens g m d k (one_token (symbol s.Plus) 10 goes waits)
  operator infixed.Minus goes waits = goes_on_with (symbol s.Minus) tokens g m d k (one_token (symbol s.Minus) 10 goes waits)
  operator infixed.Add goes waits = arithmetic_operator _ (inl (inl waits)) goes
  operator infixed.Sub goes waits = arithmetic_operator _ (inl (inl waits)) goes
  operator infixed.Mul goes waits = arithmetic_operator _ (inl (inl waits)) goes
  operator infixed.Div goes waits = arithmetic_operator _ (inl (inl waits)) goes
  operator infixed.Rem goes waits = arithmetic_operator _ (inl (inl waits)) goes
  operator infixed.Override goes waits = goes_on_with (symbol s.PlusPlus) tokens g m d k (one_token (symbol s.PlusPlus) 12 goes waits)
  operator infixed.Intersection goes waits = goes_on_with (symbol s.Ampersand) tokens g m d k (one_token (symbol s.Ampersand) 13 goes waits)
  operator (infixed.Arrow before after) goes waits = an_arrow before after goes waits
  operator infixed.Domain goes waits = goes_on_with (symbol s.Domain) tokens g m d k (one_token (symbol s.Domain) 15 goes waits)
  operator infixed.Range goes waits = goes_on_with (symbol s.Range) tokens g m d k (one_token (symbol s.Range) 15 goes waits)

-- a part of a tree, of which it is known that the machine follows it
pub record Part : Type 0 where
  pub words : Spelled
  pub shape : Shape
  pub depth : ℕ
  pub followed : Followed words shape depth

abbrev pub Link : Type 0
Link = Infix × Part

abbrev pub link_shape : Link → Infix × Shape
link_shape l = (l.0, l.1.shape)

abbrev pub link_spelled : Link → Infix × Spelled
link_spelled l = (l.0, l.1.words)

abbrev pub link_depth : Link → Infix × ℕ
link_depth l = (l.0, l.1.depth)

-- what is known of a row of which one more operand is right
pub record Linked (g : Goal) (level : ℕ) (so_far : Shape) (l : Link) (depth : ℕ) : Type 0 where
  pub right : so_far.right ≡ true
  pub shut : so_far.is_open ≡ false
  pub same : infix_level l.0 ≡ level
  pub operand : Fits (operand g (level + 1)) l.1.shape l.1.depth

taken : (g : Goal) (level : ℕ) (so_far : Shape) (l : Link) (e : ℕ) → l.1.depth + 1 ≤ e → Fits g (linked level so_far (link_shape l)) e → Linked g level so_far l e
taken g level so_far l e le fits =
    let front : ((so_far.right && not so_far.is_open) && (infix_level l.0 == level)) ≡ true = both_left ((so_far.right && not so_far.is_open) && (infix_level l.0 == level)) (may_end (level + 1) l.1.shape) fits.right in
    let two : (so_far.right && not so_far.is_open) ≡ true = both_left (so_far.right && not so_far.is_open) (infix_level l.0 == level) front in
    record {
      right = both_left so_far.right (not so_far.is_open) two;
      shut = of_not so_far.is_open (both_right so_far.right (not so_far.is_open) two);
      same = eqb-true (infix_level l.0) level (both_right (so_far.right && not so_far.is_open) (infix_level l.0 == level) front);
      operand = operand_fits g (linked level so_far (link_shape l)) l.1.shape (level + 1) l.1.depth e fits (both_right ((so_far.right && not so_far.is_open) && (infix_level l.0 == level)) (may_end (level + 1) l.1.shape) fits.right) fits.bars
          (has_second so_far.has_zero l.1.shape.has_zero) le;
    }

-- what a row shows before one more operand
earlier : (g : Goal) (level : ℕ) (s : Shape) (l : Link) (e : ℕ) → 0 < level → s.level ≡ level → s.is_block ≡ false → Fits g (linked level s (link_shape l)) e → Fits g s e
earlier g level s l e some is other fits =
    let front : ((s.right && not s.is_open) && (infix_level l.0 == level)) ≡ true = both_left ((s.right && not s.is_open) && (infix_level l.0 == level)) (may_end (level + 1) l.1.shape) fits.right in
    let two : (s.right && not s.is_open) ≡ true = both_left (s.right && not s.is_open) (infix_level l.0 == level) front in
    first_fits g (linked level s (link_shape l)) s e e fits (both_left s.right (not s.is_open) two) (of_not s.is_open (both_right s.right (not s.is_open) two)) some (omega (arith, is)) (has_first s.has_zero l.1.shape.has_zero) refl refl (omega arith)

at_first : (g : Goal) (level : ℕ) (ls : List Link) (s : Shape) (e : ℕ) → 0 < level → s.level ≡ level → s.is_block ≡ false → Fits g (fold (linked level) s (map link_shape ls)) e → Fits g s e
at_first g level [] s e some is other fits = fits
at_first g level (l ∷ ls) s e some is other fits = earlier g level s l e some is other (at_first g level ls (linked level s (link_shape l)) e some refl refl fits)

equal_levels : (a b : ℕ) → a ≡ b → (a == b) ≡ true
equal_levels a b is = grind (arith, nat_tests)

-- the operands behind the first one
pub links_follow : (level : ℕ) (ls : List Link) (s : Shape) (g : Goal) (k : Thread) (more : Spelled) (d e : ℕ) → 0 < level → s.level ≡ level → s.is_block ≡ false →
    Fits g (fold (linked level) s (map link_shape ls)) e → d ≤ e → deepest (link_depths (map link_depth ls)) + 1 ≤ e →
    ((n : ℕ) → n ≤ e → Lives more (Have g (mark (fold (linked level) s (map link_shape ls))) n ∷ k)) →
    Lives (joined (map link_words (map link_spelled ls)) ++ more) (Have g (mark s) d ∷ k)
links_follow level [] s g k more d e some is other fits le deep then_ = then_ d le
links_follow level (l ∷ ls) s g k more d e some is other fits le deep then_ =
    let now : Fits g (linked level s (link_shape l)) e = at_first g level ls (linked level s (link_shape l)) e some refl refl fits in
    let known : Linked g level s l e = taken g level s l e (omega (arith, deep)) now in
    let rest : Spelled = joined (map link_words (map link_spelled ls)) in
    let may : goes_on level g (mark s) ≡ true = both (nat_le g.least level) ((s.level == level) && not s.is_open) (allowed g.least level (level_of now refl) some) (both (s.level == level) (not s.is_open) (equal_levels s.level level is) (not_of s.is_open known.shut)) in
    subst (λ v. Lives v (Have g (mark s) d ∷ k)) (sym (append_assoc (infix_words l.0 ++ l.1.words) rest more ∙ append_assoc (infix_words l.0) l.1.words (rest ++ more)))
    (operator (l.1.words ++ (rest ++ more)) g (mark s) d d k l.0
    (subst (λ n. Goes n g (mark s) d d) (sym known.same) (inr (may, refl)))
    (subst (λ n. Lives (l.1.words ++ (rest ++ more)) (Need (operand g (n + 1)) ∷ Then (frame.Last g n d) ∷ k)) (sym known.same)
    (l.1.followed (operand g (level + 1)) (Then (frame.Last g level d) ∷ k) (rest ++ more) known.operand
    (λ n less. returns (rest ++ more) (operand g (level + 1)) g (mark l.1.shape) (mark (linked level s (link_shape l))) n (max d (deeper n)) (frame.Last g level d) k refl
    (links_follow level ls (linked level s (link_shape l)) g k more (max d (deeper n)) e some refl refl fits (max_within d (deeper n) e le (deeper_below n l.1.depth e less (omega (arith, deep)))) (omega (arith, deep)) then_)))))

some_infix_level : (i : Infix) → 0 < infix_level i
some_infix_level infixed.OrOr = omega arith
some_infix_level infixed.Or = omega arith
some_infix_level infixed.Equivalence = omega arith
some_infix_level infixed.Iff = omega arith
some_infix_level infixed.AndAnd = omega arith
some_infix_level infixed.And = omega arith
some_infix_level infixed.Until = omega arith
some_infix_level infixed.Releases = omega arith
some_infix_level infixed.Since = omega arith
some_infix_level infixed.Triggered = omega arith
some_infix_level infixed.Override = omega arith
some_infix_level infixed.Intersection = omega arith
some_infix_level (infixed.Arrow before after) = omega arith
some_infix_level infixed.Domain = omega arith
some_infix_level infixed.Range = omega arith
some_infix_level _ = omega arith

pub a_row : (p : Part) (ls : List Link) → Followed (p.words ++ joined (map link_words (map link_spelled ls))) (chain p.shape (map link_shape ls)) (max p.depth (deepest (link_depths (map link_depth ls))) + 1)
a_row p [] g k more fits then_ = absurd (true≢false (sym (both_right (p.shape.right && nat_le 1 p.shape.level) false fits.right)))
a_row p (l ∷ ls) g k more fits then_ =
    let some : 0 < infix_level l.0 = some_infix_level l.0 in
    let e : ℕ = max p.depth (deepest (link_depths (map link_depth (l ∷ ls)))) + 1 in
    let s : Shape = begun (infix_level l.0) true p.shape in
    let rest : Spelled = joined (map link_words (map link_spelled ls)) in
    let now : Fits g (linked (infix_level l.0) s (link_shape l)) e = at_first g (infix_level l.0) ls (linked (infix_level l.0) s (link_shape l)) e some refl refl fits in
    let known : Linked g (infix_level l.0) s l e = taken g (infix_level l.0) s l e (omega arith) now in
    let right : p.shape.right ≡ true = both_left p.shape.right (nat_le (infix_level l.0 + 1) p.shape.level) (both_left (p.shape.right && nat_le (infix_level l.0 + 1) p.shape.level) true known.right) in
    let tight : nat_le (infix_level l.0 + 1) p.shape.level ≡ true = both_right p.shape.right (nat_le (infix_level l.0 + 1) p.shape.level) (both_left (p.shape.right && nat_le (infix_level l.0 + 1) p.shape.level) true known.right) in
    let low : infix_level l.0 + 1 ≤ p.shape.level = at_most (infix_level l.0 + 1) p.shape.level tight in
    subst (λ v. Lives v (Need g ∷ k)) (sym (append_assoc p.words ((infix_words l.0 ++ l.1.words) ++ rest) more ∙ ap (λ v. p.words ++ v) (append_assoc (infix_words l.0 ++ l.1.words) rest more ∙ append_assoc (infix_words l.0) l.1.words (rest ++ more))))
    (p.followed g k (infix_words l.0 ++ (l.1.words ++ (rest ++ more)))
    (first_fits g (linked (infix_level l.0) s (link_shape l)) p.shape p.depth e now right known.shut some (omega (arith, low)) (has_first p.shape.has_zero l.1.shape.has_zero) refl refl (omega arith))
    (λ d le. operator (l.1.words ++ (rest ++ more)) g (mark p.shape) d (deeper d) k l.0
    (inl (leads_on g (infix_level l.0) (infix_level l.0 + 1) p.shape d e (level_of now refl) some tight known.shut (omega (arith, le)) now.within, refl))
    (l.1.followed (operand g (infix_level l.0 + 1)) (Then (frame.Last g (infix_level l.0) (deeper d)) ∷ k) (rest ++ more) known.operand
    (λ n less. returns (rest ++ more) (operand g (infix_level l.0 + 1)) g (mark l.1.shape) (mark (linked (infix_level l.0) s (link_shape l))) n (max (deeper d) (deeper n)) (frame.Last g (infix_level l.0) (deeper d)) k refl
    (links_follow (infix_level l.0) ls (linked (infix_level l.0) s (link_shape l)) g k more (max (deeper d) (deeper n)) e some refl refl fits
    (max_within (deeper d) (deeper n) e (deeper_below d p.depth e le (omega arith)) (deeper_below n l.1.depth e less (omega arith))) (omega arith) then_)))))
