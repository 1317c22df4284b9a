-- Comparisons, implications and joins.
use Rattle.std.proofs.Common.{◌≡◌, inl, inr, ℕ, ◌+◌, ◌≤◌, max, Bool, true, false, not, ◌&&◌, ◌||◌, ◌==◌, if◌then◌else◌, nat_le, nat_lt, List, [], ◌∷◌, ◌++◌, Option, Some, None, map, fold, refl, sym, ap, subst, ◌∙◌, true≢false, arith, append_assoc}
use Rattle.std.proofs.lemmas.Bool.Decides.{nat_tests}
use Rattle.syntax_tree.specs.declared.token.Symbol.TheVariants as sign
use Rattle.syntax_tree.specs.declared.token.Word.TheVariants as w
use Rattle.syntax_tree.specs.declared.operator.Multiplicity.{Multiplicity}
use Rattle.syntax_tree.specs.declared.operator.Multiplicity.TheVariants as multiplicity
use Rattle.syntax_tree.specs.declared.operator.Comparator.{Comparator}
use Rattle.syntax_tree.specs.declared.operator.Comparator.TheVariants as comparator
use Rattle.syntax_tree.specs.declared.operator.Negation.{Negation}
use Rattle.syntax_tree.specs.declared.operator.Negation.TheVariants as negation
use Rattle.syntax_tree.specs.declared.operator.Comparison.{Comparison}
use Rattle.syntax_tree.specs.declared.expr.Access.{Access}
use Rattle.syntax_tree.specs.declared.expr.Access.TheVariants as access
use Rattle.syntax_tree.specs.declared.shape.Shape.{Shape}
use Rattle.syntax_tree.specs.Words.{Spelled, word, symbol, multiplicity_word, multiplicity_words, negation_words, comparator_token, comparison_words}
use Rattle.syntax_tree.specs.Spelling.{joined, separated, access_words, implies_token}
use Rattle.syntax_tree.specs.Levels.{may_lead, may_end, may_bound, may_compare, is_in, compare, implication, choice, begun, stepped, join, every}
use Rattle.syntax_tree.specs.Depth.{deepest, access_depth}
use Rattle.syntax_machine.specs.declared.thread.Goal.{Goal}
use Rattle.syntax_machine.specs.declared.thread.Mark.{Mark}
use Rattle.syntax_machine.specs.declared.thread.Expected.TheVariants as expected
use Rattle.syntax_machine.specs.declared.thread.State.TheVariants as state
use Rattle.syntax_machine.specs.declared.thread.Frame.TheVariants as frame
use Rattle.syntax_machine.specs.declared.thread.Item.TheVariants.{Token, Need, Want, Have, Then}
use Rattle.syntax_machine.specs.Machine.{Thread, when, inner, deeper, operand, contained, bound, leads, goes_on, compared}
use Rattle.syntax_machine.proofs.Lives.{SomeOf, Lives, in_front, in_back, by_guard, on_each, goes_on_with, shifts, returns}
use Rattle.syntax_machine.proofs.Fits.{Fits, mark, both_left, both_right, both, true_or, or_true, of_not, not_of, has_first, has_second, allowed, at_most, within_inner, deeper_below, max_within, first_fits, operand_fits, bound_fits, level_of, lead_right, lead_tight, lead_shut, leads_on}
use Rattle.syntax_machine.proofs.Forms.{Followed}
use Rattle.syntax_machine.proofs.Rows.{Part, Goes, in_row}
use Rattle.syntax_machine.proofs.Lists.{all_below, arguments_follow}

-- Comparisons.

abbrev pub made : Negation → Comparator → Option Multiplicity → Comparison
made n i o = record { negation = n; comparator = i; word = o }

-- the fits of the right operand, by the comparator and the word after it
module _ (p q : Shape) (n e : ℕ) (le : n + 1 ≤ e) (g : Goal) where
  word_fits : (c : Comparison) → may_bound q ≡ true → Fits g (compare c p q) e → Fits (bound (inner g.room)) q n
  word_fits c may fits = bound_fits (inner g.room) q n may (within_inner g.room n e le fits.within)

  plain_fits : (c : Comparison) (least : ℕ) → may_end least q ≡ true → Fits g (compare c p q) e → Fits (operand g least) q n
  plain_fits c least may fits = operand_fits g (compare c p q) q least n e fits may fits.bars (has_second p.has_zero q.has_zero) le

  contained_fits : (c : Comparison) → (may_end 10 q && not q.is_worded) ≡ true → Fits g (compare c p q) e → Fits (contained g) q n
  contained_fits c may fits =
      let known : Fits (operand g 10) q n = plain_fits c 10 (both_left (may_end 10 q) (not q.is_worded) may) fits in
      record {
        right = known.right;
        tight = known.tight;
        forms = known.forms;
        bars = known.bars;
        words = or_true (not q.is_worded) (nat_lt 0 q.level) (both_right (may_end 10 q) (not q.is_worded) may);
        minus = refl;
        block = refl;
        within = known.within;
      }

-- behind a comparator: the word and the right operand
after_comparator : (ng : Negation) (i : Comparator) (o : Option Multiplicity) (p q : Shape) (b : Spelled) (n e : ℕ) → Followed b q n → n + 1 ≤ e → (g : Goal) (k : Thread) (more : Spelled) → Fits g (compare (made ng i o) p q) e →
    (d : ℕ) → d ≤ e → ((m : ℕ) → m ≤ e → Lives more (Have g (record { level = 8; is_open = q.is_open; is_bare = q.is_bare }) m ∷ k)) →
    SomeOf (λ t. Lives (multiplicity_words o ++ (b ++ more)) (t ++ k)) (compared (is_in i) g d)
after_comparator ng i o p q b n e second le g k more fits d less then_ = by i o fits
  where
    behind : (h : Goal) (m : ℕ) → m ≤ n → Lives more (Have h (mark q) m ∷ Then (frame.Last g 8 d) ∷ k)
    behind h m below = returns more h g (mark q) (record { level = 8; is_open = q.is_open; is_bare = q.is_bare }) m (max d (deeper m)) (frame.Last g 8 d) k refl
        (then_ (max d (deeper m)) (max_within d (deeper m) e less (deeper_below m n e below le)))

    a_word : (m : Multiplicity) → Fits g (compare (made ng comparator.In (Some m)) p q) e → Lives (word (multiplicity_word m) ∷ (b ++ more)) (Token expected.Multiplicity ∷ Need (bound (inner g.room)) ∷ Then (frame.Last g 8 d) ∷ k)
    a_word m fits = first_word m (second (bound (inner g.room)) (Then (frame.Last g 8 d) ∷ k) more (word_fits p q n e le g (made ng comparator.In (Some m)) (both_right (may_lead 9 p) (true && may_bound q) fits.right) fits) (behind (bound (inner g.room))))
      where
        first_word : (m : Multiplicity) → Lives (b ++ more) (Need (bound (inner g.room)) ∷ Then (frame.Last g 8 d) ∷ k) → Lives (word (multiplicity_word m) ∷ (b ++ more)) (Token expected.Multiplicity ∷ Need (bound (inner g.room)) ∷ Then (frame.Last g 8 d) ∷ k)
        first_word multiplicity.Set h = inl h
        first_word multiplicity.One h = inl h
        first_word multiplicity.Lone h = inl h
        first_word multiplicity.Some h = inl h

    other : (i : Comparator) → Fits g (compare (made ng i None) p q) e → may_end 9 q ≡ true → Lives (b ++ more) (Need (operand g 9) ∷ Then (frame.Last g 8 d) ∷ k)
    other i fits may = second (operand g 9) (Then (frame.Last g 8 d) ∷ k) more (plain_fits p q n e le g (made ng i None) 9 may fits) (behind (operand g 9))

    by : (i : Comparator) (o : Option Multiplicity) → Fits g (compare (made ng i o) p q) e → SomeOf (λ t. Lives (multiplicity_words o ++ (b ++ more)) (t ++ k)) (compared (is_in i) g d)
    by comparator.In None fits = inl (second (contained g) (Then (frame.Last g 8 d) ∷ k) more (contained_fits p q n e le g (made ng comparator.In None) (both_right (may_lead 9 p) (may_end 10 q && not q.is_worded) fits.right) fits) (behind (contained g)))
    by comparator.In (Some m) fits = inr (inl (a_word m fits))
    by comparator.Equal None fits = inl (other comparator.Equal fits (both_right (may_lead 9 p) (may_end 9 q) fits.right))
    by comparator.Less None fits = inl (other comparator.Less fits (both_right (may_lead 9 p) (may_end 9 q) fits.right))
    by comparator.Greater None fits = inl (other comparator.Greater fits (both_right (may_lead 9 p) (may_end 9 q) fits.right))
    by comparator.EqualLess None fits = inl (other comparator.EqualLess fits (both_right (may_lead 9 p) (may_end 9 q) fits.right))
    by comparator.LessEqual None fits = inl (other comparator.LessEqual fits (both_right (may_lead 9 p) (may_end 9 q) fits.right))
    by comparator.GreaterEqual None fits = inl (other comparator.GreaterEqual fits (both_right (may_lead 9 p) (may_end 9 q) fits.right))
    by _ (Some m) fits = absurd (true≢false (sym (both_right (may_lead 9 p) false fits.right)))

compares : (i : Comparator) (tokens : Spelled) (g : Goal) (m : Mark) (d : ℕ) (k : Thread) → leads 8 9 g m d ≡ true → SomeOf (λ t. Lives tokens (t ++ k)) (compared (is_in i) g (deeper d)) → Lives (comparator_token i ∷ tokens) (Have g m d ∷ k)
compares i tokens g m d k may h = by i (subst (λ (b : Bool). SomeOf (λ t. Lives tokens (t ++ k)) (if b then compared (is_in i) g (deeper d) else [])) (sym may) h)
  where
    by : (i : Comparator) → SomeOf (λ t. Lives tokens (t ++ k)) (if leads 8 9 g m d then compared (is_in i) g (deeper d) else []) → Lives (comparator_token i ∷ tokens) (Have g m d ∷ k)
    by comparator.In h = goes_on_with (word w.In) tokens g m d k h
    by comparator.Equal h = goes_on_with (symbol sign.Equal) tokens g m d k h
    by comparator.Less h = goes_on_with (symbol sign.Less) tokens g m d k h
    by comparator.Greater h = goes_on_with (symbol sign.Greater) tokens g m d k h
    by comparator.EqualLess h = goes_on_with (symbol sign.EqualLess) tokens g m d k h
    by comparator.LessEqual h = goes_on_with (symbol sign.LessEqual) tokens g m d k h
    by comparator.GreaterEqual h = goes_on_with (symbol sign.GreaterEqual) tokens g m d k h

compares_not : (i : Comparator) (tokens : Spelled) (g : Goal) (d : ℕ) (k : Thread) → SomeOf (λ t. Lives tokens (t ++ k)) (compared (is_in i) g d) → Lives (comparator_token i ∷ tokens) (Want (state.Comparator g d) ∷ k)
compares_not comparator.In tokens g d k h = on_each (Lives tokens) k (compared true g d) h
compares_not comparator.Equal tokens g d k h = on_each (Lives tokens) k (compared false g d) h
compares_not comparator.Less tokens g d k h = on_each (Lives tokens) k (compared false g d) h
compares_not comparator.Greater tokens g d k h = on_each (Lives tokens) k (compared false g d) h
compares_not comparator.EqualLess tokens g d k h = on_each (Lives tokens) k (compared false g d) h
compares_not comparator.LessEqual tokens g d k h = on_each (Lives tokens) k (compared false g d) h
compares_not comparator.GreaterEqual tokens g d k h = on_each (Lives tokens) k (compared false g d) h

compares_so : (ng : Negation) (i : Comparator) (tokens : Spelled) (g : Goal) (m : Mark) (d : ℕ) (k : Thread) → leads 8 9 g m d ≡ true → SomeOf (λ t. Lives tokens (t ++ k)) (compared (is_in i) g (deeper d)) →
    Lives (negation_words ng ++ comparator_token i ∷ tokens) (Have g m d ∷ k)
compares_so negation.Plain i tokens g m d k may h = compares i tokens g m d k may h
compares_so negation.Bang i tokens g m d k may h = goes_on_with (symbol sign.Bang) (comparator_token i ∷ tokens) g m d k
    (by_guard (λ t. Lives (comparator_token i ∷ tokens) (t ++ k)) (leads 8 9 g m d) (Want (state.Comparator g (deeper d)) ∷ []) may (compares_not i tokens g (deeper d) k h))
compares_so negation.Not i tokens g m d k may h = goes_on_with (word w.Not) (comparator_token i ∷ tokens) g m d k
    (by_guard (λ t. Lives (comparator_token i ∷ tokens) (t ++ k)) (leads 8 9 g m d) (Want (state.Comparator g (deeper d)) ∷ []) may (compares_not i tokens g (deeper d) k h))

pub a_comparison : (c : Comparison) (a b : Spelled) (p q : Shape) (m n : ℕ) → Followed a p m → Followed b q n → Followed (a ++ (comparison_words c ++ b)) (compare c p q) (max m n + 1)
a_comparison c a b p q m n first second g k more fits then_ =
    let front : may_lead 9 p ≡ true = both_left (may_lead 9 p) (may_compare c q) fits.right in
    let low : 9 ≤ p.level = at_most 9 p.level (lead_tight 9 p front) in
    let e : ℕ = max m n + 1 in
    subst (λ v. Lives v (Need g ∷ k)) (sym (append_assoc a (comparison_words c ++ b) more ∙ ap (λ v. a ++ v) (append_assoc (comparison_words c) b more
    ∙ append_assoc (negation_words c.negation) (comparator_token c.comparator ∷ multiplicity_words c.word) (b ++ more))))
    (first g k (negation_words c.negation ++ comparator_token c.comparator ∷ (multiplicity_words c.word ++ (b ++ more)))
    (first_fits g (compare c p q) p m (max m n + 1) fits (lead_right 9 p front) (lead_shut 9 p front) (omega arith) (omega (arith, low)) (has_first p.has_zero q.has_zero) refl refl (omega arith))
    (λ d le. compares_so c.negation c.comparator (multiplicity_words c.word ++ (b ++ more)) g (mark p) d k
    (leads_on g 8 9 p d (max m n + 1) (level_of fits refl) (omega arith) (lead_tight 9 p front) (lead_shut 9 p front) (omega (arith, le)) fits.within)
    (after_comparator c.negation c.comparator c.word p q b n (max m n + 1) second (omega arith) g k more fits (deeper d) (deeper_below d m (max m n + 1) le (omega arith)) then_)))

-- Implications.

implies_leads : (tokens : Spelled) (is_word : Bool) (g : Goal) (m : Mark) (d : ℕ) (k : Thread) → leads 4 5 g m d ≡ true → Lives tokens (Need (operand g 4) ∷ Then (frame.Consequence g (deeper d)) ∷ k) →
    Lives (implies_token is_word ∷ tokens) (Have g m d ∷ k)
implies_leads tokens true g m d k may h = goes_on_with (word w.Implies) tokens g m d k (by_guard (λ t. Lives tokens (t ++ k)) (leads 4 5 g m d) (Need (operand g 4) ∷ Then (frame.Consequence g (deeper d)) ∷ []) may h)
implies_leads tokens false g m d k may h = goes_on_with (symbol sign.FatArrow) tokens g m d k (by_guard (λ t. Lives tokens (t ++ k)) (leads 4 5 g m d) (Need (operand g 4) ∷ Then (frame.Consequence g (deeper d)) ∷ []) may h)

pub an_implication : (is_word : Bool) (a b : Spelled) (p q : Shape) (m n : ℕ) → Followed a p m → Followed b q n → Followed (a ++ implies_token is_word ∷ (b ++ [])) (implication p q) (max (max m n) 0 + 1)
an_implication is_word a b p q m n first second g k more fits then_ =
    let front : may_lead 5 p ≡ true = both_left (may_lead 5 p) (may_end 4 q) fits.right in
    let low : 5 ≤ p.level = at_most 5 p.level (lead_tight 5 p front) in
    let e : ℕ = max (max m n) 0 + 1 in
    subst (λ v. Lives v (Need g ∷ k)) (sym (append_assoc a (implies_token is_word ∷ (b ++ [])) more ∙ ap (λ v. a ++ implies_token is_word ∷ v) (append_assoc b [] more)))
    (first g k (implies_token is_word ∷ (b ++ more))
    (first_fits g (implication p q) p m e fits (lead_right 5 p front) (lead_shut 5 p front) (omega arith) (omega (arith, low)) (has_first p.has_zero q.has_zero) refl refl (omega arith))
    (λ d le. implies_leads (b ++ more) is_word g (mark p) d k (leads_on g 4 5 p d e (level_of fits refl) (omega arith) (lead_tight 5 p front) (lead_shut 5 p front) (omega (arith, le)) fits.within)
    (second (operand g 4) (Then (frame.Consequence g (deeper d)) ∷ k) more
    (operand_fits g (implication p q) q 4 n e fits (both_right (may_lead 5 p) (may_end 4 q) fits.right) fits.bars (has_second p.has_zero q.has_zero) (omega arith))
    (λ i less. returns more (operand g 4) g (mark q) (mark (implication p q)) i (max (deeper d) (deeper i)) (frame.Consequence g (deeper d)) k refl
    (then_ (max (deeper d) (deeper i)) (max_within (deeper d) (deeper i) e (deeper_below d m e le (omega arith)) (deeper_below i n e less (omega arith))))))))

pub a_choice : (is_word : Bool) (a b c : Spelled) (p q r : Shape) (m n o : ℕ) → Followed a p m → Followed b q n → Followed c r o →
    Followed (a ++ implies_token is_word ∷ (b ++ word w.Else ∷ c)) (choice p q r) (max (max m n) o + 1)
a_choice is_word a b c p q r m n o first second third g k more fits then_ =
    let three : ((may_lead 5 p && may_lead 4 q) && not q.is_bare) ≡ true = both_left ((may_lead 5 p && may_lead 4 q) && not q.is_bare) (may_end 4 r) fits.right in
    let two : (may_lead 5 p && may_lead 4 q) ≡ true = both_left (may_lead 5 p && may_lead 4 q) (not q.is_bare) three in
    let front : may_lead 5 p ≡ true = both_left (may_lead 5 p) (may_lead 4 q) two in
    let middle : may_lead 4 q ≡ true = both_right (may_lead 5 p) (may_lead 4 q) two in
    let low : 5 ≤ p.level = at_most 5 p.level (lead_tight 5 p front) in
    let e : ℕ = max (max m n) o + 1 in
    subst (λ v. Lives v (Need g ∷ k)) (sym (append_assoc a (implies_token is_word ∷ (b ++ word w.Else ∷ c)) more ∙ ap (λ v. a ++ implies_token is_word ∷ v) (append_assoc b (word w.Else ∷ c) more)))
    (first g k (implies_token is_word ∷ (b ++ word w.Else ∷ (c ++ more)))
    (first_fits g (choice p q r) p m e fits (lead_right 5 p front) (lead_shut 5 p front) (omega arith) (omega (arith, low)) (has_first p.has_zero (q.has_zero || r.has_zero)) refl refl (omega arith))
    (λ d le. implies_leads (b ++ word w.Else ∷ (c ++ more)) is_word g (mark p) d k (leads_on g 4 5 p d e (level_of fits refl) (omega arith) (lead_tight 5 p front) (lead_shut 5 p front) (omega (arith, le)) fits.within)
    (second (operand g 4) (Then (frame.Consequence g (deeper d)) ∷ k) (word w.Else ∷ (c ++ more))
    (operand_fits g (choice p q r) q 4 n e fits (both (q.right) (nat_le 4 q.level || q.level == 0) (lead_right 4 q middle) (or_true (nat_le 4 q.level) (q.level == 0) (lead_tight 4 q middle)))
    (true_or g.has_bars (not q.is_open) (not_of q.is_open (lead_shut 4 q middle))) (in_middle p.has_zero q.has_zero r.has_zero) (omega arith))
    (λ i less. shifts (word w.Else) (c ++ more) (operand g 4) (mark q) i (frame.Consequence g (deeper d)) k
    (by_guard (λ t. Lives (c ++ more) (t ++ k)) (nat_le 4 q.level && (not q.is_open && not q.is_bare)) (Need (operand g 4) ∷ Then (frame.Last g 4 (max (deeper d) (deeper i))) ∷ [])
    (both (nat_le 4 q.level) (not q.is_open && not q.is_bare) (lead_tight 4 q middle) (both (not q.is_open) (not q.is_bare) (not_of q.is_open (lead_shut 4 q middle)) (both_right (may_lead 5 p && may_lead 4 q) (not q.is_bare) three)))
    (third (operand g 4) (Then (frame.Last g 4 (max (deeper d) (deeper i))) ∷ k) more
    (operand_fits g (choice p q r) r 4 o e fits (both_right ((may_lead 5 p && may_lead 4 q) && not q.is_bare) (may_end 4 r) fits.right) fits.bars (at_last p.has_zero q.has_zero r.has_zero) (omega arith))
    (λ j few. returns more (operand g 4) g (mark r) (mark (choice p q r)) j (max (max (deeper d) (deeper i)) (deeper j)) (frame.Last g 4 (max (deeper d) (deeper i))) k refl
    (then_ (max (max (deeper d) (deeper i)) (deeper j)) (max_within (max (deeper d) (deeper i)) (deeper j) e (max_within (deeper d) (deeper i) e (deeper_below d m e le (omega arith)) (deeper_below i n e less (omega arith))) (deeper_below j o e few (omega arith)))))))))))
  where
    in_middle : (x y z : Bool) → (not y || (x || (y || z))) ≡ true
    in_middle true true z = refl
    in_middle true false z = refl
    in_middle false true z = refl
    in_middle false false z = refl

    at_last : (x y z : Bool) → (not z || (x || (y || z))) ≡ true
    at_last true y true = refl
    at_last true y false = refl
    at_last false true true = refl
    at_last false true false = refl
    at_last false false true = refl
    at_last false false false = refl

-- Joins.

abbrev pub step_shape : Access Part → Access Shape
step_shape (access.Dot x) = access.Dot x.shape
step_shape (access.Bracket xs) = access.Bracket (map (λ p. p.shape) xs)

abbrev pub step_spelled : Access Part → Access Spelled
step_spelled (access.Dot x) = access.Dot x.words
step_spelled (access.Bracket xs) = access.Bracket (map (λ p. p.words) xs)

abbrev pub part_depth : Access Part → Access ℕ
part_depth (access.Dot x) = access.Dot x.depth
part_depth (access.Bracket xs) = access.Bracket (map (λ p. p.depth) xs)

-- what is known of a join so far, of which one more step is right
pub record Stepped (so_far : Shape) : Type 0 where
  pub right : so_far.right ≡ true
  pub shut : so_far.is_open ≡ false

step_known : (g : Goal) (s : Shape) (x : Access Part) (e : ℕ) → Fits g (stepped s (step_shape x)) e → Stepped s
step_known g s (access.Dot x) e fits =
    let two : (s.right && not s.is_open) ≡ true = both_left (s.right && not s.is_open) (may_end 17 x.shape) fits.right in
    record { right = both_left s.right (not s.is_open) two; shut = of_not s.is_open (both_right s.right (not s.is_open) two) }
step_known g s (access.Bracket xs) e fits =
    let two : (s.right && not s.is_open) ≡ true = both_left (s.right && not s.is_open) (every (λ x. x.right) (map (λ p. p.shape) xs)) fits.right in
    record { right = both_left s.right (not s.is_open) two; shut = of_not s.is_open (both_right s.right (not s.is_open) two) }

-- what stands before the step, at a level at least as tight as that of a join
step_fits : (g : Goal) (s first : Shape) (x : Access Part) (d e : ℕ) → Fits g (stepped s (step_shape x)) e → first.right ≡ true → first.is_open ≡ false → 16 ≤ first.level → first.has_zero ≡ s.has_zero → s.has_minus ≡ first.has_minus → d ≤ e → Fits g first d
step_fits g s first (access.Dot x) d e fits right shut tight zero_in minus_in le = first_fits g (stepped s (access.Dot x.shape)) first d e fits right shut (omega arith) tight
    (subst (λ b. (not first.has_zero || (b || x.shape.has_zero)) ≡ true) zero_in (has_first first.has_zero x.shape.has_zero)) minus_in refl le
step_fits g s first (access.Bracket xs) d e fits right shut tight zero_in minus_in le = first_fits g (stepped s (access.Bracket (map (λ p. p.shape) xs))) first d e fits right shut (omega arith) tight
    (subst (λ b. (not first.has_zero || (b || false)) ≡ true) zero_in (has_first first.has_zero false)) minus_in refl le

step_level : (s : Shape) (x : Access Part) → (stepped s (step_shape x)).level ≡ 16
step_level s (access.Dot x) = refl
step_level s (access.Bracket xs) = refl

step_block : (s : Shape) (x : Access Part) → (stepped s (step_shape x)).is_block ≡ false
step_block s (access.Dot x) = refl
step_block s (access.Bracket xs) = refl

-- one step, behind an operand at which a join begins or goes on
a_step : (g : Goal) (k : Thread) (more : Spelled) (s : Shape) (m : Mark) (x : Access Part) (d next e : ℕ) → Fits g (stepped s (step_shape x)) e → Goes 16 g m d next → next ≤ e → access_depth (part_depth x) + 1 ≤ e →
    ((n : ℕ) → n ≤ e → Lives more (Have g (mark (stepped s (step_shape x))) n ∷ k)) → Lives (access_words (step_spelled x) ++ more) (Have g m d ∷ k)
a_step g k more s m (access.Dot x) d next e fits goes le deep then_ = goes_on_with (symbol sign.Dot) (x.words ++ more) g m d k
    (in_row (λ t. Lives (x.words ++ more) (t ++ k)) [] 16 g m d next goes
    (x.followed (operand g 17) (Then (frame.Last g 16 next) ∷ k) more
    (operand_fits g (stepped s (access.Dot x.shape)) x.shape 17 x.depth e fits (both_right (s.right && not s.is_open) (may_end 17 x.shape) fits.right) fits.bars (has_second s.has_zero x.shape.has_zero) deep)
    (λ n less. returns more (operand g 17) g (mark x.shape) (mark (stepped s (access.Dot x.shape))) n (max next (deeper n)) (frame.Last g 16 next) k refl
    (then_ (max next (deeper n)) (max_within next (deeper n) e le (deeper_below n x.depth e less deep))))))
a_step g k more s m (access.Bracket xs) d next e fits goes le deep then_ =
    subst (λ v. Lives v (Have g m d ∷ k)) (ap (λ v. symbol sign.OpenBracket ∷ v) (sym (append_assoc (separated sign.Comma (map (λ p. p.words) xs)) (symbol sign.CloseBracket ∷ []) more)))
    (goes_on_with (symbol sign.OpenBracket) (separated sign.Comma (map (λ p. p.words) xs) ++ symbol sign.CloseBracket ∷ more) g m d k (by goes
    (arguments_follow xs g k more next e (both_right (s.right && not s.is_open) (every (λ x. x.right) (map (λ p. p.shape) xs)) fits.right) fits.within (all_below xs e deep) le then_)))
  where
    by : Goes 16 g m d next → Lives (separated sign.Comma (map (λ p. p.words) xs) ++ symbol sign.CloseBracket ∷ more) (Want (state.Arguments g next) ∷ k) →
        SomeOf (λ t. Lives (separated sign.Comma (map (λ p. p.words) xs) ++ symbol sign.CloseBracket ∷ more) (t ++ k))
        (when (leads 16 17 g m d) (Want (state.Arguments g (deeper d)) ∷ []) ++ when (goes_on 16 g m) (Want (state.Arguments g d) ∷ []))
    by (inl (may, is)) h = in_front (λ t. Lives (separated sign.Comma (map (λ p. p.words) xs) ++ symbol sign.CloseBracket ∷ more) (t ++ k)) (when (leads 16 17 g m d) (Want (state.Arguments g (deeper d)) ∷ [])) (when (goes_on 16 g m) (Want (state.Arguments g d) ∷ []))
        (by_guard (λ t. Lives (separated sign.Comma (map (λ p. p.words) xs) ++ symbol sign.CloseBracket ∷ more) (t ++ k)) (leads 16 17 g m d) (Want (state.Arguments g (deeper d)) ∷ []) may
        (subst (λ n. Lives (separated sign.Comma (map (λ p. p.words) xs) ++ symbol sign.CloseBracket ∷ more) (Want (state.Arguments g n) ∷ k)) is h))
    by (inr (may, is)) h = in_back (λ t. Lives (separated sign.Comma (map (λ p. p.words) xs) ++ symbol sign.CloseBracket ∷ more) (t ++ k)) (when (leads 16 17 g m d) (Want (state.Arguments g (deeper d)) ∷ [])) (when (goes_on 16 g m) (Want (state.Arguments g d) ∷ []))
        (by_guard (λ t. Lives (separated sign.Comma (map (λ p. p.words) xs) ++ symbol sign.CloseBracket ∷ more) (t ++ k)) (goes_on 16 g m) (Want (state.Arguments g d) ∷ []) may
        (subst (λ n. Lives (separated sign.Comma (map (λ p. p.words) xs) ++ symbol sign.CloseBracket ∷ more) (Want (state.Arguments g n) ∷ k)) is h))

steps_before : (g : Goal) (xs : List (Access Part)) (s : Shape) (e : ℕ) → s.level ≡ 16 → Fits g (fold stepped s (map step_shape xs)) e → Fits g s e
steps_before g [] s e is fits = fits
steps_before g (x ∷ xs) s e is fits =
    let now : Fits g (stepped s (step_shape x)) e = steps_before g xs (stepped s (step_shape x)) e (step_level s x) fits in
    let known : Stepped s = step_known g s x e now in
    step_fits g s s x e e now known.right known.shut (omega (arith, is)) refl refl (omega arith)

equal_16 : (a : ℕ) → a ≡ 16 → (a == 16) ≡ true
equal_16 a is = grind (arith, nat_tests)

steps_follow : (xs : List (Access Part)) (s : Shape) (g : Goal) (k : Thread) (more : Spelled) (d e : ℕ) → s.level ≡ 16 → Fits g (fold stepped s (map step_shape xs)) e → d ≤ e →
    deepest (map access_depth (map part_depth xs)) + 1 ≤ e → ((n : ℕ) → n ≤ e → Lives more (Have g (mark (fold stepped s (map step_shape xs))) n ∷ k)) →
    Lives (joined (map access_words (map step_spelled xs)) ++ more) (Have g (mark s) d ∷ k)
steps_follow [] s g k more d e is fits le deep then_ = then_ d le
steps_follow (x ∷ xs) s g k more d e is fits le deep then_ =
    let now : Fits g (stepped s (step_shape x)) e = steps_before g xs (stepped s (step_shape x)) e (step_level s x) fits in
    let known : Stepped s = step_known g s x e now in
    let allows : nat_le g.least 16 ≡ true = allowed g.least 16 (subst (λ n. (nat_le g.least n || (n == 0)) ≡ true) (step_level s x) (level_of now (step_block s x))) (omega arith) in
    subst (λ v. Lives v (Have g (mark s) d ∷ k)) (sym (append_assoc (access_words (step_spelled x)) (joined (map access_words (map step_spelled xs))) more))
    (a_step g k (joined (map access_words (map step_spelled xs)) ++ more) s (mark s) x d d e now
    (inr (both (nat_le g.least 16) ((s.level == 16) && not s.is_open) allows (both (s.level == 16) (not s.is_open) (equal_16 s.level is) (not_of s.is_open known.shut)), refl)) le (omega (arith, deep))
    (λ n less. steps_follow xs (stepped s (step_shape x)) g k more n e (step_level s x) fits less (omega (arith, deep)) then_))

pub a_join : (p : Part) (xs : List (Access Part)) → Followed (p.words ++ joined (map access_words (map step_spelled xs))) (join p.shape (map step_shape xs)) (max p.depth (deepest (map access_depth (map part_depth xs))) + 1)
a_join p [] g k more fits then_ = absurd (true≢false (sym (both_right (p.shape.right && nat_le 17 p.shape.level) false fits.right)))
a_join p (x ∷ xs) g k more fits then_ =
    let e : ℕ = max p.depth (deepest (map access_depth (map part_depth (x ∷ xs)))) + 1 in
    let now : Fits g (stepped (begun 16 true p.shape) (step_shape x)) e = steps_before g xs (stepped (begun 16 true p.shape) (step_shape x)) e (step_level (begun 16 true p.shape) x) fits in
    let known : Stepped (begun 16 true p.shape) = step_known g (begun 16 true p.shape) x e now in
    let two : (p.shape.right && nat_le 17 p.shape.level) ≡ true = both_left (p.shape.right && nat_le 17 p.shape.level) true known.right in
    let tight : nat_le 17 p.shape.level ≡ true = both_right p.shape.right (nat_le 17 p.shape.level) two in
    let low : 17 ≤ p.shape.level = at_most 17 p.shape.level tight in
    subst (λ v. Lives v (Need g ∷ k)) (sym (append_assoc p.words (access_words (step_spelled x) ++ joined (map access_words (map step_spelled xs))) more ∙ ap (λ v. p.words ++ v) (append_assoc (access_words (step_spelled x)) (joined (map access_words (map step_spelled xs))) more)))
    (p.followed g k (access_words (step_spelled x) ++ (joined (map access_words (map step_spelled xs)) ++ more))
    (step_fits g (begun 16 true p.shape) p.shape x p.depth e now (both_left p.shape.right (nat_le 17 p.shape.level) two) known.shut (omega (arith, low)) refl refl (omega arith))
    (λ d le. a_step g k (joined (map access_words (map step_spelled xs)) ++ more) (begun 16 true p.shape) (mark p.shape) x d (deeper d) e now
    (inl (leads_on g 16 17 p.shape d e (subst (λ n. (nat_le g.least n || (n == 0)) ≡ true) (step_level (begun 16 true p.shape) x) (level_of now (step_block (begun 16 true p.shape) x))) (omega arith) tight known.shut (omega (arith, le)) now.within, refl))
    (deeper_below d p.depth e le (omega arith)) (omega arith)
    (λ n less. steps_follow xs (stepped (begun 16 true p.shape) (step_shape x)) g k more n e (step_level (begun 16 true p.shape) x) fits less (omega arith) then_)))
