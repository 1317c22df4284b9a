-- The machine follows the spelling of each form, if it follows those of its parts.
use Rattle.std.proofs.Common.{◌≡◌, ◌⊎◌, inl, inr, ℕ, ◌+◌, ◌<◌, ◌≤◌, max, Bool, true, false, ◌&&◌, ◌||◌, nat_le, List, [], ◌∷◌, ◌++◌, Some, map, refl, sym, subst, true≢false, arith, append_assoc}
use Rattle.syntax_tree.specs.declared.token.TokenKind.TheVariants as kind
use Rattle.syntax_tree.specs.declared.token.Symbol.TheVariants as s
use Rattle.syntax_tree.specs.declared.token.Word.TheVariants as w
use Rattle.syntax_tree.specs.declared.operator.Constant.{Constant}
use Rattle.syntax_tree.specs.declared.operator.Constant.TheVariants as constant
use Rattle.syntax_tree.specs.declared.operator.Prefix.{Prefix}
use Rattle.syntax_tree.specs.declared.operator.Prefix.TheVariants as prefix
use Rattle.syntax_tree.specs.declared.expr.QualName.{QualName}
use Rattle.syntax_tree.specs.declared.shape.Shape.{Shape}
use Rattle.syntax_tree.specs.Words.{Spelled, word, symbol, constant_word, prefix_token}
use Rattle.syntax_tree.specs.Spelling.{after_each, one_name, name_words}
use Rattle.syntax_tree.specs.Levels.{closed, may_lead, may_end, prefix_level, prefixed, negative, name_right, sequence, primed}
use Rattle.syntax_machine.specs.declared.thread.Goal.{Goal}
use Rattle.syntax_machine.specs.declared.thread.Expected.TheVariants as expected
use Rattle.syntax_machine.specs.declared.thread.State.TheVariants as state
use Rattle.syntax_machine.specs.declared.thread.Frame.TheVariants as frame
use Rattle.syntax_machine.specs.declared.thread.Item.TheVariants.{Token, Need, Want, Have, Then}
use Rattle.syntax_machine.specs.Machine.{Thread, inner, has_room, deeper, operand, whole, have, leads, begin_any, begin_prefix}
use Rattle.syntax_machine.proofs.Lives.{SomeOf, Lives, in_front, by_guard, begins, goes_on_with, shifts, returns}
use Rattle.syntax_machine.proofs.Fits.{Fits, mark, both_left, both_right, both, no_block, has_first, has_second, allowed, at_most, has_room_for, deeper_within, deeper_below, max_within, whole_fits, first_fits, operand_fits, level_of, lead_right, lead_tight, lead_shut, leads_on}

-- What is spelled so, shows this and is so deep: where it may stand for a goal, a thread that needs an expression for the goal
-- lives along the spelling and what follows it, if it lives along that behind an expression that was read.
abbrev pub Followed : Spelled → Shape → ℕ → Type 0
Followed words shape depth = (g : Goal) (k : Thread) (more : Spelled) → Fits g shape depth →
    ((d : ℕ) → d ≤ depth → Lives more (Have g (mark shape) d ∷ k)) → Lives (words ++ more) (Need g ∷ k)

pub number : (n : ℕ) → Followed (kind.Number n ∷ []) (closed true) 0
number n g k more fits then_ = begins (kind.Number n) more g k (no_block g.is_block fits.block) (inl (then_ 0 (omega arith)))

pub literal : (text : List ℕ) → Followed (kind.Literal text ∷ []) (closed true) 0
literal text g k more fits then_ = begins (kind.Literal text) more g k (no_block g.is_block fits.block) (inl (then_ 0 (omega arith)))

pub a_constant : (c : Constant) → Followed (word (constant_word c) ∷ []) (closed true) 0
a_constant c g k more fits then_ = begins (word (constant_word c)) more g k (no_block g.is_block fits.block) (by c)
  where
    by : (c : Constant) → SomeOf (λ t. Lives more (t ++ k)) (begin_any (word (constant_word c)) g)
    by constant.This = inl (then_ 0 (omega arith))
    by constant.Univ = inl (then_ 0 (omega arith))
    by constant.Iden = inl (then_ 0 (omega arith))
    by constant.None = inl (then_ 0 (omega arith))
    by constant.Int = inl (then_ 0 (omega arith))
    by constant.String = inl (then_ 0 (omega arith))

pub minus : (n : ℕ) → Followed (symbol s.Minus ∷ kind.Number n ∷ []) negative 0
minus n g k more fits then_ = begins (symbol s.Minus) (kind.Number n ∷ more) g k (no_block g.is_block fits.block)
    (by_guard (λ t. Lives (kind.Number n ∷ more) (t ++ k)) g.has_minus _ (may g.has_minus fits.minus) (inl (then_ 0 (omega arith))))
  where
    may : (b : Bool) → (b || false) ≡ true → b ≡ true
    may true h = refl
    may false h = h

-- Names.

-- the names behind a slash
slash_names : (name : List ℕ) (names : List (List ℕ)) (k : Thread) (more : Spelled) → Lives more k →
    Lives (after_each s.Slash (map one_name (name ∷ names)) ++ more) (Token expected.Slash ∷ Want state.Names ∷ k)
slash_names name [] k more lives = inl (inl lives)
slash_names name (next ∷ names) k more lives = inl (inr (inl (slash_names next names k more lives)))

-- what may come behind a name
more_names : (names : List (List ℕ)) (k : Thread) (more : Spelled) → Lives more k →
    Lives (after_each s.Slash (map one_name names) ++ more) k ⊎ Lives (after_each s.Slash (map one_name names) ++ more) (Token expected.Slash ∷ Want state.Names ∷ k)
more_names [] k more lives = inl lives
more_names (name ∷ names) k more lives = inr (slash_names name names k more lives)

-- one of two threads
either : (P : Thread → Type 0) (a b : Thread) → P a ⊎ P b → SomeOf P (a ∷ b ∷ [])
either P a b (inl p) = inl p
either P a b (inr p) = inr (inl p)

pub a_name : (name : QualName) → Followed (name_words name) (closed (name_right name)) 0
a_name name g k more fits then_ = by name.is_own name.parts fits
  where
    by : (is_own : Bool) (parts : List (List ℕ)) → Fits g (closed (name_right (record name { is_own = is_own; parts = parts }))) 0 →
        Lives (name_words (record name { is_own = is_own; parts = parts }) ++ more) (Need g ∷ k)
    by true [] fits = absurd (true≢false (sym fits.right))
    by false [] fits = absurd (true≢false (sym fits.right))
    by true (part ∷ parts) fits = begins (word w.This) (after_each s.Slash (map one_name (part ∷ parts)) ++ more) g k (no_block g.is_block fits.block) (inr (inl (slash_names part parts (have g 0 ∷ k) more (then_ 0 (omega arith)))))
    by false (part ∷ parts) fits = begins (kind.Name part) (after_each s.Slash (map one_name parts) ++ more) g k (no_block g.is_block fits.block)
        (either (λ t. Lives (after_each s.Slash (map one_name parts) ++ more) (t ++ k)) (have g 0 ∷ []) (Token expected.Slash ∷ Want state.Names ∷ have g 0 ∷ []) (more_names parts (have g 0 ∷ k) more (then_ 0 (omega arith))))

-- a path of names
pub path_follows : (name : QualName) (k : Thread) (more : Spelled) → name_right name ≡ true → Lives more k → Lives (name_words name ++ more) (Want state.Path ∷ k)
path_follows name k more right lives = by name.is_own name.parts right
  where
    by : (is_own : Bool) (parts : List (List ℕ)) → name_right (record name { is_own = is_own; parts = parts }) ≡ true → Lives (name_words (record name { is_own = is_own; parts = parts }) ++ more) (Want state.Path ∷ k)
    by true [] right = absurd (true≢false (sym right))
    by false [] right = absurd (true≢false (sym right))
    by true (part ∷ parts) right = inl (slash_names part parts k more lives)
    by false (part ∷ parts) right = either (Lives (after_each s.Slash (map one_name parts) ++ more)) k (Token expected.Slash ∷ Want state.Names ∷ k) (more_names parts k more lives)

pub at_name : (name : QualName) → Followed (symbol s.At ∷ name_words name) (closed (name_right name)) 0
at_name name g k more fits then_ = begins (symbol s.At) (name_words name ++ more) g k (no_block g.is_block fits.block) (inl (path_follows name (have g 0 ∷ k) more fits.right (then_ 0 (omega arith))))

pub parenthesis : (words : Spelled) (shape : Shape) (depth : ℕ) → Followed words shape depth → Followed (symbol s.OpenParenthesis ∷ (words ++ symbol s.CloseParenthesis ∷ [])) (closed shape.right) (depth + 1)
parenthesis words shape depth part g k more fits then_ =
    begins (symbol s.OpenParenthesis) ((words ++ symbol s.CloseParenthesis ∷ []) ++ more) g k (no_block g.is_block fits.block)
    (by_guard _ (has_room g.room 0) _ (has_room_for g.room 0 (depth + 1) (omega arith) fits.within)
    (subst (λ v. Lives v (Need (whole (inner g.room)) ∷ Then (frame.Parenthesis g) ∷ k)) (sym (append_assoc words (symbol s.CloseParenthesis ∷ []) more))
    (part (whole (inner g.room)) (Then (frame.Parenthesis g) ∷ k) (symbol s.CloseParenthesis ∷ more)
    (whole_fits g.room shape depth (depth + 1) fits.right (omega arith) fits.within)
    (λ d le. shifts (symbol s.CloseParenthesis) more (whole (inner g.room)) (mark shape) d (frame.Parenthesis g) k (inl (then_ (deeper d) (deeper_within d depth le)))))))

-- Operators before an operand.

by_prefix : (P : Thread → Type 0) (g : Goal) (p : Prefix) → SomeOf P (begin_prefix (Some p) g) → SomeOf P (begin_any (prefix_token p) g)
by_prefix P g prefix.Bang h = h
by_prefix P g prefix.Not h = in_front P (begin_prefix (Some prefix.Not) g) _ h
by_prefix P g prefix.Always h = in_front P (begin_prefix (Some prefix.Always) g) _ h
by_prefix P g prefix.Eventually h = in_front P (begin_prefix (Some prefix.Eventually) g) _ h
by_prefix P g prefix.After h = in_front P (begin_prefix (Some prefix.After) g) _ h
by_prefix P g prefix.Before h = in_front P (begin_prefix (Some prefix.Before) g) _ h
by_prefix P g prefix.Historically h = in_front P (begin_prefix (Some prefix.Historically) g) _ h
by_prefix P g prefix.Once h = in_front P (begin_prefix (Some prefix.Once) g) _ h
by_prefix P g prefix.No h = in_front P (begin_prefix (Some prefix.No) g) _ h
by_prefix P g prefix.Some h = in_front P (begin_prefix (Some prefix.Some) g) _ h
by_prefix P g prefix.Lone h = in_front P (begin_prefix (Some prefix.Lone) g) _ h
by_prefix P g prefix.One h = in_front P (begin_prefix (Some prefix.One) g) _ h
by_prefix P g prefix.Count h = h
by_prefix P g prefix.Transpose h = h
by_prefix P g prefix.Closure h = h
by_prefix P g prefix.ReflexiveClosure h = h

some_prefix_level : (p : Prefix) → 0 < prefix_level p
some_prefix_level prefix.No = omega arith
some_prefix_level prefix.Some = omega arith
some_prefix_level prefix.Lone = omega arith
some_prefix_level prefix.One = omega arith
some_prefix_level prefix.Count = omega arith
some_prefix_level prefix.Transpose = omega arith
some_prefix_level prefix.Closure = omega arith
some_prefix_level prefix.ReflexiveClosure = omega arith
some_prefix_level _ = omega arith

pub before : (p : Prefix) (words : Spelled) (shape : Shape) (depth : ℕ) → Followed words shape depth → Followed (prefix_token p ∷ words) (prefixed p shape) (depth + 1)
before p words shape depth part g k more fits then_ =
    begins (prefix_token p) (words ++ more) g k (no_block g.is_block fits.block)
    (by_prefix (λ t. Lives (words ++ more) (t ++ k)) g p
    (by_guard _ (nat_le g.least (prefix_level p) && has_room g.room 0) _
    (both (nat_le g.least (prefix_level p)) (has_room g.room 0) (allowed g.least (prefix_level p) (level_of fits refl) (some_prefix_level p)) (has_room_for g.room 0 (depth + 1) (omega arith) fits.within))
    (part (operand g (prefix_level p)) (Then (frame.Last g (prefix_level p) 0) ∷ k) more
    (operand_fits g (prefixed p shape) shape (prefix_level p) depth (depth + 1) fits fits.right fits.bars (has_second false shape.has_zero) (omega arith))
    (λ d le. returns more (operand g (prefix_level p)) g (mark shape) (mark (prefixed p shape)) d (max 0 (deeper d)) (frame.Last g (prefix_level p) 0) k refl
    (then_ (max 0 (deeper d)) (max_within 0 (deeper d) (depth + 1) (omega arith) (deeper_within d depth le)))))))

-- Operators behind an operand.

pub a_sequence : (a b : Spelled) (p q : Shape) (m n : ℕ) → Followed a p m → Followed b q n → Followed (a ++ symbol s.Semicolon ∷ b) (sequence p q) (max m n + 1)
a_sequence a b p q m n first second g k more fits then_ =
    let leads_ : may_lead 2 p ≡ true = both_left (may_lead 2 p) (may_end 1 q) fits.right in
    let low : 2 ≤ p.level = at_most 2 p.level (lead_tight 2 p leads_) in
    subst (λ v. Lives v (Need g ∷ k)) (sym (append_assoc a (symbol s.Semicolon ∷ b) more))
    (first g k (symbol s.Semicolon ∷ (b ++ more))
    (first_fits g (sequence p q) p m (max m n + 1) fits (lead_right 2 p leads_) (lead_shut 2 p leads_) (omega arith) (omega (arith, low)) (has_first p.has_zero q.has_zero) refl refl (omega arith))
    (λ d le. goes_on_with (symbol s.Semicolon) (b ++ more) g (mark p) d k
    (by_guard _ (leads 1 2 g (mark p) d) _ (leads_on g 1 2 p d (max m n + 1) (level_of fits refl) (omega arith) (lead_tight 2 p leads_) (lead_shut 2 p leads_) (omega (arith, le)) fits.within)
    (second (operand g 1) (Then (frame.Last g 1 (deeper d)) ∷ k) more
    (operand_fits g (sequence p q) q 1 n (max m n + 1) fits (both_right (may_lead 2 p) (may_end 1 q) fits.right) fits.bars (has_second p.has_zero q.has_zero) (omega arith))
    (λ e le2. returns more (operand g 1) g (mark q) (mark (sequence p q)) e (max (deeper d) (deeper e)) (frame.Last g 1 (deeper d)) k refl
    (then_ (max (deeper d) (deeper e)) (max_within (deeper d) (deeper e) (max m n + 1) (deeper_below d m (max m n + 1) le (omega arith)) (deeper_below e n (max m n + 1) le2 (omega arith)))))))))

pub a_prime : (a : Spelled) (p : Shape) (m : ℕ) → Followed a p m → Followed (a ++ symbol s.Prime ∷ []) (primed p) (m + 1)
a_prime a p m first g k more fits then_ =
    let low : 18 ≤ p.level = at_most 18 p.level (lead_tight 18 p fits.right) in
    subst (λ v. Lives v (Need g ∷ k)) (sym (append_assoc a (symbol s.Prime ∷ []) more))
    (first g k (symbol s.Prime ∷ more)
    (first_fits g (primed p) p m (m + 1) fits (lead_right 18 p fits.right) (lead_shut 18 p fits.right) (omega arith) (omega (arith, low)) (has_first p.has_zero false) refl refl (omega arith))
    (λ d le. goes_on_with (symbol s.Prime) more g (mark p) d k
    (by_guard _ (leads 18 18 g (mark p) d) _ (leads_on g 18 18 p d (m + 1) (level_of fits refl) (omega arith) (lead_tight 18 p fits.right) (lead_shut 18 p fits.right) (omega (arith, le)) fits.within)
    (then_ (deeper d) (deeper_within d m le)))))
