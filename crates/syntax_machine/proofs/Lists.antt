-- What stands in brackets: the items of a block and the arguments of a box.
use Rattle.std.proofs.Common.{◌≡◌, inl, ℕ, ◌+◌, ◌≤◌, max, Bool, true, false, not, ◌&&◌, ◌||◌, if◌then◌else◌, List, [], ◌∷◌, ◌++◌, Option, Some, map, fold, refl, sym, subst, arith, append_assoc}
use Rattle.syntax_tree.specs.declared.token.TokenKind.{TokenKind}
use Rattle.syntax_tree.specs.declared.token.Symbol.TheVariants as s
use Rattle.syntax_tree.specs.declared.shape.Shape.{Shape}
use Rattle.syntax_tree.specs.Words.{Spelled, symbol}
use Rattle.syntax_tree.specs.Spelling.{joined, separated, after_each}
use Rattle.syntax_tree.specs.Levels.{every, items_right, with_item, block}
use Rattle.syntax_tree.specs.Depth.{deepest, block_depth}
use Rattle.syntax_machine.specs.declared.thread.Goal.{Goal}
use Rattle.syntax_machine.specs.declared.thread.Mark.{Mark}
use Rattle.syntax_machine.specs.declared.thread.State.{State}
use Rattle.syntax_machine.specs.declared.thread.State.TheVariants as state
use Rattle.syntax_machine.specs.declared.thread.Frame.{Frame}
use Rattle.syntax_machine.specs.declared.thread.Frame.TheVariants as frame
use Rattle.syntax_machine.specs.declared.thread.Item.TheVariants.{Need, Want, Have, Then}
use Rattle.syntax_machine.specs.Machine.{Thread, when, each, inner, deeper, item, whole, have, leaf, a_symbol, closes_brace, closes_bracket, begin, begin_block, begin_any, extend, wanted, shift}
use Rattle.syntax_machine.specs.Threads.{from_thread}
use Rattle.syntax_machine.specs.Law.{is_within}
use Rattle.syntax_machine.proofs.Lives.{SomeOf, Lives, in_front, in_back, on_each, on_between}
use Rattle.syntax_machine.proofs.Fits.{Fits, mark, both_left, both_right, least_of_all, has_room_for, within_inner, deeper_below, max_within, whole_fits}
use Rattle.syntax_machine.proofs.Forms.{Followed}
use Rattle.syntax_machine.proofs.Rows.{Part}

-- a state in which an expression may begin
pub begins_in : (q : State) (g : Goal) (r k : Thread) →
    ((token : TokenKind) (tokens : Spelled) → SomeOf (λ t. Lives tokens (t ++ k)) (each (begin token g) r) → SomeOf (λ t. Lives tokens (t ++ k)) (wanted token q)) →
    (tokens : Spelled) → Lives tokens (Need g ∷ (r ++ k)) → Lives tokens (Want q ∷ k)
begins_in q g r k may [] h = tt
begins_in q g r k may (token ∷ tokens) h = on_each (Lives tokens) k (wanted token q) (may token tokens (on_between (Lives tokens) r k (begin token g) h))

-- a frame behind whose expression a state follows
pub then_state : (tokens : Spelled) (q : State) (g : Goal) (m : Mark) (d : ℕ) (f : Frame) (k : Thread) → ((token : TokenKind) → shift token f m d ≡ wanted token q) → Lives tokens (Want q ∷ k) →
    Lives tokens (Have g m d ∷ Then f ∷ k)
then_state [] q g m d f k same h = tt
then_state (token ∷ tokens) q g m d f k same h = in_back (Lives tokens) (each (extend token g m d) (Then f ∷ k)) (from_thread token (Some (m, d)) (Then f ∷ k))
    (in_front (Lives tokens) (each (shift token f m d) k) _ (subst (λ ts. SomeOf (Lives tokens) (each ts k)) (sym (same token)) h))

-- each part is so far above the limit
abbrev pub AllBelow : List Part → ℕ → Type 0
AllBelow [] e = Unit {0}
AllBelow (p ∷ ps) e = (p.depth + 1 ≤ e) × AllBelow ps e

pub all_below : (ps : List Part) (e : ℕ) → deepest (map (λ p. p.depth) ps) + 1 ≤ e → AllBelow ps e
all_below [] e le = tt
all_below (p ∷ ps) e le = (omega (arith, le), all_below ps e (omega (arith, le)))

-- Blocks.

items_before : (ps : List Part) (ok is_first : Bool) → (fold with_item (ok, is_first) (map (λ p. p.shape) ps)).0 ≡ true → ok ≡ true
items_before [] ok is_first h = h
items_before (p ∷ ps) ok is_first h = both_left ok (p.shape.right && (is_first || not p.shape.has_minus))
    (items_before ps (ok && (p.shape.right && (is_first || not p.shape.has_minus))) false h)

item_fits : (is_first : Bool) (room : Option ℕ) (x : Shape) (d e : ℕ) → (x.right && (is_first || not x.has_minus)) ≡ true → d + 1 ≤ e → is_within room e ≡ true → Fits (item is_first (inner room)) x d
item_fits is_first room x d e right le within = record {
  right = both_left x.right (is_first || not x.has_minus) right;
  tight = least_of_all x.level;
  forms = refl;
  bars = refl;
  words = refl;
  minus = both_right x.right (is_first || not x.has_minus) right;
  block = refl;
  within = within_inner room d e le within;
}

items_follow : (ps : List Part) (ok is_first : Bool) (g : Goal) (k : Thread) (more : Spelled) (d e : ℕ) → (fold with_item (ok, is_first) (map (λ p. p.shape) ps)).0 ≡ true →
    is_within g.room e ≡ true → AllBelow ps e → d ≤ e → ((n : ℕ) → n ≤ e → Lives more (have g n ∷ k)) → Lives (joined (map (λ p. p.words) ps) ++ symbol s.CloseBrace ∷ more) (Want (state.Items g d is_first) ∷ k)
items_follow [] ok is_first g k more d e right within below le then_ = inl (then_ d le)
items_follow (p ∷ ps) ok is_first g k more d e right within below le then_ =
    let rest : Spelled = joined (map (λ p. p.words) ps) ++ symbol s.CloseBrace ∷ more in
    let now : (ok && (p.shape.right && (is_first || not p.shape.has_minus))) ≡ true = items_before ps (ok && (p.shape.right && (is_first || not p.shape.has_minus))) false right in
    subst (λ v. Lives v (Want (state.Items g d is_first) ∷ k)) (sym (append_assoc p.words (joined (map (λ p. p.words) ps)) (symbol s.CloseBrace ∷ more)))
    (begins_in (state.Items g d is_first) (item is_first (inner g.room)) (Then (frame.Item g d) ∷ []) k
    (λ token tokens h. in_back (λ t. Lives tokens (t ++ k)) (when (a_symbol closes_brace token) (have g d ∷ [])) _
    (subst (λ (b : Bool). SomeOf (λ t. Lives tokens (t ++ k)) (if b then each (begin token (item is_first (inner g.room))) (Then (frame.Item g d) ∷ []) else [])) (sym (has_room_for g.room 0 e (omega (arith, below.0)) within)) h))
    (p.words ++ rest)
    (p.followed (item is_first (inner g.room)) (Then (frame.Item g d) ∷ k) rest
    (item_fits is_first g.room p.shape p.depth e (both_right ok (p.shape.right && (is_first || not p.shape.has_minus)) now) below.0 within)
    (λ n less. then_state rest (state.Items g (max d (deeper n)) false) (item is_first (inner g.room)) (mark p.shape) n (frame.Item g d) k (λ token. refl)
    (items_follow ps (ok && (p.shape.right && (is_first || not p.shape.has_minus))) false g k more (max d (deeper n)) e right within below.1 (max_within d (deeper n) e le (deeper_below n p.depth e less below.0)) then_))))

block_begins : (tokens : Spelled) (g : Goal) (k : Thread) → Lives tokens (Want (state.Items g 0 true) ∷ k) → Lives (symbol s.OpenBrace ∷ tokens) (Need g ∷ k)
block_begins tokens g k h = on_each (Lives tokens) k (begin (symbol s.OpenBrace) g) (by g.is_block)
  where
    by : (b : Bool) → SomeOf (λ t. Lives tokens (t ++ k)) (if b then begin_block (symbol s.OpenBrace) g else begin_any (symbol s.OpenBrace) g)
    by true = inl h
    by false = inl h

pub a_block : (ps : List Part) → Followed (symbol s.OpenBrace ∷ (joined (map (λ p. p.words) ps) ++ symbol s.CloseBrace ∷ [])) (block (items_right (map (λ p. p.shape) ps))) (block_depth (map (λ p. p.depth) ps))
a_block [] g k more fits then_ = block_begins (symbol s.CloseBrace ∷ more) g k (inl (then_ 0 (omega arith)))
a_block (p ∷ ps) g k more fits then_ = block_begins ((joined (map (λ p. p.words) (p ∷ ps)) ++ symbol s.CloseBrace ∷ []) ++ more) g k
    (subst (λ v. Lives v (Want (state.Items g 0 true) ∷ k)) (sym (append_assoc (joined (map (λ p. p.words) (p ∷ ps))) (symbol s.CloseBrace ∷ []) more))
    (items_follow (p ∷ ps) true true g k more 0 (deepest (map (λ p. p.depth) (p ∷ ps)) + 1) fits.right fits.within (all_below (p ∷ ps) (deepest (map (λ p. p.depth) (p ∷ ps)) + 1) (omega arith)) (omega arith) then_))

-- Boxes.

every_before : (ps : List Part) (ok : Bool) → fold (λ passed x. passed && x.right) ok (map (λ p. p.shape) ps) ≡ true → ok ≡ true
every_before [] ok h = h
every_before (p ∷ ps) ok h = both_left ok p.shape.right (every_before ps (ok && p.shape.right) h)

-- the arguments behind the first one
more_arguments : (ps : List Part) (ok : Bool) (g : Goal) (k : Thread) (more : Spelled) (d e : ℕ) → fold (λ passed x. passed && x.right) ok (map (λ p. p.shape) ps) ≡ true → is_within g.room e ≡ true →
    AllBelow ps e → d ≤ e → ((n : ℕ) → n ≤ e → Lives more (Have g (leaf 16) n ∷ k)) → Lives (after_each s.Comma (map (λ p. p.words) ps) ++ symbol s.CloseBracket ∷ more) (Want (state.NextArgument g d) ∷ k)
more_arguments [] ok g k more d e right within below le then_ = inl (then_ d le)
more_arguments (p ∷ ps) ok g k more d e right within below le then_ =
    let rest : Spelled = after_each s.Comma (map (λ p. p.words) ps) ++ symbol s.CloseBracket ∷ more in
    inl (subst (λ v. Lives v (Need (whole (inner g.room)) ∷ Then (frame.Argument g d) ∷ k)) (sym (append_assoc p.words (after_each s.Comma (map (λ p. p.words) ps)) (symbol s.CloseBracket ∷ more)))
    (p.followed (whole (inner g.room)) (Then (frame.Argument g d) ∷ k) rest
    (whole_fits g.room p.shape p.depth e (both_right ok p.shape.right (every_before ps (ok && p.shape.right) right)) below.0 within)
    (λ n less. then_state rest (state.NextArgument g (max d (deeper n))) (whole (inner g.room)) (mark p.shape) n (frame.Argument g d) k (λ token. refl)
    (more_arguments ps (ok && p.shape.right) g k more (max d (deeper n)) e right within below.1 (max_within d (deeper n) e le (deeper_below n p.depth e less below.0)) then_))))

pub arguments_follow : (ps : List Part) (g : Goal) (k : Thread) (more : Spelled) (d e : ℕ) → every (λ x. x.right) (map (λ p. p.shape) ps) ≡ true → is_within g.room e ≡ true →
    AllBelow ps e → d ≤ e → ((n : ℕ) → n ≤ e → Lives more (Have g (leaf 16) n ∷ k)) → Lives (separated s.Comma (map (λ p. p.words) ps) ++ symbol s.CloseBracket ∷ more) (Want (state.Arguments g d) ∷ k)
arguments_follow [] g k more d e right within below le then_ = inl (then_ d le)
arguments_follow (p ∷ ps) g k more d e right within below le then_ =
    let rest : Spelled = after_each s.Comma (map (λ p. p.words) ps) ++ symbol s.CloseBracket ∷ more in
    subst (λ v. Lives v (Want (state.Arguments g d) ∷ k)) (sym (append_assoc p.words (after_each s.Comma (map (λ p. p.words) ps)) (symbol s.CloseBracket ∷ more)))
    (begins_in (state.Arguments g d) (whole (inner g.room)) (Then (frame.Argument g d) ∷ []) k
    (λ token tokens h. in_back (λ t. Lives tokens (t ++ k)) (when (a_symbol closes_bracket token) (Have g (leaf 16) d ∷ [])) _ h)
    (p.words ++ rest)
    (p.followed (whole (inner g.room)) (Then (frame.Argument g d) ∷ k) rest
    (whole_fits g.room p.shape p.depth e (every_before ps p.shape.right right) below.0 within)
    (λ n less. then_state rest (state.NextArgument g (max d (deeper n))) (whole (inner g.room)) (mark p.shape) n (frame.Argument g d) k (λ token. refl)
    (more_arguments ps p.shape.right g k more (max d (deeper n)) e right within below.1 (max_within d (deeper n) e le (deeper_below n p.depth e less below.0)) then_))))
