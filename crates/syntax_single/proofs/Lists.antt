-- What stands in brackets: the items of a block and the arguments of a box; and joins.
use Rattle.std.proofs.Common.{◌≡◌, ℕ, ◌*◌, ◌<◌, ◌≤◌, Bool, true, false, not, ◌&&◌, ◌||◌, ◌==◌, nat_le, nat_lt, List, [], ◌∷◌, ◌++◌, map, fold, refl, sym, ap, subst, ◌∙◌, true≢false, arith, append_assoc, append-nil}
use Rattle.std.proofs.lemmas.Bool.Decides.{nat_tests}
use Rattle.syntax_tree.specs.declared.token.TokenKind.{TokenKind}
use Rattle.syntax_tree.specs.declared.token.Symbol.TheVariants as mark
use Rattle.syntax_tree.specs.declared.expr.Access.{Access}
use Rattle.syntax_tree.specs.declared.expr.Access.TheVariants as access
use Rattle.syntax_tree.specs.declared.expr.Expr.{Expr}
use Rattle.syntax_tree.specs.declared.expr.Expr.TheOpen.{Expr-F}
use Rattle.syntax_tree.specs.declared.expr.Expr.TheViews.{roll-Expr}
use Rattle.syntax_tree.specs.declared.shape.Shape.{Shape}
use Rattle.syntax_tree.specs.Words.{Spelled, symbol}
use Rattle.syntax_tree.specs.Spelling.{separated, after_each, joined, access_words}
use Rattle.syntax_tree.specs.Levels.{may_end, every, with_item, items_right, block, begun, stepped, join}
use Rattle.syntax_single.specs.Placeless.{nowhere}
use Rattle.syntax_single.proofs.Reader.{Frame, Last, Consequence, Row, Steps, Closing, Items, Arguments, Bounds, Values, Stop, State, Need, Have, Names, Blocking, Boxing, Boxed, Comprehend, other, sign, sign_at, is_disj, behind_name, named, looks, ahead, least_of, settle, by_look, by_slash, chained, boxed, on_item, on_box, on_block, begin, go_on, step, run}
use Rattle.syntax_single.proofs.Fits.{both_left, both_right, of_not, has_first, has_second, itself, at_most, limit_of, lead_limit, inner_limit, lower, Fits, whole_fits, first_fits, last_fits, inner_fits, pops, operates_at, leads}
use Rattle.syntax_single.proofs.Forms.{Reads, Front, Part, sign_append, no_name, node_front}
use Rattle.syntax_single.proofs.Rows.{Kept, three_zeros, row_tight, row_level}

abbrev pub words_of : List Part → List Spelled
words_of ps = map (λ p. p.words) ps

abbrev pub values_of : List Part → List Expr
values_of ps = map (λ p. p.value) ps

-- a state in which an expression may begin
pub enters : (state : State) (k : List Frame) → ((t : TokenKind) (ts : Spelled) → sign t ≡ other → step t ts state ≡ begin t ts k) → (words more : Spelled) → sign_at words ≡ other → run (words ++ more) state ≡ run (words ++ more) (Need k)
enters state k may [] more h = cc
enters state k may (t ∷ ts) more h = ap (λ z. run (ts ++ more) z) (may t (ts ++ more) h)

-- Blocks.

-- each item is right, and but for the first none begins with `-`
abbrev AreItems : Bool → List Part → Type 0
AreItems is_first [] = Unit {0}
AreItems is_first (p ∷ ps) = (p.shape.right ≡ true) × ((is_first || not p.shape.has_minus) ≡ true) × AreItems false ps

items_before : (ps : List Part) (ok is_first : Bool) → (fold with_item (ok, is_first) (map (λ p. p.shape) ps)).0 ≡ true → (ok ≡ true) × AreItems is_first ps
items_before [] ok is_first h = (h, tt)
items_before (p ∷ ps) ok is_first h =
    let rest : ((ok && (p.shape.right && (is_first || not p.shape.has_minus))) ≡ true) × AreItems false ps = items_before ps (ok && (p.shape.right && (is_first || not p.shape.has_minus))) false h in
    let two : (p.shape.right && (is_first || not p.shape.has_minus)) ≡ true = both_right ok (p.shape.right && (is_first || not p.shape.has_minus)) rest.0 in
    (both_left ok (p.shape.right && (is_first || not p.shape.has_minus)) rest.0, (both_left p.shape.right (is_first || not p.shape.has_minus) two, both_right p.shape.right (is_first || not p.shape.has_minus) two, rest.1))

other_named : (ts : Spelled) → sign_at ts ≡ other → named true ts ≡ false
other_named [] h = refl
other_named (t ∷ ts) h = ap (λ s. behind_name s (named false ts)) h

items_ahead : (ps : List Part) (more : Spelled) → AreItems false ps → ahead (joined (words_of ps) ++ symbol mark.CloseBrace ∷ more) ≡ 0
items_ahead [] more h = refl
items_ahead (p ∷ ps) more h = ap ahead (append_assoc p.words (joined (words_of ps)) (symbol mark.CloseBrace ∷ more))
    ∙ (p.front h.0).quiet (of_not p.shape.has_minus h.1) (joined (words_of ps) ++ symbol mark.CloseBrace ∷ more)

items_named : (ps : List Part) (more : Spelled) → AreItems false ps → named true (joined (words_of ps) ++ symbol mark.CloseBrace ∷ more) ≡ false
items_named [] more h = refl
items_named (p ∷ ps) more h = ap (λ ts. named true ts) (append_assoc p.words (joined (words_of ps)) (symbol mark.CloseBrace ∷ more))
    ∙ other_named (p.words ++ (joined (words_of ps) ++ symbol mark.CloseBrace ∷ more)) (sign_append p.words (joined (words_of ps) ++ symbol mark.CloseBrace ∷ more) (p.front h.0).starts)

-- the next item
item_enters : (x : Expr) (items : List Expr) (k : List Frame) (words more : Spelled) → sign_at words ≡ other → ahead (words ++ more) ≡ 0 → run (words ++ more) (Have x (Items items ∷ k)) ≡ run (words ++ more) (Need (Items (items ++ x ∷ []) ∷ k))
item_enters x items k [] more h quiet = cc
item_enters x items k (t ∷ ts) more h quiet = ap (λ n. run (ts ++ more) (go_on n t (ts ++ more) (settle n x (Items items ∷ k)))) quiet ∙ ap (λ s. run (ts ++ more) (on_item s t (ts ++ more) (items ++ x ∷ []) k)) h

item_reads : (p : Part) (ps : List Part) (items : List Expr) (k : List Frame) (more : Spelled) → p.shape.right ≡ true → AreItems false ps →
    run (p.words ++ (joined (words_of ps) ++ symbol mark.CloseBrace ∷ more)) (Need (Items items ∷ k)) ≡ run (joined (words_of ps) ++ symbol mark.CloseBrace ∷ more) (Have p.value (Items items ∷ k))
item_reads p ps items k more right h = p.reads (Items items ∷ k) (joined (words_of ps) ++ symbol mark.CloseBrace ∷ more)
    (whole_fits (Items items ∷ k) p.shape (joined (words_of ps) ++ symbol mark.CloseBrace ∷ more) refl refl (items_ahead ps more h) (items_named ps more h) right)

more_items : (ps : List Part) (x : Expr) (items : List Expr) (k : List Frame) (more : Spelled) → AreItems false ps →
    run (joined (words_of ps) ++ symbol mark.CloseBrace ∷ more) (Have x (Items items ∷ k)) ≡ run more (Have (roll-Expr (Expr-F.Block nowhere (items ++ x ∷ values_of ps))) k)
more_items [] x items k more h = refl
more_items (p ∷ ps) x items k more h =
    ap (λ ts. run ts (Have x (Items items ∷ k))) (append_assoc p.words (joined (words_of ps)) (symbol mark.CloseBrace ∷ more))
    ∙ (item_enters x items k p.words (joined (words_of ps) ++ symbol mark.CloseBrace ∷ more) (p.front h.0).starts ((p.front h.0).quiet (of_not p.shape.has_minus h.1) (joined (words_of ps) ++ symbol mark.CloseBrace ∷ more))
    ∙ (item_reads p ps (items ++ x ∷ []) k more h.0 h.2
    ∙ (more_items ps p.value (items ++ x ∷ []) k more h.2
    ∙ ap (λ (xs : List Expr). run more (Have (roll-Expr (Expr-F.Block nowhere xs)) k)) (append_assoc items (x ∷ []) (p.value ∷ values_of ps)))))

pub a_block : (ps : List Part) → Reads (symbol mark.OpenBrace ∷ (joined (words_of ps) ++ symbol mark.CloseBrace ∷ [])) (block (items_right (map (λ p. p.shape) ps))) (roll-Expr (Expr-F.Block nowhere (values_of ps)))
a_block [] k more fits = refl
a_block (p ∷ ps) k more fits =
    let all : (true ≡ true) × AreItems true (p ∷ ps) = items_before (p ∷ ps) true true fits.right in
    let is : (joined (words_of (p ∷ ps)) ++ symbol mark.CloseBrace ∷ []) ++ more ≡ p.words ++ (joined (words_of ps) ++ symbol mark.CloseBrace ∷ more) =
    append_assoc (joined (words_of (p ∷ ps))) (symbol mark.CloseBrace ∷ []) more ∙ append_assoc p.words (joined (words_of ps)) (symbol mark.CloseBrace ∷ more) in
    ap (λ ts. run (symbol mark.OpenBrace ∷ ts) (Need k)) is
    ∙ (ap (λ b. run (p.words ++ (joined (words_of ps) ++ symbol mark.CloseBrace ∷ more)) (by_look b (Names Comprehend [] false [] k) (Blocking k)))
    ((p.front all.1.0).nameless (joined (words_of ps) ++ symbol mark.CloseBrace ∷ more) (items_named ps more all.1.2))
    ∙ (enters (Blocking k) (Items [] ∷ k) (λ t ts h. ap (λ s. on_block s t ts k) h) p.words (joined (words_of ps) ++ symbol mark.CloseBrace ∷ more) (p.front all.1.0).starts
    ∙ (item_reads p ps [] k more all.1.0 all.1.2
    ∙ more_items ps p.value [] k more all.1.2)))

pub block_front : (ps : List Part) → Front (symbol mark.OpenBrace ∷ (joined (words_of ps) ++ symbol mark.CloseBrace ∷ [])) (block (items_right (map (λ p. p.shape) ps)))
block_front ps = record { starts = refl; quiet = λ plain more. refl; wordless = λ f more may. refl; nameless = λ more shut. refl; opened = λ is. (joined (words_of ps) ++ symbol mark.CloseBrace ∷ [], refl, refl, refl) }

-- Boxes.

abbrev AreRight : List Part → Type 0
AreRight [] = Unit {0}
AreRight (p ∷ ps) = (p.shape.right ≡ true) × AreRight ps

right_before : (ps : List Part) (ok : Bool) → fold (λ passed x. passed && x.right) ok (map (λ p. p.shape) ps) ≡ true → (ok ≡ true) × AreRight ps
right_before [] ok h = (h, tt)
right_before (p ∷ ps) ok h = let rest : ((ok && p.shape.right) ≡ true) × AreRight ps = right_before ps (ok && p.shape.right) h in
    (both_left ok p.shape.right rest.0, (both_right ok p.shape.right rest.0, rest.1))

abbrev after_argument : List Part → Spelled → Spelled
after_argument ps more = after_each mark.Comma (words_of ps) ++ symbol mark.CloseBracket ∷ more

arguments_ahead : (ps : List Part) (more : Spelled) → ahead (after_argument ps more) ≡ 0
arguments_ahead [] more = refl
arguments_ahead (p ∷ ps) more = refl

looked : (ts : Spelled) → looks ts ≡ false → named false ts ≡ false
looked [] h = refl
looked (t ∷ ts) h = by (is_disj t) (named false (t ∷ ts)) h
  where
    by : (a b : Bool) → (a || b) ≡ false → b ≡ false
    by true b h = absurd (true≢false h)
    by false b h = h

arguments_named : (ps : List Part) (more : Spelled) → AreRight ps → named true (after_argument ps more) ≡ false
arguments_named [] more h = refl
arguments_named (p ∷ ps) more h = ap (λ ts. named false ts) (append_assoc p.words (after_each mark.Comma (words_of ps)) (symbol mark.CloseBracket ∷ more))
    ∙ looked (p.words ++ after_argument ps more) ((p.front h.0).nameless (after_argument ps more) (arguments_named ps more h.1))

argument_reads : (p : Part) (ps : List Part) (first : Expr) (steps : List (Access Expr)) (arguments : List Expr) (k : List Frame) (more : Spelled) → p.shape.right ≡ true → AreRight ps →
    run (p.words ++ after_argument ps more) (Need (Arguments first steps arguments ∷ k)) ≡ run (after_argument ps more) (Have p.value (Arguments first steps arguments ∷ k))
argument_reads p ps first steps arguments k more right h = p.reads (Arguments first steps arguments ∷ k) (after_argument ps more)
    (whole_fits (Arguments first steps arguments ∷ k) p.shape (after_argument ps more) refl refl (arguments_ahead ps more) (arguments_named ps more h) right)

more_arguments : (ps : List Part) (x : Expr) (first : Expr) (steps : List (Access Expr)) (arguments : List Expr) (k : List Frame) (more : Spelled) → AreRight ps →
    run (after_argument ps more) (Have x (Arguments first steps arguments ∷ k)) ≡ run more (boxed more first (steps ++ access.Bracket (arguments ++ x ∷ values_of ps) ∷ []) k)
more_arguments [] x first steps arguments k more h = refl
more_arguments (p ∷ ps) x first steps arguments k more h =
    ap (λ ts. run ts (Need (Arguments first steps (arguments ++ x ∷ []) ∷ k))) (append_assoc p.words (after_each mark.Comma (words_of ps)) (symbol mark.CloseBracket ∷ more))
    ∙ (argument_reads p ps first steps (arguments ++ x ∷ []) k more h.0 h.1
    ∙ (more_arguments ps p.value first steps (arguments ++ x ∷ []) k more h.1
    ∙ ap (λ (xs : List Expr). run more (boxed more first (steps ++ access.Bracket xs ∷ []) k)) (append_assoc arguments (x ∷ []) (p.value ∷ values_of ps))))

arguments_read : (ps : List Part) (first : Expr) (steps : List (Access Expr)) (k : List Frame) (more : Spelled) → AreRight ps →
    run (separated mark.Comma (words_of ps) ++ symbol mark.CloseBracket ∷ more) (Boxing first steps k) ≡ run more (boxed more first (steps ++ access.Bracket (values_of ps) ∷ []) k)
arguments_read [] first steps k more h = refl
arguments_read (p ∷ ps) first steps k more h =
    ap (λ ts. run ts (Boxing first steps k)) (append_assoc p.words (after_each mark.Comma (words_of ps)) (symbol mark.CloseBracket ∷ more))
    ∙ (enters (Boxing first steps k) (Arguments first steps [] ∷ k) (λ t ts h. ap (λ s. on_box s t ts first steps k) h) p.words (after_argument ps more) (p.front h.0).starts
    ∙ (argument_reads p ps first steps [] k more h.0 h.1
    ∙ more_arguments ps p.value first steps [] k more h.1))

-- Joins.

abbrev pub step_shape : Access Part → Access Shape
step_shape (access.Dot p) = access.Dot p.shape
step_shape (access.Bracket ps) = access.Bracket (map (λ p. p.shape) ps)

abbrev pub step_spelled : Access Part → Access Spelled
step_spelled (access.Dot p) = access.Dot p.words
step_spelled (access.Bracket ps) = access.Bracket (words_of ps)

abbrev pub step_value : Access Part → Access Expr
step_value (access.Dot p) = access.Dot p.value
step_value (access.Bracket ps) = access.Bracket (values_of ps)

abbrev steps_words : List (Access Part) → Spelled
steps_words xs = joined (map access_words (map step_spelled xs))

abbrev after_steps : Shape → List (Access Part) → Shape
after_steps s xs = fold stepped s (map step_shape xs)

-- what is known where one more step is right
abbrev IsStep : Access Part → Type 0
IsStep (access.Dot p) = (p.shape.right ≡ true) × ((nat_le 17 p.shape.level || (p.shape.level == 0)) ≡ true)
IsStep (access.Bracket ps) = AreRight ps

record Stepped (s : Shape) (x : Access Part) : Type 0 where
  pub right : s.right ≡ true
  pub shut : s.is_open ≡ false
  pub it : IsStep x

taken : (s : Shape) (x : Access Part) → (stepped s (step_shape x)).right ≡ true → Stepped s x
taken s (access.Dot p) h =
    let two : (s.right && not s.is_open) ≡ true = both_left (s.right && not s.is_open) (may_end 17 p.shape) h in
    let ends : may_end 17 p.shape ≡ true = both_right (s.right && not s.is_open) (may_end 17 p.shape) h in
    record {
      right = both_left s.right (not s.is_open) two;
      shut = of_not s.is_open (both_right s.right (not s.is_open) two);
      it = (both_left p.shape.right (nat_le 17 p.shape.level || p.shape.level == 0) ends, both_right p.shape.right (nat_le 17 p.shape.level || p.shape.level == 0) ends);
    }
taken s (access.Bracket ps) h =
    let two : (s.right && not s.is_open) ≡ true = both_left (s.right && not s.is_open) (every (λ x. x.right) (map (λ p. p.shape) ps)) h in
    record {
      right = both_left s.right (not s.is_open) two;
      shut = of_not s.is_open (both_right s.right (not s.is_open) two);
      it = (right_before ps true (both_right (s.right && not s.is_open) (every (λ x. x.right) (map (λ p. p.shape) ps)) h)).1;
    }

step_zero : (s : Shape) (x : Access Part) → (not s.has_zero || (stepped s (step_shape x)).has_zero) ≡ true
step_zero s (access.Dot p) = has_first s.has_zero p.shape.has_zero
step_zero s (access.Bracket ps) = has_first s.has_zero false

kept_one : (s : Shape) (x : Access Part) → Kept 16 s (stepped s (step_shape x))
kept_one s (access.Dot p) = record { is_level = refl; minus = refl; no_block = refl; zero_in = step_zero s (access.Dot p); right = λ h. (taken s (access.Dot p) h).right }
kept_one s (access.Bracket ps) = record { is_level = refl; minus = refl; no_block = refl; zero_in = step_zero s (access.Bracket ps); right = λ h. (taken s (access.Bracket ps) h).right }

kept : (xs : List (Access Part)) (s : Shape) → s.level ≡ 16 → s.is_block ≡ false → Kept 16 s (after_steps s xs)
kept [] s is no_block = record { is_level = is; minus = refl; no_block = no_block; zero_in = itself s.has_zero; right = λ h. h }
kept (x ∷ xs) s is no_block =
    let one : Kept 16 s (stepped s (step_shape x)) = kept_one s x in
    let rest : Kept 16 (stepped s (step_shape x)) (after_steps (stepped s (step_shape x)) xs) = kept xs (stepped s (step_shape x)) one.is_level one.no_block in record {
      is_level = rest.is_level;
      minus = rest.minus ∙ one.minus;
      no_block = rest.no_block;
      zero_in = three_zeros s.has_zero (stepped s (step_shape x)).has_zero (after_steps (stepped s (step_shape x)) xs).has_zero one.zero_in rest.zero_in;
      right = λ h. one.right (rest.right h);
    }

steps_ahead : (x : Access Part) (xs : List (Access Part)) (more : Spelled) → ahead (steps_words (x ∷ xs) ++ more) ≡ 32
steps_ahead (access.Dot p) xs more = refl
steps_ahead (access.Bracket ps) xs more = refl

-- what is read behind these steps of a join, where the tokens are those
record Takes (first : Expr) (steps : List (Access Expr)) (k : List Frame) (at : Spelled → State) : Type 0 where
  pub dot : (ts : Spelled) → run (symbol mark.Dot ∷ ts) (at (symbol mark.Dot ∷ ts)) ≡ run ts (Need (Steps first steps ∷ k))
  pub box : (ts : Spelled) → run (symbol mark.OpenBracket ∷ ts) (at (symbol mark.OpenBracket ∷ ts)) ≡ run ts (Boxing first steps k)

abbrev Ends : Expr → List (Access Expr) → List Frame → (Spelled → State) → Type 0
Ends first steps k at = (ts : Spelled) → nat_lt (ahead ts) 32 ≡ true → run ts (at ts) ≡ run ts (Have (roll-Expr (Expr-F.Join first steps)) k)

abbrev behind : Access Part → Expr → List (Access Expr) → List Frame → Spelled → State
behind (access.Dot p) first steps k ts = Have p.value (Steps first steps ∷ k)
behind (access.Bracket ps) first steps k ts = boxed ts first (steps ++ access.Bracket (values_of ps) ∷ []) k

behind_takes : (x : Access Part) (first : Expr) (steps : List (Access Expr)) (k : List Frame) → Takes first (steps ++ step_value x ∷ []) k (behind x first steps k)
behind_takes (access.Dot p) first steps k = record { dot = λ ts. refl; box = λ ts. refl }
behind_takes (access.Bracket ps) first steps k = record { dot = λ ts. refl; box = λ ts. refl }

not_32 : (n : ℕ) → nat_lt n 32 ≡ true → (n == 32) ≡ false
not_32 n h = grind (arith, nat_tests)

behind_ends : (x : Access Part) (first : Expr) (steps : List (Access Expr)) (k : List Frame) → Ends first (steps ++ step_value x ∷ []) k (behind x first steps k)
behind_ends (access.Dot p) first steps k ts h = pops (Steps first steps) p.value k ts h
behind_ends (access.Bracket ps) first steps k ts h = ap (λ b. run ts (by_slash b (Boxed first (steps ++ access.Bracket (values_of ps) ∷ []) k) (Have (roll-Expr (Expr-F.Join first (steps ++ access.Bracket (values_of ps) ∷ []))) k))) (not_32 (ahead ts) h)

step_fits : (p : Part) (xs : List (Access Part)) (s : Shape) (k : List Frame) (more : Spelled) (first : Expr) (steps : List (Access Expr)) → Fits k (after_steps (stepped s (access.Dot p.shape)) xs) more → Stepped s (access.Dot p) →
    Fits (Steps first steps ∷ k) p.shape (steps_words xs ++ more)
step_fits p [] s k more first steps fits known =
    last_fits (Steps first steps) k (stepped s (access.Dot p.shape)) p.shape more fits refl known.it.0 (row_tight 16 p.shape.level known.it.1) (omega arith) (omega arith) (row_level 16 16 p.shape.level refl known.it.1)
    (has_second s.has_zero p.shape.has_zero) refl (itself p.shape.is_bare)
step_fits p (x ∷ xs) s k more first steps fits known =
    let one : Kept 16 (stepped s (access.Dot p.shape)) (stepped (stepped s (access.Dot p.shape)) (step_shape x)) = kept_one (stepped s (access.Dot p.shape)) x in
    let rest : Kept 16 (stepped (stepped s (access.Dot p.shape)) (step_shape x)) (after_steps (stepped s (access.Dot p.shape)) (x ∷ xs)) = kept xs (stepped (stepped s (access.Dot p.shape)) (step_shape x)) one.is_level one.no_block in
    let next : Stepped (stepped s (access.Dot p.shape)) x = taken (stepped s (access.Dot p.shape)) x (rest.right fits.right) in
    inner_fits (Steps first steps) k (after_steps (stepped s (access.Dot p.shape)) (x ∷ xs)) p.shape more (steps_words (x ∷ xs) ++ more) fits refl known.it.0 (row_tight 16 p.shape.level known.it.1)
    (subst (λ n. 0 < n) (sym rest.is_level) (omega arith)) (row_level (after_steps (stepped s (access.Dot p.shape)) (x ∷ xs)).level 16 p.shape.level rest.is_level known.it.1)
    (three_zeros p.shape.has_zero (stepped s (access.Dot p.shape)).has_zero (after_steps (stepped s (access.Dot p.shape)) (x ∷ xs)).has_zero (has_second s.has_zero p.shape.has_zero)
    (three_zeros (stepped s (access.Dot p.shape)).has_zero (stepped (stepped s (access.Dot p.shape)) (step_shape x)).has_zero (after_steps (stepped s (access.Dot p.shape)) (x ∷ xs)).has_zero one.zero_in rest.zero_in)) next.shut
    (subst (λ n. nat_lt n (limit_of false p.shape.is_bare p.shape.level) ≡ true) (sym (steps_ahead x xs more)) (inner_limit p.shape.is_bare 16 p.shape.level (omega arith) (omega arith) known.it.1))
    (no_name (steps_words (x ∷ xs) ++ more) (subst (λ n. nat_lt 0 n ≡ true) (sym (steps_ahead x xs more)) refl))

-- one step
step_reads : (x : Access Part) (xs : List (Access Part)) (s : Shape) (k : List Frame) (more : Spelled) (first : Expr) (steps : List (Access Expr)) (at : Spelled → State) → Takes first steps k at → Fits k (after_steps (stepped s (step_shape x)) xs) more → Stepped s x →
    run (steps_words (x ∷ xs) ++ more) (at (steps_words (x ∷ xs) ++ more)) ≡ run (steps_words xs ++ more) (behind x first steps k (steps_words xs ++ more))
step_reads (access.Dot p) xs s k more first steps at takes fits known =
    takes.dot ((p.words ++ steps_words xs) ++ more)
    ∙ (ap (λ ts. run ts (Need (Steps first steps ∷ k))) (append_assoc p.words (steps_words xs) more)
    ∙ p.reads (Steps first steps ∷ k) (steps_words xs ++ more) (step_fits p xs s k more first steps fits known))
step_reads (access.Bracket ps) xs s k more first steps at takes fits known =
    takes.box (((separated mark.Comma (words_of ps) ++ symbol mark.CloseBracket ∷ []) ++ steps_words xs) ++ more)
    ∙ (ap (λ ts. run ts (Boxing first steps k)) (append_assoc (separated mark.Comma (words_of ps) ++ symbol mark.CloseBracket ∷ []) (steps_words xs) more ∙ append_assoc (separated mark.Comma (words_of ps)) (symbol mark.CloseBracket ∷ []) (steps_words xs ++ more))
    ∙ arguments_read ps first steps k (steps_words xs ++ more) known.it)

steps_read : (xs : List (Access Part)) (s : Shape) (k : List Frame) (more : Spelled) (first : Expr) (steps : List (Access Expr)) (at : Spelled → State) → Takes first steps k at → Ends first steps k at → s.level ≡ 16 → s.is_block ≡ false → Fits k (after_steps s xs) more →
    run (steps_words xs ++ more) (at (steps_words xs ++ more)) ≡ run more (Have (roll-Expr (Expr-F.Join first (steps ++ map step_value xs))) k)
steps_read [] s k more first steps at takes ends is no_block fits =
    ends more (lower s.is_open s.is_bare 16 (ahead more) (omega arith) (omega arith) (subst (λ n. nat_lt (ahead more) (limit_of s.is_open s.is_bare n) ≡ true) is fits.ends))
    ∙ ap (λ (xs : List (Access Expr)). run more (Have (roll-Expr (Expr-F.Join first xs)) k)) (sym (append-nil steps))
steps_read (x ∷ xs) s k more first steps at takes ends is no_block fits =
    let one : Kept 16 s (stepped s (step_shape x)) = kept_one s x in
    let rest : Kept 16 (stepped s (step_shape x)) (after_steps s (x ∷ xs)) = kept xs (stepped s (step_shape x)) one.is_level one.no_block in
    step_reads x xs s k more first steps at takes fits (taken s x (rest.right fits.right))
    ∙ (steps_read xs (stepped s (step_shape x)) k more first (steps ++ step_value x ∷ []) (behind x first steps k) (behind_takes x first steps k) (behind_ends x first steps k) one.is_level one.no_block fits
    ∙ ap (λ (ys : List (Access Expr)). run more (Have (roll-Expr (Expr-F.Join first ys)) k)) (append_assoc steps (step_value x ∷ []) (map step_value xs)))

chained_new : (x : Expr) (k : List Frame) → nat_le (least_of k) 32 ≡ true → chained x k ≡ (x, [], k)
chained_new x [] h = refl
chained_new x (Row level first links i ∷ k) h = refl
chained_new x (Last n wrap ∷ k) h = refl
chained_new x (Consequence is_word condition ∷ k) h = refl
chained_new x (Steps first steps ∷ k) h = absurd (true≢false (sym h))
chained_new x (Closing wrap ∷ k) h = refl
chained_new x (Items items ∷ k) h = refl
chained_new x (Arguments first steps arguments ∷ k) h = refl
chained_new x (Bounds form decls is_disjoint names word ∷ k) h = refl
chained_new x (Values bindings name ∷ k) h = refl
chained_new x (Stop ∷ k) h = refl

-- what is known of a join
record Join_of (p : Part) (x : Access Part) (xs : List (Access Part)) (t : Shape) : Type 0 where
  pub right : p.shape.right ≡ true
  pub tight : 17 ≤ p.shape.level
  pub shut : p.shape.is_open ≡ false
  pub known : Stepped (begun 16 true p.shape) x
  pub all : Kept 16 (begun 16 true p.shape) t
  pub zero_in : (not p.shape.has_zero || t.has_zero) ≡ true

join_of : (p : Part) (x : Access Part) (xs : List (Access Part)) → (join p.shape (map step_shape (x ∷ xs))).right ≡ true → Join_of p x xs (join p.shape (map step_shape (x ∷ xs)))
join_of p x xs right =
    let s : Shape = begun 16 true p.shape in
    let one : Kept 16 s (stepped s (step_shape x)) = kept_one s x in
    let rest : Kept 16 (stepped s (step_shape x)) (join p.shape (map step_shape (x ∷ xs))) = kept xs (stepped s (step_shape x)) one.is_level one.no_block in
    let known : Stepped s x = taken s x (rest.right right) in
    let two : (p.shape.right && nat_le 17 p.shape.level) ≡ true = both_left (p.shape.right && nat_le 17 p.shape.level) true known.right in
    let zero_in : (not p.shape.has_zero || (join p.shape (map step_shape (x ∷ xs))).has_zero) ≡ true = three_zeros p.shape.has_zero (stepped s (step_shape x)).has_zero (join p.shape (map step_shape (x ∷ xs))).has_zero one.zero_in rest.zero_in in
    record {
      right = both_left p.shape.right (nat_le 17 p.shape.level) two;
      tight = at_most 17 p.shape.level (both_right p.shape.right (nat_le 17 p.shape.level) two);
      shut = known.shut;
      known = known;
      all = record { is_level = rest.is_level; minus = rest.minus ∙ one.minus; no_block = rest.no_block; zero_in = zero_in; right = λ h. one.right (rest.right h) };
      zero_in = zero_in;
    }

first_takes : (x : Expr) (k : List Frame) → settle 32 x k ≡ (x, k) → nat_le (least_of k) 32 ≡ true → Takes x [] k (λ ts. Have x k)
first_takes x k h tight = record {
  dot = λ ts. operates_at (symbol mark.Dot) ts x k 32 refl refl h ∙ ap (λ c. run ts (Need (Steps c.0 c.1 ∷ c.2))) (chained_new x k tight);
  box = λ ts. operates_at (symbol mark.OpenBracket) ts x k 32 refl refl h ∙ ap (λ c. run ts (Boxing c.0 c.1 c.2)) (chained_new x k tight);
}

pub a_join : (p : Part) (xs : List (Access Part)) → Reads (p.words ++ joined (map access_words (map step_spelled xs))) (join p.shape (map step_shape xs)) (roll-Expr (Expr-F.Join p.value (map step_value xs)))
a_join p [] k more fits = absurd (true≢false (sym (both_right (p.shape.right && nat_le 17 p.shape.level) false fits.right)))
a_join p (x ∷ xs) k more fits =
    let t : Shape = join p.shape (map step_shape (x ∷ xs)) in
    let it : Join_of p x xs t = join_of p x xs fits.right in
    let le : 17 ≤ p.shape.level = it.tight in
    let one : Kept 16 (begun 16 true p.shape) (stepped (begun 16 true p.shape) (step_shape x)) = kept_one (begun 16 true p.shape) x in
    ap (λ ts. run ts (Need k)) (append_assoc p.words (steps_words (x ∷ xs)) more)
    ∙ (p.reads k (steps_words (x ∷ xs) ++ more) (first_fits k t p.shape more (steps_words (x ∷ xs) ++ more) fits it.right it.shut (subst (λ n. 0 < n) (sym it.all.is_level) (omega arith))
    (subst (λ n. n ≤ p.shape.level) (sym it.all.is_level) (omega (arith, le))) it.zero_in
    (subst (λ n. nat_lt n (limit_of false p.shape.is_bare p.shape.level) ≡ true) (sym (steps_ahead x xs more)) (lead_limit p.shape.is_bare p.shape.level 32 (omega (arith, le)) (omega (arith, le)) (λ bare e. omega (arith, le, e))))
    (no_name (steps_words (x ∷ xs) ++ more) (subst (λ n. nat_lt 0 n ≡ true) (sym (steps_ahead x xs more)) refl)))
    ∙ (step_reads x xs (begun 16 true p.shape) k more p.value [] (λ ts. Have p.value k) (first_takes p.value k
    (subst (λ n. settle (2 * n) p.value k ≡ (p.value, k)) it.all.is_level (leads k t more p.value (2 * t.level) fits (subst (λ n. 0 < n) (sym it.all.is_level) (omega arith)) (omega arith)))
    (reached (least_of k) t.level fits.tight it.all.is_level)) fits it.known
    ∙ steps_read xs (stepped (begun 16 true p.shape) (step_shape x)) k more p.value (step_value x ∷ []) (behind x p.value [] k) (behind_takes x p.value [] k) (behind_ends x p.value [] k) one.is_level one.no_block fits))
  where
    reached : (n m : ℕ) → (nat_le n (2 * m) || (m == 0)) ≡ true → m ≡ 16 → nat_le n 32 ≡ true
    reached n m h e = grind (arith, nat_tests)

pub join_front : (p : Part) (xs : List (Access Part)) → (join p.shape (map step_shape xs)).right ≡ true → Front (p.words ++ joined (map access_words (map step_spelled xs))) (join p.shape (map step_shape xs))
join_front p [] right = absurd (true≢false (sym (both_right (p.shape.right && nat_le 17 p.shape.level) false right)))
join_front p (x ∷ xs) right =
    let t : Shape = join p.shape (map step_shape (x ∷ xs)) in
    let it : Join_of p x xs t = join_of p x xs right in
    let le : 17 ≤ p.shape.level = it.tight in
    node_front p.words (steps_words (x ∷ xs)) t p.shape (p.front it.right) it.all.minus it.all.no_block (subst (λ n. 0 < n) (sym it.all.is_level) (omega arith))
    (subst (λ n. n ≤ p.shape.level) (sym it.all.is_level) (omega (arith, le)))
    (λ more. subst (λ n. nat_lt 0 n ≡ true) (sym (steps_ahead x xs more)) refl)
