-- Forms with variables, comprehensions and `let`.
use Rattle.std.proofs.Common.{◌≡◌, inl, inr, ℕ, ◌+◌, ◌≤◌, max, Bool, true, false, not, ◌&&◌, ◌||◌, if◌then◌else◌, List, [], ◌∷◌, ◌++◌, Option, Some, None, map, fold, refl, sym, ap, subst, ◌∙◌, true≢false, arith, append_assoc}
use Rattle.syntax_tree.specs.declared.token.TokenKind.{TokenKind}
use Rattle.syntax_tree.specs.declared.token.Symbol.TheVariants as s
use Rattle.syntax_tree.specs.declared.token.Word.TheVariants as w
use Rattle.syntax_tree.specs.declared.operator.Quantifier.{Quantifier}
use Rattle.syntax_tree.specs.declared.operator.Quantifier.TheVariants as quantifier
use Rattle.syntax_tree.specs.declared.operator.Prefix.TheVariants as prefix
use Rattle.syntax_tree.specs.declared.operator.Multiplicity.{Multiplicity}
use Rattle.syntax_tree.specs.declared.operator.Multiplicity.TheVariants as multiplicity
use Rattle.syntax_tree.specs.declared.expr.Named.{Named}
use Rattle.syntax_tree.specs.declared.expr.Decl.{Decl}
use Rattle.syntax_tree.specs.declared.expr.Binding.{Binding}
use Rattle.syntax_tree.specs.declared.shape.Shape.{Shape}
use Rattle.syntax_tree.specs.Words.{Spelled, word, symbol, quantifier_word, multiplicity_words}
use Rattle.syntax_tree.specs.Spelling.{separated, after_each, optional, declared_name, decl_words, decls_words, binding_words, body_words}
use Rattle.syntax_tree.specs.Levels.{has_some, may_lead, may_bound, decl_right, decls_right, bindings_right, zero_form, quantified, comprehension, is_sum, is_multiplicity}
use Rattle.syntax_tree.specs.Depth.{deepest, bound_depths, value_depths}
use Rattle.syntax_machine.specs.declared.thread.Goal.{Goal}
use Rattle.syntax_machine.specs.declared.thread.Declared.{Declared}
use Rattle.syntax_machine.specs.declared.thread.Declared.TheVariants as declared
use Rattle.syntax_machine.specs.declared.thread.State.{State}
use Rattle.syntax_machine.specs.declared.thread.State.TheVariants as state
use Rattle.syntax_machine.specs.declared.thread.Frame.TheVariants as frame
use Rattle.syntax_machine.specs.declared.thread.Item.TheVariants.{Need, Want, Have, Then}
use Rattle.syntax_machine.specs.Machine.{Thread, when, each, inner, has_room, deeper, bound, value, whole, body, a_block, have, binding, bodied, room_of, with_bound, is_mult, a_symbol, is_symbol_bar, is_symbol_comma, begin, begin_prefix, begin_quantified, begin_any, wanted}
use Rattle.syntax_machine.specs.Law.{is_within}
use Rattle.syntax_machine.proofs.Lives.{SomeOf, Lives, in_front, in_back, by_guard, on_each, begins, shifts, returns}
use Rattle.syntax_machine.proofs.Fits.{Fits, mark, both_left, both_right, both, true_or, or_true, no_block, not_of, least_of_all, has_room_for, within_inner, deeper_below, max_within, whole_fits, bound_fits, lead_right, lead_shut}
use Rattle.syntax_machine.proofs.Forms.{Followed}
use Rattle.syntax_machine.proofs.Rows.{Part}
use Rattle.syntax_machine.proofs.Lists.{begins_in, then_state}

-- Lists of variables.

abbrev pub decl_shape : Decl Part → Decl Shape
decl_shape d = record { place = d.place; is_disjoint = d.is_disjoint; names = d.names; bound_place = d.bound_place; word = d.word; bound = d.bound.shape }

abbrev pub decl_spelled : Decl Part → Decl Spelled
decl_spelled d = record { place = d.place; is_disjoint = d.is_disjoint; names = d.names; bound_place = d.bound_place; word = d.word; bound = d.bound.words }

abbrev pub decl_depth : Decl Part → Decl ℕ
decl_depth d = record { place = d.place; is_disjoint = d.is_disjoint; names = d.names; bound_place = d.bound_place; word = d.word; bound = d.bound.depth }

variables : (name : Named) (names : List Named) (c : Declared) (k : Thread) (tokens : Spelled) → Lives tokens (Want (state.Bound c) ∷ k) →
    Lives (separated s.Comma (map declared_name (name ∷ names)) ++ symbol s.Colon ∷ tokens) (Want (state.Variable c) ∷ k)
variables name [] c k tokens h = inr (inl (inl h))
variables name (next ∷ names) c k tokens h = inl (inl (variables next names c k tokens h))

-- what a thread that waits for a list of variables does at a name, one that waits for a variable does too
declares : (is_disjoint : Bool) (name : Named) (names : List Named) (c : Declared) (k : Thread) (tokens : Spelled) → Lives tokens (Want (state.Bound c) ∷ k) →
    Lives (optional is_disjoint (word w.Disj) ++ (separated s.Comma (map declared_name (name ∷ names)) ++ symbol s.Colon ∷ tokens)) (Want (state.Declare c) ∷ k)
declares true name names c k tokens h = inl (variables name names c k tokens h)
declares false name [] c k tokens h = variables name [] c k tokens h
declares false name (next ∷ names) c k tokens h = variables name (next ∷ names) c k tokens h

-- a bound, with a multiplicity word or without one
bounds : (o : Option Multiplicity) (c : Declared) (k : Thread) (tokens : Spelled) → Lives tokens (Need (bound (room_of c)) ∷ Then (frame.Bound c) ∷ k) → Lives (multiplicity_words o ++ tokens) (Want (state.Bound c) ∷ k)
bounds None c k tokens h = begins_in (state.Bound c) (bound (room_of c)) (Then (frame.Bound c) ∷ []) k
    (λ token ts. in_back (λ t. Lives ts (t ++ k)) (when (is_mult token) (Need (bound (room_of c)) ∷ Then (frame.Bound c) ∷ [])) (each (begin token (bound (room_of c))) (Then (frame.Bound c) ∷ []))) tokens h
bounds (Some multiplicity.Set) c k tokens h = inl h
bounds (Some multiplicity.One) c k tokens h = inl h
bounds (Some multiplicity.Lone) c k tokens h = inl h
bounds (Some multiplicity.Some) c k tokens h = inl h

-- Variables for c, whose argument is how deep it is so far.
module _ (c : ℕ → Declared) (r : Option ℕ) (e : ℕ) (within : (b : ℕ) → b + 1 ≤ e → is_within r b ≡ true) (room : (d : ℕ) → room_of (c d) ≡ r) (deep : (d b : ℕ) → with_bound (c d) b ≡ c (max d (deeper b)))
    (again : (d : ℕ) (k : Thread) (tokens : Spelled) → Lives tokens (Want (state.Declare (c d)) ∷ k) → Lives (symbol s.Comma ∷ tokens) (Want (state.NextDecl (c d)) ∷ k)) where
  pub decl_follows : (x : Decl Part) (d : ℕ) (k : Thread) (more : Spelled) → decl_right (decl_shape x) ≡ true → x.bound.depth + 1 ≤ e → d ≤ e → ((n : ℕ) → n ≤ e → Lives more (Want (state.NextDecl (c n)) ∷ k)) →
      Lives (decl_words (decl_spelled x) ++ more) (Want (state.Declare (c d)) ∷ k)
  decl_follows x d k more right below le then_ = by x.names refl
    where
      a_bound : Lives (x.bound.words ++ more) (Need (bound r) ∷ Then (frame.Bound (c d)) ∷ k)
      a_bound = x.bound.followed (bound r) (Then (frame.Bound (c d)) ∷ k) more
          (bound_fits r x.bound.shape x.bound.depth (both_right (has_some x.names) (may_bound x.bound.shape) right) (within x.bound.depth below))
          (λ n less. then_state more (state.NextDecl (with_bound (c d) n)) (bound r) (mark x.bound.shape) n (frame.Bound (c d)) k (λ token. refl)
          (subst (λ q. Lives more (Want (state.NextDecl q) ∷ k)) (sym (deep d n)) (then_ (max d (deeper n)) (max_within d (deeper n) e le (deeper_below n x.bound.depth e less below)))))

      behind : Lives (multiplicity_words x.word ++ (x.bound.words ++ more)) (Want (state.Bound (c d)) ∷ k)
      behind = bounds x.word (c d) k (x.bound.words ++ more) (subst (λ r. Lives (x.bound.words ++ more) (Need (bound r) ∷ Then (frame.Bound (c d)) ∷ k)) (sym (room d)) a_bound)

      by : (names : List Named) → x.names ≡ names → Lives (decl_words (decl_spelled x) ++ more) (Want (state.Declare (c d)) ∷ k)
      by [] is = absurd (true≢false (sym (both_left (has_some x.names) (may_bound x.bound.shape) right) ∙ ap (λ (ns : List Named). has_some ns) is))
      by (name ∷ names) is =
          subst (λ ns. Lives ((optional x.is_disjoint (word w.Disj) ++ (separated s.Comma (map declared_name ns) ++ symbol s.Colon ∷ (multiplicity_words x.word ++ x.bound.words))) ++ more) (Want (state.Declare (c d)) ∷ k)) (sym is)
          (subst (λ v. Lives v (Want (state.Declare (c d)) ∷ k))
          (sym (append_assoc (optional x.is_disjoint (word w.Disj)) (separated s.Comma (map declared_name (name ∷ names)) ++ symbol s.Colon ∷ (multiplicity_words x.word ++ x.bound.words)) more
          ∙ ap (λ v. optional x.is_disjoint (word w.Disj) ++ v) (append_assoc (separated s.Comma (map declared_name (name ∷ names))) (symbol s.Colon ∷ (multiplicity_words x.word ++ x.bound.words)) more
          ∙ ap (λ v. separated s.Comma (map declared_name (name ∷ names)) ++ symbol s.Colon ∷ v) (append_assoc (multiplicity_words x.word) x.bound.words more))))
          (declares x.is_disjoint name names (c d) k (multiplicity_words x.word ++ (x.bound.words ++ more)) behind))

  decls_before : (xs : List (Decl Part)) (ok : Bool) → fold (λ passed x. passed && decl_right x) ok (map decl_shape xs) ≡ true → ok ≡ true
  decls_before [] ok h = h
  decls_before (x ∷ xs) ok h = both_left ok (decl_right (decl_shape x)) (decls_before xs (ok && decl_right (decl_shape x)) h)

  more_decls : (xs : List (Decl Part)) (ok : Bool) (d : ℕ) (k : Thread) (more : Spelled) → fold (λ passed x. passed && decl_right x) ok (map decl_shape xs) ≡ true → deepest (bound_depths (map decl_depth xs)) + 1 ≤ e → d ≤ e →
      ((n : ℕ) → n ≤ e → Lives more (Want (state.NextDecl (c n)) ∷ k)) → Lives (after_each s.Comma (map decl_words (map decl_spelled xs)) ++ more) (Want (state.NextDecl (c d)) ∷ k)
  more_decls [] ok d k more right below le then_ = then_ d le
  more_decls (x ∷ xs) ok d k more right below le then_ =
      again d k ((decl_words (decl_spelled x) ++ after_each s.Comma (map decl_words (map decl_spelled xs))) ++ more)
      (subst (λ v. Lives v (Want (state.Declare (c d)) ∷ k)) (sym (append_assoc (decl_words (decl_spelled x)) (after_each s.Comma (map decl_words (map decl_spelled xs))) more))
      (decl_follows x d k (after_each s.Comma (map decl_words (map decl_spelled xs)) ++ more) (both_right ok (decl_right (decl_shape x)) (decls_before xs (ok && decl_right (decl_shape x)) right)) (omega (arith, below)) le
      (λ n less. more_decls xs (ok && decl_right (decl_shape x)) n k more right (omega (arith, below)) less then_)))

  pub decls_follow : (xs : List (Decl Part)) (d : ℕ) (k : Thread) (more : Spelled) → decls_right (map decl_shape xs) ≡ true → deepest (bound_depths (map decl_depth xs)) + 1 ≤ e → d ≤ e →
      ((n : ℕ) → n ≤ e → Lives more (Want (state.NextDecl (c n)) ∷ k)) → Lives (decls_words (map decl_spelled xs) ++ more) (Want (state.Declare (c d)) ∷ k)
  decls_follow [] d k more right below le then_ = absurd (true≢false (sym right))
  decls_follow (x ∷ xs) d k more right below le then_ =
      subst (λ v. Lives v (Want (state.Declare (c d)) ∷ k)) (sym (append_assoc (decl_words (decl_spelled x)) (after_each s.Comma (map decl_words (map decl_spelled xs))) more))
      (decl_follows x d k (after_each s.Comma (map decl_words (map decl_spelled xs)) ++ more) (decls_before xs (decl_right (decl_shape x)) right) (omega (arith, below)) le
      (λ n less. more_decls xs (decl_right (decl_shape x)) n k more right (omega (arith, below)) less then_))

-- Bodies of forms for g.

body_fits : (g : Goal) (x : Shape) (d e : ℕ) → x.right ≡ true → g.has_bars ≡ true → d + 1 ≤ e → is_within g.room e ≡ true → Fits (body g) x d
body_fits g x d e right bars le within = record {
  right = right;
  tight = least_of_all x.level;
  forms = refl;
  bars = or_true g.has_bars (not x.is_open) bars;
  words = refl;
  minus = refl;
  block = refl;
  within = within_inner g.room d e le within;
}

block_fits : (room : Option ℕ) (x : Shape) (d e : ℕ) → x.right ≡ true → x.is_block ≡ true → d + 1 ≤ e → is_within room e ≡ true → Fits (a_block (inner room)) x d
block_fits room x d e right is_block le within = record { right = right; tight = refl; forms = refl; bars = refl; words = refl; minus = refl; block = is_block; within = within_inner room d e le within }

-- a state q in which a body may come, and a comma
body_follows : (g : Goal) (must_bar : Bool) (n : ℕ) (q : State) (other k : Thread) → ((token : TokenKind) → wanted token q ≡ when (a_symbol is_symbol_comma token) other ++ bodied token g must_bar n) →
    (has_bar : Bool) (p : Part) (more : Spelled) (e : ℕ) → p.shape.right ≡ true → (has_bar || p.shape.is_block) ≡ true → (has_bar || not must_bar) ≡ true → (g.has_bars || not has_bar) ≡ true →
    p.depth + 1 ≤ e → is_within g.room e ≡ true → n ≤ e → ((m : ℕ) → m ≤ e → Lives more (Have g (record { level = 0; is_open = has_bar; is_bare = has_bar && p.shape.is_bare }) m ∷ k)) →
    Lives (body_words has_bar p.words ++ more) (Want q ∷ k)
body_follows g must_bar n q other k same true p more e right is_block bars_in bars below within le then_ =
    on_each (Lives (p.words ++ more)) k (wanted (symbol s.Bar) q) (subst (λ ts. SomeOf (λ t. Lives (p.words ++ more) (t ++ k)) ts) (sym (same (symbol s.Bar)))
    (in_front (λ t. Lives (p.words ++ more) (t ++ k)) (when g.has_bars (Need (body g) ∷ Then (frame.Body g true n) ∷ [])) (if must_bar then [] else each (begin (symbol s.Bar) (a_block (inner g.room))) (Then (frame.Body g false n) ∷ []))
    (by_guard (λ t. Lives (p.words ++ more) (t ++ k)) g.has_bars (Need (body g) ∷ Then (frame.Body g true n) ∷ []) (some_bars g.has_bars bars)
    (p.followed (body g) (Then (frame.Body g true n) ∷ k) more (body_fits g p.shape p.depth e right (some_bars g.has_bars bars) below within)
    (λ m less. returns more (body g) g (mark p.shape) (record { level = 0; is_open = true; is_bare = p.shape.is_bare }) m (max n (deeper m)) (frame.Body g true n) k refl
    (then_ (max n (deeper m)) (max_within n (deeper m) e le (deeper_below m p.depth e less below))))))))
  where
    some_bars : (b : Bool) → (b || false) ≡ true → b ≡ true
    some_bars true h = refl
    some_bars false h = h
body_follows g true n q other k same false p more e right is_block bars_in bars below within le then_ = absurd (true≢false (sym bars_in))
body_follows g false n q other k same false p more e right is_block bars_in bars below within le then_ =
    begins_in q (a_block (inner g.room)) (Then (frame.Body g false n) ∷ []) k
    (λ token ts h. subst (λ us. SomeOf (λ t. Lives ts (t ++ k)) us) (sym (same token))
    (in_back (λ t. Lives ts (t ++ k)) (when (a_symbol is_symbol_comma token) other) (bodied token g false n)
    (in_back (λ t. Lives ts (t ++ k)) (when (a_symbol is_symbol_bar token && g.has_bars) (Need (body g) ∷ Then (frame.Body g true n) ∷ [])) (each (begin token (a_block (inner g.room))) (Then (frame.Body g false n) ∷ [])) h)))
    (p.words ++ more)
    (p.followed (a_block (inner g.room)) (Then (frame.Body g false n) ∷ k) more (block_fits g.room p.shape p.depth e right is_block below within)
    (λ m less. returns more (a_block (inner g.room)) g (mark p.shape) (record { level = 0; is_open = false; is_bare = false }) m (max n (deeper m)) (frame.Body g false n) k refl
    (then_ (max n (deeper m)) (max_within n (deeper m) e le (deeper_below m p.depth e less below)))))

some_forms : (b : Bool) → (b || false) ≡ true → b ≡ true
some_forms true h = refl
some_forms false h = h

-- Forms with variables.

by_quantifier : (P : Thread → Type 0) (g : Goal) (q : Quantifier) → SomeOf P (begin_quantified (Some q) g) → SomeOf P (begin_any (word (quantifier_word q)) g)
by_quantifier P g quantifier.All h = in_front P (begin_quantified (Some quantifier.All) g) _ h
by_quantifier P g quantifier.No h = in_back P (begin_prefix (Some prefix.No) g) _ (in_front P (begin_quantified (Some quantifier.No) g) _ h)
by_quantifier P g quantifier.Some h = in_back P (begin_prefix (Some prefix.Some) g) _ (in_front P (begin_quantified (Some quantifier.Some) g) _ h)
by_quantifier P g quantifier.Lone h = in_back P (begin_prefix (Some prefix.Lone) g) _ (in_front P (begin_quantified (Some quantifier.Lone) g) _ h)
by_quantifier P g quantifier.One h = in_back P (begin_prefix (Some prefix.One) g) _ (in_front P (begin_quantified (Some quantifier.One) g) _ h)
by_quantifier P g quantifier.Sum h = in_front P (begin_quantified (Some quantifier.Sum) g) _ h

pub a_quantified : (q : Quantifier) (xs : List (Decl Part)) (has_bar : Bool) (p : Part) →
    Followed (word (quantifier_word q) ∷ (decls_words (map decl_spelled xs) ++ body_words has_bar p.words)) (quantified q (decls_right (map decl_shape xs)) has_bar p.shape) (max (deepest (bound_depths (map decl_depth xs))) p.depth + 1)
a_quantified q xs has_bar p g k more fits then_ =
    let three : ((decls_right (map decl_shape xs) && (has_bar || not (is_sum q))) && p.shape.right) ≡ true = both_left ((decls_right (map decl_shape xs) && (has_bar || not (is_sum q))) && p.shape.right) (has_bar || p.shape.is_block) fits.right in
    let two : (decls_right (map decl_shape xs) && (has_bar || not (is_sum q))) ≡ true = both_left (decls_right (map decl_shape xs) && (has_bar || not (is_sum q))) p.shape.right three in
    let bars_in : (has_bar || not (is_sum q)) ≡ true = both_right (decls_right (map decl_shape xs)) (has_bar || not (is_sum q)) two in
    begins (word (quantifier_word q)) ((decls_words (map decl_spelled xs) ++ body_words has_bar p.words) ++ more) g k (no_block g.is_block fits.block)
    (by_quantifier (λ t. Lives ((decls_words (map decl_spelled xs) ++ body_words has_bar p.words) ++ more) (t ++ k)) g q
    (by_guard (λ t. Lives ((decls_words (map decl_spelled xs) ++ body_words has_bar p.words) ++ more) (t ++ k))
    (((g.has_forms && (g.has_words || not (is_multiplicity q))) && (g.has_bars || not (is_sum q))) && has_room g.room 0) (Want (state.Declare (declared.Quantified g (is_sum q) 0)) ∷ [])
    (both ((g.has_forms && (g.has_words || not (is_multiplicity q))) && (g.has_bars || not (is_sum q))) (has_room g.room 0)
    (both (g.has_forms && (g.has_words || not (is_multiplicity q))) (g.has_bars || not (is_sum q))
    (both g.has_forms (g.has_words || not (is_multiplicity q)) (some_forms g.has_forms fits.forms) (words_in g.has_words (is_multiplicity q) fits.words))
    (bars_too g.has_bars has_bar (is_sum q) fits.bars bars_in))
    (has_room_for g.room 0 (max (deepest (bound_depths (map decl_depth xs))) p.depth + 1) (omega arith) fits.within))
    (subst (λ v. Lives v (Want (state.Declare (declared.Quantified g (is_sum q) 0)) ∷ k)) (sym (append_assoc (decls_words (map decl_spelled xs)) (body_words has_bar p.words) more))
    (decls_follow (λ d. declared.Quantified g (is_sum q) d) (inner g.room) (max (deepest (bound_depths (map decl_depth xs))) p.depth + 1) (λ b le. within_inner g.room b (max (deepest (bound_depths (map decl_depth xs))) p.depth + 1) le fits.within) (λ d. refl) (λ d b. refl) (λ d j tokens h. inl h)
    xs 0 k (body_words has_bar p.words ++ more) (both_left (decls_right (map decl_shape xs)) (has_bar || not (is_sum q)) two) (omega arith) (omega arith)
    (λ n le. body_follows g (is_sum q) n (state.NextDecl (declared.Quantified g (is_sum q) n)) (Want (state.Declare (declared.Quantified g (is_sum q) n)) ∷ []) k (λ token. refl) has_bar p more
    (max (deepest (bound_depths (map decl_depth xs))) p.depth + 1)
    (both_right (decls_right (map decl_shape xs) && (has_bar || not (is_sum q))) p.shape.right three)
    (both_right ((decls_right (map decl_shape xs) && (has_bar || not (is_sum q))) && p.shape.right) (has_bar || p.shape.is_block) fits.right)
    bars_in fits.bars (omega arith) fits.within le then_)))))
  where
    words_in : (f m : Bool) → (f || (not m || false)) ≡ true → (f || not m) ≡ true
    words_in true m h = refl
    words_in false true h = h
    words_in false false h = refl

    bars_too : (f h s : Bool) → (f || not h) ≡ true → (h || not s) ≡ true → (f || not s) ≡ true
    bars_too true h s p q = refl
    bars_too false true s p q = absurd (true≢false (sym p))
    bars_too false false s p q = q

-- Comprehensions.

inside_follows : (g : Goal) (n : ℕ) (k : Thread) (has_bar : Bool) (p : Part) (more : Spelled) (e : ℕ) → p.shape.right ≡ true → (has_bar || p.shape.is_block) ≡ true → p.depth + 1 ≤ e → is_within g.room e ≡ true → n ≤ e →
    ((m : ℕ) → m ≤ e → Lives more (have g m ∷ k)) → Lives (body_words has_bar p.words ++ symbol s.CloseBrace ∷ more) (Want (state.NextDecl (declared.Comprehension g n)) ∷ k)
inside_follows g n k true p more e right is_block below within le then_ =
    inl (p.followed (whole (inner g.room)) (Then (frame.Inside g n) ∷ k) (symbol s.CloseBrace ∷ more) (whole_fits g.room p.shape p.depth e right below within)
    (λ m less. shifts (symbol s.CloseBrace) more (whole (inner g.room)) (mark p.shape) m (frame.Inside g n) k (inl (then_ (max n (deeper m)) (max_within n (deeper m) e le (deeper_below m p.depth e less below))))))
inside_follows g n k false p more e right is_block below within le then_ =
    begins_in (state.NextDecl (declared.Comprehension g n)) (a_block (inner g.room)) (Then (frame.Inside g n) ∷ []) k
    (λ token ts h. in_back (λ t. Lives ts (t ++ k)) (when (a_symbol is_symbol_comma token) (Want (state.Declare (declared.Comprehension g n)) ∷ [])) _
    (in_back (λ t. Lives ts (t ++ k)) (when (a_symbol is_symbol_bar token) (Need (whole (inner g.room)) ∷ Then (frame.Inside g n) ∷ [])) (each (begin token (a_block (inner g.room))) (Then (frame.Inside g n) ∷ [])) h))
    (p.words ++ symbol s.CloseBrace ∷ more)
    (p.followed (a_block (inner g.room)) (Then (frame.Inside g n) ∷ k) (symbol s.CloseBrace ∷ more) (block_fits g.room p.shape p.depth e right is_block below within)
    (λ m less. shifts (symbol s.CloseBrace) more (a_block (inner g.room)) (mark p.shape) m (frame.Inside g n) k (inl (then_ (max n (deeper m)) (max_within n (deeper m) e le (deeper_below m p.depth e less below))))))

pub a_comprehension : (xs : List (Decl Part)) (has_bar : Bool) (p : Part) →
    Followed (symbol s.OpenBrace ∷ (decls_words (map decl_spelled xs) ++ (body_words has_bar p.words ++ symbol s.CloseBrace ∷ []))) (comprehension (decls_right (map decl_shape xs)) has_bar p.shape)
    (max (deepest (bound_depths (map decl_depth xs))) p.depth + 1)
a_comprehension xs has_bar p g k more fits then_ =
    let two : (decls_right (map decl_shape xs) && p.shape.right) ≡ true = both_left (decls_right (map decl_shape xs) && p.shape.right) (has_bar || p.shape.is_block) fits.right in
    begins (symbol s.OpenBrace) ((decls_words (map decl_spelled xs) ++ (body_words has_bar p.words ++ symbol s.CloseBrace ∷ [])) ++ more) g k (no_block g.is_block fits.block)
    (inr (by_guard (λ t. Lives ((decls_words (map decl_spelled xs) ++ (body_words has_bar p.words ++ symbol s.CloseBrace ∷ [])) ++ more) (t ++ k)) (has_room g.room 0) (Want (state.Declare (declared.Comprehension g 0)) ∷ [])
    (has_room_for g.room 0 (max (deepest (bound_depths (map decl_depth xs))) p.depth + 1) (omega arith) fits.within)
    (subst (λ v. Lives v (Want (state.Declare (declared.Comprehension g 0)) ∷ k))
    (sym (append_assoc (decls_words (map decl_spelled xs)) (body_words has_bar p.words ++ symbol s.CloseBrace ∷ []) more ∙ ap (λ v. decls_words (map decl_spelled xs) ++ v) (append_assoc (body_words has_bar p.words) (symbol s.CloseBrace ∷ []) more)))
    (decls_follow (λ d. declared.Comprehension g d) (inner g.room) (max (deepest (bound_depths (map decl_depth xs))) p.depth + 1) (λ b le. within_inner g.room b (max (deepest (bound_depths (map decl_depth xs))) p.depth + 1) le fits.within) (λ d. refl) (λ d b. refl) (λ d j ts h. inl h)
    xs 0 k (body_words has_bar p.words ++ symbol s.CloseBrace ∷ more) (both_left (decls_right (map decl_shape xs)) p.shape.right two) (omega arith) (omega arith)
    (λ n le. inside_follows g n k has_bar p more (max (deepest (bound_depths (map decl_depth xs))) p.depth + 1) (both_right (decls_right (map decl_shape xs)) p.shape.right two)
    (both_right (decls_right (map decl_shape xs) && p.shape.right) (has_bar || p.shape.is_block) fits.right) (omega arith) fits.within le then_)))))

-- `let`.

abbrev pub binding_shape : Binding Part → Binding Shape
binding_shape b = record { place = b.place; name = b.name; value = b.value.shape }

abbrev pub binding_spelled : Binding Part → Binding Spelled
binding_spelled b = record { place = b.place; name = b.name; value = b.value.words }

abbrev pub binding_depth : Binding Part → Binding ℕ
binding_depth b = record { place = b.place; name = b.name; value = b.value.depth }

value_fits : (room : Option ℕ) (x : Shape) (d e : ℕ) → may_lead 0 x ≡ true → d + 1 ≤ e → is_within room e ≡ true → Fits (value (inner room)) x d
value_fits room x d e may le within = record {
  right = lead_right 0 x may;
  tight = least_of_all x.level;
  forms = refl;
  bars = not_of x.is_open (lead_shut 0 x may);
  words = refl;
  minus = refl;
  block = refl;
  within = within_inner room d e le within;
}

module _ (g : Goal) (e : ℕ) (within : is_within g.room e ≡ true) where
  binding_follows : (b : Binding Part) (d : ℕ) (k : Thread) (more : Spelled) → may_lead 0 b.value.shape ≡ true → b.value.depth + 1 ≤ e → d ≤ e → ((n : ℕ) → n ≤ e → Lives more (Want (state.NextBinding g n) ∷ k)) →
      Lives (binding_words (binding_spelled b) ++ more) (binding g d ++ k)
  binding_follows b d k more right below le then_ = inl (inl (b.value.followed (value (inner g.room)) (Then (frame.Value g d) ∷ k) more (value_fits g.room b.value.shape b.value.depth e right below within)
      (λ n less. then_state more (state.NextBinding g (max d (deeper n))) (value (inner g.room)) (mark b.value.shape) n (frame.Value g d) k (λ token. refl)
      (then_ (max d (deeper n)) (max_within d (deeper n) e le (deeper_below n b.value.depth e less below))))))

  bindings_before : (bs : List (Binding Part)) (ok : Bool) → fold (λ passed b. passed && may_lead 0 b.value) ok (map binding_shape bs) ≡ true → ok ≡ true
  bindings_before [] ok h = h
  bindings_before (b ∷ bs) ok h = both_left ok (may_lead 0 b.value.shape) (bindings_before bs (ok && may_lead 0 b.value.shape) h)

  more_bindings : (bs : List (Binding Part)) (ok : Bool) (d : ℕ) (k : Thread) (more : Spelled) → fold (λ passed b. passed && may_lead 0 b.value) ok (map binding_shape bs) ≡ true → deepest (value_depths (map binding_depth bs)) + 1 ≤ e → d ≤ e →
      ((n : ℕ) → n ≤ e → Lives more (Want (state.NextBinding g n) ∷ k)) → Lives (after_each s.Comma (map binding_words (map binding_spelled bs)) ++ more) (Want (state.NextBinding g d) ∷ k)
  more_bindings [] ok d k more right below le then_ = then_ d le
  more_bindings (b ∷ bs) ok d k more right below le then_ =
      inl (subst (λ v. Lives v (binding g d ++ k)) (sym (append_assoc (binding_words (binding_spelled b)) (after_each s.Comma (map binding_words (map binding_spelled bs))) more))
      (binding_follows b d k (after_each s.Comma (map binding_words (map binding_spelled bs)) ++ more) (both_right ok (may_lead 0 b.value.shape) (bindings_before bs (ok && may_lead 0 b.value.shape) right)) (omega (arith, below)) le
      (λ n less. more_bindings bs (ok && may_lead 0 b.value.shape) n k more right (omega (arith, below)) less then_)))

  bindings_follow : (bs : List (Binding Part)) (k : Thread) (more : Spelled) → bindings_right (map binding_shape bs) ≡ true → deepest (value_depths (map binding_depth bs)) + 1 ≤ e →
      ((n : ℕ) → n ≤ e → Lives more (Want (state.NextBinding g n) ∷ k)) → Lives (separated s.Comma (map binding_words (map binding_spelled bs)) ++ more) (binding g 0 ++ k)
  bindings_follow [] k more right below then_ = absurd (true≢false (sym right))
  bindings_follow (b ∷ bs) k more right below then_ =
      subst (λ v. Lives v (binding g 0 ++ k)) (sym (append_assoc (binding_words (binding_spelled b)) (after_each s.Comma (map binding_words (map binding_spelled bs))) more))
      (binding_follows b 0 k (after_each s.Comma (map binding_words (map binding_spelled bs)) ++ more) (bindings_before bs (may_lead 0 b.value.shape) right) (omega (arith, below)) (omega arith)
      (λ n less. more_bindings bs (may_lead 0 b.value.shape) n k more right (omega (arith, below)) less then_))

pub a_let : (bs : List (Binding Part)) (has_bar : Bool) (p : Part) →
    Followed (word w.Let ∷ (separated s.Comma (map binding_words (map binding_spelled bs)) ++ body_words has_bar p.words)) (zero_form (bindings_right (map binding_shape bs)) has_bar p.shape false)
    (max (deepest (value_depths (map binding_depth bs))) p.depth + 1)
a_let bs has_bar p g k more fits then_ =
    let two : (bindings_right (map binding_shape bs) && p.shape.right) ≡ true = both_left (bindings_right (map binding_shape bs) && p.shape.right) (has_bar || p.shape.is_block) fits.right in
    begins (word w.Let) ((separated s.Comma (map binding_words (map binding_spelled bs)) ++ body_words has_bar p.words) ++ more) g k (no_block g.is_block fits.block)
    (by_guard (λ t. Lives ((separated s.Comma (map binding_words (map binding_spelled bs)) ++ body_words has_bar p.words) ++ more) (t ++ k)) (g.has_forms && has_room g.room 0) (binding g 0)
    (both g.has_forms (has_room g.room 0) (some_forms g.has_forms fits.forms) (has_room_for g.room 0 (max (deepest (value_depths (map binding_depth bs))) p.depth + 1) (omega arith) fits.within))
    (subst (λ v. Lives v (binding g 0 ++ k)) (sym (append_assoc (separated s.Comma (map binding_words (map binding_spelled bs))) (body_words has_bar p.words) more))
    (bindings_follow g (max (deepest (value_depths (map binding_depth bs))) p.depth + 1) fits.within bs k (body_words has_bar p.words ++ more) (both_left (bindings_right (map binding_shape bs)) p.shape.right two) (omega arith)
    (λ n le. body_follows g false n (state.NextBinding g n) (binding g n) k (λ token. refl) has_bar p more (max (deepest (value_depths (map binding_depth bs))) p.depth + 1)
    (both_right (bindings_right (map binding_shape bs)) p.shape.right two) (both_right (bindings_right (map binding_shape bs) && p.shape.right) (has_bar || p.shape.is_block) fits.right) (true_or has_bar true refl) fits.bars
    (omega arith) fits.within le then_))))
