-- Forms with variables, comprehensions and `let`.
use Rattle.std.proofs.Common.{◌≡◌, ℕ, ◌*◌, Bool, true, false, not, ◌&&◌, ◌||◌, ◌==◌, nat_le, nat_lt, List, [], ◌∷◌, ◌++◌, Option, Some, None, map, fold, refl, sym, ap, subst, ◌∙◌, true≢false, arith, append_assoc}
use Rattle.std.proofs.lemmas.Bool.Decides.{nat_tests}
use Rattle.syntax_tree.specs.declared.token.TokenKind.{TokenKind}
use Rattle.syntax_tree.specs.declared.token.TokenKind.TheVariants as kind
use Rattle.syntax_tree.specs.declared.token.Word.{Word}
use Rattle.syntax_tree.specs.declared.token.Word.TheVariants as w
use Rattle.syntax_tree.specs.declared.token.Symbol.TheVariants as mark
use Rattle.syntax_tree.specs.declared.operator.Quantifier.{Quantifier}
use Rattle.syntax_tree.specs.declared.operator.Quantifier.TheVariants as quantifier
use Rattle.syntax_tree.specs.declared.operator.Prefix.TheVariants as prefix
use Rattle.syntax_tree.specs.declared.operator.Multiplicity.{Multiplicity}
use Rattle.syntax_tree.specs.declared.operator.Multiplicity.TheVariants as multiplicity
use Rattle.syntax_tree.specs.declared.expr.Named.{Named}
use Rattle.syntax_tree.specs.declared.expr.Decl.{Decl}
use Rattle.syntax_tree.specs.declared.expr.Binding.{Binding}
use Rattle.syntax_tree.specs.declared.expr.Expr.{Expr}
use Rattle.syntax_tree.specs.declared.expr.Expr.TheOpen.{Expr-F}
use Rattle.syntax_tree.specs.declared.expr.Expr.TheViews.{roll-Expr}
use Rattle.syntax_tree.specs.declared.shape.Shape.{Shape}
use Rattle.syntax_tree.specs.Words.{Spelled, word, symbol, quantifier_word, multiplicity_words}
use Rattle.syntax_tree.specs.Spelling.{separated, after_each, optional, declared_name, decl_words, decls_words, binding_words, body_words}
use Rattle.syntax_tree.specs.Levels.{has_some, may_lead, may_bound, decl_right, decls_right, bindings_right, zero_form, quantified, comprehension, is_sum, is_multiplicity}
use Rattle.syntax_single.specs.Placeless.{nowhere, placeless_named, placeless_decl, placeless_binding}
use Rattle.syntax_single.proofs.Reader.{Form, Quantify, Comprehend, Frame, Last, Closing, Bounds, Values, Need, Have, Names, Bounding, Lets, Blocking, other, sign, sign_at, named, looks, ahead, arrow_ahead, forms, settle, by_look, unless, word_at, before, quantify, begin, body, body_low, let_body, a_decl, on_decl, on_value, on_bound, go_on, run}
use Rattle.syntax_single.proofs.Fits.{both_left, both_right, or_true, below, limit_of, lead_limit, no_limit, Fits, whole_fits, pops}
use Rattle.syntax_single.proofs.Forms.{Reads, Front, Part, starts_front, in_brackets}
use Rattle.syntax_single.proofs.Operators.{lead_right}

-- Lists of variables.

abbrev pub decl_shape : Decl Part → Decl Shape
decl_shape d = record { place = d.place; is_disjoint = d.is_disjoint; names = d.names; bound_place = d.bound_place; word = d.word; bound = d.bound.shape }

abbrev pub decl_spelled : Decl Part → Decl Spelled
decl_spelled d = record { place = d.place; is_disjoint = d.is_disjoint; names = d.names; bound_place = d.bound_place; word = d.word; bound = d.bound.words }

abbrev pub decl_value : Decl Part → Decl Expr
decl_value d = record { place = d.place; is_disjoint = d.is_disjoint; names = d.names; bound_place = d.bound_place; word = d.word; bound = d.bound.value }

names_read : (n : Named) (ns : List Named) (form : Form) (decls : List (Decl Expr)) (is_disjoint : Bool) (so_far : List Named) (k : List Frame) (ts : Spelled) →
    run (separated mark.Comma (map declared_name (n ∷ ns)) ++ symbol mark.Colon ∷ ts) (Names form decls is_disjoint so_far k) ≡ run ts (Bounding form decls is_disjoint (so_far ++ map placeless_named (n ∷ ns)) k)
names_read n [] form decls is_disjoint so_far k ts = refl
names_read n (m ∷ ns) form decls is_disjoint so_far k ts = names_read m ns form decls is_disjoint (so_far ++ placeless_named n ∷ []) k ts
    ∙ ap (λ xs. run ts (Bounding form decls is_disjoint xs k)) (append_assoc so_far (placeless_named n ∷ []) (map placeless_named (m ∷ ns)))

disjoint_reads : (is_disjoint : Bool) (form : Form) (decls : List (Decl Expr)) (k : List Frame) (ts : Spelled) → run (optional is_disjoint (word w.Disj) ++ ts) (Names form decls false [] k) ≡ run ts (Names form decls is_disjoint [] k)
disjoint_reads true form decls k ts = refl
disjoint_reads false form decls k ts = refl

pub bound_right : (b : Part) → may_bound b.shape ≡ true → b.shape.right ≡ true
bound_right b h = both_left b.shape.right (nat_le 10 b.shape.level) (both_left (b.shape.right && nat_le 10 b.shape.level) (not b.shape.has_zero) h)

bound_level : (b : Part) → may_bound b.shape ≡ true → nat_le 10 b.shape.level ≡ true
bound_level b h = both_right b.shape.right (nat_le 10 b.shape.level) (both_left (b.shape.right && nat_le 10 b.shape.level) (not b.shape.has_zero) h)

-- a bound begins with no multiplicity word
pub bound_wordless : (b : Part) (more : Spelled) → may_bound b.shape ≡ true → word_at false (b.words ++ more) ≡ None
bound_wordless b more h = (b.front (bound_right b h)).wordless false more (or_true (nat_le 10 b.shape.level) ((b.shape.level == 0) && (false || not (b.shape.is_worded && b.shape.has_zero))) (bound_level b h))

bound_begins : (o : Option Multiplicity) (b : Part) (form : Form) (decls : List (Decl Expr)) (is_disjoint : Bool) (names : List Named) (k : List Frame) (more : Spelled) → may_bound b.shape ≡ true →
    run (multiplicity_words o ++ (b.words ++ more)) (Bounding form decls is_disjoint names k) ≡ run (b.words ++ more) (Need (Bounds form decls is_disjoint names o ∷ k))
bound_begins (Some multiplicity.Set) b form decls is_disjoint names k more h = refl
bound_begins (Some multiplicity.One) b form decls is_disjoint names k more h = refl
bound_begins (Some multiplicity.Lone) b form decls is_disjoint names k more h = refl
bound_begins (Some multiplicity.Some) b form decls is_disjoint names k more h = refl
bound_begins None b form decls is_disjoint names k more h = by b.words (b.front (bound_right b h)).starts (bound_wordless b more h)
  where
    by : (v : Spelled) → sign_at v ≡ other → word_at false (v ++ more) ≡ None → run (v ++ more) (Bounding form decls is_disjoint names k) ≡ run (v ++ more) (Need (Bounds form decls is_disjoint names None ∷ k))
    by [] starts none = cc
    by (t ∷ ts) starts none = ap (λ o. run (ts ++ more) (on_bound o t (ts ++ more) form decls is_disjoint names k)) none

bound_fits : (b : Part) (form : Form) (decls : List (Decl Expr)) (is_disjoint : Bool) (names : List Named) (o : Option Multiplicity) (k : List Frame) (more : Spelled) → may_bound b.shape ≡ true → ahead more ≡ 0 →
    Fits (Bounds form decls is_disjoint names o ∷ k) b.shape more
bound_fits b form decls is_disjoint names o k more h quiet = record {
  right = bound_right b h;
  tight = any b.shape.level (bound_level b h);
  zero_in = zero (not b.shape.has_zero) (nat_le 10 b.shape.level) (both_right (b.shape.right && nat_le 10 b.shape.level) (not b.shape.has_zero) h) (bound_level b h);
  ends = subst (λ n. nat_lt n (limit_of b.shape.is_open b.shape.is_bare b.shape.level) ≡ true) (sym quiet) (no_limit b.shape.is_open b.shape.is_bare b.shape.level);
  shut = refl;
}
  where
    any : (n : ℕ) → nat_le 10 n ≡ true → (nat_le 1 (2 * n) || (n == 0)) ≡ true
    any n h = grind (arith, nat_tests)

    zero : (a c : Bool) → a ≡ true → c ≡ true → (a && (c || (b.shape.level == 0))) ≡ true
    zero true true p q = refl
    zero true false p q = absurd (true≢false (sym q))
    zero false c p q = absurd (true≢false (sym p))

decl_split : (d : Decl Part) (more : Spelled) → decl_words (decl_spelled d) ++ more ≡ optional d.is_disjoint (word w.Disj) ++ (separated mark.Comma (map declared_name d.names) ++ symbol mark.Colon ∷ (multiplicity_words d.word ++ (d.bound.words ++ more)))
decl_split d more = append_assoc (optional d.is_disjoint (word w.Disj)) (separated mark.Comma (map declared_name d.names) ++ symbol mark.Colon ∷ (multiplicity_words d.word ++ d.bound.words)) more
    ∙ ap (λ v. optional d.is_disjoint (word w.Disj) ++ v) (append_assoc (separated mark.Comma (map declared_name d.names)) (symbol mark.Colon ∷ (multiplicity_words d.word ++ d.bound.words)) more
    ∙ ap (λ v. separated mark.Comma (map declared_name d.names) ++ symbol mark.Colon ∷ v) (append_assoc (multiplicity_words d.word) d.bound.words more))

decl_reads : (d : Decl Part) (form : Form) (decls : List (Decl Expr)) (k : List Frame) (more : Spelled) → decl_right (decl_shape d) ≡ true → ahead more ≡ 0 →
    run (decl_words (decl_spelled d) ++ more) (Names form decls false [] k) ≡ run more (Have d.bound.value (Bounds form decls d.is_disjoint (map placeless_named d.names) d.word ∷ k))
decl_reads d form decls k more right quiet =
    let bounded : may_bound d.bound.shape ≡ true = both_right (has_some d.names) (may_bound d.bound.shape) right in
    ap (λ ts. run ts (Names form decls false [] k)) (decl_split d more)
    ∙ (disjoint_reads d.is_disjoint form decls k (separated mark.Comma (map declared_name d.names) ++ symbol mark.Colon ∷ (multiplicity_words d.word ++ (d.bound.words ++ more)))
    ∙ (by d.names (both_left (has_some d.names) (may_bound d.bound.shape) right)
    ∙ (bound_begins d.word d.bound form decls d.is_disjoint (map placeless_named d.names) k more bounded
    ∙ d.bound.reads (Bounds form decls d.is_disjoint (map placeless_named d.names) d.word ∷ k) more (bound_fits d.bound form decls d.is_disjoint (map placeless_named d.names) d.word k more bounded quiet))))
  where
    by : (ns : List Named) → has_some ns ≡ true → run (separated mark.Comma (map declared_name ns) ++ symbol mark.Colon ∷ (multiplicity_words d.word ++ (d.bound.words ++ more))) (Names form decls d.is_disjoint [] k)
        ≡ run (multiplicity_words d.word ++ (d.bound.words ++ more)) (Bounding form decls d.is_disjoint (map placeless_named ns) k)
    by [] some = absurd (true≢false (sym some))
    by (n ∷ ns) some = names_read n ns form decls d.is_disjoint [] k (multiplicity_words d.word ++ (d.bound.words ++ more))

-- behind a bound
at_bound : (t : TokenKind) (ts : Spelled) (x : Expr) (form : Form) (decls : List (Decl Expr)) (is_disjoint : Bool) (names : List Named) (o : Option Multiplicity) (k : List Frame) → ahead (t ∷ ts) ≡ 0 →
    run (t ∷ ts) (Have x (Bounds form decls is_disjoint names o ∷ k)) ≡ run ts (on_decl (sign t) t ts form (decls ++ a_decl is_disjoint names o x ∷ []) k)
at_bound t ts x form decls is_disjoint names o k quiet = ap (λ n. run ts (go_on n t ts (settle n x (Bounds form decls is_disjoint names o ∷ k)))) quiet

abbrev AreDecls : List (Decl Part) → Type 0
AreDecls [] = Unit {0}
AreDecls (d ∷ ds) = (decl_right (decl_shape d) ≡ true) × AreDecls ds

decls_before : (ds : List (Decl Part)) (ok : Bool) → fold (λ passed x. passed && decl_right x) ok (map decl_shape ds) ≡ true → (ok ≡ true) × AreDecls ds
decls_before [] ok h = (h, tt)
decls_before (d ∷ ds) ok h = let rest : ((ok && decl_right (decl_shape d)) ≡ true) × AreDecls ds = decls_before ds (ok && decl_right (decl_shape d)) h in
    (both_left ok (decl_right (decl_shape d)) rest.0, (both_right ok (decl_right (decl_shape d)) rest.0, rest.1))

abbrev decls_values : List (Decl Part) → List (Decl Expr)
decls_values ds = map placeless_decl (map decl_value ds)

decls_read : (d : Decl Part) (ds : List (Decl Part)) (form : Form) (decls : List (Decl Expr)) (k : List Frame) (t : TokenKind) (ts : Spelled) → AreDecls (d ∷ ds) → ahead (t ∷ ts) ≡ 0 →
    run (separated mark.Comma (map decl_words (map decl_spelled (d ∷ ds))) ++ t ∷ ts) (Names form decls false [] k) ≡ run ts (on_decl (sign t) t ts form (decls ++ decls_values (d ∷ ds)) k)
decls_read d [] form decls k t ts h quiet =
    ap (λ v. run v (Names form decls false [] k)) (append_assoc (decl_words (decl_spelled d)) [] (t ∷ ts))
    ∙ (decl_reads d form decls k (t ∷ ts) h.0 quiet
    ∙ at_bound t ts d.bound.value form decls d.is_disjoint (map placeless_named d.names) d.word k quiet)
decls_read d (e ∷ ds) form decls k t ts h quiet =
    ap (λ v. run v (Names form decls false [] k)) (append_assoc (decl_words (decl_spelled d)) (after_each mark.Comma (map decl_words (map decl_spelled (e ∷ ds)))) (t ∷ ts))
    ∙ (decl_reads d form decls k (after_each mark.Comma (map decl_words (map decl_spelled (e ∷ ds))) ++ t ∷ ts) h.0 refl
    ∙ (at_bound (symbol mark.Comma) (separated mark.Comma (map decl_words (map decl_spelled (e ∷ ds))) ++ t ∷ ts) d.bound.value form decls d.is_disjoint (map placeless_named d.names) d.word k refl
    ∙ (decls_read e ds form (decls ++ placeless_decl (decl_value d) ∷ []) k t ts h.1 quiet
    ∙ ap (λ xs. run ts (on_decl (sign t) t ts form xs k)) (append_assoc decls (placeless_decl (decl_value d) ∷ []) (decls_values (e ∷ ds))))))

-- the body behind them
body_begins : (ds : List (Decl Part)) (has_bar : Bool) (p : Part) (form : Form) (k : List Frame) (more : Spelled) → decls_right (map decl_shape ds) ≡ true → p.shape.right ≡ true → (has_bar || p.shape.is_block) ≡ true →
    run (decls_words (map decl_spelled ds) ++ (body_words has_bar p.words ++ more)) (Names form [] false [] k) ≡ run (p.words ++ more) (Need (body form (decls_values ds) has_bar ∷ k))
body_begins [] has_bar p form k more h right is_block = absurd (true≢false (sym h))
body_begins (d ∷ ds) true p form k more h right is_block = decls_read d ds form [] k (symbol mark.Bar) (p.words ++ more) (decls_before (d ∷ ds) true h).1 refl
body_begins (d ∷ ds) false p form k more h right is_block =
    let block : (rest : Spelled) × (p.words ≡ symbol mark.OpenBrace ∷ rest) × (p.shape.level ≡ 19) × (p.shape.is_open ≡ false) = (p.front right).opened is_block in
    subst (λ v. run (decls_words (map decl_spelled (d ∷ ds)) ++ (v ++ more)) (Names form [] false [] k) ≡ run (v ++ more) (Need (body form (decls_values (d ∷ ds)) false ∷ k))) (sym block.1)
    (decls_read d ds form [] k (symbol mark.OpenBrace) (block.0 ++ more) (decls_before (d ∷ ds) true h).1 refl)

-- The names behind a word tell a form with variables.

names_named : (ns : List Named) (ts : Spelled) → named true (after_each mark.Comma (map declared_name ns) ++ symbol mark.Colon ∷ ts) ≡ true
names_named [] ts = refl
names_named (n ∷ ns) ts = names_named ns ts

decls_look : (ds : List (Decl Part)) (more : Spelled) → decls_right (map decl_shape ds) ≡ true → looks (decls_words (map decl_spelled ds) ++ more) ≡ true
decls_look [] more h = absurd (true≢false (sym h))
decls_look (d ∷ ds) more h =
    ap looks (append_assoc (decl_words (decl_spelled d)) (after_each mark.Comma (map decl_words (map decl_spelled ds))) more ∙ decl_split d (after_each mark.Comma (map decl_words (map decl_spelled ds)) ++ more))
    ∙ by d.is_disjoint d.names (multiplicity_words d.word ++ (d.bound.words ++ (after_each mark.Comma (map decl_words (map decl_spelled ds)) ++ more))) (both_left (has_some d.names) (may_bound d.bound.shape) (decls_before (d ∷ ds) true h).1.0)
  where
    by : (is_disjoint : Bool) (ns : List Named) (ts : Spelled) → has_some ns ≡ true → looks (optional is_disjoint (word w.Disj) ++ (separated mark.Comma (map declared_name ns) ++ symbol mark.Colon ∷ ts)) ≡ true
    by true ns ts some = refl
    by false [] ts some = absurd (true≢false (sym some))
    by false (n ∷ ns) ts some = names_named ns ts

-- Bodies.

some_forms : (f : Bool) → (f || false) ≡ true → f ≡ true
some_forms true h = refl
some_forms false h = h

-- the frame of a body lets the same in as what is below it
body_fits : (has_bar : Bool) (wrap : Expr → Expr) (p : Part) (bare : Bool) (k : List Frame) (more : Spelled) → p.shape.right ≡ true → (has_bar || p.shape.is_block) ≡ true → forms k ≡ true → nat_lt (ahead more) (limit_of has_bar bare 0) ≡ true →
    (not (forms k) || not (named true more)) ≡ true → Fits (Last (body_low has_bar) wrap ∷ k) p.shape more
body_fits true wrap p bare k more right is_block all ends shut = record {
  right = right;
  tight = any p.shape.level;
  zero_in = or_true (forms k) (not p.shape.has_zero && (nat_le 10 p.shape.level || (p.shape.level == 0))) all;
  ends = subst (λ n. nat_lt n (limit_of p.shape.is_open p.shape.is_bare p.shape.level) ≡ true) (sym (none (ahead more) ends)) (no_limit p.shape.is_open p.shape.is_bare p.shape.level);
  shut = shut;
}
  where
    any : (n : ℕ) → (nat_le 1 (2 * n) || (n == 0)) ≡ true
    any n = grind (arith, nat_tests)

    none : (n : ℕ) → nat_lt n 1 ≡ true → n ≡ 0
    none n h = grind (arith, nat_tests)
body_fits false wrap p bare k more right is_block all ends shut =
    let block : (rest : Spelled) × (p.words ≡ symbol mark.OpenBrace ∷ rest) × (p.shape.level ≡ 19) × (p.shape.is_open ≡ false) = (p.front right).opened is_block in record {
      right = right;
      tight = subst (λ n. (nat_le 38 (2 * n) || (n == 0)) ≡ true) (sym block.2) refl;
      zero_in = or_true (forms k) (not p.shape.has_zero && (nat_le 10 p.shape.level || (p.shape.level == 0))) all;
      ends = subst (λ n. nat_lt (ahead more) (limit_of p.shape.is_open p.shape.is_bare n) ≡ true) (sym block.2) (subst (λ b. nat_lt (ahead more) (limit_of b p.shape.is_bare 19) ≡ true) (sym block.3)
          (lead_limit p.shape.is_bare 19 (ahead more) (omega arith) (below (ahead more) 38 ends) (λ q e. omega (arith, e))));
      shut = shut;
    }

low_of : (has_bar bare : Bool) (n : ℕ) → nat_lt n (limit_of has_bar bare 0) ≡ true → nat_lt n (body_low has_bar) ≡ true
low_of true bare n h = h
low_of false bare n h = h

-- a body, behind which the form is read
body_reads : (has_bar : Bool) (wrap : Expr → Expr) (p : Part) (bare : Bool) (k : List Frame) (more : Spelled) → p.shape.right ≡ true → (has_bar || p.shape.is_block) ≡ true → forms k ≡ true → nat_lt (ahead more) (limit_of has_bar bare 0) ≡ true →
    (not (forms k) || not (named true more)) ≡ true → run (p.words ++ more) (Need (Last (body_low has_bar) wrap ∷ k)) ≡ run more (Have (wrap p.value) k)
body_reads has_bar wrap p bare k more right is_block all ends shut =
    p.reads (Last (body_low has_bar) wrap ∷ k) more (body_fits has_bar wrap p bare k more right is_block all ends shut)
    ∙ pops (Last (body_low has_bar) wrap) p.value k more (low_of has_bar bare (ahead more) ends)

quantifier_begins : (q : Quantifier) (ts : Spelled) (k : List Frame) → looks ts ≡ true → begin (word (quantifier_word q)) ts k ≡ Names (Quantify q) [] false [] k
quantifier_begins quantifier.All ts k h = refl
quantifier_begins quantifier.Sum ts k h = refl
quantifier_begins quantifier.No ts k h = ap (λ b. by_look b (quantify quantifier.No k) (Need (before prefix.No ∷ k))) h
quantifier_begins quantifier.Some ts k h = ap (λ b. by_look b (quantify quantifier.Some k) (Need (before prefix.Some ∷ k))) h
quantifier_begins quantifier.Lone ts k h = ap (λ b. by_look b (quantify quantifier.Lone k) (Need (before prefix.Lone ∷ k))) h
quantifier_begins quantifier.One ts k h = ap (λ b. by_look b (quantify quantifier.One k) (Need (before prefix.One ∷ k))) h

pub a_quantified : (q : Quantifier) (ds : List (Decl Part)) (has_bar : Bool) (p : Part) → Reads (word (quantifier_word q) ∷ (decls_words (map decl_spelled ds) ++ body_words has_bar p.words)) (quantified q (decls_right (map decl_shape ds)) has_bar p.shape)
    (roll-Expr (Expr-F.Quantified nowhere q (decls_values ds) has_bar p.value))
a_quantified q ds has_bar p k more fits =
    let two : ((decls_right (map decl_shape ds) && (has_bar || not (is_sum q))) && p.shape.right) ≡ true = both_left ((decls_right (map decl_shape ds) && (has_bar || not (is_sum q))) && p.shape.right) (has_bar || p.shape.is_block) fits.right in
    let decls : decls_right (map decl_shape ds) ≡ true = both_left (decls_right (map decl_shape ds)) (has_bar || not (is_sum q)) (both_left (decls_right (map decl_shape ds) && (has_bar || not (is_sum q))) p.shape.right two) in
    let right : p.shape.right ≡ true = both_right (decls_right (map decl_shape ds) && (has_bar || not (is_sum q))) p.shape.right two in
    let is_block : (has_bar || p.shape.is_block) ≡ true = both_right ((decls_right (map decl_shape ds) && (has_bar || not (is_sum q))) && p.shape.right) (has_bar || p.shape.is_block) fits.right in
    ap (λ ts. run (word (quantifier_word q) ∷ ts) (Need k)) (append_assoc (decls_words (map decl_spelled ds)) (body_words has_bar p.words) more)
    ∙ (ap (λ z. run (decls_words (map decl_spelled ds) ++ (body_words has_bar p.words ++ more)) z) (quantifier_begins q (decls_words (map decl_spelled ds) ++ (body_words has_bar p.words ++ more)) k (decls_look ds (body_words has_bar p.words ++ more) decls))
    ∙ (body_begins ds has_bar p (Quantify q) k more decls right is_block
    ∙ body_reads has_bar (λ x. roll-Expr (Expr-F.Quantified nowhere q (decls_values ds) has_bar x)) p (has_bar && p.shape.is_bare) k more right is_block (some_forms (forms k) fits.zero_in) fits.ends fits.shut))

looks_other : (ts : Spelled) → looks ts ≡ true → sign_at ts ≡ other
looks_other [] h = absurd (true≢false (sym h))
looks_other (kind.Name name ∷ ts) h = refl
looks_other (kind.Number n ∷ ts) h = refl
looks_other (kind.Literal text ∷ ts) h = refl
looks_other (kind.Symbol a ∷ ts) h = absurd (true≢false (sym h))
looks_other (kind.End ∷ ts) h = refl
looks_other (kind.Word a ∷ ts) h = by a h
  where
    by : (a : Word) → looks (word a ∷ ts) ≡ true → sign (word a) ≡ other
    by w.In h = absurd (true≢false (sym h))
    by _ h = refl

hidden : (f l : Bool) → (f || false) ≡ true → l ≡ true → (f && l) ≡ true
hidden true l h k = k
hidden false l h k = h

-- where a form with variables may stand, its word is no multiplicity word
front_of_word : (q : Quantifier) (ts : Spelled) (right has_bar : Bool) (p : Shape) → ((more : Spelled) → looks (ts ++ more) ≡ true) → Front (word (quantifier_word q) ∷ ts) (zero_form right has_bar p (is_multiplicity q))
front_of_word quantifier.All ts right has_bar p look = record { starts = refl; quiet = λ plain more. refl; wordless = λ f more may. refl; nameless = λ more shut. refl; opened = λ is. absurd (true≢false (sym is)) }
front_of_word quantifier.No ts right has_bar p look = record { starts = refl; quiet = λ plain more. refl; wordless = λ f more may. refl; nameless = λ more shut. refl; opened = λ is. absurd (true≢false (sym is)) }
front_of_word quantifier.Sum ts right has_bar p look = record { starts = refl; quiet = λ plain more. refl; wordless = λ f more may. refl; nameless = λ more shut. refl; opened = λ is. absurd (true≢false (sym is)) }
front_of_word quantifier.Some ts right has_bar p look = record {
  starts = refl;
  quiet = λ plain more. ap arrow_ahead (looks_other (ts ++ more) (look more));
  wordless = λ f more may. ap (λ b. unless b multiplicity.Some) (hidden f (looks (ts ++ more)) may (look more));
  nameless = λ more shut. refl;
  opened = λ is. absurd (true≢false (sym is));
}
front_of_word quantifier.Lone ts right has_bar p look = record {
  starts = refl;
  quiet = λ plain more. ap arrow_ahead (looks_other (ts ++ more) (look more));
  wordless = λ f more may. ap (λ b. unless b multiplicity.Lone) (hidden f (looks (ts ++ more)) may (look more));
  nameless = λ more shut. refl;
  opened = λ is. absurd (true≢false (sym is));
}
front_of_word quantifier.One ts right has_bar p look = record {
  starts = refl;
  quiet = λ plain more. ap arrow_ahead (looks_other (ts ++ more) (look more));
  wordless = λ f more may. ap (λ b. unless b multiplicity.One) (hidden f (looks (ts ++ more)) may (look more));
  nameless = λ more shut. refl;
  opened = λ is. absurd (true≢false (sym is));
}

pub quantified_front : (q : Quantifier) (ds : List (Decl Part)) (has_bar : Bool) (p : Part) → (quantified q (decls_right (map decl_shape ds)) has_bar p.shape).right ≡ true →
    Front (word (quantifier_word q) ∷ (decls_words (map decl_spelled ds) ++ body_words has_bar p.words)) (quantified q (decls_right (map decl_shape ds)) has_bar p.shape)
quantified_front q ds has_bar p right =
    let two : ((decls_right (map decl_shape ds) && (has_bar || not (is_sum q))) && p.shape.right) ≡ true = both_left ((decls_right (map decl_shape ds) && (has_bar || not (is_sum q))) && p.shape.right) (has_bar || p.shape.is_block) right in
    let decls : decls_right (map decl_shape ds) ≡ true = both_left (decls_right (map decl_shape ds)) (has_bar || not (is_sum q)) (both_left (decls_right (map decl_shape ds) && (has_bar || not (is_sum q))) p.shape.right two) in
    front_of_word q (decls_words (map decl_spelled ds) ++ body_words has_bar p.words) (decls_right (map decl_shape ds) && (has_bar || not (is_sum q))) has_bar p.shape
    (λ more. ap looks (append_assoc (decls_words (map decl_spelled ds)) (body_words has_bar p.words) more) ∙ decls_look ds (body_words has_bar p.words ++ more) decls)

-- Comprehensions.

pub a_comprehension : (ds : List (Decl Part)) (has_bar : Bool) (p : Part) → Reads (symbol mark.OpenBrace ∷ (decls_words (map decl_spelled ds) ++ (body_words has_bar p.words ++ symbol mark.CloseBrace ∷ [])))
    (comprehension (decls_right (map decl_shape ds)) has_bar p.shape) (roll-Expr (Expr-F.Comprehension nowhere (decls_values ds) has_bar p.value))
a_comprehension ds has_bar p k more fits =
    let two : (decls_right (map decl_shape ds) && p.shape.right) ≡ true = both_left (decls_right (map decl_shape ds) && p.shape.right) (has_bar || p.shape.is_block) fits.right in
    let decls : decls_right (map decl_shape ds) ≡ true = both_left (decls_right (map decl_shape ds)) p.shape.right two in
    let right : p.shape.right ≡ true = both_right (decls_right (map decl_shape ds)) p.shape.right two in
    let is_block : (has_bar || p.shape.is_block) ≡ true = both_right (decls_right (map decl_shape ds) && p.shape.right) (has_bar || p.shape.is_block) fits.right in
    ap (λ ts. run (symbol mark.OpenBrace ∷ ts) (Need k)) (append_assoc (decls_words (map decl_spelled ds)) (body_words has_bar p.words ++ symbol mark.CloseBrace ∷ []) more
    ∙ ap (λ v. decls_words (map decl_spelled ds) ++ v) (append_assoc (body_words has_bar p.words) (symbol mark.CloseBrace ∷ []) more))
    ∙ (ap (λ b. run (decls_words (map decl_spelled ds) ++ (body_words has_bar p.words ++ symbol mark.CloseBrace ∷ more)) (by_look b (Names Comprehend [] false [] k) (Blocking k))) (decls_look ds (body_words has_bar p.words ++ symbol mark.CloseBrace ∷ more) decls)
    ∙ (body_begins ds has_bar p Comprehend k (symbol mark.CloseBrace ∷ more) decls right is_block
    ∙ in_brackets p (Closing (λ x. roll-Expr (Expr-F.Comprehension nowhere (decls_values ds) has_bar x))) k (symbol mark.CloseBrace) more refl refl refl refl right))

pub comprehension_front : (ds : List (Decl Part)) (has_bar : Bool) (p : Part) →
    Front (symbol mark.OpenBrace ∷ (decls_words (map decl_spelled ds) ++ (body_words has_bar p.words ++ symbol mark.CloseBrace ∷ []))) (comprehension (decls_right (map decl_shape ds)) has_bar p.shape)
comprehension_front ds has_bar p = starts_front (symbol mark.OpenBrace) (decls_words (map decl_spelled ds) ++ (body_words has_bar p.words ++ symbol mark.CloseBrace ∷ [])) (comprehension (decls_right (map decl_shape ds)) has_bar p.shape) (record { is_other = refl; quiet = λ ts. refl; wordless = λ f ts. refl; nameless = λ ts. refl }) refl

-- `let`.

abbrev pub binding_shape : Binding Part → Binding Shape
binding_shape b = record { place = b.place; name = b.name; value = b.value.shape }

abbrev pub binding_spelled : Binding Part → Binding Spelled
binding_spelled b = record { place = b.place; name = b.name; value = b.value.words }

abbrev pub binding_value : Binding Part → Binding Expr
binding_value b = record { place = b.place; name = b.name; value = b.value.value }

abbrev bindings_values : List (Binding Part) → List (Binding Expr)
bindings_values bs = map placeless_binding (map binding_value bs)

abbrev AreBindings : List (Binding Part) → Type 0
AreBindings [] = Unit {0}
AreBindings (b ∷ bs) = (b.value.shape.right ≡ true) × AreBindings bs

bindings_before : (bs : List (Binding Part)) (ok : Bool) → fold (λ passed b. passed && may_lead 0 b.value) ok (map binding_shape bs) ≡ true → (ok ≡ true) × AreBindings bs
bindings_before [] ok h = (h, tt)
bindings_before (b ∷ bs) ok h = let rest : ((ok && may_lead 0 b.value.shape) ≡ true) × AreBindings bs = bindings_before bs (ok && may_lead 0 b.value.shape) h in
    (both_left ok (may_lead 0 b.value.shape) rest.0, (lead_right 0 b.value.shape (both_right ok (may_lead 0 b.value.shape) rest.0), rest.1))

at_value : (t : TokenKind) (ts : Spelled) (x : Expr) (bindings : List (Binding Expr)) (name : List ℕ) (k : List Frame) → ahead (t ∷ ts) ≡ 0 →
    run (t ∷ ts) (Have x (Values bindings name ∷ k)) ≡ run ts (on_value (sign t) t ts (bindings ++ record { place = nowhere; name = name; value = x } ∷ []) k)
at_value t ts x bindings name k quiet = ap (λ n. run ts (go_on n t ts (settle n x (Values bindings name ∷ k)))) quiet

binding_reads : (b : Binding Part) (bindings : List (Binding Expr)) (k : List Frame) (more : Spelled) → b.value.shape.right ≡ true → ahead more ≡ 0 → named true more ≡ false →
    run (binding_words (binding_spelled b) ++ more) (Lets bindings k) ≡ run more (Have b.value.value (Values bindings b.name ∷ k))
binding_reads b bindings k more right quiet shut = b.value.reads (Values bindings b.name ∷ k) more (whole_fits (Values bindings b.name ∷ k) b.value.shape more refl refl quiet shut right)

bindings_read : (b : Binding Part) (bs : List (Binding Part)) (bindings : List (Binding Expr)) (k : List Frame) (t : TokenKind) (ts : Spelled) → AreBindings (b ∷ bs) → ahead (t ∷ ts) ≡ 0 → named true (t ∷ ts) ≡ false →
    run (separated mark.Comma (map binding_words (map binding_spelled (b ∷ bs))) ++ t ∷ ts) (Lets bindings k) ≡ run ts (on_value (sign t) t ts (bindings ++ bindings_values (b ∷ bs)) k)
bindings_read b [] bindings k t ts h quiet shut =
    ap (λ v. run v (Lets bindings k)) (append_assoc (binding_words (binding_spelled b)) [] (t ∷ ts))
    ∙ (binding_reads b bindings k (t ∷ ts) h.0 quiet shut
    ∙ at_value t ts b.value.value bindings b.name k quiet)
bindings_read b (c ∷ bs) bindings k t ts h quiet shut =
    ap (λ v. run v (Lets bindings k)) (append_assoc (binding_words (binding_spelled b)) (after_each mark.Comma (map binding_words (map binding_spelled (c ∷ bs)))) (t ∷ ts))
    ∙ (binding_reads b bindings k (after_each mark.Comma (map binding_words (map binding_spelled (c ∷ bs))) ++ t ∷ ts) h.0 refl refl
    ∙ (at_value (symbol mark.Comma) (separated mark.Comma (map binding_words (map binding_spelled (c ∷ bs))) ++ t ∷ ts) b.value.value bindings b.name k refl
    ∙ (bindings_read c bs (bindings ++ placeless_binding (binding_value b) ∷ []) k t ts h.1 quiet shut
    ∙ ap (λ xs. run ts (on_value (sign t) t ts xs k)) (append_assoc bindings (placeless_binding (binding_value b) ∷ []) (bindings_values (c ∷ bs))))))

let_begins : (bs : List (Binding Part)) (has_bar : Bool) (p : Part) (k : List Frame) (more : Spelled) → bindings_right (map binding_shape bs) ≡ true → p.shape.right ≡ true → (has_bar || p.shape.is_block) ≡ true →
    run (separated mark.Comma (map binding_words (map binding_spelled bs)) ++ (body_words has_bar p.words ++ more)) (Lets [] k) ≡ run (p.words ++ more) (Need (let_body (bindings_values bs) has_bar ∷ k))
let_begins [] has_bar p k more h right is_block = absurd (true≢false (sym h))
let_begins (b ∷ bs) true p k more h right is_block = bindings_read b bs [] k (symbol mark.Bar) (p.words ++ more) (bindings_before (b ∷ bs) true h).1 refl refl
let_begins (b ∷ bs) false p k more h right is_block =
    let block : (rest : Spelled) × (p.words ≡ symbol mark.OpenBrace ∷ rest) × (p.shape.level ≡ 19) × (p.shape.is_open ≡ false) = (p.front right).opened is_block in
    subst (λ v. run (separated mark.Comma (map binding_words (map binding_spelled (b ∷ bs))) ++ (v ++ more)) (Lets [] k) ≡ run (v ++ more) (Need (let_body (bindings_values (b ∷ bs)) false ∷ k))) (sym block.1)
    (bindings_read b bs [] k (symbol mark.OpenBrace) (block.0 ++ more) (bindings_before (b ∷ bs) true h).1 refl refl)

pub a_let : (bs : List (Binding Part)) (has_bar : Bool) (p : Part) → Reads (word w.Let ∷ (separated mark.Comma (map binding_words (map binding_spelled bs)) ++ body_words has_bar p.words)) (zero_form (bindings_right (map binding_shape bs)) has_bar p.shape false)
    (roll-Expr (Expr-F.Let nowhere (bindings_values bs) has_bar p.value))
a_let bs has_bar p k more fits =
    let two : (bindings_right (map binding_shape bs) && p.shape.right) ≡ true = both_left (bindings_right (map binding_shape bs) && p.shape.right) (has_bar || p.shape.is_block) fits.right in
    let right : p.shape.right ≡ true = both_right (bindings_right (map binding_shape bs)) p.shape.right two in
    let is_block : (has_bar || p.shape.is_block) ≡ true = both_right (bindings_right (map binding_shape bs) && p.shape.right) (has_bar || p.shape.is_block) fits.right in
    ap (λ ts. run ts (Lets [] k)) (append_assoc (separated mark.Comma (map binding_words (map binding_spelled bs))) (body_words has_bar p.words) more)
    ∙ (let_begins bs has_bar p k more (both_left (bindings_right (map binding_shape bs)) p.shape.right two) right is_block
    ∙ body_reads has_bar (λ x. roll-Expr (Expr-F.Let nowhere (bindings_values bs) has_bar x)) p (has_bar && p.shape.is_bare) k more right is_block (some_forms (forms k) fits.zero_in) fits.ends fits.shut)

pub let_front : (bs : List (Binding Part)) (has_bar : Bool) (p : Part) →
    Front (word w.Let ∷ (separated mark.Comma (map binding_words (map binding_spelled bs)) ++ body_words has_bar p.words)) (zero_form (bindings_right (map binding_shape bs)) has_bar p.shape false)
let_front bs has_bar p = starts_front (word w.Let) (separated mark.Comma (map binding_words (map binding_spelled bs)) ++ body_words has_bar p.words) (zero_form (bindings_right (map binding_shape bs)) has_bar p.shape false) (record { is_other = refl; quiet = λ ts. refl; wordless = λ f ts. refl; nameless = λ ts. refl }) refl
