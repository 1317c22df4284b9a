-- Walks along parts, one part after another.
use Rattle.std.proofs.Common.{◌≡◌, ℕ, suc, ◌+◌, ◌<◌, ◌≤◌, Bool, true, false, not, ◌&&◌, List, [], ◌∷◌, ◌++◌, Option, None, Some, length, map, drop, get_or, refl, sym, ap, ◌∙◌, drop-cons, add-one, append_assoc, arith}
use Rattle.std.proofs.lemmas.List.{drop_all}
use Rattle.syntax_tree.specs.declared.operator.Multiplicity.{Multiplicity}
use Rattle.syntax_tree.specs.declared.token.Token.{Token}
use Rattle.syntax_tree.specs.declared.token.TokenKind.{TokenKind}
use Rattle.syntax_tree.specs.declared.token.Symbol.{Symbol}
use Rattle.syntax_tree.specs.declared.token.Word.TheVariants as w
use Rattle.syntax_tree.specs.declared.token.Symbol.TheVariants as s
use Rattle.syntax_tree.specs.declared.operator.Infix.{Infix}
use Rattle.syntax_tree.specs.declared.expr.Decl.{Decl}
use Rattle.syntax_tree.specs.declared.expr.Binding.{Binding}
use Rattle.syntax_tree.specs.declared.expr.Access.TheVariants as access
use Rattle.syntax_tree.specs.declared.expr.Expr.{Expr}
use Rattle.syntax_tree.specs.Words.{Spelled, word, symbol, multiplicity_words, infix_words}
use Rattle.syntax_places.specs.Pieces.{Piece, Pieces, Says, Here, says, after_each, separated, joined, optional, begins_at, at_places, declared_name, pieces, decl_pieces, pieced_decl, binding_pieces, pieced_binding, link_pieces, pieced_link, access_pieces}
use Rattle.syntax_places.specs.ModulePieces.{in_brackets}
use Rattle.syntax_places.specs.Walk.{Walked, past, past_if, look, step, walk, is_through, going_on, has_none, before_bound, before_value}

-- one list of pieces and then another
pub walk_append : (v : Walked) (a b : Pieces) → walk v (a ++ b) ≡ walk (walk v a) b
walk_append v [] b = refl
walk_append v (p ∷ ps) b = walk_append (step v p) ps b

pub walk_optional : (v : Walked) (stands : Bool) (token : TokenKind) → walk v (optional stands token) ≡ past_if stands v
walk_optional v true token = refl
walk_optional v false token = refl

pub says_append : (a b : Spelled) → says (a ++ b) ≡ says a ++ says b
says_append [] b = refl
says_append (k ∷ ks) b = ap (λ ps. Says k ∷ ps) (says_append ks b)

next_of : {A : Type 0} (xs : List A) (i : ℕ) (x : A) → i < length xs → x ≡ get_or xs i x → drop i xs ≡ x ∷ drop (i + 1) xs
next_of xs i x inside at =
    drop-cons xs i x inside ∙ ap (λ z. z ∷ drop (suc i) xs) (sym at) ∙ ap (λ k. x ∷ drop k xs) (sym (add-one i))

-- a mark where it stands, a part, and then the rest
one_more : (first : Bool) (mark : Symbol) (part : Pieces) (parts : List Pieces) (v : Walked) →
    walk v (going_on first mark (part ∷ parts)) ≡ walk (walk (past_if (not first) v) part) (going_on false mark parts)
one_more true mark part parts v = walk_append v part (after_each mark parts)
one_more false mark part parts v = walk_append (past v) part (after_each mark parts)

going_on_end : (first : Bool) (mark : Symbol) (v : Walked) → walk v (going_on first mark []) ≡ v
going_on_end true mark v = refl
going_on_end false mark v = refl

-- `kept` has the pieces of each item of the list
module _ {A : Type 0} (kept : A → Pieces) (xs : List A) (i : ℕ) (v whole : Walked) where
  pub joined_next : (x : A) (now : Walked) → i < length xs → x ≡ get_or xs i x → walk v (joined (map kept (drop i xs))) ≡ whole →
      now ≡ walk v (kept x) → walk now (joined (map kept (drop (i + 1) xs))) ≡ whole
  joined_next x now inside at was is =
      ap (λ u. walk u (joined (map kept (drop (i + 1) xs)))) is
      ∙ (sym (walk_append v (kept x) (joined (map kept (drop (i + 1) xs))))
      ∙ (ap (λ r. walk v (joined (map kept r))) (sym (next_of xs i x inside at)) ∙ was))

  pub joined_end : length xs ≤ i → walk v (joined (map kept (drop i xs))) ≡ whole → v ≡ whole
  joined_end past was = ap (λ r. walk v (joined (map kept r))) (sym (drop_all i xs past)) ∙ was

  pub separated_next : (mark : Symbol) (first : Bool) (x : A) (mid now : Walked) → i < length xs → x ≡ get_or xs i x →
      walk v (going_on first mark (map kept (drop i xs))) ≡ whole → mid ≡ past_if (not first) v → now ≡ walk mid (kept x) →
      walk now (going_on false mark (map kept (drop (i + 1) xs))) ≡ whole
  separated_next mark first x mid now inside at was marked is =
      ap (λ u. walk u (going_on false mark (map kept (drop (i + 1) xs)))) (is ∙ ap (λ u. walk u (kept x)) marked)
      ∙ (sym (one_more first mark (kept x) (map kept (drop (i + 1) xs)) v)
      ∙ (ap (λ r. walk v (going_on first mark (map kept r))) (sym (next_of xs i x inside at)) ∙ was))

  pub separated_end : (mark : Symbol) (first : Bool) → length xs ≤ i → walk v (going_on first mark (map kept (drop i xs))) ≡ whole → v ≡ whole
  separated_end mark first past was =
      sym (going_on_end first mark v) ∙ (ap (λ r. walk v (going_on first mark (map kept r))) (sym (drop_all i xs past)) ∙ was)

through_from : (ps : Pieces) (ts : List Token) (right : Bool) → is_through (walk (record { left = ts; right = right }) ps) ≡ (right && at_places ps ts)
through_from [] [] right = refl
through_from [] (t ∷ ts) right = refl
through_from (Says k ∷ ps) [] true = through_from ps [] false
through_from (Says k ∷ ps) [] false = through_from ps [] false
through_from (Says k ∷ ps) (t ∷ ts) right = through_from ps ts right
through_from (Here p ∷ ps) ts true = through_from ps ts (begins_at p ts)
through_from (Here p ∷ ps) ts false = through_from ps ts false

-- after all pieces of a tree
pub through : (ps : Pieces) (ts : List Token) → is_through (walk (record { left = ts; right = true }) ps) ≡ at_places ps ts
through ps ts = through_from ps ts true

bound_whole : (d : Decl Expr) (v : Walked) → walk (walk v (before_bound d)) (pieces d.bound) ≡ walk v (decl_pieces (pieced_decl d))
bound_whole d v =
    let marks = optional d.is_disjoint (word w.Disj) in
    let names = separated s.Comma (map declared_name d.names) in
    let rest = Says (symbol s.Colon) ∷ Here d.bound_place ∷ says (multiplicity_words d.word) in
    sym (walk_append v (before_bound d) (pieces d.bound))
    ∙ ap (λ r. walk v (Here d.place ∷ r)) (append_assoc marks (names ++ rest) (pieces d.bound) ∙ ap (λ r. marks ++ r) (append_assoc names rest (pieces d.bound)))

module _ (i : ℕ) (v whole : Walked) (now : Walked) where
  pub decls_next : (first : Bool) (mid front : Walked) (decls : List (Decl Expr)) (d : Decl Expr) → i < length decls → d ≡ get_or decls i d →
      walk v (going_on first s.Comma (map (λ x. decl_pieces (pieced_decl x)) (drop i decls))) ≡ whole → mid ≡ past_if (not first) v →
      front ≡ walk mid (before_bound d) → now ≡ walk front (pieces d.bound) →
      walk now (going_on false s.Comma (map (λ x. decl_pieces (pieced_decl x)) (drop (i + 1) decls))) ≡ whole
  decls_next first mid front decls d inside at was marked fronted is =
      separated_next (λ x. decl_pieces (pieced_decl x)) decls i v whole s.Comma first d mid now inside at was marked
      (is ∙ (ap (λ u. walk u (pieces d.bound)) fronted ∙ bound_whole d mid))

  pub bindings_next : (first : Bool) (mid front : Walked) (bindings : List (Binding Expr)) (b : Binding Expr) → i < length bindings → b ≡ get_or bindings i b →
      walk v (going_on first s.Comma (map (λ x. binding_pieces (pieced_binding x)) (drop i bindings))) ≡ whole → mid ≡ past_if (not first) v →
      front ≡ walk mid (before_value b) → now ≡ walk front (pieces b.value) →
      walk now (going_on false s.Comma (map (λ x. binding_pieces (pieced_binding x)) (drop (i + 1) bindings))) ≡ whole
  bindings_next first mid front bindings b inside at was marked fronted is =
      separated_next (λ x. binding_pieces (pieced_binding x)) bindings i v whole s.Comma first b mid now inside at was marked
      (is ∙ ap (λ u. walk u (pieces b.value)) fronted)

  pub links_next : (mid : Walked) (links : List (Infix × Expr)) (l : Infix × Expr) → i < length links → l ≡ get_or links i l →
      walk v (joined (map (λ x. link_pieces (pieced_link x)) (drop i links))) ≡ whole → mid ≡ walk v (says (infix_words l.0)) →
      now ≡ walk mid (pieces l.1) → walk now (joined (map (λ x. link_pieces (pieced_link x)) (drop (i + 1) links))) ≡ whole
  links_next mid links l inside at was marked is =
      joined_next (λ x. link_pieces (pieced_link x)) links i v whole l now inside at was
      (is ∙ (ap (λ u. walk u (pieces l.1)) marked ∙ sym (walk_append v (says (infix_words l.0)) (pieces l.1))))

-- a box with its arguments
pub box_whole : (items : List Expr) (v opened inside now : Walked) → opened ≡ past v → inside ≡ walk opened (separated s.Comma (map pieces items)) → now ≡ past inside →
    now ≡ walk v (access_pieces (access.Bracket (map pieces items)))
box_whole items v opened inside now e1 e2 e3 =
    e3 ∙ (ap past (e2 ∙ ap (λ u. walk u (separated s.Comma (map pieces items))) e1)
    ∙ sym (walk_append (past v) (separated s.Comma (map pieces items)) (Says (symbol s.CloseBracket) ∷ [])))

-- parts in brackets, of which there is at least one
pub brackets_whole : {A : Type 0} (kept : A → Pieces) (xs : List A) (v opened inside now : Walked) → 0 < length xs → opened ≡ past v →
    inside ≡ walk opened (separated s.Comma (map kept xs)) → now ≡ past inside → now ≡ walk v (in_brackets (map kept xs))
brackets_whole kept [] v opened inside now h e1 e2 e3 = absurd (omega arith)
brackets_whole kept (x ∷ xs) v opened inside now h e1 e2 e3 =
    e3 ∙ (ap past (e2 ∙ ap (λ u. walk u (separated s.Comma (map kept (x ∷ xs)))) e1)
    ∙ sym (walk_append (past v) (separated s.Comma (map kept (x ∷ xs))) (Says (symbol s.CloseBracket) ∷ [])))
