-- Lists of parts, one part after another.
use Rattle.std.proofs.Common.{◌≡◌, ℕ, suc, ◌+◌, ◌<◌, ◌≤◌, Bool, true, false, not, List, [], ◌∷◌, ◌++◌, length, map, drop, get_or, refl, sym, ap, ◌∙◌, append_assoc, drop-cons, add-one, arith}
use Rattle.std.proofs.lemmas.List.{drop_all}
use Rattle.syntax_tree.specs.declared.token.Symbol.{Symbol}
use Rattle.syntax_tree.specs.Words.{Spelled, word, symbol, multiplicity_words}
use Rattle.syntax_tree.specs.declared.token.Word.TheVariants as w
use Rattle.syntax_tree.specs.Spelling.{after_each, separated, joined, optional, declared_name, one_name, spelling, decl_words, binding_words, link_words, access_words, spelled_decl, spelled_binding, spelled_link, spelled_access, decls_spelling, bindings_spelling, links_spelling, accesses_spelling}
use Rattle.syntax_tree.specs.declared.token.Symbol.TheVariants as s
use Rattle.syntax_tree.specs.declared.operator.Infix.{Infix}
use Rattle.syntax_tree.specs.declared.expr.Decl.{Decl}
use Rattle.syntax_tree.specs.declared.expr.Binding.{Binding}
use Rattle.syntax_tree.specs.declared.expr.Access.{Access}
use Rattle.syntax_tree.specs.declared.expr.Expr.{Expr}
use Rattle.syntax_tree.proofs.Lists.{append_nil}
use Rattle.syntax_printer.specs.Separated.{going_on, before_bound, before_value}

next_of : {A : Type 0} (xs : List A) (i : ℕ) (x : A) → i < length xs → x ≡ get_or xs i x → drop i xs ≡ x ∷ drop (i + 1) xs
next_of xs i x inside at =
    drop-cons xs i x inside ∙ ap (λ z. z ∷ drop (suc i) xs) (sym at) ∙ ap (λ k. x ∷ drop k xs) (sym (add-one i))

-- a mark where it stands, a part, and then the rest
one_more : (first : Bool) (mark : Symbol) (part : Spelled) (parts : List Spelled) (words : Spelled) →
    words ++ going_on first mark (part ∷ parts) ≡ ((words ++ optional (not first) (symbol mark)) ++ part) ++ going_on false mark parts
one_more true mark part parts words =
    rw (append_nil words) (sym (append_assoc words part (after_each mark parts)))
one_more false mark part parts words =
    sym (append_assoc (words ++ symbol mark ∷ []) part (after_each mark parts) ∙ append_assoc words (symbol mark ∷ []) (part ++ after_each mark parts))

going_on_end : (first : Bool) (mark : Symbol) (words : Spelled) → words ++ going_on first mark [] ≡ words
going_on_end true mark words = append_nil words
going_on_end false mark words = append_nil words

-- `spelled` spells each item of the list
module _ {A : Type 0} (spelled : A → Spelled) (xs : List A) (i : ℕ) (words whole : Spelled) where
  pub joined_next : (x : A) (now : Spelled) → i < length xs → x ≡ get_or xs i x → words ++ joined (map spelled (drop i xs)) ≡ whole →
      now ≡ words ++ spelled x → now ++ joined (map spelled (drop (i + 1) xs)) ≡ whole
  joined_next x now inside at was is =
      ap (λ w. w ++ joined (map spelled (drop (i + 1) xs))) is
      ∙ (append_assoc words (spelled x) (joined (map spelled (drop (i + 1) xs)))
      ∙ (ap (λ r. words ++ joined (map spelled r)) (sym (next_of xs i x inside at)) ∙ was))

  pub joined_end : length xs ≤ i → words ++ joined (map spelled (drop i xs)) ≡ whole → words ≡ whole
  joined_end past was = sym (append_nil words) ∙ (ap (λ r. words ++ joined (map spelled r)) (sym (drop_all i xs past)) ∙ was)

  pub separated_next : (mark : Symbol) (first : Bool) (x : A) (mid now : Spelled) → i < length xs → x ≡ get_or xs i x →
      words ++ going_on first mark (map spelled (drop i xs)) ≡ whole → mid ≡ words ++ optional (not first) (symbol mark) → now ≡ mid ++ spelled x →
      now ++ going_on false mark (map spelled (drop (i + 1) xs)) ≡ whole
  separated_next mark first x mid now inside at was marked is =
      ap (λ w. w ++ going_on false mark (map spelled (drop (i + 1) xs))) (is ∙ ap (λ w. w ++ spelled x) marked)
      ∙ (sym (one_more first mark (spelled x) (map spelled (drop (i + 1) xs)) words)
      ∙ (ap (λ r. words ++ going_on first mark (map spelled r)) (sym (next_of xs i x inside at)) ∙ was))

  pub separated_end : (mark : Symbol) (first : Bool) → length xs ≤ i → words ++ going_on first mark (map spelled (drop i xs)) ≡ whole → words ≡ whole
  separated_end mark first past was =
      sym (going_on_end first mark words) ∙ (ap (λ r. words ++ going_on first mark (map spelled r)) (sym (drop_all i xs past)) ∙ was)

map_map : {A B C : Type 0} (g : B → C) (f : A → B) (xs : List A) → map g (map f xs) ≡ map (λ x. g (f x)) xs
map_map g f [] = refl
map_map g f (x ∷ xs) = ap (λ ys. g (f x) ∷ ys) (map_map g f xs)

pub decls_spelled : (decls : List (Decl Expr)) → decls_spelling decls ≡ separated s.Comma (map (λ d. decl_words (spelled_decl d)) decls)
decls_spelled decls = ap (separated s.Comma) (map_map decl_words spelled_decl decls)

pub bindings_spelled : (bindings : List (Binding Expr)) → bindings_spelling bindings ≡ separated s.Comma (map (λ b. binding_words (spelled_binding b)) bindings)
bindings_spelled bindings = ap (separated s.Comma) (map_map binding_words spelled_binding bindings)

pub links_spelled : (links : List (Infix × Expr)) → links_spelling links ≡ joined (map (λ l. link_words (spelled_link l)) links)
links_spelled links = ap joined (map_map link_words spelled_link links)

pub accesses_spelled : (steps : List (Access Expr)) → accesses_spelling steps ≡ joined (map (λ a. access_words (spelled_access a)) steps)
accesses_spelled steps = ap joined (map_map access_words spelled_access steps)

pub regrouped : (a b c : Spelled) → (a ++ b) ++ c ≡ a ++ (b ++ c)
regrouped a b c = append_assoc a b c

bound_whole : (d : Decl Expr) (words : Spelled) → (words ++ before_bound d) ++ spelling d.bound ≡ words ++ decl_words (spelled_decl d)
bound_whole d words =
    let marks = optional d.is_disjoint (word w.Disj) in
    let names = separated s.Comma (map declared_name d.names) in
    let rest = symbol s.Colon ∷ multiplicity_words d.word in
    append_assoc words (before_bound d) (spelling d.bound)
    ∙ ap (λ r. words ++ r) (append_assoc marks (names ++ rest) (spelling d.bound) ∙ ap (λ r. marks ++ r) (append_assoc names rest (spelling d.bound)))

value_whole : (b : Binding Expr) (words : Spelled) → (words ++ before_value b) ++ spelling b.value ≡ words ++ binding_words (spelled_binding b)
value_whole b words = append_assoc words (before_value b) (spelling b.value)

module _ (i : ℕ) (words whole : Spelled) (first : Bool) (mid front now : Spelled) where
  pub decls_next : (decls : List (Decl Expr)) (d : Decl Expr) → i < length decls → d ≡ get_or decls i d →
      words ++ going_on first s.Comma (map (λ x. decl_words (spelled_decl x)) (drop i decls)) ≡ whole → mid ≡ words ++ optional (not first) (symbol s.Comma) →
      front ≡ mid ++ before_bound d → now ≡ front ++ spelling d.bound →
      now ++ going_on false s.Comma (map (λ x. decl_words (spelled_decl x)) (drop (i + 1) decls)) ≡ whole
  decls_next decls d inside at was marked fronted is =
      separated_next (λ x. decl_words (spelled_decl x)) decls i words whole s.Comma first d mid now inside at was marked
      (is ∙ (ap (λ ws. ws ++ spelling d.bound) fronted ∙ bound_whole d mid))

  pub bindings_next : (bindings : List (Binding Expr)) (b : Binding Expr) → i < length bindings → b ≡ get_or bindings i b →
      words ++ going_on first s.Comma (map (λ x. binding_words (spelled_binding x)) (drop i bindings)) ≡ whole → mid ≡ words ++ optional (not first) (symbol s.Comma) →
      front ≡ mid ++ before_value b → now ≡ front ++ spelling b.value →
      now ++ going_on false s.Comma (map (λ x. binding_words (spelled_binding x)) (drop (i + 1) bindings)) ≡ whole
  bindings_next bindings b inside at was marked fronted is =
      separated_next (λ x. binding_words (spelled_binding x)) bindings i words whole s.Comma first b mid now inside at was marked
      (is ∙ (ap (λ ws. ws ++ spelling b.value) fronted ∙ value_whole b mid))
