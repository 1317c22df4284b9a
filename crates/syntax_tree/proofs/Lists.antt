-- How a list of parts is spelled when one more part comes.
use Rattle.std.proofs.Common.{◌≡◌, ◌<◌, List, [], ◌∷◌, ◌++◌, length, map, refl, sym, ap, ◌∙◌, append_assoc, arith, length-append}
use Rattle.syntax_tree.specs.declared.token.Symbol.{Symbol}
use Rattle.syntax_tree.specs.declared.token.Symbol.TheVariants as s
use Rattle.syntax_tree.specs.Words.{Spelled, symbol}
use Rattle.syntax_tree.specs.Spelling.{after_each, separated, joined}
use Rattle.syntax_tree.specs.ModuleWords.{in_brackets}

pub append_nil : (xs : Spelled) → xs ++ [] ≡ xs
append_nil [] = refl
append_nil (x ∷ xs) = ap (λ ys. x ∷ ys) (append_nil xs)

after_each_push : {A : Type 0} (mark : Symbol) (f : A → Spelled) (xs : List A) (x : A) →
    after_each mark (map f (xs ++ x ∷ [])) ≡ after_each mark (map f xs) ++ symbol mark ∷ f x
after_each_push mark f [] x = ap (λ ys. symbol mark ∷ ys) (append_nil (f x))
after_each_push mark f (y ∷ xs) x =
    ap (λ ys. symbol mark ∷ (f y ++ ys)) (after_each_push mark f xs x)
    ∙ ap (λ ys. symbol mark ∷ ys) (sym (append_assoc (f y) (after_each mark (map f xs)) (symbol mark ∷ f x)))

pub separated_push : {A : Type 0} (mark : Symbol) (f : A → Spelled) (xs : List A) (x : A) → 0 < length xs →
    separated mark (map f (xs ++ x ∷ [])) ≡ separated mark (map f xs) ++ symbol mark ∷ f x
separated_push mark f [] x h = absurd (omega arith)
separated_push mark f (y ∷ xs) x h =
    ap (λ ys. f y ++ ys) (after_each_push mark f xs x) ∙ sym (append_assoc (f y) (after_each mark (map f xs)) (symbol mark ∷ f x))

-- one part alone
pub separated_one : (mark : Symbol) (part : Spelled) → separated mark (part ∷ []) ≡ part
separated_one mark part = append_nil part

pub joined_push : {A : Type 0} (f : A → Spelled) (xs : List A) (x : A) → joined (map f (xs ++ x ∷ [])) ≡ joined (map f xs) ++ f x
joined_push f [] x = append_nil (f x)
joined_push f (y ∷ xs) x = ap (λ ys. f y ++ ys) (joined_push f xs x) ∙ sym (append_assoc (f y) (joined (map f xs)) (f x))

map_map : {A B C : Type 0} (g : B → C) (f : A → B) (xs : List A) → map g (map f xs) ≡ map (λ x. g (f x)) xs
map_map g f [] = refl
map_map g f (x ∷ xs) = ap (λ ys. g (f x) ∷ ys) (map_map g f xs)

pub separated_push2 : {A B : Type 0} (mark : Symbol) (g : B → Spelled) (f : A → B) (xs : List A) (x : A) → 0 < length xs →
    separated mark (map g (map f (xs ++ x ∷ []))) ≡ separated mark (map g (map f xs)) ++ symbol mark ∷ g (f x)
separated_push2 mark g f xs x h =
    ap (separated mark) (map_map g f (xs ++ x ∷ [])) ∙ (separated_push mark (λ y. g (f y)) xs x h
    ∙ ap (λ ys. separated mark ys ++ symbol mark ∷ g (f x)) (sym (map_map g f xs)))

pub joined_push2 : {A B : Type 0} (g : B → Spelled) (f : A → B) (xs : List A) (x : A) →
    joined (map g (map f (xs ++ x ∷ []))) ≡ joined (map g (map f xs)) ++ g (f x)
joined_push2 g f xs x =
    ap joined (map_map g f (xs ++ x ∷ [])) ∙ (joined_push (λ y. g (f y)) xs x ∙ ap (λ ys. joined ys ++ g (f x)) (sym (map_map g f xs)))

module _ {A : Type 0} (mark : Symbol) (f : A → Spelled) (x : A) (ys : List A) (whole after : Spelled) where
  -- the first part of a list was read
  pub read_first : ys ≡ x ∷ [] → whole ≡ f x ++ after → (0 < length ys) × (whole ≡ separated mark (map f ys) ++ after)
  read_first same e = rw same (omega arith, e ∙ ap (λ w. w ++ after) (sym (append_nil (f x))))

  -- a further part was read
  pub read_more : (xs : List A) (old mid : Spelled) → ys ≡ xs ++ x ∷ [] → 0 < length xs → whole ≡ separated mark (map f xs) ++ old →
      old ≡ symbol mark ∷ mid → mid ≡ f x ++ after → (0 < length ys) × (whole ≡ separated mark (map f ys) ++ after)
  read_more xs old mid same some e m r =
      rw same (
        omega (arith, length-append xs (x ∷ [])),
        e ∙ (ap (λ w. separated mark (map f xs) ++ w) (m ∙ ap (λ w. symbol mark ∷ w) r)
            ∙ (sym (append_assoc (separated mark (map f xs)) (symbol mark ∷ f x) after) ∙ ap (λ w. w ++ after) (sym (separated_push mark f xs x some)))),
      )

module _ {A : Type 0} (f : A → Spelled) (x : A) (ys : List A) (whole after : Spelled) where
  -- a further part was read, where no mark stands between
  pub read_next : (xs : List A) (old : Spelled) → ys ≡ xs ++ x ∷ [] → whole ≡ joined (map f xs) ++ old → old ≡ f x ++ after →
      whole ≡ joined (map f ys) ++ after
  read_next xs old same e r =
      rw same (e ∙ (ap (λ w. joined (map f xs) ++ w) r
      ∙ (sym (append_assoc (joined (map f xs)) (f x) after) ∙ ap (λ w. w ++ after) (sym (joined_push f xs x)))))

module _ {A B : Type 0} (mark : Symbol) (g : B → Spelled) (f : A → B) (x : A) (ys : List A) (whole after : Spelled) where
  pub read_first2 : ys ≡ x ∷ [] → whole ≡ g (f x) ++ after → (0 < length ys) × (whole ≡ separated mark (map g (map f ys)) ++ after)
  read_first2 same e = rw (map_map g f ys) (read_first mark (λ y. g (f y)) x ys whole after same e)

  pub read_more2 : (xs : List A) (old mid : Spelled) → ys ≡ xs ++ x ∷ [] → 0 < length xs → whole ≡ separated mark (map g (map f xs)) ++ old →
      old ≡ symbol mark ∷ mid → mid ≡ g (f x) ++ after → (0 < length ys) × (whole ≡ separated mark (map g (map f ys)) ++ after)
  read_more2 xs old mid same some e m r =
      let e' = rw (map_map g f xs) at e in
      rw (map_map g f ys) (read_more mark (λ y. g (f y)) x ys whole after xs old mid same some e' m r)

module _ {A B : Type 0} (g : B → Spelled) (f : A → B) (x : A) (ys : List A) (whole after : Spelled) where
  pub read_next2 : (xs : List A) (old : Spelled) → ys ≡ xs ++ x ∷ [] → whole ≡ joined (map g (map f xs)) ++ old → old ≡ g (f x) ++ after →
      whole ≡ joined (map g (map f ys)) ++ after
  read_next2 xs old same e r =
      let e' = rw (map_map g f xs) at e in
      rw (map_map g f ys) (read_next (λ y. g (f y)) x ys whole after xs old same e' r)

-- parts in brackets, of which there is at least one
pub in_brackets_some : {A : Type 0} (f : A → Spelled) (xs : List A) → 0 < length xs →
    in_brackets (map f xs) ≡ symbol s.OpenBracket ∷ (separated s.Comma (map f xs) ++ symbol s.CloseBracket ∷ [])
in_brackets_some f [] h = absurd (omega arith)
in_brackets_some f (x ∷ xs) h = refl
