-- Pieces of a text: what the tokens of a part say, part by part.
use Rattle.std.proofs.Common.{◌≡◌, ◌⊎◌, inl, inr, Bool, true, false, List, [], ◌∷◌, ◌++◌, Option, Some, None, map, refl, sym, ap, subst, ◌∙◌, true≢false, append_assoc}
use Rattle.syntax_tree.specs.declared.token.TokenKind.{TokenKind}
use Rattle.syntax_tree.specs.declared.token.Symbol.{Symbol}
use Rattle.syntax_tree.specs.Words.{Spelled, symbol}
use Rattle.syntax_tree.specs.Spelling.{after_each, separated, joined, optional}
use Rattle.syntax_single.specs.PlacelessModule.{each_part}
use Rattle.syntax_single.proofs.Cut.{heads, tails}

-- What is spelled so before such tokens is known from the text, as far as `plain` shows it.
pub record Piece (A V : Type 0) : Type 1 where
  pub words : A → Spelled
  pub plain : A → V
  pub Ok : A → Type 0
  pub Follow : Spelled → Type 0
  pub peels : (a b : A) (r s : Spelled) → Ok a → Ok b → Follow r → Follow s → words a ++ r ≡ words b ++ s → (plain a ≡ plain b) × (r ≡ s)

abbrev pub Any : Spelled → Type 0
Any r = Unit {0}

-- One token.

abbrev pub token : TokenKind → Piece (Unit {0}) (Unit {0})
token t = record {
  words = λ x. t ∷ [];
  plain = λ x. tt;
  Ok = λ x. Unit {0};
  Follow = Any;
  peels = λ a b r s p q f g h. (refl, tails t t r s h);
}

-- a token that shows all
abbrev pub one : {A V : Type 0} (token_of : A → TokenKind) (plain : A → V) → ((a b : A) → token_of a ≡ token_of b → plain a ≡ plain b) → Piece A V
one token_of plain known = record {
  words = λ a. token_of a ∷ [];
  plain = plain;
  Ok = λ a. Unit {0};
  Follow = Any;
  peels = λ a b r s p q f g h. (known a b (heads (token_of a) (token_of b) r s h), tails (token_of a) (token_of b) r s h);
}

pub flag_peels : (t : TokenKind) (test : Spelled → Bool) → ((ts : Spelled) → test (t ∷ ts) ≡ true) → (a b : Bool) (r s : Spelled) → test r ≡ false → test s ≡ false → optional a t ++ r ≡ optional b t ++ s → (a ≡ b) × (r ≡ s)
flag_peels t test is true true r s f g h = (refl, tails t t r s h)
flag_peels t test is true false r s f g h = absurd (true≢false (sym (is r) ∙ (ap test h ∙ g)))
flag_peels t test is false true r s f g h = absurd (true≢false (sym (is s) ∙ (ap test (sym h) ∙ f)))
flag_peels t test is false false r s f g h = (refl, h)

-- a token that stands or doesn't
abbrev pub flag : (t : TokenKind) (test : Spelled → Bool) → ((ts : Spelled) → test (t ∷ ts) ≡ true) → Piece Bool Bool
flag t test is = record {
  words = λ b. optional b t;
  plain = λ b. b;
  Ok = λ b. Unit {0};
  Follow = λ r. test r ≡ false;
  peels = λ a b r s p q f g h. flag_peels t test is a b r s f g h;
}

-- One behind the other.

pub paired : {A B : Type 0} (a c : A) (b d : B) → a ≡ c → b ≡ d → ◌≡◌ {A = A × B} (a, b) (c, d)
paired a c b d p q = cc

pub both_peels : {A B V W : Type 0} (P : Piece A V) (Q : Piece B W) → ((b : B) (r : Spelled) → Q.Ok b → Q.Follow r → P.Follow (Q.words b ++ r)) → (x y : A × B) (r s : Spelled) → P.Ok x.0 × Q.Ok x.1 → P.Ok y.0 × Q.Ok y.1 → Q.Follow r → Q.Follow s →
    (P.words x.0 ++ Q.words x.1) ++ r ≡ (P.words y.0 ++ Q.words y.1) ++ s → (◌≡◌ {A = V × W} (P.plain x.0, Q.plain x.1) (P.plain y.0, Q.plain y.1)) × (r ≡ s)
both_peels {A} {B} {V} {W} P Q joins x y r s p q f g h =
    let first : (P.plain x.0 ≡ P.plain y.0) × (Q.words x.1 ++ r ≡ Q.words y.1 ++ s) = P.peels x.0 y.0 (Q.words x.1 ++ r) (Q.words y.1 ++ s) p.0 q.0 (joins x.1 r p.1 f) (joins y.1 s q.1 g)
    (sym (append_assoc (P.words x.0) (Q.words x.1) r) ∙ (h ∙ append_assoc (P.words y.0) (Q.words y.1) s)) in
    let second : (Q.plain x.1 ≡ Q.plain y.1) × (r ≡ s) = Q.peels x.1 y.1 r s p.1 q.1 f g first.1 in
    (paired (P.plain x.0) (P.plain y.0) (Q.plain x.1) (Q.plain y.1) first.0 second.0, second.1)

abbrev pub both : {A B V W : Type 0} (P : Piece A V) (Q : Piece B W) → ((b : B) (r : Spelled) → Q.Ok b → Q.Follow r → P.Follow (Q.words b ++ r)) → Piece (A × B) (V × W)
both P Q joins = record {
  words = λ x. P.words x.0 ++ Q.words x.1;
  plain = λ x. (P.plain x.0, Q.plain x.1);
  Ok = λ x. P.Ok x.0 × Q.Ok x.1;
  Follow = Q.Follow;
  peels = both_peels P Q joins;
}

-- One or the other, by a test of the tokens.

abbrev pub sum_words : {A B : Type 0} (f : A → Spelled) (g : B → Spelled) → A ⊎ B → Spelled
sum_words f g (inl a) = f a
sum_words f g (inr b) = g b

abbrev pub sum_plain : {A B V W : Type 0} (f : A → V) (g : B → W) → A ⊎ B → V ⊎ W
sum_plain f g (inl a) = inl (f a)
sum_plain f g (inr b) = inr (g b)

abbrev pub sum_ok : {A B : Type 0} (F : A → Type 0) (G : B → Type 0) → A ⊎ B → Type 0
sum_ok F G (inl a) = F a
sum_ok F G (inr b) = G b

module _ {A B V W : Type 0} (P : Piece A V) (Q : Piece B W) (test : Spelled → Bool)
    (yes_ : (a : A) (r : Spelled) → P.Ok a → P.Follow r → Q.Follow r → test (P.words a ++ r) ≡ true) (no_ : (b : B) (r : Spelled) → Q.Ok b → P.Follow r → Q.Follow r → test (Q.words b ++ r) ≡ false) where
  pub sum_peels : (x y : A ⊎ B) (r s : Spelled) → sum_ok P.Ok Q.Ok x → sum_ok P.Ok Q.Ok y → P.Follow r × Q.Follow r → P.Follow s × Q.Follow s → sum_words P.words Q.words x ++ r ≡ sum_words P.words Q.words y ++ s →
      (sum_plain P.plain Q.plain x ≡ sum_plain P.plain Q.plain y) × (r ≡ s)
  sum_peels (inl a) (inl b) r s p q f g h = let it : (P.plain a ≡ P.plain b) × (r ≡ s) = P.peels a b r s p q f.0 g.0 h in (ap (λ (v : V). inl v) it.0, it.1)
  sum_peels (inl a) (inr b) r s p q f g h = absurd (true≢false (sym (yes_ a r p f.0 f.1) ∙ (ap test h ∙ no_ b s q g.0 g.1)))
  sum_peels (inr a) (inl b) r s p q f g h = absurd (true≢false (sym (yes_ b s q g.0 g.1) ∙ (ap test (sym h) ∙ no_ a r p f.0 f.1)))
  sum_peels (inr a) (inr b) r s p q f g h = let it : (Q.plain a ≡ Q.plain b) × (r ≡ s) = Q.peels a b r s p q f.1 g.1 h in (ap (λ (v : W). inr v) it.0, it.1)

  abbrev pub either : Piece (A ⊎ B) (V ⊎ W)
  either = record {
    words = sum_words P.words Q.words;
    plain = sum_plain P.plain Q.plain;
    Ok = sum_ok P.Ok Q.Ok;
    Follow = λ r. P.Follow r × Q.Follow r;
    peels = sum_peels;
  }

-- What stands or doesn't.

abbrev pub part_words : {A : Type 0} (f : A → Spelled) → Option A → Spelled
part_words f None = []
part_words f (Some a) = f a

abbrev pub part_ok : {A : Type 0} (F : A → Type 0) → Option A → Type 0
part_ok F None = Unit {0}
part_ok F (Some a) = F a

module _ {A V : Type 0} (P : Piece A V) (test : Spelled → Bool) (starts : (a : A) (r : Spelled) → P.Ok a → P.Follow r → test (P.words a ++ r) ≡ true) where
  pub part_peels : (x y : Option A) (r s : Spelled) → part_ok P.Ok x → part_ok P.Ok y → P.Follow r × (test r ≡ false) → P.Follow s × (test s ≡ false) → part_words P.words x ++ r ≡ part_words P.words y ++ s →
      (each_part P.plain x ≡ each_part P.plain y) × (r ≡ s)
  part_peels (Some a) (Some b) r s p q f g h = let it : (P.plain a ≡ P.plain b) × (r ≡ s) = P.peels a b r s p q f.0 g.0 h in (ap (λ (v : V). Some v) it.0, it.1)
  part_peels (Some a) None r s p q f g h = absurd (true≢false (sym (starts a r p f.0) ∙ (ap test h ∙ g.1)))
  part_peels None (Some b) r s p q f g h = absurd (true≢false (sym (starts b s q g.0) ∙ (ap test (sym h) ∙ f.1)))
  part_peels None None r s p q f g h = (refl, h)

  abbrev pub maybe : Piece (Option A) (Option V)
  maybe = record {
    words = part_words P.words;
    plain = each_part P.plain;
    Ok = part_ok P.Ok;
    Follow = λ r. P.Follow r × (test r ≡ false);
    peels = part_peels;
  }

-- The same seen in another way.

module _ {A C V W : Type 0} (P : Piece C V) (words : A → Spelled) (plain : A → W) (Ok : A → Type 0) (Follow : Spelled → Type 0) (to : A → C) (back : V → W)
    (is_ok : (a : A) → Ok a → P.Ok (to a)) (follows : (r : Spelled) → Follow r → P.Follow r) (is_spelled : (a : A) → Ok a → words a ≡ P.words (to a)) (is_plain : (a : A) → Ok a → plain a ≡ back (P.plain (to a))) where
  pub seen_peels : (a b : A) (r s : Spelled) → Ok a → Ok b → Follow r → Follow s → words a ++ r ≡ words b ++ s → (plain a ≡ plain b) × (r ≡ s)
  seen_peels a b r s p q f g h =
      let it : (P.plain (to a) ≡ P.plain (to b)) × (r ≡ s) = P.peels (to a) (to b) r s (is_ok a p) (is_ok b q) (follows r f) (follows s g) (ap (λ ws. ws ++ r) (sym (is_spelled a p)) ∙ (h ∙ ap (λ ws. ws ++ s) (is_spelled b q))) in
      (is_plain a p ∙ (ap back it.0 ∙ sym (is_plain b q)), it.1)

  abbrev pub seen : Piece A W
  seen = record { words = words; plain = plain; Ok = Ok; Follow = Follow; peels = seen_peels }

-- the same with other words, before other tokens, or with a token before or behind it
abbrev pub worded : {A V : Type 0} (P : Piece A V) (words : A → Spelled) → ((a : A) → words a ≡ P.words a) → Piece A V
worded P words same = record {
  words = words;
  plain = P.plain;
  Ok = P.Ok;
  Follow = P.Follow;
  peels = λ a b r s p q f g h. P.peels a b r s p q f g (ap (λ ws. ws ++ r) (sym (same a)) ∙ (h ∙ ap (λ ws. ws ++ s) (same b)));
}

abbrev pub narrow : {A V : Type 0} (P : Piece A V) (Follow : Spelled → Type 0) → ((r : Spelled) → Follow r → P.Follow r) → Piece A V
narrow P Follow follows = record {
  words = P.words;
  plain = P.plain;
  Ok = P.Ok;
  Follow = Follow;
  peels = λ a b r s p q f g h. P.peels a b r s p q (follows r f) (follows s g) h;
}

abbrev pub led : {A V : Type 0} (t : TokenKind) (P : Piece A V) → Piece A V
led t P = record {
  words = λ a. t ∷ P.words a;
  plain = P.plain;
  Ok = P.Ok;
  Follow = P.Follow;
  peels = λ a b r s p q f g h. P.peels a b r s p q f g (tails t t (P.words a ++ r) (P.words b ++ s) h);
}

pub ended_peels : {A V : Type 0} (P : Piece A V) (t : TokenKind) → ((r : Spelled) → P.Follow (t ∷ r)) → (a b : A) (r s : Spelled) → P.Ok a → P.Ok b → (P.words a ++ t ∷ []) ++ r ≡ (P.words b ++ t ∷ []) ++ s → (P.plain a ≡ P.plain b) × (r ≡ s)
ended_peels P t end a b r s p q h =
    let it : (P.plain a ≡ P.plain b) × (t ∷ r ≡ t ∷ s) = P.peels a b (t ∷ r) (t ∷ s) p q (end r) (end s) (sym (append_assoc (P.words a) (t ∷ []) r) ∙ (h ∙ append_assoc (P.words b) (t ∷ []) s)) in
    (it.0, tails t t r s it.1)

abbrev pub ended : {A V : Type 0} (P : Piece A V) (t : TokenKind) → ((r : Spelled) → P.Follow (t ∷ r)) → Piece A V
ended P t end = record {
  words = λ a. P.words a ++ t ∷ [];
  plain = P.plain;
  Ok = P.Ok;
  Follow = Any;
  peels = λ a b r s p q f g h. ended_peels P t end a b r s p q h;
}

-- Lists.

abbrev pub Each : {A : Type 0} → (A → Type 0) → List A → Type 0
Each Ok [] = Unit {0}
Each Ok (x ∷ xs) = Ok x × Each Ok xs

-- at least one
abbrev pub Some_ : {A : Type 0} → (A → Type 0) → List A → Type 0
Some_ Ok [] = ⊥
Some_ Ok (x ∷ xs) = Ok x × Each Ok xs

module _ {A V : Type 0} (P : Piece A V) (Follow : Spelled → Type 0) (test : Spelled → Bool) (last : (r : Spelled) → Follow r → P.Follow r) (ends : (r : Spelled) → Follow r → test r ≡ false) where
  -- with a mark between two of them, where the test says that one more follows
  module _ (m : Symbol) (goes_on : (x : A) (ts : Spelled) → P.Ok x → test (symbol m ∷ (P.words x ++ ts)) ≡ true) (next : (ts : Spelled) → P.Follow (symbol m ∷ ts)) where
    abbrev after_words : List A → Spelled
    after_words xs = after_each m (map P.words xs)

    shows : (x : A) (xs : List A) (r : Spelled) → P.Ok x → test (after_words (x ∷ xs) ++ r) ≡ true
    shows x xs r p = ap (λ ts. test (symbol m ∷ ts)) (append_assoc (P.words x) (after_words xs) r) ∙ goes_on x (after_words xs ++ r) p

    inner : (xs : List A) (r : Spelled) → Follow r → P.Follow (after_words xs ++ r)
    inner [] r f = last r f
    inner (x ∷ xs) r f = next ((P.words x ++ after_words xs) ++ r)

    after_peels : (xs ys : List A) (r s : Spelled) → Each P.Ok xs → Each P.Ok ys → Follow r → Follow s → after_words xs ++ r ≡ after_words ys ++ s → (map P.plain xs ≡ map P.plain ys) × (r ≡ s)
    after_peels [] [] r s p q f g h = (refl, h)
    after_peels [] (y ∷ ys) r s p q f g h = absurd (true≢false (sym (shows y ys s q.0) ∙ (ap test (sym h) ∙ ends r f)))
    after_peels (x ∷ xs) [] r s p q f g h = absurd (true≢false (sym (shows x xs r p.0) ∙ (ap test h ∙ ends s g)))
    after_peels (x ∷ xs) (y ∷ ys) r s p q f g h =
        let first : (P.plain x ≡ P.plain y) × (after_words xs ++ r ≡ after_words ys ++ s) = P.peels x y (after_words xs ++ r) (after_words ys ++ s) p.0 q.0 (inner xs r f) (inner ys s g)
        (sym (append_assoc (P.words x) (after_words xs) r) ∙ (tails (symbol m) (symbol m) ((P.words x ++ after_words xs) ++ r) ((P.words y ++ after_words ys) ++ s) h ∙ append_assoc (P.words y) (after_words ys) s)) in
        let rest : (map P.plain xs ≡ map P.plain ys) × (r ≡ s) = after_peels xs ys r s p.1 q.1 f g first.1 in
        (ap (λ z. z ∷ map P.plain xs) first.0 ∙ ap (λ zs. P.plain y ∷ zs) rest.0, rest.1)

    pub separated_peels : (xs ys : List A) (r s : Spelled) → Some_ P.Ok xs → Some_ P.Ok ys → Follow r → Follow s → separated m (map P.words xs) ++ r ≡ separated m (map P.words ys) ++ s → (map P.plain xs ≡ map P.plain ys) × (r ≡ s)
    separated_peels [] ys r s p q f g h = absurd p
    separated_peels (x ∷ xs) [] r s p q f g h = absurd q
    separated_peels (x ∷ xs) (y ∷ ys) r s p q f g h =
        let first : (P.plain x ≡ P.plain y) × (after_words xs ++ r ≡ after_words ys ++ s) = P.peels x y (after_words xs ++ r) (after_words ys ++ s) p.0 q.0 (inner xs r f) (inner ys s g)
        (sym (append_assoc (P.words x) (after_words xs) r) ∙ (h ∙ append_assoc (P.words y) (after_words ys) s)) in
        let rest : (map P.plain xs ≡ map P.plain ys) × (r ≡ s) = after_peels xs ys r s p.1 q.1 f g first.1 in
        (ap (λ z. z ∷ map P.plain xs) first.0 ∙ ap (λ zs. P.plain y ∷ zs) rest.0, rest.1)

    abbrev pub listed : Piece (List A) (List V)
    listed = record { words = λ xs. separated m (map P.words xs); plain = map P.plain; Ok = Some_ P.Ok; Follow = Follow; peels = separated_peels }

  -- one after another
  module _ (begins : (x : A) (ts : Spelled) → P.Ok x → (test (P.words x ++ ts) ≡ true) × P.Follow (P.words x ++ ts)) where
    behind : (xs : List A) (r : Spelled) → Each P.Ok xs → Follow r → P.Follow (joined (map P.words xs) ++ r)
    behind [] r p f = last r f
    behind (x ∷ xs) r p f = subst P.Follow (sym (append_assoc (P.words x) (joined (map P.words xs)) r)) (begins x (joined (map P.words xs) ++ r) p.0).1

    pub joined_peels : (xs ys : List A) (r s : Spelled) → Each P.Ok xs → Each P.Ok ys → Follow r → Follow s → joined (map P.words xs) ++ r ≡ joined (map P.words ys) ++ s → (map P.plain xs ≡ map P.plain ys) × (r ≡ s)
    joined_peels [] [] r s p q f g h = (refl, h)
    joined_peels [] (y ∷ ys) r s p q f g h = absurd (true≢false (sym (begins y (joined (map P.words ys) ++ s) q.0).0 ∙ (ap test (sym (h ∙ append_assoc (P.words y) (joined (map P.words ys)) s)) ∙ ends r f)))
    joined_peels (x ∷ xs) [] r s p q f g h = absurd (true≢false (sym (begins x (joined (map P.words xs) ++ r) p.0).0 ∙ (ap test (sym (append_assoc (P.words x) (joined (map P.words xs)) r) ∙ h) ∙ ends s g)))
    joined_peels (x ∷ xs) (y ∷ ys) r s p q f g h =
        let first : (P.plain x ≡ P.plain y) × (joined (map P.words xs) ++ r ≡ joined (map P.words ys) ++ s) = P.peels x y (joined (map P.words xs) ++ r) (joined (map P.words ys) ++ s) p.0 q.0 (behind xs r p.1 f) (behind ys s q.1 g)
        (sym (append_assoc (P.words x) (joined (map P.words xs)) r) ∙ (h ∙ append_assoc (P.words y) (joined (map P.words ys)) s)) in
        let rest : (map P.plain xs ≡ map P.plain ys) × (r ≡ s) = joined_peels xs ys r s p.1 q.1 f g first.1 in
        (ap (λ z. z ∷ map P.plain xs) first.0 ∙ ap (λ zs. P.plain y ∷ zs) rest.0, rest.1)

    abbrev pub row : Piece (List A) (List V)
    row = record { words = λ xs. joined (map P.words xs); plain = map P.plain; Ok = Each P.Ok; Follow = Follow; peels = joined_peels }
