-- A root has one reading, and means one thing by it: both depend on its tree alone.
use Rattle.std.proofs.Common.{◌≡◌, ◌∙◌, Bool, [], ◌∷◌, Option, Some, None, slice_get, option_map, refl, sym, ap, subst, inl, inr}
use Rattle.std.proofs.lemmas.Option.{same_Some}
use Rattle.resolve_readings.specs.declared.part.Typing.{Typing}
use Rattle.resolve_readings.specs.declared.meaning.Meaning.{Meaning}
use Rattle.resolve_readings.specs.declared.part.Part.{Part, Name, Known, Single', Pair'}
use Rattle.resolve_readings.specs.Meanings.{single_of, pair_of}
use Rattle.resolve_readings.specs.Readings.{Choice, Only, Has, IsRight, IsRelevant, IsPlain, IsReading, read, before, bind}
use Rattle.resolve_readings.proofs.Unique.{one_reading}
use Rattle.resolve_rules.specs.Prepared.{Tree, name, known, single, pair, tree_of}
use Rattle.resolve_read.specs.Reads.{ReadAs}

-- what a tree is under a choice
read_tree : Typing → Tree → Choice → Option (Meaning × Choice)
read_tree typing (name candidates) [] = None
read_tree typing (name candidates) (number ∷ rest) = option_map (before rest) (slice_get candidates number)
read_tree typing (known m) choice = Some (m, choice)
read_tree typing (single op a) choice = bind (read_tree typing a choice) (λ r. option_map (before r.1) (single_of typing op r.0))
read_tree typing (pair op a b) choice = bind (read_tree typing a choice) (λ r. bind (read_tree typing b r.1) (λ s. option_map (before s.1) (pair_of typing op r.0 s.0)))

bind_same : {X Y : Type 0} (a b : Option X) (f g : X → Option Y) → a ≡ b → ((x : X) → f x ≡ g x) → bind a f ≡ bind b g
bind_same a b f g same each = subst (λ (o : Option _). bind a f ≡ bind o g) same (by a)
  where
    by : (o : Option _) → bind o f ≡ bind o g
    by None = refl
    by (Some x) = each x

-- parts are under a choice what their tree is
as_tree : (typing : Typing) (p : Part) (choice : Choice) → read typing p choice ≡ read_tree typing (tree_of p) choice
unfolding read_tree
as_tree typing (Name candidates) [] = refl
as_tree typing (Name candidates) (number ∷ rest) = refl
as_tree typing (Known m) choice = refl
as_tree typing (Single' op p a) choice = ap (λ (o : Option (Meaning × Choice)). bind o (λ r. option_map (before r.1) (single_of typing op r.0))) (as_tree typing a choice)
as_tree typing (Pair' op p a q b) choice =
    bind_same (read typing a choice) (read_tree typing (tree_of a) choice) (λ r. bind (read typing b r.1) (λ s. option_map (before s.1) (pair_of typing op r.0 s.0)))
    (λ r. bind (read_tree typing (tree_of b) r.1) (λ s. option_map (before s.1) (pair_of typing op r.0 s.0))) (as_tree typing a choice)
    (λ r. ap (λ (o : Option (Meaning × Choice)). bind o (λ s. option_map (before s.1) (pair_of typing op r.0 s.0))) (as_tree typing b r.1))

module _ (typing : Typing) (p q : Part) (same : tree_of p ≡ tree_of q) where
  same_read : (choice : Choice) → read typing p choice ≡ read typing q choice
  same_read choice = as_tree typing p choice ∙ (ap (λ (t : Tree). read_tree typing t choice) same ∙ sym (as_tree typing q choice))

  has_over : (test : Meaning → Bool) (choice : Choice) → Has typing p test choice → Has typing q test choice
  has_over test choice h = (h.0, sym (same_read choice) ∙ h.1, h.2)

module _ (typing : Typing) (p q : Part) (same : tree_of p ≡ tree_of q) where
  plain_over : (choice : Choice) → IsPlain typing p choice → IsPlain typing q choice
  plain_over choice (inl h) = inl (has_over typing p q same _ choice h)
  plain_over choice (inr h) = inr (λ other r. h.0 other (has_over typing q p (sym same) _ other r), has_over typing p q same _ choice h.1)

only_over : (P Q : Choice → Type 0) → ((c : Choice) → P c → Q c) → ((c : Choice) → Q c → P c) → (choice : Choice) → Only P choice → Only Q choice
only_over P Q over back choice h = (over choice h.0, λ y q. h.1 y (back y q))

-- a reading depends on the tree alone
reading_over : (typing : Typing) (p q : Part) → tree_of p ≡ tree_of q → (choice : Choice) → IsReading typing p choice → IsReading typing q choice
reading_over typing p q same choice (inl h) = inl (only_over (IsRight typing p) (IsRight typing q) (has_over typing p q same _) (has_over typing q p (sym same) _) choice h)
reading_over typing p q same choice (inr (inl h)) = inr (inl (only_over (IsRelevant typing p) (IsRelevant typing q) (has_over typing p q same _) (has_over typing q p (sym same) _) choice h))
reading_over typing p q same choice (inr (inr h)) = inr (inr (only_over (IsPlain typing p) (IsPlain typing q) (plain_over typing p q same) (plain_over typing q p (sym same)) choice h))

the_meaning : (m n : Meaning) (rest others : Choice) → ◌≡◌ {A = Option (Meaning × Choice)} (Some (m, rest)) (Some (n, others)) → m ≡ n
the_meaning m n rest others same = ap (λ (r : Meaning × Choice). r.0) (same_Some (m, rest) (n, others) same)

-- a tree is read in one way, and then means one thing
pub read_once : (typing : Typing) (t u : Tree) (choice other : Choice) (m n : Meaning) → t ≡ u → ReadAs typing t choice m → ReadAs typing u other n → (choice ≡ other) × (m ≡ n)
read_once typing t u choice other m n same (p, is, reading, means) (q, was, reads, meant) =
    let trees : tree_of p ≡ tree_of q = is ∙ (same ∙ sym was) in
    let one : choice ≡ other = one_reading typing q choice other (reading_over typing p q trees choice reading) reads in
    (one, the_meaning m n [] [] (sym means ∙ (ap (read typing p) one ∙ (same_read typing p q trees other ∙ meant))))
