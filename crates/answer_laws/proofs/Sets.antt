-- The tuples of a set are told by its text.
use Rattle.std.proofs.Common.{◌≡◌, ℕ, ◌<◌, Bool, true, false, eqb, List, [], ◌∷◌, ◌++◌, length, flat_map, codes, refl, sym, ap, ◌∙◌, arith, append_assoc}
use Rattle.std.specs.List.{AllByRecursion}
use Rattle.std.proofs.lemmas.Bool.{true≢false}
use Rattle.answer_trace.specs.Text.{atom_text, tuple_text, tuples_text}
use Rattle.answer_laws.specs.Form.{is_stop, IsAtomText}
use Rattle.answer_laws.proofs.Apart.{atoms_apart}

-- what is known of the texts of atoms
pub record AreApart (atoms : List (List ℕ)) : Type 0 where
  pub forms : (a : ℕ) → a < length atoms → IsAtomText (atom_text atoms a)
  pub distinct : (i j : ℕ) → i < length atoms → j < length atoms → atom_text atoms i ≡ atom_text atoms j → i ≡ j

abbrev pub AreNumbers : List (List ℕ) → List ℕ → Type 0
AreNumbers atoms = AllByRecursion (λ a. a < length atoms)

-- a text that begins with a byte at which an atom ends
record Stops (text : List ℕ) : Type 0 where
  byte : ℕ
  bytes : List ℕ
  is : text ≡ byte ∷ bytes
  stop : is_stop byte ≡ true

stops : (byte : ℕ) (bytes : List ℕ) → is_stop byte ≡ true → Stops (byte ∷ bytes)
stops b bs stop = record { byte = b; bytes = bs; is = refl; stop = stop }

atom_apart : (atoms : List (List ℕ)) → AreApart atoms → (a b : ℕ) (r s : List ℕ) → a < length atoms → b < length atoms → Stops r → Stops s → atom_text atoms a ++ r ≡ atom_text atoms b ++ s → (a ≡ b) × (r ≡ s)
atom_apart atoms apart a b r s here there p q e =
    let whole : atom_text atoms a ++ p.byte ∷ p.bytes ≡ atom_text atoms b ++ q.byte ∷ q.bytes = ap (λ x. atom_text atoms a ++ x) (sym p.is) ∙ e ∙ ap (λ x. atom_text atoms b ++ x) q.is in
    let found = atoms_apart (atom_text atoms a) (atom_text atoms b) p.byte q.byte p.bytes q.bytes (apart.forms a here) (apart.forms b there) p.stop q.stop whole in
    (apart.distinct a b here there found.0, p.is ∙ found.1 ∙ sym q.is)

-- ---- a tuple

abbrev arrows : List (List ℕ) → List ℕ → List ℕ
arrows atoms t = flat_map (λ b. codes "->" ++ atom_text atoms b) t

arrows_stop : (atoms : List (List ℕ)) (t r : List ℕ) → Stops r → Stops (arrows atoms t ++ r)
arrows_stop atoms [] r p = p
arrows_stop atoms (a ∷ t) r p = stops 45 (62 ∷ ((atom_text atoms a ++ arrows atoms t) ++ r)) refl

-- an atom, and those behind arrows
first_apart : (atoms : List (List ℕ)) → AreApart atoms → (a b : ℕ) (t u r s : List ℕ) → a < length atoms → b < length atoms → Stops r → Stops s → (atom_text atoms a ++ arrows atoms t) ++ r ≡ (atom_text atoms b ++ arrows atoms u) ++ s → (a ≡ b) × (arrows atoms t ++ r ≡ arrows atoms u ++ s)
first_apart atoms apart a b t u r s here there p q e =
    atom_apart atoms apart a b (arrows atoms t ++ r) (arrows atoms u ++ s) here there (arrows_stop atoms t r p) (arrows_stop atoms u s q)
    (sym (append_assoc (atom_text atoms a) (arrows atoms t) r) ∙ e ∙ append_assoc (atom_text atoms b) (arrows atoms u) s)

arrows_apart : (atoms : List (List ℕ)) → AreApart atoms → (t u r s : List ℕ) → AreNumbers atoms t → AreNumbers atoms u → length t ≡ length u → Stops r → Stops s → arrows atoms t ++ r ≡ arrows atoms u ++ s → (t ≡ u) × (r ≡ s)
arrows_apart atoms apart [] [] r s nt nu same p q e = (refl, e)
arrows_apart atoms apart [] (b ∷ u) r s nt nu same p q e = absurd (omega arith)
arrows_apart atoms apart (a ∷ t) [] r s nt nu same p q e = absurd (omega arith)
arrows_apart atoms apart (a ∷ t) (b ∷ u) r s nt nu same p q e =
    let whole : 45 ∷ 62 ∷ ((atom_text atoms a ++ arrows atoms t) ++ r) ≡ 45 ∷ 62 ∷ ((atom_text atoms b ++ arrows atoms u) ++ s) = e in
    let rest : (atom_text atoms a ++ arrows atoms t) ++ r ≡ (atom_text atoms b ++ arrows atoms u) ++ s = cc in
    let found = first_apart atoms apart a b t u r s nt.0 nu.0 p q rest in
    let more = arrows_apart atoms apart t u r s nt.1 nu.1 (omega arith) p q found.1 in
    let first : a ≡ b = found.0 in
    let tails : t ≡ u = more.0 in
    let all : a ∷ t ≡ b ∷ u = cc in
    (all, more.1)

tuple_apart : (atoms : List (List ℕ)) → AreApart atoms → (t u r s : List ℕ) → AreNumbers atoms t → AreNumbers atoms u → length t ≡ length u → Stops r → Stops s → tuple_text atoms t ++ r ≡ tuple_text atoms u ++ s → (t ≡ u) × (r ≡ s)
tuple_apart atoms apart [] [] r s nt nu same p q e = (refl, e)
tuple_apart atoms apart [] (b ∷ u) r s nt nu same p q e = absurd (omega arith)
tuple_apart atoms apart (a ∷ t) [] r s nt nu same p q e = absurd (omega arith)
tuple_apart atoms apart (a ∷ t) (b ∷ u) r s nt nu same p q e =
    let found = first_apart atoms apart a b t u r s nt.0 nu.0 p q e in
    let more = arrows_apart atoms apart t u r s nt.1 nu.1 (omega arith) p q found.1 in
    let first : a ≡ b = found.0 in
    let tails : t ≡ u = more.0 in
    let all : a ∷ t ≡ b ∷ u = cc in
    (all, more.1)

-- ---- first bytes

abbrev is_first : ℕ → List ℕ → Bool
is_first byte [] = false
is_first byte (x ∷ xs) = eqb x byte

-- texts with different first bytes differ
differ : (c d : ℕ) (r s : List ℕ) → eqb c c ≡ true → eqb d c ≡ false → c ∷ r ≡ d ∷ s → true ≡ false
differ c d r s same other e = sym same ∙ ap (is_first c) e ∙ other

abbrev rest_of : List ℕ → List ℕ
rest_of [] = []
rest_of (x ∷ xs) = xs

behind_one : (c d : ℕ) (r s : List ℕ) → c ∷ r ≡ d ∷ s → r ≡ s
behind_one c d r s e = ap rest_of e

behind_two : (c d : ℕ) (r s : List ℕ) → c ∷ d ∷ r ≡ c ∷ d ∷ s → r ≡ s
behind_two c d r s e = ap (λ l. rest_of (rest_of l)) e

-- ---- the tuples of a line

abbrev commas : List (List ℕ) → List (List ℕ) → List ℕ
commas atoms ts = flat_map (λ u. codes ", " ++ tuple_text atoms u) ts

abbrev pub AreTuples : List (List ℕ) → ℕ → List (List ℕ) → Type 0
AreTuples atoms columns = AllByRecursion (λ t. (length t ≡ columns) × AreNumbers atoms t)

both_parts : (t u : List ℕ) (ts us : List (List ℕ)) → t ≡ u → ts ≡ us → t ∷ ts ≡ u ∷ us
both_parts t u ts us first tails = ap (λ x. x ∷ ts) first ∙ ap (λ xs. u ∷ xs) tails

commas_stop : (atoms : List (List ℕ)) (ts : List (List ℕ)) (r : List ℕ) → Stops (commas atoms ts ++ 10 ∷ r)
commas_stop atoms [] r = stops 10 r refl
commas_stop atoms (t ∷ ts) r = stops 44 (32 ∷ ((tuple_text atoms t ++ commas atoms ts) ++ 10 ∷ r)) refl

-- a tuple, and those behind commas
behind_first : (atoms : List (List ℕ)) → AreApart atoms → (columns : ℕ) (t u : List ℕ) (ts us : List (List ℕ)) (r s : List ℕ) → AreTuples atoms columns (t ∷ ts) → AreTuples atoms columns (u ∷ us) → (tuple_text atoms t ++ commas atoms ts) ++ 10 ∷ r ≡ (tuple_text atoms u ++ commas atoms us) ++ 10 ∷ s → (t ≡ u) × (commas atoms ts ++ 10 ∷ r ≡ commas atoms us ++ 10 ∷ s)
behind_first atoms apart columns t u ts us r s nt nu e =
    tuple_apart atoms apart t u (commas atoms ts ++ 10 ∷ r) (commas atoms us ++ 10 ∷ s) nt.0.1 nu.0.1 (nt.0.0 ∙ sym nu.0.0) (commas_stop atoms ts r) (commas_stop atoms us s)
    (sym (append_assoc (tuple_text atoms t) (commas atoms ts) (10 ∷ r)) ∙ e ∙ append_assoc (tuple_text atoms u) (commas atoms us) (10 ∷ s))

commas_apart : (atoms : List (List ℕ)) → AreApart atoms → (columns : ℕ) (ts us : List (List ℕ)) (r s : List ℕ) → AreTuples atoms columns ts → AreTuples atoms columns us → commas atoms ts ++ 10 ∷ r ≡ commas atoms us ++ 10 ∷ s → (ts ≡ us) × (r ≡ s)
commas_apart atoms apart columns [] [] r s nt nu e = (refl, behind_one 10 10 r s e)
commas_apart atoms apart columns [] (u ∷ us) r s nt nu e = absurd (true≢false (differ 10 44 r (32 ∷ ((tuple_text atoms u ++ commas atoms us) ++ 10 ∷ s)) refl refl e))
commas_apart atoms apart columns (t ∷ ts) [] r s nt nu e = absurd (true≢false (differ 44 10 (32 ∷ ((tuple_text atoms t ++ commas atoms ts) ++ 10 ∷ r)) s refl refl e))
commas_apart atoms apart columns (t ∷ ts) (u ∷ us) r s nt nu e =
    let found = behind_first atoms apart columns t u ts us r s nt nu (behind_two 44 32 ((tuple_text atoms t ++ commas atoms ts) ++ 10 ∷ r) ((tuple_text atoms u ++ commas atoms us) ++ 10 ∷ s) e) in
    let more = commas_apart atoms apart columns ts us r s nt.1 nu.1 found.1 in
    (both_parts t u ts us found.0 more.0, more.1)

-- all the tuples of a line
pub tuples_apart : (atoms : List (List ℕ)) → AreApart atoms → (columns : ℕ) (ts us : List (List ℕ)) (r s : List ℕ) → AreTuples atoms columns ts → AreTuples atoms columns us → tuples_text atoms ts ++ 10 ∷ r ≡ tuples_text atoms us ++ 10 ∷ s → (ts ≡ us) × (r ≡ s)
tuples_apart atoms apart columns [] [] r s nt nu e = (refl, behind_one 10 10 r s e)
tuples_apart atoms apart columns [] (u ∷ us) r s nt nu e = absurd (true≢false (differ 10 32 r ((tuple_text atoms u ++ commas atoms us) ++ 10 ∷ s) refl refl e))
tuples_apart atoms apart columns (t ∷ ts) [] r s nt nu e = absurd (true≢false (differ 32 10 ((tuple_text atoms t ++ commas atoms ts) ++ 10 ∷ r) s refl refl e))
tuples_apart atoms apart columns (t ∷ ts) (u ∷ us) r s nt nu e =
    let found = behind_first atoms apart columns t u ts us r s nt nu (behind_one 32 32 ((tuple_text atoms t ++ commas atoms ts) ++ 10 ∷ r) ((tuple_text atoms u ++ commas atoms us) ++ 10 ∷ s) e) in
    let more = commas_apart atoms apart columns ts us r s nt.1 nu.1 found.1 in
    (both_parts t u ts us found.0 more.0, more.1)
