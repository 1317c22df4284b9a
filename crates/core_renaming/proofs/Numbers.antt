-- Numbers of tuples, and what sets stand for as integers, go with a renaming that leaves integers as they are.
use Rattle.std.proofs.Common.{◌≡◌, ◌↔◌, ℕ, zero, suc, ◌≤◌, List, [], ◌∷◌, map, get_or, ℤ, pos, refl, sym, ap, ◌∙◌, subst, arith}
use Rattle.std.proofs.lemmas.List.{length-map}
use Rattle.std.proofs.lemmas.List.Elements.{All-map}
use Rattle.core_tree.specs.declared.operators.Comparison.{Comparison}
use Rattle.core_tree.specs.declared.operators.Comparison.TheVariants.{Equal, Less, AtMost, Greater, AtLeast}
use Rattle.core_meaning.specs.Integers.{wrap, sum_of}
use Rattle.core_meaning.specs.World.{World, atom_of, IsInteger}
use Rattle.core_meaning.specs.Operators.{Tuples, IsListOf, IsCount, IsNumber, IsSumOver, IsLess, Compares}
use Rattle.core_window.proofs.SameLemmas.{not_same}
use Rattle.core_renaming.specs.Renamings.{Renaming, inverse}
use Rattle.core_renaming.proofs.Moves.{renamed_back, Moved, turn}

-- ---- lists without repeats

module _ {X : Type 0} (f g : X → X) (there : (x : X) → f (g x) ≡ x) (again : (x : X) → g (f x) ≡ x) where
  item : (xs : List X) (k : ℕ) (d : X) → get_or xs k (g d) ≡ g (get_or (map f xs) k d)
  item [] k d = refl
  item (x ∷ xs) zero d = sym (again x)
  item (x ∷ xs) (suc k) d = item xs k d

  pub list_to : {A B : X → Type 0} → ((x : X) → A x → B (f x)) → ((x : X) → B x → A (g x)) → (xs : List X) → IsListOf A xs → IsListOf B (map f xs)
  list_to {A} {B} to from xs h = record {
    distinct = λ i j d lt within same.
        let count = length-map xs f in
        h.distinct i j (g d) lt (omega (arith, within, count)) (item xs i d ∙ ap g same ∙ sym (item xs j d));
    all_and_only = λ y.
        let count = length-map xs f in (
          (λ (k, lt, e). subst B (there y) (to (g y) ((h.all_and_only (g y)).0 (k, omega (arith, lt, count), item xs k y ∙ ap g e)))),
          (λ has. let (k, lt, e) = (h.all_and_only (g y)).1 (from y has) in
              (k, omega (arith, lt, count), sym (there (get_or (map f xs) k y)) ∙ ap f (sym (item xs k y) ∙ e) ∙ there y)),
        );
  }

-- the same members, for a set that has the same
pub list_same : {X : Type 0} {A B : X → Type 0} → ((x : X) → A x ↔ B x) → (xs : List X) → IsListOf A xs → IsListOf B xs
list_same same xs h = record { distinct = h.distinct; all_and_only = λ x. ((λ c. (same x).0 ((h.all_and_only x).0 c)), (λ b. (h.all_and_only x).1 ((same x).1 b))) }

abbrev renamed_row : Renaming → List ℕ × ℤ → List ℕ × ℤ
renamed_row r row = (map r.to row.0, row.1)

rows_first : (r : Renaming) (rows : List (List ℕ × ℤ)) → map (map r.to) (map (λ (row : List ℕ × ℤ). row.0) rows) ≡ map (λ (row : List ℕ × ℤ). row.0) (map (renamed_row r) rows)
rows_first r [] = refl
rows_first r (row ∷ rows) = ap (λ rest. map r.to row.0 ∷ rest) (rows_first r rows)

rows_second : (r : Renaming) (rows : List (List ℕ × ℤ)) → map (λ (row : List ℕ × ℤ). row.1) rows ≡ map (λ (row : List ℕ × ℤ). row.1) (map (renamed_row r) rows)
rows_second r [] = refl
rows_second r (row ∷ rows) = ap (λ rest. row.1 ∷ rest) (rows_second r rows)

-- ---- in a world

module _ (w : World) where
  count_to : (r : Renaming) {A B : Tuples} → Moved r A B → (n : ℤ) → IsCount w A n → IsCount w B n
  count_to r u n (ts, l, e) =
      (map (map r.to) ts, list_to (map r.to) (map r.from) (renamed_back (inverse r)) (renamed_back r) u.to u.from ts l, e ∙ ap (λ k. wrap w.bits (pos k)) (sym (length-map ts (map r.to))))

  pub count_moved : (r : Renaming) {A B : Tuples} → Moved r A B → (n : ℤ) → IsCount w A n ↔ IsCount w B n
  count_moved r u n = (count_to r u n, count_to (inverse r) (turn u) n)

  sum_to : (r : Renaming) {A B : Tuples} → Moved r A B → (F G : List ℕ → ℤ → Type 0) → ((t : List ℕ) (m : ℤ) → F t m → G (map r.to t) m) → (n : ℤ) → IsSumOver w A F n → IsSumOver w B G n
  sum_to r {A} {B} u F G f n (rows, l, all, e) = (
    map (renamed_row r) rows,
    subst (IsListOf B) (rows_first r rows) (list_to (map r.to) (map r.from) (renamed_back (inverse r)) (renamed_back r) u.to u.from (map (λ (row : List ℕ × ℤ). row.0) rows) l),
    All-map (λ (row : List ℕ × ℤ). G row.0 row.1) (renamed_row r) rows (λ k d lt. f (get_or rows k d).0 (get_or rows k d).1 (all k d lt)),
    e ∙ ap (λ zs. wrap w.bits (sum_of zs)) (rows_second r rows),
  )

  pub sum_moved : (r : Renaming) {A B : Tuples} → Moved r A B → (F G : List ℕ → ℤ → Type 0) → ((m : ℤ) → Moved r (λ t. F t m) (λ t. G t m)) → (n : ℤ) → IsSumOver w A F n ↔ IsSumOver w B G n
  sum_moved r u F G same n = (sum_to r u F G (λ t m. (same m).to t) n, sum_to (inverse r) (turn u) G F (λ t m. (same m).from t) n)

  -- integers stay as they are
  abbrev pub Stay : Renaming → Type 0
  Stay r = (a : ℕ) → w.atoms ≤ a → r.to a ≡ a

  pub inverse_stays : (r : Renaming) → Stay r → Stay (inverse r)
  inverse_stays r stay a high = sym (ap r.from (stay a high)) ∙ r.from_to a

  integer_member : (r : Renaming) → Stay r → {A B : Tuples} → Moved r A B → (a : ℕ) → (IsInteger w a × A (a ∷ [])) → (IsInteger w a × B (a ∷ []))
  integer_member r stay {A} {B} u a (is, has) = (is, subst (λ b. B (b ∷ [])) (stay a is.0) (u.to (a ∷ []) has))

  number_to : (r : Renaming) → Stay r → {A B : Tuples} → Moved r A B → (n : ℤ) → IsNumber w A n → IsNumber w B n
  number_to r stay u n (members, l, e) =
      (members, list_same (λ a. (integer_member r stay u a, integer_member (inverse r) (inverse_stays r stay) (turn u) a)) members l, e)

  pub number_moved : (r : Renaming) → Stay r → {A B : Tuples} → Moved r A B → (n : ℤ) → IsNumber w A n ↔ IsNumber w B n
  number_moved r stay u n = (number_to r stay u n, number_to (inverse r) (inverse_stays r stay) (turn u) n)

  less_moved : (r : Renaming) → Stay r → {A B C D : Tuples} → Moved r A B → Moved r C D → IsLess w A C ↔ IsLess w B D
  less_moved r stay u v = (
    (λ (x, y, k, l, e). (x, y, (number_moved r stay u x).0 k, (number_moved r stay v y).0 l, e)),
    (λ (x, y, k, l, e). (x, y, (number_moved r stay u x).1 k, (number_moved r stay v y).1 l, e)),
  )

  pub compares_moved : (r : Renaming) → Stay r → (op : Comparison) {A B C D : Tuples} → Moved r A B → Moved r C D → Compares w op A C ↔ Compares w op B D
  compares_moved r stay Equal u v = ((λ (x, k, l). (x, (number_moved r stay u x).0 k, (number_moved r stay v x).0 l)), (λ (x, k, l). (x, (number_moved r stay u x).1 k, (number_moved r stay v x).1 l)))
  compares_moved r stay Less u v = less_moved r stay u v
  compares_moved r stay AtMost u v = not_same (less_moved r stay v u)
  compares_moved r stay Greater u v = less_moved r stay v u
  compares_moved r stay AtLeast u v = not_same (less_moved r stay u v)

  -- the atom of an integer
  integer_stays : (r : Renaming) → Stay r → (z : ℤ) → r.to (atom_of w z) ≡ atom_of w z
  integer_stays r stay z = stay (atom_of w z) (omega arith)

  abbrev pub integer_tuples : (ℤ → Type 0) → Tuples
  integer_tuples F t = (z : ℤ) × F z × (t ≡ atom_of w z ∷ [])

  integer_to : (r : Renaming) → Stay r → (z : ℤ) (t : List ℕ) → t ≡ atom_of w z ∷ [] → map r.to t ≡ atom_of w z ∷ []
  integer_to r stay z t e = ap (map r.to) e ∙ ap (λ a. a ∷ []) (integer_stays r stay z)

  pub integer_moved : (r : Renaming) → Stay r → (z : ℤ) → Moved r (λ t. t ≡ atom_of w z ∷ []) (λ t. t ≡ atom_of w z ∷ [])
  integer_moved r stay z = record { to = integer_to r stay z; from = integer_to (inverse r) (inverse_stays r stay) z }

  pub integers_moved : (r : Renaming) → Stay r → (F G : ℤ → Type 0) → ((z : ℤ) → F z ↔ G z) → Moved r (integer_tuples F) (integer_tuples G)
  integers_moved r stay F G same = record {
    to = λ t (z, has, e). (z, (same z).0 has, integer_to r stay z t e);
    from = λ t (z, has, e). (z, (same z).1 has, integer_to (inverse r) (inverse_stays r stay) z t e);
  }

  pub arithmetic_moved : (r : Renaming) → Stay r → (f : ℤ → ℤ → ℤ) → {A B C D : Tuples} → Moved r A B → Moved r C D →
      Moved r (λ t. (x y : ℤ) × IsNumber w A x × IsNumber w C y × (t ≡ atom_of w (f x y) ∷ [])) (λ t. (x y : ℤ) × IsNumber w B x × IsNumber w D y × (t ≡ atom_of w (f x y) ∷ []))
  arithmetic_moved r stay f u v = record {
    to = λ t (x, y, k, l, e). (x, y, (number_moved r stay u x).0 k, (number_moved r stay v y).0 l, integer_to r stay (f x y) t e);
    from = λ t (x, y, k, l, e). (x, y, (number_moved r stay u x).1 k, (number_moved r stay v y).1 l, integer_to (inverse r) (inverse_stays r stay) (f x y) t e);
  }
