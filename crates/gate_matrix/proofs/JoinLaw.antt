-- What the entries that are joined say of the join.
use Rattle.std.proofs.Common.{◌≡◌, ℕ, suc, ◌+◌, ◌-◌, ◌<◌, ◌≤◌, Bool, true, ◌&&◌, ◌||◌, eqb, List, [], ◌∷◌, ◌++◌, length, take, drop, get_or, refl, sym, ◌∙◌, ap, subst, arith, All, length-append, length-drop, Result, Ok, Err, IfOk, ◌↔◌}
use Rattle.std.specs.List.{list_any}
use Rattle.std.proofs.lemmas.List.Elements.{All-take, All-drop, All-append}
use Rattle.std.proofs.lemmas.List.Folds.{Any-from_list_any, list_any_at}
use Rattle.std.proofs.lemmas.Bool.Decides.{nat_tests}
use Rattle.gate_trait.specs.declared.node.Node.{Node}
use Rattle.gate_trait.specs.Built.{Keeps}
use Rattle.core_tuples.specs.Index.{FitsIndex, IsNumber}
use Rattle.core_tuples.specs.Sets.{is_same}
use Rattle.core_tuples.proofs.OrderedLemmas.{both, same_exact, same_itself}
use Rattle.gate_matrix.specs.declared.entry.Entry.{Entry}
use Rattle.gate_matrix.specs.Matrices.{AllBelong, MatrixEntries, IsMatrix, truth, has_row}
use Rattle.gate_matrix.specs.Joined.{first_of, last_of, front_of, has_join, has_pair, has_turned, IsJoined, IsPaired, IsTurned}
use Rattle.gate_matrix.proofs.BasicLemmas.{head_all, tail_all, all_here}
use Rattle.gate_matrix.proofs.FoundLemmas.{found_entry, truth_here}

pub two_values : {a b c d : Bool} → a ≡ c → b ≡ d → a && b ≡ c && d
two_values e f = cc

pub part_all : (P : Entry → Type 0) (row right : List Entry) → ((i : ℕ) × (n : ℕ) × (row ≡ take n (drop i right))) → All P right → All P row
part_all P row right part all = subst (λ (es : List Entry). All P es) (sym part.2) (All-take P part.1 (drop part.0 right) (All-drop P part.0 right all))

row_kept : {S : Type 0} (belongs : S → Node → Type 0) (value : S → (ℕ → Bool) → Node → Bool) (g h : S) → Keeps belongs value g h → (head : List ℕ) (node : Node) (skip : ℕ) (es : List Entry) → belongs g node → AllBelong (belongs g) es → (x : ℕ → Bool) (t : List ℕ) → has_row (value h x) head node skip es t ≡ has_row (value g x) head node skip es t
row_kept belongs value g h keeps head node skip [] there b x t = refl
row_kept belongs value g h keeps head node skip (e ∷ es) there b x t =
    let P : Entry → Type 0 = λ (f : Entry). belongs g f.node in
    ap (λ (v : Bool). (is_same (head ++ drop skip e.tuple) t && v) || has_row (value h x) head node skip es t) (two_values (keeps.values node there x) (keeps.values e.node (head_all P e es b) x))
    ∙ ap (λ (v : Bool). (is_same (head ++ drop skip e.tuple) t && (value g x node && value g x e.node)) || v) (row_kept belongs value g h keeps head node skip es there (tail_all P e es b) x t)

-- what one entry's row says
pub join_row : {S : Type 0} (belongs : S → Node → Type 0) (value : S → (ℕ → Bool) → Node → Bool) (g h : S) → Keeps belongs value g h → (numbers : List ℕ) (e : Entry) (row right : List Entry) → ((i : ℕ) × (n : ℕ) × (row ≡ take n (drop i right))) → ((p : Entry → Bool) → list_any p row ≡ list_any (λ f. eqb (first_of f) (last_of numbers) && p f) right) → numbers ≡ e.tuple → belongs g e.node → AllBelong (belongs g) right → (x : ℕ → Bool) (t : List ℕ)
    → has_row (value h x) (front_of numbers) e.node 1 row t ≡ list_any (λ f. eqb (first_of f) (last_of e.tuple) && (is_same (front_of e.tuple ++ drop 1 f.tuple) t && (value g x e.node && value g x f.node))) right
join_row belongs value g h keeps numbers e row right part tests is there b x t =
    row_kept belongs value g h keeps (front_of numbers) e.node 1 row there (part_all (λ (f : Entry). belongs g f.node) row right part b) x t
    ∙ tests (λ (f : Entry). is_same (front_of numbers ++ drop 1 f.tuple) t && (value g x e.node && value g x f.node))
    ∙ ap (λ (s : List ℕ). list_any (λ (f : Entry). eqb (first_of f) (last_of s) && (is_same (front_of s ++ drop 1 f.tuple) t && (value g x e.node && value g x f.node))) right) is

front_last : (t : List ℕ) → 1 ≤ length t → front_of t ++ last_of t ∷ [] ≡ t
front_last [] long = absurd (omega arith)
front_last (x ∷ []) long = refl
front_last (x ∷ (y ∷ t)) long =
    let e : length (x ∷ (y ∷ t)) - 1 ≡ suc (length t) = omega arith in
    let f : length (y ∷ t) - 1 ≡ length t = omega arith in
    ap (λ (n : ℕ). take n (x ∷ (y ∷ t)) ++ get_or (x ∷ (y ∷ t)) n 0 ∷ []) e
    ∙ ap (λ (s : List ℕ). x ∷ s) (ap (λ (n : ℕ). take n (y ∷ t) ++ get_or (y ∷ t) n 0 ∷ []) (sym f) ∙ front_last (y ∷ t) (omega arith))

first_rest : (t : List ℕ) → 1 ≤ length t → get_or t 0 0 ∷ drop 1 t ≡ t
first_rest [] long = absurd (omega arith)
first_rest (x ∷ t) long = refl

front_snoc : (s : List ℕ) (c : ℕ) → take (length s) (s ++ c ∷ []) ≡ s
front_snoc [] c = refl
front_snoc (x ∷ s) c = ap (λ (u : List ℕ). x ∷ u) (front_snoc s c)

last_snoc : (s : List ℕ) (c : ℕ) → get_or (s ++ c ∷ []) (length s) 0 ≡ c
last_snoc [] c = refl
last_snoc (x ∷ s) c = last_snoc s c

front_of_snoc : (s : List ℕ) (c : ℕ) → front_of (s ++ c ∷ []) ≡ s
front_of_snoc s c =
    let e : length (s ++ c ∷ []) - 1 ≡ length s = omega (arith, length-append s (c ∷ [])) in
    ap (λ (n : ℕ). take n (s ++ c ∷ [])) e ∙ front_snoc s c

last_of_snoc : (s : List ℕ) (c : ℕ) → last_of (s ++ c ∷ []) ≡ c
last_of_snoc s c =
    let e : length (s ++ c ∷ []) - 1 ≡ length s = omega (arith, length-append s (c ∷ [])) in
    ap (λ (n : ℕ). get_or (s ++ c ∷ []) n 0) e ∙ last_snoc s c

eqb_exact : (x y : ℕ) → eqb x y ≡ true → x ≡ y
eqb_exact x y h = grind (arith, nat_tests)

eqb_same : (x y : ℕ) → x ≡ y → eqb x y ≡ true
eqb_same x y h = grind (arith, nat_tests)

columns_here : (m : MatrixEntries) (k : ℕ) (e : Entry) → IsMatrix m → k < length m.entries → get_or m.entries k e ≡ e → length e.tuple ≡ m.arity
columns_here m k e i lt is = ap (λ (f : Entry). length f.tuple) (sym is) ∙ i.columns k e lt

-- entries that are joined make tuples of the join
joined_from : (value : Node → Bool) (a b : MatrixEntries) → IsMatrix a → IsMatrix b → 1 ≤ a.arity → 1 ≤ b.arity → (t : List ℕ) → has_join value a.entries b.entries t ≡ true → IsJoined value a b t
joined_from value a b ia ib la lb t h =
    let pe = λ (d : Entry). list_any (λ (f : Entry). eqb (first_of f) (last_of d.tuple) && (is_same (front_of d.tuple ++ drop 1 f.tuple) t && (value d.node && value f.node))) b.entries in
    let o = Any-from_list_any pe a.entries h in
    let e = o.1 in
    let pf = λ (f : Entry). eqb (first_of f) (last_of e.tuple) && (is_same (front_of e.tuple ++ drop 1 f.tuple) t && (value e.node && value f.node)) in
    let n = Any-from_list_any pf b.entries o.4 in
    let f = n.1 in
    let x = both (eqb (first_of f) (last_of e.tuple)) (is_same (front_of e.tuple ++ drop 1 f.tuple) t && (value e.node && value f.node)) n.4 in
    let y = both (is_same (front_of e.tuple ++ drop 1 f.tuple) t) (value e.node && value f.node) x.1 in
    let z = both (value e.node) (value f.node) y.1 in
    let long_e : 1 ≤ length e.tuple = omega (arith, columns_here a o.0 e ia o.2 o.3) in
    let long_f : 1 ≤ length f.tuple = omega (arith, columns_here b n.0 f ib n.2 n.3) in
    let meet : last_of e.tuple ≡ first_of f = sym (eqb_exact (first_of f) (last_of e.tuple) x.0) in
    record {
      s = front_of e.tuple;
      u = drop 1 f.tuple;
      c = last_of e.tuple;
      is = sym (same_exact (front_of e.tuple ++ drop 1 f.tuple) t y.0);
      left = ap (λ (s : List ℕ). truth value a s) (front_last e.tuple long_e) ∙ truth_here value a o.0 e ia o.2 o.3 ∙ z.0;
      right = ap (λ (s : List ℕ). truth value b s) (ap (λ (k : ℕ). k ∷ drop 1 f.tuple) meet ∙ first_rest f.tuple long_f) ∙ truth_here value b n.0 f ib n.2 n.3 ∙ z.1;
    }

four : (p q r s : Bool) → p ≡ true → q ≡ true → r ≡ true → s ≡ true → p && (q && (r && s)) ≡ true
four p q r s a b c d = let e : true && (true && (true && true)) ≡ true = refl in cc

-- and each tuple of the join is made so
joined_into : (value : Node → Bool) (a b : MatrixEntries) (t : List ℕ) → IsJoined value a b t → has_join value a.entries b.entries t ≡ true
joined_into value a b t j =
    let l = found_entry value a.entries (j.s ++ j.c ∷ []) j.left in
    let r = found_entry value b.entries (j.c ∷ j.u) j.right in
    let e = l.1 in
    let f = r.1 in
    let pe = λ (d : Entry). list_any (λ (g : Entry). eqb (first_of g) (last_of d.tuple) && (is_same (front_of d.tuple ++ drop 1 g.tuple) t && (value d.node && value g.node))) b.entries in
    let pf = λ (g : Entry). eqb (first_of g) (last_of e.tuple) && (is_same (front_of e.tuple ++ drop 1 g.tuple) t && (value e.node && value g.node)) in
    let meet : first_of f ≡ last_of e.tuple = ap (λ (s : List ℕ). get_or s 0 0) r.4 ∙ sym (ap (λ (s : List ℕ). last_of s) l.4 ∙ last_of_snoc j.s j.c) in
    let made : front_of e.tuple ++ drop 1 f.tuple ≡ t =
    ap (λ (s : List ℕ). s ++ drop 1 f.tuple) (ap (λ (s : List ℕ). front_of s) l.4 ∙ front_of_snoc j.s j.c)
    ∙ ap (λ (s : List ℕ). j.s ++ drop 1 s) r.4 ∙ sym j.is in
    let here : pf f ≡ true = four (eqb (first_of f) (last_of e.tuple)) (is_same (front_of e.tuple ++ drop 1 f.tuple) t) (value e.node) (value f.node)
    (eqb_same (first_of f) (last_of e.tuple) meet)
    (ap (λ (s : List ℕ). is_same (front_of e.tuple ++ drop 1 f.tuple) s) (sym made) ∙ same_itself (front_of e.tuple ++ drop 1 f.tuple))
    l.5 r.5 in
    list_any_at pe a.entries l.0 e l.2 (ap pe l.3 ∙ list_any_at pf b.entries r.0 f r.2 (ap pf r.3 ∙ here))

pub joined_means : (value : Node → Bool) (a b : MatrixEntries) (t : List ℕ) → IsMatrix a → IsMatrix b → (has_join value a.entries b.entries t ≡ true) ↔ IsJoined value a b t
joined_means value a b t ia ib = ((λ h. joined_from value a b ia ib ia.least ib.least t h), (λ j. joined_into value a b t j))

three : (p q r : Bool) → p ≡ true → q ≡ true → r ≡ true → p && (q && r) ≡ true
three p q r a b c = let e : true && (true && true) ≡ true = refl in cc

-- entries that are paired make tuples of the product, and each is made so
pub paired_means : (value : Node → Bool) (a b : MatrixEntries) (t : List ℕ) → IsMatrix a → IsMatrix b → (has_pair value a.entries b.entries t ≡ true) ↔ IsPaired value a b t
paired_means value a b t ia ib = (
  (λ h.
      let o = Any-from_list_any (λ (d : Entry). list_any (λ (f : Entry). is_same (d.tuple ++ f.tuple) t && (value d.node && value f.node)) b.entries) a.entries h in
      let e = o.1 in
      let n = Any-from_list_any (λ (f : Entry). is_same (e.tuple ++ f.tuple) t && (value e.node && value f.node)) b.entries o.4 in
      let f = n.1 in
      let y = both (is_same (e.tuple ++ f.tuple) t) (value e.node && value f.node) n.4 in
      let z = both (value e.node) (value f.node) y.1 in
      record {
        s = e.tuple;
        u = f.tuple;
        is = sym (same_exact (e.tuple ++ f.tuple) t y.0);
        left = truth_here value a o.0 e ia o.2 o.3 ∙ z.0;
        right = truth_here value b n.0 f ib n.2 n.3 ∙ z.1;
      }),
  (λ j.
      let l = found_entry value a.entries j.s j.left in
      let r = found_entry value b.entries j.u j.right in
      let e = l.1 in
      let f = r.1 in
      let made : e.tuple ++ f.tuple ≡ t = ap (λ (s : List ℕ). s ++ f.tuple) l.4 ∙ ap (λ (s : List ℕ). j.s ++ s) r.4 ∙ sym j.is in
      let pe = λ (d : Entry). list_any (λ (g : Entry). is_same (d.tuple ++ g.tuple) t && (value d.node && value g.node)) b.entries in
      let pf = λ (g : Entry). is_same (e.tuple ++ g.tuple) t && (value e.node && value g.node) in
      let here : pf f ≡ true = three (is_same (e.tuple ++ f.tuple) t) (value e.node) (value f.node)
      (ap (λ (s : List ℕ). is_same (e.tuple ++ f.tuple) s) (sym made) ∙ same_itself (e.tuple ++ f.tuple)) l.5 r.5 in
      list_any_at pe a.entries l.0 e l.2 (ap pe l.3 ∙ list_any_at pf b.entries r.0 f r.2 (ap pf r.3 ∙ here))),
)

two_numbers : (s : List ℕ) → length s ≡ 2 → get_or s 0 0 ∷ get_or s 1 0 ∷ [] ≡ s
two_numbers [] long = absurd (omega arith)
two_numbers (x ∷ []) long = absurd (omega arith)
two_numbers (x ∷ (y ∷ [])) long = refl
two_numbers (x ∷ (y ∷ (z ∷ s))) long = absurd (omega arith)

-- pairs that are turned make tuples of the transpose, and each is made so
pub turned_means : (value : Node → Bool) (a : MatrixEntries) (t : List ℕ) → IsMatrix a → a.arity ≡ 2 → (has_turned value a.entries t ≡ true) ↔ IsTurned value a t
turned_means value a t ia two = (
  (λ h.
      let o = Any-from_list_any (λ (d : Entry). is_same (get_or d.tuple 1 0 ∷ get_or d.tuple 0 0 ∷ []) t && value d.node) a.entries h in
      let e = o.1 in
      let y = both (is_same (get_or e.tuple 1 0 ∷ get_or e.tuple 0 0 ∷ []) t) (value e.node) o.4 in
      let long : length e.tuple ≡ 2 = columns_here a o.0 e ia o.2 o.3 ∙ two in
      record {
        x = get_or e.tuple 0 0;
        y = get_or e.tuple 1 0;
        is = sym (same_exact (get_or e.tuple 1 0 ∷ get_or e.tuple 0 0 ∷ []) t y.0);
        there = ap (λ (s : List ℕ). truth value a s) (two_numbers e.tuple long) ∙ truth_here value a o.0 e ia o.2 o.3 ∙ y.1;
      }),
  (λ j.
      let l = found_entry value a.entries (j.x ∷ j.y ∷ []) j.there in
      let e = l.1 in
      let made : get_or e.tuple 1 0 ∷ get_or e.tuple 0 0 ∷ [] ≡ t = ap (λ (s : List ℕ). get_or s 1 0 ∷ get_or s 0 0 ∷ []) l.4 ∙ sym j.is in
      let p = λ (d : Entry). is_same (get_or d.tuple 1 0 ∷ get_or d.tuple 0 0 ∷ []) t && value d.node in
      let here : p e ≡ true = two_true (is_same (get_or e.tuple 1 0 ∷ get_or e.tuple 0 0 ∷ []) t) (value e.node)
      (ap (λ (s : List ℕ). is_same (get_or e.tuple 1 0 ∷ get_or e.tuple 0 0 ∷ []) s) (sym made) ∙ same_itself (get_or e.tuple 1 0 ∷ get_or e.tuple 0 0 ∷ [])) l.5 in
      list_any_at p a.entries l.0 e l.2 (ap p l.3 ∙ here)),
)
  where
    two_true : (p q : Bool) → p ≡ true → q ≡ true → p && q ≡ true
    two_true p q a b = let e : true && true ≡ true = refl in cc

-- a matrix of gathered entries, of which the test is known
pub gathered_made : {E : Type 0} (r : Result MatrixEntries E) (after : (ℕ → Bool) → Node → Bool) (h q : (ℕ → Bool) → List ℕ → Bool) (P : (ℕ → Bool) → List ℕ → Type 0) → IfOk r (λ m. (x : ℕ → Bool) (t : List ℕ) → truth (after x) m t ≡ h x t) → ((x : ℕ → Bool) (t : List ℕ) → h x t ≡ q x t) → ((x : ℕ → Bool) (t : List ℕ) → (q x t ≡ true) ↔ P x t) → IfOk r (λ m. (x : ℕ → Bool) (t : List ℕ) → (truth (after x) m t ≡ true) ↔ P x t)
gathered_made (Ok m) after h q P truths same means = λ x t. ((λ e. (means x t).0 (sym (truths x t ∙ same x t) ∙ e)), (λ p. truths x t ∙ same x t ∙ (means x t).1 p))
gathered_made (Err e) after h q P truths same means = tt

-- a head before the rest of a row's tuples
pub glued_fits : (head : List ℕ) (skip k : ℕ) (row : List Entry) → All IsNumber head → All (λ e. length e.tuple ≡ k) row → All (λ e. All IsNumber e.tuple) row → length head + (k - skip) ≤ 9 → All (λ e. FitsIndex (head ++ drop skip e.tuple)) row
glued_fits head skip k row small columns numbers few = λ i d lt. record {
  columns = omega (arith, length-append head (drop skip (get_or row i d).tuple), length-drop skip (get_or row i d).tuple, columns i d lt);
  numbers = All-append IsNumber head (drop skip (get_or row i d).tuple) small (All-drop IsNumber skip (get_or row i d).tuple (numbers i d lt));
}

pub glued_columns : (head : List ℕ) (skip k n : ℕ) (row : List Entry) → All (λ e. length e.tuple ≡ k) row → length head + (k - skip) ≡ n → All (λ e. length head + (length e.tuple - skip) ≡ n) row
glued_columns head skip k n row columns few = λ i d lt. omega (arith, columns i d lt)

-- the entry at a place of a matrix
pub entry_fits : (a : MatrixEntries) (xs : List Entry) (i : ℕ) (e : Entry) (n : List ℕ) → IsMatrix a → xs ≡ a.entries → i < length xs → e ≡ get_or xs i e → n ≡ e.tuple → (length n ≡ a.arity) × All IsNumber n
entry_fits a xs i e n ia all lt is same = (
  ap (λ (t : List ℕ). length t) same ∙ all_here (λ (d : Entry). length d.tuple ≡ a.arity) xs i e (subst (λ (es : List Entry). All (λ (d : Entry). length d.tuple ≡ a.arity) es) (sym all) ia.columns) lt is,
  subst (λ (t : List ℕ). All IsNumber t) (sym same) (all_here (λ (d : Entry). All IsNumber d.tuple) xs i e (subst (λ (es : List Entry). All (λ (d : Entry). All IsNumber d.tuple) es) (sym all) ia.numbers) lt is),
)

pub pair_row : {S : Type 0} (belongs : S → Node → Type 0) (value : S → (ℕ → Bool) → Node → Bool) (g h : S) → Keeps belongs value g h → (n : List ℕ) (e : Entry) (right : List Entry) → n ≡ e.tuple → belongs g e.node → AllBelong (belongs g) right → (x : ℕ → Bool) (t : List ℕ) → has_row (value h x) n e.node 0 right t ≡ list_any (λ f. is_same (e.tuple ++ f.tuple) t && (value g x e.node && value g x f.node)) right
pair_row belongs value g h keeps n e right same there b x t = row_kept belongs value g h keeps n e.node 0 right there b x t ∙ ap (λ (s : List ℕ). has_row (value g x) s e.node 0 right t) same
