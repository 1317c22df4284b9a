-- Rules of integers are right.
use Rattle.std.proofs.Common.{◌≡◌, ◌↔◌, ◌≤◌, ◌<◌, ◌+◌, ◌-◌, ◌*◌, ◌^◌, ◌%◌, ℕ, max, Bool, List, [], ◌∷◌, map, length, get_or, refl, sym, ap, ◌∙◌, subst, arith, inl, inr, ℤ, pos, ◌+ℤ◌, ◌-ℤ◌, ◌<ℤ◌}
use Rattle.std.proofs.lemmas.Int.{ints}
use Rattle.gate_trait.specs.declared.node.Node.{Node}
use Rattle.gate_trait.specs.Built.{Keeps}
use Rattle.core_tree.specs.declared.operators.Comparison.{Comparison}
use Rattle.core_tree.specs.declared.operators.Comparison.TheVariants.{Equal, Less, AtMost, Greater, AtLeast}
use Rattle.core_tree.specs.declared.operators.IntOp.{IntOp}
use Rattle.core_tree.specs.Trees.{Term, Claim, number, count, arithmetic, compare}
use Rattle.core_tree.specs.Past.{no_depths, past_in, past_of}
use Rattle.base_types.specs.declared.place.Position.{Position}
use Rattle.core_meaning.specs.Integers.{low_bits, from_bits, wrap, sum_of, result_of}
use Rattle.core_meaning.specs.World.{World, atom_of, integer_of, IsInteger}
use Rattle.core_meaning.specs.Operators.{Tuples, IsCount, IsNumber, IsLess, Compares}
use Rattle.core_laws.proofs.UniqueLemmas.{count_once, number_once}
use Rattle.core_window.proofs.SameLemmas.{same_trans}
use Rattle.gate_integers.specs.Numbers.{signed}
use Rattle.gate_matrix.specs.Matrices.{MatrixEntries}
use Rattle.gate_operators.specs.Sets.{set_of}
use Rattle.gate_arithmetic.specs.Singles.{atom_for}
use Rattle.gate_numbers.specs.Numbers.{AreSo}
use Rattle.gate_arithmetic.proofs.SingleLaw.{halves, early_means}
use Rattle.core_tuples.specs.declared.universe.Universe.{Universe}
use Rattle.core_window.specs.Repeats.{SameTuples}
use Rattle.core_meaning.specs.Kept.{atom_count, world_of}
use Rattle.core_meaning.specs.Meaning.{InTerm}
use Rattle.core_meaning.specs.Called.{no_bodies}
use Rattle.bmc_stack.specs.declared.store.Store.{Store}
use Rattle.bmc_stack.specs.Stored.{AreStored}
use Rattle.bmc_leaves.specs.Shown.{names_of, Reading, IsReading, IsRight, AreRight, none_nested}
use Rattle.bmc_leaves.specs.Relations.{reading_of}
use Rattle.bmc_leaves.proofs.PlaceLaws.{place_within}
use Rattle.bmc_leaves.proofs.RightLaws.{ok_under}
use Rattle.bmc_places.specs.declared.numbers.IntegerOperator.TheVariants.{Count, Total, Of, AsSet}
use Rattle.bmc_places.specs.Numbers.{AreIntegers, AreCompared, IsSame}
use Rattle.bmc_places.specs.Stores.{Extends}
use Rattle.bmc_walk.specs.Walked.{AreSingles, HasSingles, atoms_of, read_in, AreNumbers, HasSets, HasNumbers, HasRow}
use Rattle.bmc_walk.specs.declared.walk.Known.{Known}
use Rattle.bmc_walk.specs.declared.walk.Ground.{Ground}
use Rattle.bmc_walk.proofs.WalkLaws.{max_left, max_right, ground_kept}
use Rattle.bmc_places.proofs.ListLaws.{contains_cases, contains_none}
use Rattle.bmc_places.proofs.BitLaws.{bits_same, low_by, low_shift}
use Rattle.bmc_places.proofs.NumberLaws.{int_belongs, signed_kept}

-- ---- comparisons of integers that sets stand for

less_same : (w : World) (A B : Tuples) (x y : ℤ) → IsNumber w A x → IsNumber w B y → (x <ℤ y) ↔ IsLess w A B
less_same w A B x y p q = (
  (λ lt. (x, y, p, q, lt)),
  (λ (u, v, k, l, lt). subst (λ (z : ℤ). x <ℤ z) (number_once w B v y l q) (subst (λ (z : ℤ). z <ℤ v) (number_once w A u x k p) lt)),
)

not_same : {P Q : Type 0} → P ↔ Q → (¬ P) ↔ (¬ Q)
not_same f = ((λ n q. n (f.1 q)), (λ n p. n (f.0 p)))

pub so_same : (w : World) (op : Comparison) (A B : Tuples) (x y : ℤ) → IsNumber w A x → IsNumber w B y → AreSo op x y ↔ Compares w op A B
so_same w Equal A B x y p q = (
  (λ e. (x, p, subst (λ (z : ℤ). IsNumber w B z) (sym e) q)),
  (λ (z, k, l). number_once w A x z p k ∙ number_once w B z y l q),
)
so_same w Less A B x y p q = less_same w A B x y p q
so_same w AtMost A B x y p q = not_same (less_same w B A y x q p)
so_same w Greater A B x y p q = less_same w B A y x q p
so_same w AtLeast A B x y p q = not_same (less_same w A B x y p q)

-- ---- the rules

-- what numbers for the same set stand for
pub compare_right : (r : Reading) (old new : (ℕ → Bool) → Node → Bool) (integers : List (List Node)) (op : Comparison) (a b : Term) (first second : List ℕ) (many : ℕ) (row : List Node) → IsReading r → many ≡ length r.frame.shown.items → AreNumbers r old integers a first → AreNumbers r old integers b second → AreCompared op old new integers first second many row → IsRight r new (compare op a b) row
compare_right r old new integers op a b first second many row ok is left right so = record {
  inside = λ loop k s place. (let l = place_within r ok loop k s place in let m = so.long in omega (arith, l, m, is));
  holds = λ loop k s place x lasso shows at.
      let (p, (m, at_m, stands_p), long_p, is_p) = left.integers_are loop k s place in
      let (q, (n, at_n, stands_q), long_q, is_q) = right.integers_are loop k s place in
      let w = world_of r.scopes lasso in
      let lt : s.start + k < many = (let l = place_within r ok loop k s place in omega (arith, l, is)) in
      same_trans (so.says (s.start + k) m n p q lt at_m at_n stands_p stands_q x) (so_same w op (InTerm w no_bodies a (names_of r.atoms) k) (InTerm w no_bodies b (names_of r.atoms) k) (signed (old x) p) (signed (old x) q) (is_p x lasso shows at) (is_q x lasso shows at));
}

-- ---- integers and their low bits

-- an integer and the wrapped one have the same atom
atom_wrap : (w : World) (n : ℤ) → atom_of w (wrap w.bits n) ≡ atom_of w n
atom_wrap w n = ap (λ (k : ℕ). w.atoms + k) (low_shift w.bits n (pos (2 ^ (w.bits - 1))))

-- ---- one integer as a set

-- the set of the integer of some bits stands for it
pub single_number : (w : World) (v : Node → Bool) (s : List Node) → length s ≡ w.bits → 1 ≤ w.bits → IsNumber w (λ t. t ≡ atom_of w (signed v s) ∷ []) (signed v s)
single_number w v s long least =
    let u : Universe = record { atoms = w.atoms; bits = w.bits } in
    let z = signed v s in
    let a = atom_of w z in
    let (j, below, at, value) = (early_means u v s (2 ^ w.bits) (a ∷ []) long least refl).1 refl in
    let place : a ≡ w.atoms + j = ap (λ (l : List ℕ). get_or l 0 0) at in
    let h = 2 ^ (w.bits - 1) in
    let twice = halves w.bits least in
    let back : (a - w.atoms) ≡ j = omega (arith, place) in
    let shift : ((pos j -ℤ pos h) +ℤ pos 0) +ℤ pos (1 * 2 ^ w.bits) ≡ pos (j + h) = omega (arith, ints, twice) in
    let low : low_bits w.bits ((pos j -ℤ pos h) +ℤ pos 0) ≡ (j + h) % 2 ^ w.bits = low_by w.bits ((pos j -ℤ pos h) +ℤ pos 0) 1 (j + h) shift in
    let sum : wrap w.bits (sum_of (map (integer_of w) (a ∷ []))) ≡ z = ap (λ (k : ℕ). wrap w.bits ((pos k -ℤ pos h) +ℤ pos 0)) back ∙ ap (from_bits w.bits) low ∙ sym (bits_same w.bits ((j + h) % 2 ^ w.bits)) ∙ sym value in (
      a ∷ [],
      record {
        distinct = λ i k d l high. absurd (omega arith);
        all_and_only = λ x. (
          (λ c. elim (contains_cases a [] x c) [
            | inl e ↦ (subst (λ (y : ℕ). IsInteger w y) e (omega (arith, place), omega (arith, place, below)), ap (λ (y : ℕ). y ∷ []) (sym e))
            | inr none ↦ absurd (contains_none x none)
          ]),
          (λ (k, e). (0, omega arith, ap (λ (l : List ℕ). get_or l 0 0) (sym e))),
        );
      },
      sym sum,
    )

-- what a set stands for, sets with the same tuples stand for
number_to : (w : World) (A B : Tuples) (z : ℤ) → SameTuples A B → IsNumber w A z → IsNumber w B z
number_to w A B z same (members, listed, is) = (
  members,
  record {
    distinct = listed.distinct;
    all_and_only = λ a. ((λ c. (let (k, i) = (listed.all_and_only a).0 c in (k, (same (a ∷ [])).0 i))), (λ (k, i). (listed.all_and_only a).1 (k, (same (a ∷ [])).1 i)));
  },
  is,
)

count_to : (w : World) (A B : Tuples) (z : ℤ) → SameTuples A B → IsCount w A z → IsCount w B z
count_to w A B z same (ts, listed, is) = (
  ts,
  record {
    distinct = listed.distinct;
    all_and_only = λ t. ((λ c. (same t).0 ((listed.all_and_only t).0 c)), (λ i. (listed.all_and_only t).1 ((same t).1 i)));
  },
  is,
)

counted_set : (w : World) (A : Tuples) (z : ℤ) → IsCount w A z → SameTuples (λ t. t ≡ atom_of w z ∷ []) (λ t. (n : ℤ) × IsCount w A n × (t ≡ atom_of w n ∷ []))
counted_set w A z is t = ((λ e. (z, is, e)), (λ (n, other, e). e ∙ ap (λ (y : ℤ). atom_of w y ∷ []) (count_once w A n z other is)))

calculated_set : (w : World) (op : IntOp) (A B : Tuples) (x y : ℤ) → IsNumber w A x → IsNumber w B y → SameTuples (λ t. t ≡ atom_of w (wrap w.bits (result_of op x y)) ∷ []) (λ t. (u v : ℤ) × IsNumber w A u × IsNumber w B v × (t ≡ atom_of w (wrap w.bits (result_of op u v)) ∷ []))
calculated_set w op A B x y p q t = (
  (λ e. (x, y, p, q, e)),
  (λ (u, v, k, l, e). e ∙ ap (λ (z : ℤ). atom_of w (wrap w.bits (result_of op z v)) ∷ []) (number_once w A u x k p) ∙ ap (λ (z : ℤ). atom_of w (wrap w.bits (result_of op x z)) ∷ []) (number_once w B v y l q)),
)

pub count_right : (r : Reading) (old new : (ℕ → Bool) → Node → Bool) (before after : Store) (a : Term) (first row : List ℕ) (u : Universe) → u.bits ≡ r.scopes.bits → AreRight r old before.matrices.items a first → AreIntegers Count u old new before after first first row → AreSingles r new after.integers.items (count a) row
count_right r old new before after a first row u is right made = record {
  integers_are = λ loop k s place.
      let (m, (n, at, stands), means) = right.sets loop k s place in
      let (o, at_o, makes) = made (s.start + k) n n at at in
      let (b, stands_b, long, counts) = makes m stands in (
        b,
        (o, at_o, stands_b),
        long ∙ is,
        λ x lasso shows at_loop.
            let w = world_of r.scopes lasso in
            let A = InTerm w no_bodies a (names_of r.atoms) k in
            counted_set w A (signed (new x) b) (count_to w (set_of (old x) m) A (signed (new x) b) (means x lasso shows at_loop) (counts x w (sym is))),
      );
}

pub calculated_right : (r : Reading) (old new : (ℕ → Bool) → Node → Bool) (before after : Store) (op : IntOp) (a b : Term) (first second row : List ℕ) (u : Universe) → AreNumbers r old before.integers.items a first → AreNumbers r old before.integers.items b second → AreIntegers (Of op) u old new before after first second row → AreSingles r new after.integers.items (arithmetic op a b) row
calculated_right r old new before after op a b first second row u left right made = record {
  integers_are = λ loop k s place.
      let (p, (m, at_m, stands_p), long_p, is_p) = left.integers_are loop k s place in
      let (q, (n, at_n, stands_q), long_q, is_q) = right.integers_are loop k s place in
      let (o, at_o, makes) = made (s.start + k) m n at_m at_n in
      let (d, stands_d, long, value) = makes p q stands_p stands_q in (
        d,
        (o, at_o, stands_d),
        long ∙ long_p,
        λ x lasso shows at_loop.
            let w = world_of r.scopes lasso in
            let A = InTerm w no_bodies a (names_of r.atoms) k in
            let B = InTerm w no_bodies b (names_of r.atoms) k in
            let z = signed (new x) d in
            let is : z ≡ wrap w.bits (result_of op (signed (old x) p) (signed (old x) q)) = value x ∙ ap (λ (n' : ℕ). wrap n' (result_of op (signed (old x) p) (signed (old x) q))) long_p in
            subst (λ (y : ℤ). SameTuples (λ t. t ≡ atom_of w y ∷ []) (InTerm w no_bodies (arithmetic op a b) (names_of r.atoms) k)) (sym is) (calculated_set w op A B (signed (old x) p) (signed (old x) q) (is_p x lasso shows at_loop) (is_q x lasso shows at_loop)),
      );
}

-- what a set stands for
pub total_right : (r : Reading) (old new : (ℕ → Bool) → Node → Bool) (before after : Store) (a : Term) (first row : List ℕ) (u : Universe) → u.atoms ≡ atom_count r.scopes.numbers → u.bits ≡ r.scopes.bits → AreRight r old before.matrices.items a first → AreIntegers Total u old new before after first first row → AreNumbers r new after.integers.items a row
total_right r old new before after a first row u atoms bits right made = record {
  integers_are = λ loop k s place.
      let (m, (n, at, stands), means) = right.sets loop k s place in
      let (o, at_o, makes) = made (s.start + k) n n at at in
      let (b, stands_b, long, totals) = makes m stands in (
        b,
        (o, at_o, stands_b),
        long ∙ bits,
        λ x lasso shows at_loop.
            let w = world_of r.scopes lasso in
            number_to w (set_of (old x) m) (InTerm w no_bodies a (names_of r.atoms) k) (signed (new x) b) (means x lasso shows at_loop) (totals x w (sym atoms) (sym bits)),
      );
}

-- an integer whose number alone is in an expression is what that stands for
pub singles_numbers : (r : Reading) (value : (ℕ → Bool) → Node → Bool) (integers : List (List Node)) (e : Term) (numbers : List ℕ) → 1 ≤ r.scopes.bits → AreSingles r value integers e numbers → AreNumbers r value integers e numbers
singles_numbers r value integers e numbers least are = record {
  integers_are = λ loop k s place.
      let (b, stands, long, same) = are.integers_are loop k s place in (
        b,
        stands,
        long,
        λ x lasso shows at_loop.
            let w = world_of r.scopes lasso in
            number_to w (λ t. t ≡ atom_of w (signed (value x) b) ∷ []) (InTerm w no_bodies e (names_of r.atoms) k) (signed (value x) b) (same x lasso shows at_loop) (single_number w (value x) b long least),
      );
}

-- the numbers of integers that are the same in a universe and a world
atom_same : (w : World) (u : Universe) (z : ℤ) → u.atoms ≡ w.atoms → u.bits ≡ w.bits → atom_for u z ≡ atom_of w z
atom_same w u z atoms bits = ap (λ (n : ℕ). n + low_bits u.bits (z +ℤ pos (2 ^ (u.bits - 1)))) atoms ∙ ap (λ (n : ℕ). w.atoms + low_bits n (z +ℤ pos (2 ^ (n - 1)))) bits

-- the sets of these integers
pub singles_right : (r : Reading) (old new : (ℕ → Bool) → Node → Bool) (before after : Store) (e : Term) (first row : List ℕ) (u : Universe) → u.atoms ≡ atom_count r.scopes.numbers → u.bits ≡ r.scopes.bits → AreSingles r old before.integers.items e first → AreIntegers AsSet u old new before after first first row → AreRight r new after.matrices.items e row
singles_right r old new before after e first row u atoms bits are made = record {
  sets = λ loop k s place.
      let (b, (n, at, stands), long, same) = are.integers_are loop k s place in
      let (o, at_o, makes) = made (s.start + k) n n at at in
      let (m, stands_m, means) = makes b stands in (
        m,
        (o, at_o, stands_m),
        λ x lasso shows at_loop t.
            let w = world_of r.scopes lasso in
            let z = signed (old x) b in
            let one = ap (λ (a : ℕ). a ∷ []) (atom_same w u z atoms bits) in
            same_trans (means x t) (same_trans ((λ y. y ∙ one), (λ y. y ∙ sym one)) (same x lasso shows at_loop t)),
      );
}

module _ {S : Type 0} (belongs : S → Node → Type 0) (value : S → (ℕ → Bool) → Node → Bool) (ground : Ground) (known : Known) where
  pub numbers_kept : (g h : S) → Keeps belongs value g h → (a b : Store) → AreStored (belongs g) a → Extends a b → (r : Reading) (e : Term) (numbers : List ℕ) → AreNumbers r (value g) a.integers.items e numbers → AreNumbers r (value h) b.integers.items e numbers
  numbers_kept g h keeps a b stored extends r e numbers are = record {
    integers_are = λ loop k s place.
        let (d, (n, at, stands), long, is) = are.integers_are loop k s place in (
          d,
          (n, at, extends.integers n d stands),
          long,
          λ x lasso shows at_loop.
              subst (λ (z : ℤ). IsNumber (world_of r.scopes lasso) (InTerm (world_of r.scopes lasso) no_bodies e (names_of r.atoms) k) z) (sym (signed_kept belongs value g h keeps d (int_belongs (belongs g) a.integers.items n d stored.integers stands) x)) (is x lasso shows at_loop),
        );
  }

  -- what is made of the integers of two parts
  pub two_numbers : (g h i j : S) (a b c d : Store) (e f term : Term) (first second numbers : List ℕ) → Keeps belongs value g h → Keeps belongs value h i → AreStored (belongs g) a → AreStored (belongs h) b → Extends a b → Extends b c
      → ((n : ℕ) → past_in none_nested term no_depths ≤ n → max (past_in none_nested e no_depths) (past_in none_nested f no_depths) ≤ n)
      → HasNumbers ground known (value g) (value h) a.matrices.items b.integers.items e first → HasNumbers ground known (value h) (value i) b.matrices.items c.integers.items f second
      → ((r : Reading) → IsReading r → AreNumbers r (value i) c.integers.items e first → AreNumbers r (value i) c.integers.items f second → AreSingles r (value j) d.integers.items term numbers)
      → HasSingles ground known (value g) (value j) a.matrices.items d.integers.items term numbers
  two_numbers g h i j a b c d e f term first second numbers keeps more stored_a stored_b extends extends_b nested left right made = record {
    right = λ n is le.
        let r = read_in ground known n in
        let both = nested n le in
        let one = left.right n is (max_left _ _ n both) in
        let two = right.right n (ground_kept belongs value ground known g h keeps a b stored_a extends n is) (max_right _ _ n both) in
        made r (ok_under (reading_of ground.setting n) (atoms_of known) is.reading) (numbers_kept h i more b c stored_b extends_b r e first one) two;
  }

  -- a test of the integers of two parts
  pub two_compared : (g h i j : S) (a b c : Store) (e f : Term) (claim : Claim) (first second : List ℕ) (row : List Node) → Keeps belongs value g h → Keeps belongs value h i → AreStored (belongs g) a → AreStored (belongs h) b → Extends a b → Extends b c
      → ((n : ℕ) → past_of none_nested claim no_depths ≤ n → max (past_in none_nested e no_depths) (past_in none_nested f no_depths) ≤ n)
      → HasNumbers ground known (value g) (value h) a.matrices.items b.integers.items e first → HasNumbers ground known (value h) (value i) b.matrices.items c.integers.items f second
      → ((r : Reading) → IsReading r → r.frame ≡ ground.setting.frame.now → AreNumbers r (value i) c.integers.items e first → AreNumbers r (value i) c.integers.items f second → IsRight r (value j) claim row)
      → HasRow ground known (value g) (value j) a.matrices.items claim row
  two_compared g h i j a b c e f claim first second row keeps more stored_a stored_b extends extends_b nested left right test = record {
    right = λ n is le.
        let r = read_in ground known n in
        let both = nested n le in
        let one = left.right n is (max_left _ _ n both) in
        let two = right.right n (ground_kept belongs value ground known g h keeps a b stored_a extends n is) (max_right _ _ n both) in
        test r (ok_under (reading_of ground.setting n) (atoms_of known) is.reading) refl (numbers_kept h i more b c stored_b extends_b r e first one) two;
  }

  -- the number of tuples of a part
  pub counted_law : (g h i : S) (a b c : Store) (e : Term) (first numbers : List ℕ) → HasSets ground known (value g) (value h) a.matrices.items b.matrices.items e first → AreIntegers Count ground.setting.universe (value h) (value i) b c first first numbers → HasSingles ground known (value g) (value i) a.matrices.items c.integers.items (count e) numbers
  counted_law g h i a b c e first numbers sets made = record {
    right = λ n is le. count_right (read_in ground known n) (value h) (value i) b c e first numbers ground.setting.universe is.reading.universe.bits (sets.right n is le) made;
  }

  -- the sum of the integers of a part
  pub totaled_law : (g h i : S) (a b c : Store) (e : Term) (first numbers : List ℕ) → HasSets ground known (value g) (value h) a.matrices.items b.matrices.items e first → AreIntegers Total ground.setting.universe (value h) (value i) b c first first numbers → HasNumbers ground known (value g) (value i) a.matrices.items c.integers.items e numbers
  totaled_law g h i a b c e first numbers sets made = record {
    right = λ n is le. (let u = is.reading.universe in total_right (read_in ground known n) (value h) (value i) b c e first numbers ground.setting.universe u.atoms u.bits (sets.right n is le) made);
  }

  -- the set of the integer of a part
  pub single_sets_law : (g h i : S) (a b c : Store) (e : Term) (first numbers : List ℕ) → HasSingles ground known (value g) (value h) a.matrices.items b.integers.items e first → AreIntegers AsSet ground.setting.universe (value h) (value i) b c first first numbers → HasSets ground known (value g) (value i) a.matrices.items c.matrices.items e numbers
  single_sets_law g h i a b c e first numbers singles made = record {
    right = λ n is le. (let u = is.reading.universe in singles_right (read_in ground known n) (value h) (value i) b c e first numbers ground.setting.universe u.atoms u.bits (singles.right n is le) made);
  }

pub singles_law : (ground : Ground) (known : Known) (old new : (ℕ → Bool) → Node → Bool) (before : List MatrixEntries) (integers : List (List Node)) (e : Term) (numbers : List ℕ) → HasSingles ground known old new before integers e numbers → HasNumbers ground known old new before integers e numbers
singles_law ground known old new before integers e numbers has = record {
  right = λ n is le. (let u = is.reading.universe in singles_numbers (read_in ground known n) new integers e numbers (let m = u.valid.least in let s = u.bits in omega (arith, m, s)) (has.right n is le));
}

-- the same number at all places
pub number_law : (ground : Ground) (known : Known) (value : (ℕ → Bool) → Node → Bool) (before : List MatrixEntries) (integers : List (List Node)) (n : ℤ) (place : Position) (numbers : List ℕ) (many : ℕ) → many ≡ length ground.setting.frame.now.shown.items → IsSame value integers ground.setting.universe.bits n many numbers
    → HasSingles ground known value value before integers (number n place) numbers
number_law ground known value before integers n place numbers many many_is (s, long, is, at) = record {
  right = λ h of le. record {
    integers_are = λ loop k spot there.
        let r = read_in ground known h in
        let u = of.reading.universe in
        let ok = ok_under (reading_of ground.setting h) (atoms_of known) of.reading in
        let (m, here, stands) = at (spot.start + k) (let l = place_within r ok loop k spot there in omega (arith, l, many_is)) in (
          s,
          (m, here, stands),
          long ∙ u.bits,
          λ x lasso shows at_loop.
              let w = world_of r.scopes lasso in
              let z = signed (value x) s in
              let same : z ≡ wrap w.bits n = is x ∙ ap (λ (b : ℕ). wrap b n) u.bits in
              let atom_is : atom_of w z ≡ atom_of w n = ap (λ (y : ℤ). atom_of w y) same ∙ atom_wrap w n in
              λ t. ((λ e. e ∙ ap (λ (a : ℕ). a ∷ []) atom_is), (λ e. e ∙ ap (λ (a : ℕ). a ∷ []) (sym atom_is))),
        );
  };
}
