-- What a walk has left stays right, and the rules of forms.
use Rattle.std.proofs.Common.{◌≤◌, ◌+◌, ◌-◌, ◌^◌, ℕ, Bool, List, max, refl, sym, subst, arith, inl, inr, All}
use Rattle.std.proofs.lemmas.List.Elements.{All-weaker}
use Rattle.std.proofs.Math.Nat.{le-max_left, le-max_right}
use Rattle.std.proofs.lemmas.Bool.{cases_lt, cond_below, cond_above}
use Rattle.gate_trait.specs.declared.node.Node.{Node}
use Rattle.gate_trait.specs.Built.{Keeps, AllIn}
use Rattle.gate_trait.proofs.KeptLemmas.{keeps_trans}
use Rattle.core_tree.specs.Trees.{Term, Claim, negation, choose_term, term_of}
use Rattle.core_tree.specs.Past.{no_depths, one_more, past_in, past_of}
use Rattle.gate_matrix.specs.Matrices.{MatrixEntries}
use Rattle.bmc_stack.specs.declared.store.Store.{Store}
use Rattle.bmc_stack.specs.Stored.{AreStored}
use Rattle.bmc_stack.specs.Rows.{IsNegated}
use Rattle.bmc_leaves.specs.Shown.{Reading, under, IsReading, IsRight, AreRight, none_nested}
use Rattle.bmc_leaves.specs.Relations.{reading_of}
use Rattle.bmc_leaves.proofs.KeptLaws.{kept_kept, tuples_kept, right_kept}
use Rattle.bmc_leaves.proofs.RightLaws.{ok_under, negation_right}
use Rattle.bmc_walk.specs.declared.walk.Known.{Known}
use Rattle.bmc_walk.specs.declared.walk.Made.{Made}
use Rattle.bmc_walk.specs.declared.walk.Ready.{Ready}
use Rattle.bmc_walk.specs.declared.walk.Ready.TheVariants as ready
use Rattle.bmc_walk.specs.declared.walk.Ground.{Ground}
use Rattle.bmc_places.specs.Stores.{Extends, Stays}
use Rattle.bmc_walk.specs.Walked.{atoms_of, read_in, IsReady, AreReady, IsGround, HasSets, HasRow}
use Rattle.bmc_places.specs.Chosen.{AreChosen}
use Rattle.bmc_places.proofs.StoreLaws.{stays_extends}
use Rattle.bmc_places.proofs.ChosenLaws.{choose_right}

pub max_left : (a b h : ℕ) → max a b ≤ h → a ≤ h
max_left a b h le = (let m = le-max_left a b in omega (arith, m, le))

pub max_right : (a b h : ℕ) → max a b ≤ h → b ≤ h
max_right a b h le = (let m = le-max_right a b in omega (arith, m, le))

pub one_less : (n h : ℕ) → one_more n ≤ h → n ≤ h
one_less n h le = elim (cases_lt n (2 ^ 32 - 1)) [
  | inl below ↦ (let m : n + 1 ≤ h = subst (λ (k : ℕ). k ≤ h) (sym (cond_below n (2 ^ 32 - 1) (n + 1) n below)) le in omega (arith, m))
  | inr above ↦ subst (λ (k : ℕ). k ≤ h) (sym (cond_above n (2 ^ 32 - 1) (n + 1) n _ above refl)) le
]

module _ {S : Type 0} (belongs : S → Node → Type 0) (value : S → (ℕ → Bool) → Node → Bool) (ground : Ground) (known : Known) where
  pub are_kept : (g h : S) → Keeps belongs value g h → (a b : Store) → AreStored (belongs g) a → Extends a b → (r : Reading) (e : Term) (numbers : List ℕ) → AreRight r (value g) a.matrices.items e numbers → AreRight r (value h) b.matrices.items e numbers
  are_kept g h keeps a b stored extends r e numbers right = record {
    sets = tuples_kept belongs value r g h keeps a.matrices.items b.matrices.items _ numbers stored.matrices extends.matrices right.sets;
  }

  -- what was built before stays right
  ready_kept : (g h : S) → Keeps belongs value g h → (a b : Store) → AreStored (belongs g) a → Extends a b → (r : Reading) (n : ℕ) (all : Ready) → AreReady r (value g) a.matrices.items n all → AreReady r (value h) b.matrices.items n all
  ready_kept g h keeps a b stored extends r n ready.Nothing are = are
  ready_kept g h keeps a b stored extends r n (ready.Sets' made there p rest) are = (
    All-weaker (IsReady r (value g) a.matrices.items n there.now) (IsReady r (value h) b.matrices.items n there.now)
        (λ (m : Made) (is : IsReady r (value g) a.matrices.items n there.now m). record {
          names = is.names;
          right = λ le. are_kept g h keeps a b stored extends (under r (atoms_of there.now)) (term_of m.expr.now) m.numbers.items (is.right le);
        }) made.now.items are.0,
    ready_kept g h keeps a b stored extends r n rest are.1,
  )

  -- a step of a walk: the circuit grows, and sets and integers are added
  pub ground_kept : (g h : S) → Keeps belongs value g h → (a b : Store) → AreStored (belongs g) a → Extends a b → (n : ℕ) → IsGround ground (value g) a.matrices.items n → IsGround ground (value h) b.matrices.items n
  ground_kept g h keeps a b stored extends n is = record {
    reading = is.reading;
    kept = kept_kept belongs value (reading_of ground.setting n) g h keeps a.matrices.items b.matrices.items ground.kept.now.items stored.matrices extends.matrices is.kept;
    ready = ready_kept g h keeps a b stored extends (reading_of ground.setting n) n ground.ready.now is.ready;
  }

  pub not_law : (g h : S) (before : List MatrixEntries) (f : Claim) (row new : List Node) → HasRow ground known (value g) (value h) before f row → IsNegated (value h) row new → HasRow ground known (value g) (value h) before (negation f) new
  not_law g h before f row new first neg = record {
    right = λ n is le. negation_right (read_in ground known n) (value h) f row new (first.right n is le) neg;
  }

  -- a test of two sets, which are built one after the other
  pub two_sets : (g h i j : S) (a b c : Store) (e f : Term) (claim : Claim) (first second : List ℕ) (row : List Node) → Keeps belongs value g h → Keeps belongs value h i → AreStored (belongs g) a → AreStored (belongs h) b → Extends a b → Extends b c
      → ((n : ℕ) → past_of none_nested claim no_depths ≤ n → max (past_in none_nested e no_depths) (past_in none_nested f no_depths) ≤ n)
      → HasSets ground known (value g) (value h) a.matrices.items b.matrices.items e first → HasSets ground known (value h) (value i) b.matrices.items c.matrices.items f second
      → ((r : Reading) → AreRight r (value i) c.matrices.items e first → AreRight r (value i) c.matrices.items f second → IsRight r (value j) claim row)
      → HasRow ground known (value g) (value j) a.matrices.items claim row
  two_sets g h i j a b c e f claim first second row keeps more stored_a stored_b extends extends_b nested left right test = record {
    right = λ n is le.
        let both = nested n le in
        let one = left.right n is (max_left _ _ n both) in
        let two = right.right n (ground_kept g h keeps a b stored_a extends n is) (max_right _ _ n both) in
        test (read_in ground known n) (are_kept h i more b c stored_b extends_b (read_in ground known n) e first one) two;
  }

  pub choose_law : (g h i j l : S) (a b c d o : Store) (f : Claim) (e k : Term) (first second numbers : List ℕ) (row : List Node) → Keeps belongs value g h → Keeps belongs value h i → Keeps belongs value i j → AreStored (belongs g) a → AreStored (belongs h) b → AreStored (belongs i) c → Extends a b → Extends b c → Stays c d
      → HasSets ground known (value g) (value h) a.matrices.items b.matrices.items e first → HasSets ground known (value h) (value i) b.matrices.items c.matrices.items k second → HasRow ground known (value i) (value j) c.matrices.items f row
      → AreChosen (value j) (value l) d.matrices.items o.matrices.items row first second numbers
      → HasSets ground known (value g) (value l) a.matrices.items o.matrices.items (choose_term f e k) numbers
  choose_law g h i j l a b c d o f e k first second numbers row keeps more last stored_a stored_b stored_c extends extends_b stays left right test chosen = record {
    right = λ n is le.
        let r = read_in ground known n in
        let le_f = max_left _ _ n le in
        let both = max_right _ _ n le in
        let is_b = ground_kept g h keeps a b stored_a extends n is in
        let is_c = ground_kept h i more b c stored_b extends_b n is_b in
        let extends_c = stays_extends c d stays in
        let one = are_kept h i more b c stored_b extends_b r e first (left.right n is (max_left _ _ n both)) in
        let two = right.right n is_b (max_right _ _ n both) in
        choose_right r (value j) (value l) d.matrices.items o.matrices.items f e k row first second numbers (test.right n is_c le_f)
        (are_kept i j last c d stored_c extends_c r e first one)
        (are_kept i j last c d stored_c extends_c r k second two)
        chosen;
  }

  -- what is made of the row of one part
  pub one_row : (old now new : (ℕ → Bool) → Node → Bool) (before : List MatrixEntries) (f claim : Claim) (first row : List Node)
      → ((n : ℕ) → past_of none_nested claim no_depths ≤ n → past_of none_nested f no_depths ≤ n)
      → HasRow ground known old now before f first
      → ((n : ℕ) → IsReading (read_in ground known n) → past_of none_nested f no_depths ≤ n → IsRight (read_in ground known n) now f first → IsRight (read_in ground known n) new claim row)
      → HasRow ground known old new before claim row
  one_row old now new before f claim first row nested part made = record {
    right = λ n is le. (let less = nested n le in made n (ok_under (reading_of ground.setting n) (atoms_of known) is.reading) less (part.right n is less));
  }

  -- what is made of the sets of one part
  pub one_set : (g h i : S) (before after : List MatrixEntries) (e : Term) (claim : Claim) (first : List ℕ) (row : List Node)
      → ((n : ℕ) → past_of none_nested claim no_depths ≤ n → past_in none_nested e no_depths ≤ n)
      → HasSets ground known (value g) (value h) before after e first
      → ((r : Reading) → AreRight r (value h) after e first → IsRight r (value i) claim row)
      → HasRow ground known (value g) (value i) before claim row
  one_set g h i before after e claim first row nested part made = record {
    right = λ n is le. made (read_in ground known n) (part.right n is (nested n le));
  }

  -- what is made of the rows of two parts
  pub two_rows : (g h i j : S) (a b : Store) (f k claim : Claim) (first second row : List Node) → Keeps belongs value g h → Keeps belongs value h i → AreStored (belongs g) a → Stays a b → AllIn (belongs h) first
      → ((n : ℕ) → past_of none_nested claim no_depths ≤ n → max (past_of none_nested f no_depths) (past_of none_nested k no_depths) ≤ n)
      → HasRow ground known (value g) (value h) a.matrices.items f first → HasRow ground known (value h) (value i) b.matrices.items k second
      → ((n : ℕ) → IsReading (read_in ground known n) → past_of none_nested f no_depths ≤ n → past_of none_nested k no_depths ≤ n → IsRight (read_in ground known n) (value i) f first → IsRight (read_in ground known n) (value i) k second → IsRight (read_in ground known n) (value j) claim row)
      → HasRow ground known (value g) (value j) a.matrices.items claim row
  two_rows g h i j a b f k claim first second row keeps more stored stays belong nested left right made = record {
    right = λ n is le.
        let r = read_in ground known n in
        let both = nested n le in
        let le_f = max_left _ _ n both in
        let le_k = max_right _ _ n both in
        let is_b = ground_kept g h keeps a b stored (stays_extends a b stays) n is in
        made n (ok_under (reading_of ground.setting n) (atoms_of known) is.reading) le_f le_k (right_kept belongs value r h i more f first belong (left.right n is le_f)) (right.right n is_b le_k);
  }

  -- what is made of the rows of three parts
  pub three_rows : (g h i j l : S) (a b c : Store) (f k o claim : Claim) (first second third row : List Node) → Keeps belongs value g h → Keeps belongs value h i → Keeps belongs value i j → AreStored (belongs g) a → AreStored (belongs h) b → Stays a b → Stays b c → AllIn (belongs h) first → AllIn (belongs i) second
      → ((n : ℕ) → past_of none_nested claim no_depths ≤ n → max (past_of none_nested f no_depths) (max (past_of none_nested k no_depths) (past_of none_nested o no_depths)) ≤ n)
      → HasRow ground known (value g) (value h) a.matrices.items f first → HasRow ground known (value h) (value i) b.matrices.items k second → HasRow ground known (value i) (value j) c.matrices.items o third
      → ((r : Reading) → IsRight r (value j) f first → IsRight r (value j) k second → IsRight r (value j) o third → IsRight r (value l) claim row)
      → HasRow ground known (value g) (value l) a.matrices.items claim row
  three_rows g h i j l a b c f k o claim first second third row keeps more last stored_a stored_b stays_a stays_b in_first in_second nested left middle right made = record {
    right = λ n is le.
        let r = read_in ground known n in
        let all = nested n le in
        let both = max_right _ _ n all in
        let is_b = ground_kept g h keeps a b stored_a (stays_extends a b stays_a) n is in
        let is_c = ground_kept h i more b c stored_b (stays_extends b c stays_b) n is_b in
        let one = right_kept belongs value r h j (keeps_trans belongs value h i j more last) f first in_first (left.right n is (max_left _ _ n all)) in
        let two = right_kept belongs value r i j last k second in_second (middle.right n is_b (max_left _ _ n both)) in
        made r one two (right.right n is_c (max_right _ _ n both));
  }

  -- sets that are made of those of one part
  pub one_part : (g h i : S) (before now after : List MatrixEntries) (e term : Term) (first numbers : List ℕ)
      → ((n : ℕ) → past_in none_nested term no_depths ≤ n → past_in none_nested e no_depths ≤ n)
      → HasSets ground known (value g) (value h) before now e first
      → ((n : ℕ) → IsReading (read_in ground known n) → past_in none_nested e no_depths ≤ n → AreRight (read_in ground known n) (value h) now e first → AreRight (read_in ground known n) (value i) after term numbers)
      → HasSets ground known (value g) (value i) before after term numbers
  one_part g h i before now after e term first numbers nested part made = record {
    right = λ n is le. (let less = nested n le in made n (ok_under (reading_of ground.setting n) (atoms_of known) is.reading) less (part.right n is less));
  }

  -- sets that are made of those of two parts
  pub two_parts : (g h i j : S) (a b c d : Store) (e f term : Term) (first second numbers : List ℕ) → Keeps belongs value g h → Keeps belongs value h i → AreStored (belongs g) a → AreStored (belongs h) b → Extends a b → Extends b c
      → ((n : ℕ) → past_in none_nested term no_depths ≤ n → max (past_in none_nested e no_depths) (past_in none_nested f no_depths) ≤ n)
      → HasSets ground known (value g) (value h) a.matrices.items b.matrices.items e first → HasSets ground known (value h) (value i) b.matrices.items c.matrices.items f second
      → ((r : Reading) → AreRight r (value i) c.matrices.items e first → AreRight r (value i) c.matrices.items f second → AreRight r (value j) d.matrices.items term numbers)
      → HasSets ground known (value g) (value j) a.matrices.items d.matrices.items term numbers
  two_parts g h i j a b c d e f term first second numbers keeps more stored_a stored_b extends extends_b nested left right made = record {
    right = λ n is le.
        let both = nested n le in
        let one = left.right n is (max_left _ _ n both) in
        let two = right.right n (ground_kept g h keeps a b stored_a extends n is) (max_right _ _ n both) in
        made (read_in ground known n) (are_kept h i more b c stored_b extends_b (read_in ground known n) e first one) two;
  }
