-- The atom for which a name stands.
use Rattle.std.proofs.Common.{◌≡◌, ◌≢◌, ℕ, Bool, true, false, eqb, Option, Some, ◌∷◌, refl, ◌∙◌, arith, if◌then◌else◌}
use Rattle.std.proofs.lemmas.Bool.Decides.{nat_tests}
use Rattle.bmc_leaves.specs.Shown.{Atoms, atom_in}

eqb_same : (m n : ℕ) → m ≡ n → eqb m n ≡ true
eqb_same m n e = grind (arith, nat_tests)

eqb_other : (m n : ℕ) → m ≢ n → eqb m n ≡ false
eqb_other m n e = grind (arith, nat_tests)

pick_true : (b : Bool) (a : ℕ) (o : Option ℕ) → b ≡ true → Some a ≡ (if b then Some a else o)
pick_true true a o e = refl
pick_true false a o e = (let clash : false ≡ true = e in absurd cc)

pick_false : (b : Bool) (a : ℕ) (o : Option ℕ) → b ≡ false → o ≡ (if b then Some a else o)
pick_false true a o e = (let clash : true ≡ false = e in absurd cc)
pick_false false a o e = refl

pub atom_first : (atoms : Atoms) (x y a : ℕ) → x ≡ y → Some a ≡ atom_in ((y, a) ∷ atoms) x
atom_first atoms x y a e = pick_true (eqb x y) a (atom_in atoms x) (eqb_same x y e)

pub atom_later : (atoms : Atoms) (x y a : ℕ) (found : Option ℕ) → x ≢ y → found ≡ atom_in atoms x → found ≡ atom_in ((y, a) ∷ atoms) x
atom_later atoms x y a found other is = is ∙ pick_false (eqb x y) a (atom_in atoms x) (eqb_other x y other)
