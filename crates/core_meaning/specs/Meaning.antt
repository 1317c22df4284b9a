-- Which tuples an expression has, and where a formula holds.
use Rattle.std.specs.Prelude.{◌≡◌, ◌≢◌, ◌⊎◌, ℕ, ◌+◌, ◌-◌, eqb, Bool, true, false, List, [], ◌∷◌, ◌++◌, take, length, All, ℤ}
use Rattle.core_tree.specs.Trees.{Term, Terms, Variables, Claim, Claims, sig, field, name, univ, iden, empty, int, combine, product, unary, prime, choose_term, comprehension, number, count, arithmetic, sum_over, let_term, call_term, no_terms, more_terms, no_variables, more_variables, inside, equal, within, test, compare, negation, every, connect, choose_claim, for_all, counted, temporal, temporal_pair, let_claim, call_claim, no_claims, more_claims}
use Rattle.core_meaning.specs.Integers.{wrap, result_of}
use Rattle.core_meaning.specs.World.{World, InRelation, atom_of, IsInteger, InUniverse}
use Rattle.core_meaning.specs.Operators.{Tuples, combined_tuples, product_tuples, identity_tuples, unary_tuples, IsInside, IsEqual, HasQuantity, HasMultiplicity, Quantified, IsCount, IsNumber, IsSumOver, Compares, Connects, Chooses, Happens, HappenBoth}

-- what each name stands for at each position
abbrev pub Names : Type 1
Names = ℕ → ℕ → Tuples

-- one of two sets
abbrev pub one_of : Bool → Tuples → Tuples → Tuples
one_of true A B = A
one_of false A B = B

-- the names with one more, which hides an earlier one of its number
abbrev pub with_name : Names → ℕ → (ℕ → Tuples) → Names
with_name names x means y i = one_of (eqb y x) (means i) (names y i)

-- an atom, which is the same at every position
abbrev pub atom : ℕ → ℕ → Tuples
atom a i t = t ≡ a ∷ []

abbrev pub no_names : Names
no_names x i t = ⊥

-- what the called bodies mean, by their numbers and by what their parameters stand for
pub record Bodies : Type 1 where
  pub term : ℕ → Names → ℕ → Tuples
  pub claim : ℕ → Names → ℕ → Type 0

-- an atom that differs from the latest `apart` of the earlier ones, which stand latest first
abbrev pub IsApart : ℕ → ℕ → List ℕ → Type 0
IsApart apart a earlier = All (λ b. a ≢ b) (take apart earlier)

module _ (w : World) (bodies : Bodies) where
  abbrev mutual
    -- t is in the expression at position i
    pub InTerm : Term → Names → ℕ → List ℕ → Type 0
    InTerm (sig s) names i t = InRelation w s i t
    InTerm (field f) names i t = InRelation w (length w.top + f) i t
    InTerm (name x) names i t = names x i t
    InTerm univ names i t = (a : ℕ) × InUniverse w i a × (t ≡ a ∷ [])
    InTerm iden names i t = identity_tuples w i t
    InTerm empty names i t = ⊥
    InTerm int names i t = (a : ℕ) × IsInteger w a × (t ≡ a ∷ [])
    InTerm (combine op a b) names i t = combined_tuples op (InTerm a names i) (InTerm b names i) t
    InTerm (product a m n b) names i t = product_tuples (InTerm a names i) (InTerm b names i) t
    InTerm (unary op a) names i t = unary_tuples w i op (InTerm a names i) t
    InTerm (prime a) names i t = InTerm a names (i + 1) t
    InTerm (choose_term f a b) names i t = (Holds f names i × InTerm a names i t) ⊎ ((¬ Holds f names i) × InTerm b names i t)
    InTerm (comprehension vs f) names i t = Picked vs (λ inner. Holds f inner i) names i [] t
    -- an integer is a singleton set
    InTerm (number n place) names i t = t ≡ atom_of w n ∷ []
    InTerm (count a) names i t = (n : ℤ) × IsCount w (InTerm a names i) n × (t ≡ atom_of w n ∷ [])
    InTerm (arithmetic op a b) names i t = (x y : ℤ) × IsNumber w (InTerm a names i) x × IsNumber w (InTerm b names i) y × (t ≡ atom_of w (wrap w.bits (result_of op x y)) ∷ [])
    InTerm (sum_over vs a) names i t = (n : ℤ) × IsSumOver w (Picked vs (λ inner. Unit {0}) names i []) (λ u m. Picked vs (λ inner. IsNumber w (InTerm a inner i) m) names i [] u) n × (t ≡ atom_of w n ∷ [])
    -- a name stands for its expression at the position of its use
    InTerm (let_term x a b) names i t = InTerm b (with_name names x (λ j. InTerm a names j)) i t
    InTerm (call_term body es) names i t = bodies.term body (passed es names) i t

    -- what the parameters 0, 1 and on stand for: the arguments, at the position of their use
    pub passed : Terms → Names → ℕ → ℕ → List ℕ → Type 0
    passed no_terms names x i t = ⊥
    passed (more_terms e rest) names x i t = one_of (eqb x 0) (InTerm e names i) (passed rest names (x - 1) i) t

    -- the atoms of t are in turn in the bounds of the variables, those of a `disj` list differ, and
    -- `Passes` holds for them
    pub Picked : Variables → (Names → Type 0) → Names → ℕ → List ℕ → List ℕ → Type 0
    Picked no_variables Passes names i earlier t = (t ≡ []) × Passes names
    Picked (more_variables x apart e rest) Passes names i earlier t = (a : ℕ) × (u : List ℕ) × (t ≡ a ∷ u) × InTerm e names i (a ∷ []) × IsApart apart a earlier × Picked rest Passes (with_name names x (atom a)) i (a ∷ earlier) u

    -- `Passes` holds for all such atoms
    pub ForEach : Variables → (Names → Type 0) → Names → ℕ → List ℕ → Type 0
    ForEach no_variables Passes names i earlier = Passes names
    ForEach (more_variables x apart e rest) Passes names i earlier = (a : ℕ) → InTerm e names i (a ∷ []) → IsApart apart a earlier → ForEach rest Passes (with_name names x (atom a)) i (a ∷ earlier)

    -- a set that lies in a bound has the multiplicities of the bound's arrows: of `a m -> n b` each
    -- tuple of a goes with n tuples of b, each tuple of b with m of a, and these keep what a and b
    -- ask in turn
    pub Fits : Term → Names → ℕ → Tuples → Type 0
    Fits (product a m n b) names i E =
        ((s : List ℕ) → InTerm a names i s → HasMultiplicity n (λ u. E (s ++ u)) × Fits b names i (λ u. E (s ++ u)))
        × ((u : List ℕ) → InTerm b names i u → HasMultiplicity m (λ s. E (s ++ u)) × Fits a names i (λ s. E (s ++ u)))
    Fits e names i E = Unit {0}

    -- the formula holds at position i
    pub Holds : Claim → Names → ℕ → Type 0
    Holds (inside a b) names i = IsInside (InTerm a names i) (InTerm b names i)
    Holds (equal a b) names i = IsEqual (InTerm a names i) (InTerm b names i)
    Holds (within a m b) names i = IsInside (InTerm a names i) (InTerm b names i) × HasMultiplicity m (InTerm a names i) × Fits b names i (InTerm a names i)
    Holds (test q a) names i = HasQuantity q (InTerm a names i)
    Holds (compare op a b) names i = Compares w op (InTerm a names i) (InTerm b names i)
    Holds (negation f) names i = ¬ Holds f names i
    Holds (every fs) names i = HoldEach fs names i
    Holds (connect op f g) names i = Connects op (Holds f names i) (Holds g names i)
    Holds (choose_claim f g h) names i = Chooses (Holds f names i) (Holds g names i) (Holds h names i)
    Holds (for_all vs f) names i = ForEach vs (λ inner. Holds f inner i) names i []
    Holds (counted q vs f) names i = Quantified q (ForEach vs (λ inner. ¬ Holds f inner i) names i []) (Picked vs (λ inner. Holds f inner i) names i [])
    Holds (temporal op f) names i = Happens op (λ j. Holds f names j) i
    Holds (temporal_pair op f g) names i = HappenBoth op (λ j. Holds f names j) (λ j. Holds g names j) i
    Holds (let_claim x e f) names i = Holds f (with_name names x (λ j. InTerm e names j)) i
    Holds (call_claim body es) names i = bodies.claim body (passed es names) i

    -- each formula of the list holds
    pub HoldEach : Claims → Names → ℕ → Type 0
    HoldEach no_claims names i = Unit {0}
    HoldEach (more_claims f rest) names i = Holds f names i × HoldEach rest names i
