-- Which fields the formula of a command places: those whose tuples it puts into the rows of their types.
use Rattle.std.specs.Prelude.{◌≡◌, ◌⊎◌, ◌<◌, ◌≤◌, ℕ, suc, false, length, Contains, IsSome, Some, slice_get}
use Rattle.core_tree.specs.declared.model.Model.{Model}
use Rattle.core_tree.specs.declared.model.Field.{Field}
use Rattle.core_tree.specs.declared.operators.Quantity.{Quantity}
use Rattle.core_tree.specs.declared.operators.Quantity.TheVariants.{Some as SomeOf}
use Rattle.core_tree.specs.Trees.{Term, Terms, Variables, Claim, Claims, sig, field, combine, product, unary, prime, choose_term, comprehension, count, arithmetic, sum_over, let_term, call_term, no_terms, more_terms, no_variables, more_variables, inside, equal, within, test, compare, negation, every, connect, choose_claim, for_all, counted, temporal, temporal_pair, let_claim, call_claim, no_claims, more_claims}
use Rattle.core_tree.specs.Types.{TypeRow, TypeRows, NameRows, no_rows, with_rows, type_of}

-- a tree that calls no function, and names only sigs and fields below these numbers
module _ (sigs fields : ℕ) where
  abbrev mutual
    pub IsTermBelow : Term → Type 0
    IsTermBelow (sig s) = s < sigs
    IsTermBelow (field g) = g < fields
    IsTermBelow (combine op a b) = IsTermBelow a × IsTermBelow b
    IsTermBelow (product a m n b) = IsTermBelow a × IsTermBelow b
    IsTermBelow (unary op a) = IsTermBelow a
    IsTermBelow (prime a) = IsTermBelow a
    IsTermBelow (choose_term f a b) = IsClaimBelow f × IsTermBelow a × IsTermBelow b
    IsTermBelow (comprehension vs f) = AreVariablesBelow vs × IsClaimBelow f
    IsTermBelow (count a) = IsTermBelow a
    IsTermBelow (arithmetic op a b) = IsTermBelow a × IsTermBelow b
    IsTermBelow (sum_over vs a) = AreVariablesBelow vs × IsTermBelow a
    IsTermBelow (let_term x a b) = IsTermBelow a × IsTermBelow b
    IsTermBelow (call_term body es) = ⊥
    IsTermBelow e = Unit {0}

    pub AreTermsBelow : Terms → Type 0
    AreTermsBelow no_terms = Unit {0}
    AreTermsBelow (more_terms e rest) = IsTermBelow e × AreTermsBelow rest

    pub AreVariablesBelow : Variables → Type 0
    AreVariablesBelow no_variables = Unit {0}
    AreVariablesBelow (more_variables x apart e rest) = IsTermBelow e × AreVariablesBelow rest

    pub IsClaimBelow : Claim → Type 0
    IsClaimBelow (inside a b) = IsTermBelow a × IsTermBelow b
    IsClaimBelow (equal a b) = IsTermBelow a × IsTermBelow b
    IsClaimBelow (within a m b) = IsTermBelow a × IsTermBelow b
    IsClaimBelow (test q a) = IsTermBelow a
    IsClaimBelow (compare op a b) = IsTermBelow a × IsTermBelow b
    IsClaimBelow (negation f) = IsClaimBelow f
    IsClaimBelow (every fs) = AreClaimsBelow fs
    IsClaimBelow (connect op f g) = IsClaimBelow f × IsClaimBelow g
    IsClaimBelow (choose_claim f g h) = IsClaimBelow f × IsClaimBelow g × IsClaimBelow h
    IsClaimBelow (for_all vs f) = AreVariablesBelow vs × IsClaimBelow f
    IsClaimBelow (counted q vs f) = AreVariablesBelow vs × IsClaimBelow f
    IsClaimBelow (temporal op f) = IsClaimBelow f
    IsClaimBelow (temporal_pair op f g) = IsClaimBelow f × IsClaimBelow g
    IsClaimBelow (let_claim x e f) = IsTermBelow e × IsClaimBelow f
    IsClaimBelow (call_claim body es) = AreTermsBelow es

    pub AreClaimsBelow : Claims → Type 0
    AreClaimsBelow no_claims = Unit {0}
    AreClaimsBelow (more_claims f rest) = IsClaimBelow f × AreClaimsBelow rest

-- what follows is said of the fields below a number, whose tuples are known to have rows of their types, and of names with such rows
module _ (model : Model) where
  -- these rows have all that the tuples of an expression can have: it names only known fields, and they have each row of its type
  pub record IsKnownType (known : ℕ) (names : NameRows) (e : Term) (rows : TypeRows) : Type 0 where
    pub below : IsTermBelow (length model.sigs) known e
    pub typed : (r : TypeRow) → Contains (type_of model e names) r → Contains rows r

  -- a field is static and has all rows of a bound
  pub record HasRowsOf (known : ℕ) (names : NameRows) (f : Field) (bound : Term) : Type 0 where
    pub static : f.is_var ≡ false
    pub typed : IsKnownType known names bound f.rows

  -- an expression is the next field, and each tuple of a bound has one of its rows
  pub record IsNext (known : ℕ) (names : NameRows) (place bound : Term) : Type 0 where
    pub is : place ≡ field known
    pub next : Field
    pub there : slice_get model.fields known ≡ Some next
    pub rows : HasRowsOf known names next bound

  -- where an expression lies in a bound, one more field is known if it is the next one
  abbrev pub PlacesBound : Term → Term → NameRows → ℕ → ℕ → Type 0
  PlacesBound a e names known to = (to ≡ known) ⊎ (IsNext known names a e × (to ≡ suc known))

  -- the names under variables
  abbrev pub NamesAfter : ℕ → Variables → NameRows → NameRows → Type 0
  NamesAfter known no_variables names inner = names ≡ inner
  NamesAfter known (more_variables x apart e rest) names inner = (rows : TypeRows) × IsKnownType known names e rows × NamesAfter known rest (with_rows names x rows) inner

  -- what a formula places under variables of which there are some, and under a name
  abbrev pub PlacesUnder : Quantity → Variables → (NameRows → ℕ → ℕ → Type 0) → NameRows → ℕ → ℕ → Type 0
  PlacesUnder q vs PlacesIn names known to = (to ≡ known) ⊎ ((q ≡ SomeOf) × (inner : NameRows) × NamesAfter known vs names inner × PlacesIn inner known to)

  abbrev pub PlacesWith : ℕ → Term → (NameRows → ℕ → ℕ → Type 0) → NameRows → ℕ → ℕ → Type 0
  PlacesWith x e PlacesIn names known to = (to ≡ known) ⊎ ((rows : TypeRows) × IsKnownType known names e rows × PlacesIn (with_rows names x rows) known to)

  -- where a formula holds, the fields below the second number are known, if those below the first one are
  abbrev mutual
    pub Places : Claim → NameRows → ℕ → ℕ → Type 0
    Places (within a m e) names known to = PlacesBound a e names known to
    Places (every fs) names known to = PlaceAll fs names known to
    Places (counted q vs f) names known to = PlacesUnder q vs (λ inner from after. Places f inner from after) names known to
    Places (let_claim x e f) names known to = PlacesWith x e (λ inner from after. Places f inner from after) names known to
    Places f names known to = to ≡ known

    pub PlaceAll : Claims → NameRows → ℕ → ℕ → Type 0
    PlaceAll no_claims names known to = to ≡ known
    PlaceAll (more_claims f rest) names known to = (between : ℕ) × Places f names known between × PlaceAll rest names between to

-- each field belongs to a sig or is placed by a formula: the first ones belong to sigs, and the formula places the others
pub record ArePlaced (model : Model) (command : Claim) : Type 0 where
  pub first : ℕ
  pub few : first ≤ length model.fields
  pub owned : (g : ℕ) (f : Field) → g < first → slice_get model.fields g ≡ Some f → IsSome f.owner
  pub placed : Places model command no_rows first (length model.fields)
