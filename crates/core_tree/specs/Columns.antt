-- How many columns an expression has, and when every part of a tree fits its place.
use Rattle.std.specs.Prelude.{◌≡◌, ℕ, suc, ◌+◌, ◌-◌, ◌<◌, ◌≤◌, eqb, if◌then◌else◌, List, [], ◌∷◌, length, Option, Some, None, slice_get, slice_index}
use Rattle.core_tree.specs.declared.operators.Multiplicity.{Multiplicity}
use Rattle.core_tree.specs.declared.operators.Multiplicity.TheVariants.{Set, One, Lone, Some as AtLeastOne}
use Rattle.core_tree.specs.declared.operators.RelationOp.{RelationOp}
use Rattle.core_tree.specs.declared.operators.RelationOp.TheVariants.{Union, Difference, Intersection, Join, Override, LeftRestrict, RightRestrict}
use Rattle.core_tree.specs.Trees.{Term, Terms, Variables, Claim, Claims, sig, field, name, univ, iden, empty, int, combine, product, unary, prime, choose_term, comprehension, number, count, arithmetic, sum_over, let_term, call_term, no_terms, more_terms, no_variables, more_variables, inside, equal, within, test, compare, negation, every, connect, choose_claim, for_all, counted, temporal, temporal_pair, let_claim, call_claim, no_claims, more_claims}

-- what a call sees of a body: the columns of its parameters, those of its result (none of a
-- predicate), and its rank
pub record Signature : Type 0 where
  pub parameters : List ℕ
  pub result : Option ℕ
  pub rank : ℕ

-- what a tree's numbers may name: so many sigs, fields of so many columns, and these bodies
pub record Shapes : Type 0 where
  pub sigs : ℕ
  pub fields : List ℕ
  pub bodies : List Signature

-- how many columns each visible name has
abbrev pub Columns : Type 0
Columns = ℕ → Option ℕ

abbrev pub no_columns : Columns
no_columns x = None

abbrev pub with_columns : Columns → ℕ → ℕ → Columns
with_columns names x n y = if eqb y x then Some n else names y

abbrev pub or_zero : Option ℕ → ℕ
or_zero (Some n) = n
or_zero None = 0

-- what an operator makes of two numbers of columns
abbrev pub combined : RelationOp → ℕ → ℕ → ℕ
combined Union a b = a
combined Difference a b = a
combined Intersection a b = a
combined Override a b = a
combined Join a b = a + b - 2
combined LeftRestrict a b = b
combined RightRestrict a b = a

-- the numbers of columns that an operator takes
abbrev pub CanCombine : RelationOp → ℕ → ℕ → Type 0
CanCombine Union a b = a ≡ b
CanCombine Difference a b = a ≡ b
CanCombine Intersection a b = a ≡ b
CanCombine Override a b = a ≡ b
CanCombine Join a b = 3 ≤ a + b
CanCombine LeftRestrict a b = a ≡ 1
CanCombine RightRestrict a b = b ≡ 1

abbrev pub result_columns : Option Signature → ℕ
result_columns (Some s) = or_zero s.result
result_columns None = 0

-- a word other than `set` stands before one column alone
abbrev pub CanBound : Multiplicity → ℕ → Type 0
CanBound Set n = Unit {0}
CanBound One n = n ≡ 1
CanBound Lone n = n ≡ 1
CanBound AtLeastOne n = n ≡ 1

abbrev pub IsFew : ℕ → Type 0
IsFew n = (1 ≤ n) × (n ≤ 9)

module _ (shapes : Shapes) where
  abbrev mutual
    pub columns_in : Term → Columns → ℕ
    columns_in (sig s) names = 1
    columns_in (field f) names = slice_index shapes.fields f
    columns_in (name x) names = or_zero (names x)
    columns_in univ names = 1
    columns_in iden names = 2
    columns_in empty names = 1
    columns_in int names = 1
    columns_in (combine op a b) names = combined op (columns_in a names) (columns_in b names)
    columns_in (product a m n b) names = columns_in a names + columns_in b names
    columns_in (unary op a) names = 2
    columns_in (prime a) names = columns_in a names
    columns_in (choose_term f a b) names = columns_in a names
    columns_in (comprehension vs f) names = variables_count vs
    columns_in (number n place) names = 1
    columns_in (count a) names = 1
    columns_in (arithmetic op a b) names = 1
    columns_in (sum_over vs a) names = 1
    columns_in (let_term x a b) names = columns_in b (with_columns names x (columns_in a names))
    columns_in (call_term body es) names = result_columns (slice_get shapes.bodies body)

    pub variables_count : Variables → ℕ
    variables_count no_variables = 0
    variables_count (more_variables x apart e rest) = suc (variables_count rest)

  -- the same names with one more of one column for each variable
  abbrev pub with_variables : Variables → Columns → Columns
  with_variables no_variables names = names
  with_variables (more_variables x apart e rest) names = with_variables rest (with_columns names x 1)

  -- which fields may stand in a tree, and which bodies it may call, by what a call sees of them
  module _ (AllowedField : ℕ → Type 0) (AllowedBody : Signature → Type 0) where
    abbrev mutual
      -- every number is in range, every name visible, and every part has the columns that its
      -- place needs, and nine at most
      pub IsRightTerm : Term → Columns → Type 0
      IsRightTerm (sig s) names = s < shapes.sigs
      IsRightTerm (field f) names = (f < length shapes.fields) × IsFew (slice_index shapes.fields f) × AllowedField f
      IsRightTerm (name x) names = (n : ℕ) × (names x ≡ Some n) × IsFew n
      IsRightTerm univ names = Unit {0}
      IsRightTerm iden names = Unit {0}
      IsRightTerm empty names = Unit {0}
      IsRightTerm int names = Unit {0}
      IsRightTerm (combine op a b) names = IsRightTerm a names × IsRightTerm b names × CanCombine op (columns_in a names) (columns_in b names) × IsFew (combined op (columns_in a names) (columns_in b names))
      IsRightTerm (product a m n b) names = IsRightTerm a names × IsRightTerm b names × IsFew (columns_in a names + columns_in b names)
      IsRightTerm (unary op a) names = IsRightTerm a names × (columns_in a names ≡ 2)
      IsRightTerm (prime a) names = IsRightTerm a names
      IsRightTerm (choose_term f a b) names = IsRightClaim f names × IsRightTerm a names × IsRightTerm b names × (columns_in a names ≡ columns_in b names)
      IsRightTerm (comprehension vs f) names = AreRightVariables vs names × IsFew (variables_count vs) × IsRightClaim f (with_variables vs names)
      IsRightTerm (number n place) names = Unit {0}
      IsRightTerm (count a) names = IsRightTerm a names
      IsRightTerm (arithmetic op a b) names = IsRightTerm a names × (columns_in a names ≡ 1) × IsRightTerm b names × (columns_in b names ≡ 1)
      IsRightTerm (sum_over vs a) names = AreRightVariables vs names × IsRightTerm a (with_variables vs names) × (columns_in a (with_variables vs names) ≡ 1)
      IsRightTerm (let_term x a b) names = IsRightTerm a names × IsRightTerm b (with_columns names x (columns_in a names))
      IsRightTerm (call_term body es) names = (s : Signature) × (slice_get shapes.bodies body ≡ Some s) × AllowedBody s × ((n : ℕ) × (s.result ≡ Some n) × IsFew n) × AreRightArguments es names s.parameters

      -- each bound has one column and sees the variables before it
      pub AreRightVariables : Variables → Columns → Type 0
      AreRightVariables no_variables names = Unit {0}
      AreRightVariables (more_variables x apart e rest) names = IsRightTerm e names × (columns_in e names ≡ 1) × AreRightVariables rest (with_columns names x 1)

      -- an argument for each parameter, with its columns
      pub AreRightArguments : Terms → Columns → List ℕ → Type 0
      AreRightArguments no_terms names [] = Unit {0}
      AreRightArguments no_terms names (n ∷ ns) = ⊥
      AreRightArguments (more_terms e rest) names [] = ⊥
      AreRightArguments (more_terms e rest) names (n ∷ ns) = IsRightTerm e names × (columns_in e names ≡ n) × AreRightArguments rest names ns

      pub IsRightClaim : Claim → Columns → Type 0
      IsRightClaim (inside a b) names = IsRightTerm a names × IsRightTerm b names × (columns_in a names ≡ columns_in b names)
      IsRightClaim (equal a b) names = IsRightTerm a names × IsRightTerm b names × (columns_in a names ≡ columns_in b names)
      IsRightClaim (within a m b) names = IsRightTerm a names × IsRightTerm b names × (columns_in a names ≡ columns_in b names) × CanBound m (columns_in b names)
      IsRightClaim (test q a) names = IsRightTerm a names
      IsRightClaim (compare op a b) names = IsRightTerm a names × (columns_in a names ≡ 1) × IsRightTerm b names × (columns_in b names ≡ 1)
      IsRightClaim (negation f) names = IsRightClaim f names
      IsRightClaim (every fs) names = AreRightClaims fs names
      IsRightClaim (connect op f g) names = IsRightClaim f names × IsRightClaim g names
      IsRightClaim (choose_claim f g h) names = IsRightClaim f names × IsRightClaim g names × IsRightClaim h names
      IsRightClaim (for_all vs f) names = AreRightVariables vs names × IsRightClaim f (with_variables vs names)
      IsRightClaim (counted q vs f) names = AreRightVariables vs names × IsRightClaim f (with_variables vs names)
      IsRightClaim (temporal op f) names = IsRightClaim f names
      IsRightClaim (temporal_pair op f g) names = IsRightClaim f names × IsRightClaim g names
      IsRightClaim (let_claim x e f) names = IsRightTerm e names × IsRightClaim f (with_columns names x (columns_in e names))
      IsRightClaim (call_claim body es) names = (s : Signature) × (slice_get shapes.bodies body ≡ Some s) × AllowedBody s × (s.result ≡ None) × AreRightArguments es names s.parameters

      pub AreRightClaims : Claims → Columns → Type 0
      AreRightClaims no_claims names = Unit {0}
      AreRightClaims (more_claims f rest) names = IsRightClaim f names × AreRightClaims rest names
