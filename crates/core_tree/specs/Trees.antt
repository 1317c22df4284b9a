-- Formulas and expressions as plain data, without where their parts lie in memory.
-- Every definition that speaks of formulas and expressions speaks of these.
use Rattle.std.specs.Prelude.{ℕ, ℤ, List, [], ◌∷◌}
use Rattle.base_types.specs.declared.place.Position.{Position}
use Rattle.core_tree.specs.declared.operators.Multiplicity.{Multiplicity}
use Rattle.core_tree.specs.declared.operators.Quantity.{Quantity}
use Rattle.core_tree.specs.declared.operators.Comparison.{Comparison}
use Rattle.core_tree.specs.declared.operators.Connective.{Connective}
use Rattle.core_tree.specs.declared.operators.TemporalUnary.{TemporalUnary}
use Rattle.core_tree.specs.declared.operators.TemporalBinary.{TemporalBinary}
use Rattle.core_tree.specs.declared.operators.RelationOp.{RelationOp}
use Rattle.core_tree.specs.declared.operators.UnaryRelation.{UnaryRelation}
use Rattle.core_tree.specs.declared.operators.IntOp.{IntOp}
use Rattle.core_tree.specs.declared.tree.Variable.{Variable}
use Rattle.core_tree.specs.declared.tree.Formula.{Formula, Inside', Equal', Within', Test', Compare', Not', Every', Connect', Choose' as ChooseFormula, ForAll', Counted', Temporal', TemporalPair', Let' as LetFormula, Call' as CallFormula, Row_of-Formula, end_of-Formula, more_of-Formula}
use Rattle.core_tree.specs.declared.tree.Expr.{Expr, Sig, Field, Name, Univ, Iden, Empty, Int, Combine', Product', Unary', Prime', Choose' as ChooseExpr, Comprehension', Number, Count', Arithmetic', Sum', Let' as LetExpr, Call' as CallExpr, Row_of-Variable, end_of-Variable, more_of-Variable, Row_of-Expr, end_of-Expr, more_of-Expr}

mutual
  -- an expression
  pub data Term : Type 0 where
    sig : ℕ → Term
    field : ℕ → Term
    name : ℕ → Term
    univ : Term
    iden : Term
    empty : Term
    int : Term
    combine : RelationOp → Term → Term → Term
    product : Term → Multiplicity → Multiplicity → Term → Term
    unary : UnaryRelation → Term → Term
    prime : Term → Term
    choose_term : Claim → Term → Term → Term
    comprehension : Variables → Claim → Term
    number : ℤ → Position → Term
    count : Term → Term
    arithmetic : IntOp → Term → Term → Term
    sum_over : Variables → Term → Term
    let_term : ℕ → Term → Term → Term
    call_term : ℕ → Terms → Term

  -- a list of expressions
  pub data Terms : Type 0 where
    no_terms : Terms
    more_terms : Term → Terms → Terms

  -- variables: the name, from how many before it the atom differs, the bound, and the others
  pub data Variables : Type 0 where
    no_variables : Variables
    more_variables : ℕ → ℕ → Term → Variables → Variables

  -- a formula
  pub data Claim : Type 0 where
    inside : Term → Term → Claim
    equal : Term → Term → Claim
    within : Term → Multiplicity → Term → Claim
    test : Quantity → Term → Claim
    compare : Comparison → Term → Term → Claim
    negation : Claim → Claim
    every : Claims → Claim
    connect : Connective → Claim → Claim → Claim
    choose_claim : Claim → Claim → Claim → Claim
    for_all : Variables → Claim → Claim
    counted : Quantity → Variables → Claim → Claim
    temporal : TemporalUnary → Claim → Claim
    temporal_pair : TemporalBinary → Claim → Claim → Claim
    let_claim : ℕ → Term → Claim → Claim
    call_claim : ℕ → Terms → Claim

  -- a list of formulas
  pub data Claims : Type 0 where
    no_claims : Claims
    more_claims : Claim → Claims → Claims

abbrev mutual
  -- an expression as data
  pub term_of : Expr → Term
  term_of (Sig s) = sig s
  term_of (Field f) = field f
  term_of (Name x) = name x
  term_of Univ = univ
  term_of Iden = iden
  term_of Empty = empty
  term_of Int = int
  term_of (Combine' op p a q b) = combine op (term_of a) (term_of b)
  term_of (Product' p a m n q b) = product (term_of a) m n (term_of b)
  term_of (Unary' op p a) = unary op (term_of a)
  term_of (Prime' p a) = prime (term_of a)
  term_of (ChooseExpr p f q a r b) = choose_term (claim_of f) (term_of a) (term_of b)
  term_of (Comprehension' shape vs p f) = comprehension (variables_of vs) (claim_of f)
  term_of (Number n place) = number n place
  term_of (Count' p a) = count (term_of a)
  term_of (Arithmetic' op p a q b) = arithmetic op (term_of a) (term_of b)
  term_of (Sum' shape vs p a) = sum_over (variables_of vs) (term_of a)
  term_of (LetExpr x p a q b) = let_term x (term_of a) (term_of b)
  term_of (CallExpr body shape es) = call_term body (terms_of es)

  pub terms_of : {m : _} → Row_of-Expr m → Terms
  terms_of end_of-Expr = no_terms
  terms_of (more_of-Expr e rest) = more_terms (term_of e) (terms_of rest)

  pub variables_of : {m : _} → Row_of-Variable m → Variables
  variables_of end_of-Variable = no_variables
  variables_of (more_of-Variable x apart e rest) = more_variables x apart (term_of e) (variables_of rest)

  -- a formula as data
  pub claim_of : Formula → Claim
  claim_of (Inside' p a q b) = inside (term_of a) (term_of b)
  claim_of (Equal' p a q b) = equal (term_of a) (term_of b)
  claim_of (Within' p a m q b) = within (term_of a) m (term_of b)
  claim_of (Test' q p a) = test q (term_of a)
  claim_of (Compare' op p a q b) = compare op (term_of a) (term_of b)
  claim_of (Not' p f) = negation (claim_of f)
  claim_of (Every' shape fs) = every (claims_of fs)
  claim_of (Connect' op p f q g) = connect op (claim_of f) (claim_of g)
  claim_of (ChooseFormula p f q g r h) = choose_claim (claim_of f) (claim_of g) (claim_of h)
  claim_of (ForAll' shape vs p f) = for_all (variables_of vs) (claim_of f)
  claim_of (Counted' q shape vs p f) = counted q (variables_of vs) (claim_of f)
  claim_of (Temporal' op p f) = temporal op (claim_of f)
  claim_of (TemporalPair' op p f q g) = temporal_pair op (claim_of f) (claim_of g)
  claim_of (LetFormula x p e q f) = let_claim x (term_of e) (claim_of f)
  claim_of (CallFormula body shape es) = call_claim body (terms_of es)

  pub claims_of : {m : _} → Row_of-Formula m → Claims
  claims_of end_of-Formula = no_claims
  claims_of (more_of-Formula f rest) = more_claims (claim_of f) (claims_of rest)

-- a variable: its name, from how many before it the atom differs, and its bound
pub record Binder : Type 0 where
  pub name : ℕ
  pub apart : ℕ
  pub bound : Term

abbrev pub variable_of : Variable → Binder
variable_of v = record { name = v.name; apart = v.apart; bound = term_of v.bound }

-- lists of expressions, variables and formulas as data
abbrev pub term_list : List Term → Terms
term_list [] = no_terms
term_list (e ∷ es) = more_terms e (term_list es)

abbrev pub claim_list : List Claim → Claims
claim_list [] = no_claims
claim_list (f ∷ fs) = more_claims f (claim_list fs)

abbrev pub variable_list : List Binder → Variables
variable_list [] = no_variables
variable_list (v ∷ vs) = more_variables v.name v.apart v.bound (variable_list vs)
