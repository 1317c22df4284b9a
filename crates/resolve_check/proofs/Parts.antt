-- What a test of numbers of columns says where it holds.
use Rattle.std.proofs.Common.{◌≡◌, ℕ, zero, suc, ◌+◌, ◌-◌, ◌<◌, ◌≤◌, Bool, true, false, ◌&&◌, true≢false, nat_le, eqb, List, [], ◌∷◌, map, length, Option, Some, None, slice_get, slice_index, refl, sym, ap, ◌∙◌, subst, eqb-true, leb-true, option_map}
use Rattle.core_tree.specs.declared.operators.Multiplicity.{Multiplicity}
use Rattle.core_tree.specs.declared.operators.Multiplicity.TheVariants.{Set, One, Lone, Some as AtLeastOne}
use Rattle.core_tree.specs.declared.operators.RelationOp.{RelationOp}
use Rattle.core_tree.specs.declared.operators.RelationOp.TheVariants.{Union, Difference, Intersection, Join, Override, LeftRestrict, RightRestrict}
use Rattle.core_tree.specs.Columns.{Signature, CanCombine, CanBound, IsFew, combined}
use Rattle.resolve_check.specs.declared.shape.BodyShape.{BodyShape}
use Rattle.resolve_check.specs.declared.shape.Shape.{Shape}
use Rattle.resolve_check.specs.declared.shape.Limits.{Limits}
use Rattle.resolve_check.specs.declared.shape.Calls.{Calls}
use Rattle.resolve_check.specs.Fits.{only, few, few_of, is_there, is_missing, is_single, has_columns, can_combine, combined_columns, product_columns, same_columns, can_bound, bounded, field_columns, is_allowed_field, is_allowed_body, function_columns, is_predicate_call}

pub no_some : (n : ℕ) → None ≡ Some n → ⊥
no_some n e = cc

pub some_same : (m n : ℕ) → Some m ≡ Some n → m ≡ n
some_same m n e = cc

pub not_false : false ≡ true → ⊥
not_false e = true≢false (sym e)

-- a condition and what it guards
pub record Guarded (b : Bool) (o : Option ℕ) (n : ℕ) : Type 0 where
  pub holds : b ≡ true
  pub is : o ≡ Some n

pub only_from : (b : Bool) (o : Option ℕ) (n : ℕ) → only b o ≡ Some n → Guarded b o n
only_from true o n e = record { holds = refl; is = e }
only_from false o n e = absurd (no_some n e)

pub record Both (a b : Bool) : Type 0 where
  pub first : a ≡ true
  pub second : b ≡ true

pub both_from : (a b : Bool) → (a && b) ≡ true → Both a b
both_from true b e = record { first = refl; second = e }
both_from false b e = absurd (not_false e)

pub record Few (n m : ℕ) : Type 0 where
  pub same : n ≡ m
  pub is_few : IsFew m

pub few_from : (n m : ℕ) → few n ≡ Some m → Few n m
few_from n m e =
    let a = only_from (nat_le 1 n) (only (nat_le n 9) (Some n)) m e in
    let b = only_from (nat_le n 9) (Some n) m a.is in
    let s = some_same n m b.is in
    record { same = s; is_few = subst IsFew s (leb-true 1 n a.holds, leb-true n 9 b.holds) }

pub record FewOf (o : Option ℕ) (m : ℕ) : Type 0 where
  pub same : o ≡ Some m
  pub is_few : IsFew m

pub few_of_from : (o : Option ℕ) (m : ℕ) → few_of o ≡ Some m → FewOf o m
few_of_from None m e = absurd (no_some m e)
few_of_from (Some n) m e = let f = few_from n m e in record { same = ap Some f.same; is_few = f.is_few }

pub record There (o : Option ℕ) : Type 0 where
  pub columns : ℕ
  pub is : o ≡ Some columns

pub there_from : (o : Option ℕ) → is_there o ≡ true → There o
there_from None e = absurd (not_false e)
there_from (Some n) e = record { columns = n; is = refl }

pub single_from : (o : Option ℕ) → is_single o ≡ true → o ≡ Some 1
single_from None e = absurd (not_false e)
single_from (Some n) e = ap Some (eqb-true n 1 e)

pub has_from : (o : Option ℕ) (m : ℕ) → has_columns o m ≡ true → o ≡ Some m
has_from None m e = absurd (not_false e)
has_from (Some n) m e = ap Some (eqb-true n m e)

pub missing_from : (o : Option ℕ) → is_missing o ≡ true → o ≡ None
missing_from None e = refl
missing_from (Some n) e = absurd (not_false e)

pub can_from : (op : RelationOp) (a b : ℕ) → can_combine op a b ≡ true → CanCombine op a b
can_from Union a b e = eqb-true a b e
can_from Difference a b e = eqb-true a b e
can_from Intersection a b e = eqb-true a b e
can_from Override a b e = eqb-true a b e
can_from Join a b e = leb-true 3 (a + b) e
can_from LeftRestrict a b e = eqb-true a 1 e
can_from RightRestrict a b e = eqb-true b 1 e

-- two operands and what the operator makes of them
pub record Combined (op : RelationOp) (a b : Option ℕ) (n : ℕ) : Type 0 where
  pub left : ℕ
  pub right : ℕ
  pub left_is : a ≡ Some left
  pub right_is : b ≡ Some right
  pub can : CanCombine op left right
  pub is_few : IsFew (combined op left right)
  pub is : combined op left right ≡ n

pub combined_from : (op : RelationOp) (a b : Option ℕ) (n : ℕ) → combined_columns op a b ≡ Some n → Combined op a b n
combined_from op None b n e = absurd (no_some n e)
combined_from op (Some a) None n e = absurd (no_some n e)
combined_from op (Some a) (Some b) n e =
    let g = only_from (can_combine op a b) (few (combined op a b)) n e in
    let f = few_from (combined op a b) n g.is in
    record { left = a; right = b; left_is = refl; right_is = refl; can = can_from op a b g.holds; is_few = subst IsFew (sym f.same) f.is_few; is = f.same }

pub record Product (a b : Option ℕ) (n : ℕ) : Type 0 where
  pub left : ℕ
  pub right : ℕ
  pub left_is : a ≡ Some left
  pub right_is : b ≡ Some right
  pub is_few : IsFew (left + right)
  pub is : left + right ≡ n

pub product_from : (a b : Option ℕ) (n : ℕ) → product_columns a b ≡ Some n → Product a b n
product_from None b n e = absurd (no_some n e)
product_from (Some a) None n e = absurd (no_some n e)
product_from (Some a) (Some b) n e =
    let f = few_from (a + b) n e in
    record { left = a; right = b; left_is = refl; right_is = refl; is_few = subst IsFew (sym f.same) f.is_few; is = f.same }

pub record Same (a b : Option ℕ) (n : ℕ) : Type 0 where
  pub left_is : a ≡ Some n
  pub right_is : b ≡ Some n

pub same_from : (a b : Option ℕ) (n : ℕ) → same_columns a b ≡ Some n → Same a b n
same_from None b n e = absurd (no_some n e)
same_from (Some a) b n e =
    let g = only_from (has_columns b a) (Some a) n e in
    let s = some_same a n g.is in
    record { left_is = g.is; right_is = has_from b a g.holds ∙ ap Some s }

pub bound_from : (m : Multiplicity) (n : ℕ) → can_bound m n ≡ true → CanBound m n
bound_from Set n e = tt
bound_from One n e = eqb-true n 1 e
bound_from Lone n e = eqb-true n 1 e
bound_from AtLeastOne n e = eqb-true n 1 e

pub record Bounded (m : Multiplicity) (o : Option ℕ) (n : ℕ) : Type 0 where
  pub is : o ≡ Some n
  pub can : CanBound m n

pub bounded_from : (m : Multiplicity) (o : Option ℕ) (n : ℕ) → bounded m o ≡ Some n → Bounded m o n
bounded_from m None n e = absurd (no_some n e)
bounded_from m (Some k) n e =
    let g = only_from (can_bound m k) (Some k) n e in
    let s = some_same k n g.is in
    record { is = g.is; can = subst (CanBound m) s (bound_from m k g.holds) }

-- a body that is there and may be called
pub record FunctionCall (calls : Calls) (o : Option BodyShape) (fit : Bool) (n : ℕ) : Type 0 where
  pub there : BodyShape
  pub is : o ≡ Some there
  pub fits : fit ≡ true
  pub allowed : is_allowed_body calls there ≡ true
  pub has : there.result ≡ Some n
  pub is_few : IsFew n

pub function_from : (calls : Calls) (o : Option BodyShape) (fit : Bool) (n : ℕ) → function_columns calls o fit ≡ Some n → FunctionCall calls o fit n
function_from calls None fit n e = absurd (no_some n e)
function_from calls (Some s) fit n e =
    let a = only_from fit (only (is_allowed_body calls s) (few_of s.result)) n e in
    let b = only_from (is_allowed_body calls s) (few_of s.result) n a.is in
    let f = few_of_from s.result n b.is in
    record { there = s; is = refl; fits = a.holds; allowed = b.holds; has = f.same; is_few = f.is_few }

pub record PredicateCall (calls : Calls) (o : Option BodyShape) (fit : Bool) : Type 0 where
  pub there : BodyShape
  pub is : o ≡ Some there
  pub fits : fit ≡ true
  pub allowed : is_allowed_body calls there ≡ true
  pub has : there.result ≡ None

pub predicate_from : (calls : Calls) (o : Option BodyShape) (fit : Bool) → is_predicate_call calls o fit ≡ true → PredicateCall calls o fit
predicate_from calls None fit e = absurd (not_false e)
predicate_from calls (Some s) fit e =
    let a = both_from (is_missing s.result) (fit && is_allowed_body calls s) e in
    let b = both_from fit (is_allowed_body calls s) a.second in
    record { there = s; is = refl; fits = b.first; allowed = b.second; has = missing_from s.result a.first }
