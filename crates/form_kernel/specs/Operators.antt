-- What each derived operator is written out as, over operands that are written out already.
use Rattle.core_tree.specs.declared.operators.Quantity.{Quantity}
use Rattle.core_tree.specs.declared.operators.Quantity.TheVariants.{Some, No, One, Lone}
use Rattle.core_tree.specs.declared.operators.Comparison.{Comparison}
use Rattle.core_tree.specs.declared.operators.Comparison.TheVariants.{Equal, Less, AtMost, Greater, AtLeast}
use Rattle.core_tree.specs.declared.operators.Connective.{Connective}
use Rattle.core_tree.specs.declared.operators.Connective.TheVariants.{Or, Implies, Iff}
use Rattle.core_tree.specs.declared.operators.TemporalUnary.{TemporalUnary}
use Rattle.core_tree.specs.declared.operators.TemporalUnary.TheVariants.{After, Always, Eventually, Before, Historically, Once}
use Rattle.core_tree.specs.declared.operators.TemporalBinary.{TemporalBinary}
use Rattle.core_tree.specs.declared.operators.TemporalBinary.TheVariants.{Until, Releases, Since, Triggered, Then}
use Rattle.core_tree.specs.declared.operators.RelationOp.TheVariants.{Union}
use Rattle.core_tree.specs.declared.operators.UnaryRelation.{UnaryRelation}
use Rattle.core_tree.specs.declared.operators.UnaryRelation.TheVariants.{Transpose, Closure, ReflexiveClosure}
use Rattle.core_tree.specs.Trees.{Term, Claim, iden, combine, unary, test, compare, negation, every, connect, temporal, temporal_pair, no_claims, more_claims}

-- the formula that always holds
abbrev pub truth : Claim
truth = every no_claims

-- both formulas
abbrev pub both : Claim → Claim → Claim
both f g = every (more_claims f (more_claims g no_claims))

-- not the first without the second
abbrev pub implied : Claim → Claim → Claim
implied f g = negation (both f (negation g))

abbrev pub tested : Quantity → Term → Claim
tested Some e = test Some e
tested No e = negation (test Some e)
tested One e = test One e
tested Lone e = test Lone e

abbrev pub compared : Comparison → Term → Term → Claim
compared Equal a b = compare Equal a b
compared Less a b = compare Less a b
compared AtMost a b = negation (compare Less b a)
compared Greater a b = compare Less b a
compared AtLeast a b = negation (compare Less a b)

abbrev pub connected : Connective → Claim → Claim → Claim
connected Or f g = implied (negation f) g
connected Implies f g = implied f g
connected Iff f g = connect Iff f g

-- not, at some position from here on, not; and not, at some position up to here, not
abbrev pub not_later_not : Claim → Claim
not_later_not f = negation (temporal_pair Until truth (negation f))

abbrev pub not_earlier_not : Claim → Claim
not_earlier_not f = negation (temporal_pair Since truth (negation f))

abbrev pub happening : TemporalUnary → Claim → Claim
happening After f = temporal After f
happening Always f = not_later_not f
happening Eventually f = temporal_pair Until truth f
happening Before f = temporal Before f
happening Historically f = not_earlier_not f
happening Once f = temporal_pair Since truth f

abbrev pub happening_both : TemporalBinary → Claim → Claim → Claim
happening_both Until f g = temporal_pair Until f g
happening_both Releases f g = negation (temporal_pair Until (negation f) (negation g))
happening_both Since f g = temporal_pair Since f g
happening_both Triggered f g = negation (temporal_pair Since (negation f) (negation g))
happening_both Then f g = both f (temporal After g)

abbrev pub related : UnaryRelation → Term → Term
related Transpose a = unary Transpose a
related Closure a = unary Closure a
related ReflexiveClosure a = combine Union (unary Closure a) iden
