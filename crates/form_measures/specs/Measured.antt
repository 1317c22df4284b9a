-- What is counted on the way to the leaves of a tree, whether past operators or all parts, and counts up to the
-- greatest 32-bit number.
use Rattle.std.specs.Prelude.{ℕ, zero, suc, ◌+◌, ◌-◌, ◌^◌, min, max, eqb, if◌then◌else◌, List}
use Rattle.core_tree.specs.declared.operators.TemporalUnary.{TemporalUnary}
use Rattle.core_tree.specs.declared.operators.TemporalUnary.TheVariants.{After, Always, Eventually, Before, Historically, Once}
use Rattle.core_tree.specs.declared.operators.TemporalBinary.{TemporalBinary}
use Rattle.core_tree.specs.declared.operators.TemporalBinary.TheVariants.{Until, Releases, Since, Triggered, Then}
use Rattle.core_tree.specs.declared.model.Body.{Body}
use Rattle.core_tree.specs.declared.model.BodyForm.{BodyForm}
use Rattle.core_tree.specs.Trees.{Term, Terms, Variables, Claim, Claims, no_variables, more_variables}
use Rattle.core_tree.specs.Past.{Depths, BodyDepths, with_depth, past_in, past_of, past_of_each, past_of_arguments, past_of_form, called_depths}
use Rattle.bound_definitions.specs.Depth.{depth_in, depth_of, depth_of_each, depth_of_arguments, depth_of_form, depths_within}
use Rattle.form_measures.specs.declared.forms.Measure.{Measure}
use Rattle.form_measures.specs.declared.forms.Measure.TheVariants.{Past, Depth}

-- a count, up to the greatest
abbrev pub up_to : ℕ → ℕ
up_to n = min n (2 ^ 32 - 1)

-- so many more
abbrev pub raised : ℕ → ℕ → ℕ
raised by n = up_to (by + n)

-- a part that is no past operator, over what its parts measure
abbrev pub over_parts : Measure → ℕ → ℕ
over_parts Past n = n
over_parts Depth n = raised 1 n

-- an operator of a level over a first operand, of its own level, and the others; a row of one level is one part
abbrev pub over_row : Measure → (level own first others : ℕ) → ℕ
over_row Past level own first others = max first others
over_row Depth zero own first others = raised 1 (max first others)
over_row Depth (suc level) own first others = max (if eqb own (suc level) then first else raised 1 first) (raised 1 others)

abbrev pub over_unary : Measure → TemporalUnary → ℕ → ℕ
over_unary Depth op n = raised 1 n
over_unary Past After n = n
over_unary Past Always n = n
over_unary Past Eventually n = n
over_unary Past Before n = raised 1 n
over_unary Past Historically n = raised 1 n
over_unary Past Once n = raised 1 n

abbrev pub past_binary : TemporalBinary → ℕ → ℕ
past_binary Until n = n
past_binary Releases n = n
past_binary Since n = raised 1 n
past_binary Triggered n = raised 1 n
past_binary Then n = n

abbrev pub over_binary : Measure → TemporalBinary → (level own first others : ℕ) → ℕ
over_binary Past op level own first others = past_binary op (max first others)
over_binary Depth op level own first others = over_row Depth level own first others

-- a value counts as a part where every part counts
abbrev pub over_let : Measure → (value inner : ℕ) → ℕ
over_let Past value inner = inner
over_let Depth value inner = raised 1 (max value inner)

-- what trees measure
abbrev pub measured_in : Measure → BodyDepths → Term → Depths → ℕ
measured_in Past bodies e d = past_in bodies e d
measured_in Depth bodies e d = depth_in bodies e d

abbrev pub measured_of : Measure → BodyDepths → Claim → Depths → ℕ
measured_of Past bodies f d = past_of bodies f d
measured_of Depth bodies f d = depth_of bodies f d

abbrev pub measured_each : Measure → BodyDepths → Claims → Depths → ℕ
measured_each Past bodies fs d = past_of_each bodies fs d
measured_each Depth bodies fs d = depth_of_each bodies fs d

abbrev pub measured_arguments : Measure → BodyDepths → Terms → Depths → Depths
measured_arguments Past bodies es d = past_of_arguments bodies es d
measured_arguments Depth bodies es d = depth_of_arguments bodies es d

abbrev pub measured_form : Measure → BodyDepths → BodyForm → Depths → ℕ
measured_form Past bodies form d = past_of_form bodies form d
measured_form Depth bodies form d = depth_of_form bodies form d

-- what the bodies measure where calls nest at most this deep
abbrev pub measured_within : Measure → List Body → ℕ → BodyDepths
measured_within Past list n = called_depths list n
measured_within Depth list n = depths_within list n

-- the bounds of variables, each of which sees those before it, and the names that all of them leave
abbrev pub measured_bounds : Measure → BodyDepths → Variables → Depths → ℕ
measured_bounds m bodies no_variables d = 0
measured_bounds m bodies (more_variables x apart e rest) d = max (measured_in m bodies e d) (measured_bounds m bodies rest (with_depth d x 0))

abbrev pub under : Variables → Depths → Depths
under no_variables d = d
under (more_variables x apart e rest) d = under rest (with_depth d x 0)
