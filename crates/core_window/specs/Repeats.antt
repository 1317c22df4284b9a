-- What repeats: sets and truths one period of the loop later, and the finitely many positions that show all others.
use Rattle.std.specs.Prelude.{◌↔◌, ℕ, ◌+◌, ◌-◌, ◌*◌, ◌^◌, ◌%◌, ◌<◌, ◌≤◌, nat_lt, if◌then◌else◌, List, length}
use Rattle.core_tree.specs.Past.{Depths, BodyDepths}
use Rattle.core_meaning.specs.Sequence.{LassoValue, period}
use Rattle.core_meaning.specs.World.{World}
use Rattle.core_meaning.specs.Operators.{Tuples}
use Rattle.core_meaning.specs.Meaning.{Names, Bodies}

-- two sets have the same tuples
abbrev pub SameTuples : Tuples → Tuples → Type 0
SameTuples A B = (t : List ℕ) → A t ↔ B t

-- the greatest 32-bit number: past depths are counted up to it, and below it they are exact
abbrev pub uncounted : ℕ
uncounted = 2 ^ 32 - 1

-- position i is at least h rounds into the loop
abbrev pub IsFar : LassoValue → ℕ → ℕ → Type 0
IsFar lasso h i = lasso.loop_start + h * period lasso ≤ i

-- the loop has a state
abbrev pub HasLoop : LassoValue → Type 0
HasLoop lasso = lasso.loop_start < length lasso.states

-- where the truth of a formula of past depth h begins to repeat, and one round after that
abbrev pub repeats_from : LassoValue → ℕ → ℕ
repeats_from lasso h = lasso.loop_start + h * period lasso

abbrev pub window_end : LassoValue → ℕ → ℕ
window_end lasso h = repeats_from lasso h + period lasso

-- the place in the window with the same truth
abbrev pub fold_of : LassoValue → ℕ → ℕ → ℕ
fold_of lasso h i = if nat_lt i (window_end lasso h) then i else repeats_from lasso h + (i - repeats_from lasso h) % period lasso

module _ (w : World) (some : HasLoop w.lasso) where
  abbrev pub next : ℕ → ℕ
  next i = i + period w.lasso

  -- a set at each position repeats after n rounds
  abbrev pub RepeatsSet : ℕ → (ℕ → Tuples) → Type 0
  RepeatsSet n A = (h i : ℕ) → n ≤ h → h < uncounted → IsFar w.lasso h i → SameTuples (A i) (A (next i))

  -- each name repeats after as many rounds as it nests past operators
  abbrev pub RepeatNames : Names → Depths → Type 0
  RepeatNames names d = (x : ℕ) → RepeatsSet (d x) (names x)

  -- so do the called bodies, whatever their parameters stand for
  pub record RepeatBodies (bodies : Bodies) (depths : BodyDepths) : Type 1 where
    pub terms : (body : ℕ) (names : Names) (d : Depths) → RepeatNames names d → RepeatsSet (depths body d) (bodies.term body names)
    pub claims : (body : ℕ) (names : Names) (d : Depths) → RepeatNames names d → (h i : ℕ) → depths body d ≤ h → h < uncounted → IsFar w.lasso h i → bodies.claim body names i ↔ bodies.claim body names (next i)
