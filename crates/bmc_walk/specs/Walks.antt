-- A function value that walks along expressions and formulas.
use Rattle.std.specs.Prelude.{ℕ, Bool, Result, IfOk, OnOk}
use Rattle.std.specs.Borrow.{Bor}
use denote.Ref.{MutBor}
use Rattle.std.specs.declared.alloc.AllocError.{AllocError}
use Rattle.gate_trait.specs.declared.node.Node.{Node}
use Rattle.gate_trait.specs.Built.{Keeps, AllIn}
use Rattle.core_tree.specs.Trees.{term_of, claim_of}
use Rattle.bmc_stack.specs.declared.store.Store.{Store}
use Rattle.bmc_stack.specs.Stored.{AreStored}
use Rattle.bmc_walk.specs.declared.walk.Known.{Known}
use Rattle.bmc_walk.specs.declared.walk.Ground.{Ground}
use Rattle.bmc_walk.specs.declared.walk.Wanted.{Wanted}
use Rattle.bmc_walk.specs.declared.walk.Wanted.TheVariants.{Sets, Integers, Holds}
use Rattle.bmc_walk.specs.declared.walk.Answer.{Answer}
use Rattle.bmc_walk.specs.declared.walk.Answer.TheVariants.{Numbers, Row}
use Rattle.bmc_places.specs.Stores.{Extends, Stays}
use Rattle.bmc_walk.specs.Walked.{HasSets, HasNumbers, HasRow}

-- what is given is what is wanted; a formula adds no sets and integers
abbrev pub IsAnswer : {G : Type 0} → (G → Node → Type 0) → (G → (ℕ → Bool) → Node → Bool) → Ground → Known → G → G → Store → Store → Wanted → Answer → Type 0
IsAnswer belongs value ground known g h before after (Sets e) (Numbers v) = HasSets ground known (value g) (value h) before.matrices.items after.matrices.items (term_of e.now) v.items
IsAnswer belongs value ground known g h before after (Integers e) (Numbers v) = HasNumbers ground known (value g) (value h) before.matrices.items after.integers.items (term_of e.now) v.items
IsAnswer belongs value ground known g h before after (Holds f) (Row row) = Stays before after × AllIn (belongs h) row × HasRow ground known (value g) (value h) before.matrices.items (claim_of f.now) row
IsAnswer belongs value ground known g h before after wanted answer = ⊥

-- it may be called at this depth, and leaves what is wanted
pub record Walks {G : Type 0} (belongs : G → Node → Type 0) (value : G → (ℕ → Bool) → Node → Bool) (deep : ℕ)
    (pre : Bor Ground → MutBor G → MutBor Store → Wanted → Bor Known → ℕ → Type 0)
    (post : Bor Ground → MutBor G → MutBor Store → Wanted → Bor Known → ℕ → Result Answer AllocError → MutBor G → MutBor Store → Type 0) : Type 0 where
  pub callable : (ground : Bor Ground) (g : MutBor G) (s : MutBor Store) (wanted : Wanted) (known : Bor Known) → AreStored (belongs g.now) s.now → pre ground g s wanted known deep
  pub keeps : (ground : Bor Ground) (g h : MutBor G) (s t : MutBor Store) (wanted : Wanted) (known : Bor Known) (r : Result Answer AllocError) →
      post ground g s wanted known deep r h t → Keeps belongs value g.now h.now
  pub stored : (ground : Bor Ground) (g h : MutBor G) (s t : MutBor Store) (wanted : Wanted) (known : Bor Known) (r : Result Answer AllocError) →
      post ground g s wanted known deep r h t → OnOk r (AreStored (belongs h.now) t.now)
  pub extends : (ground : Bor Ground) (g h : MutBor G) (s t : MutBor Store) (wanted : Wanted) (known : Bor Known) (r : Result Answer AllocError) →
      post ground g s wanted known deep r h t → OnOk r (Extends s.now t.now)
  pub answers : (ground : Bor Ground) (g h : MutBor G) (s t : MutBor Store) (wanted : Wanted) (known : Bor Known) (r : Result Answer AllocError) →
      post ground g s wanted known deep r h t → IfOk r (λ a. IsAnswer belongs value ground.now known.now g.now h.now s.now t.now wanted a)
