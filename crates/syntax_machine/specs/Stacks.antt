-- Threads that share what lies below: each is an item on top of an earlier one, and has a number. The first one is empty.
use Rattle.std.specs.Prelude.{◌≡◌, ℕ, zero, suc, ◌<◌, ◌≤◌, List, [], ◌∷◌, ◌++◌, Option, Some, None, fold, map, length, All}
use Rattle.syntax_tree.specs.declared.token.TokenKind.{TokenKind}
use Rattle.syntax_machine.specs.declared.stacks.Node.{Node}
use Rattle.syntax_machine.specs.declared.stacks.Rest.{Rest}
use Rattle.syntax_machine.specs.Machine.{Thread}
use Rattle.syntax_machine.specs.Threads.{from_thread}

-- the one of this number; what isn't there is empty
abbrev pub stack_at : List Thread → ℕ → Thread
stack_at [] n = []
stack_at (t ∷ ts) zero = t
stack_at (t ∷ ts) (suc n) = stack_at ts n

abbrev pub grown : List Thread → Node → List Thread
grown stacks node = stacks ++ (node.item ∷ stack_at stacks node.below) ∷ []

abbrev pub stacks_of : List Node → List Thread
stacks_of nodes = fold grown ([] ∷ []) nodes

-- those of these numbers
abbrev pub threads_at : List Thread → List ℕ → List Thread
threads_at stacks tops = map (stack_at stacks) tops

abbrev pub AreWithin : List Thread → List ℕ → Type 0
AreWithin stacks tops = All (λ n. n < length stacks) tops

-- there may be more, and the old ones are as they were
pub record Keeps (old new : List Thread) : Type 0 where
  pub longer : length old ≤ length new
  pub same : (n : ℕ) → n < length old → stack_at new n ≡ stack_at old n

-- this thread has this number now
pub record Stands (old new : List Thread) (thread : Thread) (top : ℕ) : Type 0 where
  pub keeps : Keeps old new
  pub within : top < length new
  pub is : stack_at new top ≡ thread

-- behind the numbers before stand those of these threads
pub record Adds (old : List Thread) (before : List ℕ) (new : List Thread) (after : List ℕ) (added : List Thread) : Type 0 where
  pub keeps : Keeps old new
  pub within : AreWithin old before → AreWithin new after
  pub adds : AreWithin old before → threads_at new after ≡ threads_at old before ++ added

-- where a token leads from what is left of a thread
abbrev pub from_rest : TokenKind → List Thread → Rest → List Thread
from_rest token stacks rest = from_thread token rest.read (stack_at stacks rest.at)

-- some of these threads were added, and what the token leads to from the rest is to be added behind them
pub record AddsBefore (token : TokenKind) (old : List Thread) (before : List ℕ) (new : List Thread) (after : List ℕ) (added : List Thread) (rest : Rest) : Type 0 where
  pub keeps : Keeps old new
  pub all : (last : List Thread) (tops : List ℕ) → Adds new after last tops (from_rest token new rest) → Adds old before last tops added

-- these threads were added, or there is a rest, and what is behind it is still to be added
abbrev pub AddsWith : TokenKind → List Thread → List ℕ → List Thread → List ℕ → List Thread → Option Rest → Type 0
AddsWith token old before new after added None = Adds old before new after added
AddsWith token old before new after added (Some rest) = AddsBefore token old before new after added rest
