-- The threads that are left behind tokens.
use Rattle.std.specs.Prelude.{◌≡◌, ℕ, ◌+◌, List, [], ◌∷◌, ◌++◌, Option, Some, None, take}
use Rattle.syntax_tree.specs.declared.token.TokenKind.{TokenKind}
use Rattle.syntax_tree.specs.Words.{Spelled}
use Rattle.syntax_machine.specs.declared.thread.Mark.{Mark}
use Rattle.syntax_machine.specs.declared.thread.Item.TheVariants.{Token, Need, Want, Have, Then, Part, May}
use Rattle.syntax_machine.specs.Machine.{Thread, when, each, matches, begin, extend, wanted, shift, completed, longer}
use Rattle.syntax_machine.specs.Modules.{parts, options}

-- where a token leads from a thread, behind the expression that was read, where there is one
abbrev pub from_thread : TokenKind → Option (Mark × ℕ) → Thread → List Thread
from_thread token read [] = []
from_thread token read (Token e ∷ k) = when (matches e token) k
from_thread token read (Need g ∷ k) = each (begin token g) k
from_thread token read (Want q ∷ k) = each (wanted token q) k
from_thread token read (Have g m depth ∷ k) = each (extend token g m depth) k ++ from_thread token (Some (m, depth)) k
from_thread token None (Then f ∷ k) = []
from_thread token (Some (m, depth)) (Then f ∷ k) = each (shift token f m depth) k ++ longer token (λ n d. from_thread token (Some (n, d)) k) k (completed f m depth)
from_thread token read (Part q ∷ k) = each (parts token q) k
from_thread token read (May q ∷ k) = each (options token q) k ++ from_thread token None k

abbrev pub from_each : TokenKind → List Thread → List Thread
from_each token [] = []
from_each token (t ∷ ts) = from_thread token None t ++ from_each token ts

-- the threads that are left behind these tokens
abbrev pub threads : Spelled → List Thread → List Thread
threads [] ts = ts
threads (token ∷ tokens) ts = threads tokens (from_each token ts)

-- the place of the first token behind which no thread is left of this one, where there is one
abbrev pub IsFirstDeath : Spelled → Thread → Option ℕ → Type 0
IsFirstDeath tokens start None = threads tokens (start ∷ []) ≡ [] → ⊥
IsFirstDeath tokens start (Some place) = (threads (take place tokens) (start ∷ []) ≡ [] → ⊥) × (threads (take (place + 1) tokens) (start ∷ []) ≡ [])
