-- Of what the entries of a scope so far say a number, as marks.
use Rattle.std.specs.Prelude.{◌≡◌, ℕ, ◌<◌, nat_lt, Bool, true, false, ◌||◌, if◌then◌else◌, List, length, get_or, set}
use Rattle.core_tree.specs.declared.model.ScopeEntry.{ScopeEntry}
use Rattle.core_tree.specs.declared.model.ScopeSubject.{ScopeSubject}
use Rattle.core_tree.specs.declared.model.ScopeSubject.TheVariants as subject
use Rattle.bound_definitions.specs.Numbers.{is_int, is_steps}
use Rattle.bound_definitions.specs.Rules.{is_repeated}
use Rattle.bound_scopes.specs.declared.entries.Single.{Single}

abbrev pub is_marked : List Bool → Single → ScopeSubject → Bool
is_marked marks single (subject.Sig s) = get_or marks s false
is_marked marks single subject.Int = single.bits
is_marked marks single subject.Steps = single.steps
is_marked marks single subject.Overall = false
is_marked marks single subject.Unknown = false

abbrev pub marked_at : List Bool → ℕ → List Bool
marked_at marks s = if nat_lt s (length marks) then set marks s true else marks

abbrev pub marked_by : List Bool → ScopeSubject → List Bool
marked_by marks (subject.Sig s) = marked_at marks s
marked_by marks subject.Int = marks
marked_by marks subject.Steps = marks
marked_by marks subject.Overall = marks
marked_by marks subject.Unknown = marks

abbrev pub with_single : Single → ScopeSubject → Single
with_single single what = record { bits = is_int what || single.bits; steps = is_steps what || single.steps }

-- the marks are those of the entries so far, for so many sigs
pub record AreMarked (many : ℕ) (before : List ScopeEntry) (marks : List Bool) (single : Single) : Type 0 where
  pub count : length marks ≡ many
  pub sigs : (s : ℕ) → s < many → get_or marks s false ≡ is_repeated before (subject.Sig s)
  pub bits : single.bits ≡ is_repeated before subject.Int
  pub steps : single.steps ≡ is_repeated before subject.Steps
