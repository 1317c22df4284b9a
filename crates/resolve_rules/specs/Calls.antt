-- Calls that lie on a cycle.
use Rattle.std.specs.Prelude.{ℕ}

-- where `Calls a b` says that body a calls body b
module _ (Calls : ℕ → ℕ → Type 0) where
  -- calls lead from one body to another
  pub data LeadsTo : ℕ → ℕ → Type 0 where
    here : {b : ℕ} → LeadsTo b b
    further : {a b c : ℕ} → Calls a b → LeadsTo b c → LeadsTo a c

  -- S44: from the body that is called, calls lead back to the one in which the call stands
  abbrev pub IsOnCycle : ℕ → ℕ → Type 0
  IsOnCycle a b = Calls a b × LeadsTo b a
