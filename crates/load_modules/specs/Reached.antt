-- Which instances a model has: that of the root, and those to which opens lead from it. Each
-- instance has its opens, those that are written, those that enums imply, and that of the integers.
use Rattle.std.specs.Prelude.{◌≡◌, ℕ, ◌<◌, Bool, true, List, [], Contains, length, slice_get, Some}
use Rattle.syntax_tree.specs.declared.instance.Instance.{Instance}
use Rattle.syntax_tree.specs.declared.instance.Opened.{Opened}

-- an instance has the text of this number, and no arguments
pub record IsPlain (number : ℕ) (instance : Instance) : Type 0 where
  pub text : instance.text ≡ number
  pub none : instance.arguments ≡ []

module _ (instances : List Instance) where
  -- the instance of this number has this open
  pub record HasOpen (number : ℕ) (opened : Opened) : Type 0 where
    pub instance : Instance
    pub numbered : slice_get instances number ≡ Some instance
    pub has : Contains instance.opens opened

  -- opens lead from the first instance to the one of this number
  pub data IsReached : ℕ → Type 0 where
    first : IsReached 0
    opened : (n : ℕ) (o : Opened) → IsReached n → HasOpen n o → IsReached o.instance

  -- the first instance is that of the first text, and there is none but those to which opens lead from it
  pub record AreReached : Type 0 where
    pub root : Instance
    pub begins : slice_get instances 0 ≡ Some root
    pub plain : IsPlain 0 root
    pub all : (n : ℕ) → n < length instances → IsReached n

  -- of the marks of the instances only those are set to which opens lead
  pub record AreMarked (marks : List Bool) : Type 0 where
    pub every : length marks ≡ length instances
    pub sound : (n : ℕ) → slice_get marks n ≡ Some true → IsReached n
