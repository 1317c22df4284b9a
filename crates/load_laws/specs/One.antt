-- A text has at most one module.
use Rattle.std.specs.Prelude.{◌≡◌, ℕ, List}
use Rattle.syntax_tree.specs.declared.module.Module.{Module}
use Rattle.load_modules.specs.Reading.{IsModuleOf}

abbrev pub TextsHaveOneModule : Type 0
TextsHaveOneModule = (bytes : List ℕ) (number : ℕ) (m n : Module) →
    IsModuleOf bytes number m → IsModuleOf bytes number n → m ≡ n
