-- A loading as it stands.
use Rattle.std.specs.Prelude.{ℕ, Option}
use Rattle.syntax_tree.specs.declared.instance.Text.{Text}
use Rattle.load_state.specs.declared.loading.Loading.{Loading}
use Rattle.load_state.specs.Keys.{texts_of, text_at}

-- the text of the instance of this number
abbrev pub instance_text : Loading → ℕ → Option Text
instance_text loading instance = text_at loading.keys.items (texts_of loading.sources.items) instance
