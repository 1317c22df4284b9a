-- What the modes do with the model that they read.
use Rattle.std.specs.Prelude.{Bool, true, false}
use Rattle.cli_words.specs.declared.named.Mode.{Mode}
use Rattle.cli_words.specs.declared.named.Mode.TheVariants.{Exec, Replay, Eval, Least, Core}

-- the mode looks for traces of a model that it reads
abbrev pub looks : Mode → Bool
looks Exec = true
looks Least = true
looks Core = true
looks _ = false

-- the mode reads a trace of a model
abbrev pub reads_trace : Mode → Bool
reads_trace Replay = true
reads_trace Eval = true
reads_trace _ = false

-- the mode loads the modules of a model that it reads, and resolves it
abbrev pub analyses : Mode → Bool
analyses Exec = true
analyses Least = true
analyses Core = true
analyses Replay = true
analyses Eval = true
analyses _ = false
