-- The names of the modes and of the parts, and what a mode takes.
use Rattle.std.specs.Prelude.{ℕ, Bool, true, false, cond, List, Option, Some, None, bytes_eq, codes}
use Rattle.cli_words.specs.declared.named.Mode.{Mode}
use Rattle.cli_words.specs.declared.named.Mode.TheVariants.{Exec, Commands, Lrat, Make, Replay, Eval, Least, Core}
use Rattle.cli_words.specs.declared.named.Part.{Part}
use Rattle.cli_words.specs.declared.named.Part.TheVariants.{Answer, Cnf, Proof, All}

-- the value of this name, or what another table gives
abbrev pub named : {T : Type 0} → List ℕ → List ℕ → T → Option T → Option T
named name text value other = cond (bytes_eq text name) (Some value) other

abbrev pub later_mode_named : List ℕ → Option Mode
later_mode_named text = named (codes "replay") text Replay (named (codes "eval") text Eval (named (codes "least") text Least (named (codes "core") text Core None)))

abbrev pub mode_named : List ℕ → Option Mode
mode_named text = named (codes "exec") text Exec (named (codes "commands") text Commands (named (codes "lrat") text Lrat (named (codes "make") text Make (later_mode_named text))))

abbrev pub part_named : List ℕ → Option Part
part_named text = named (codes "answer") text Answer (named (codes "cnf") text Cnf (named (codes "proof") text Proof (named (codes "all") text All None)))

-- the mode takes a second file
abbrev pub takes_second : Mode → Bool
takes_second Exec = false
takes_second Commands = false
takes_second Lrat = true
takes_second Make = false
takes_second Replay = true
takes_second Eval = true
takes_second Least = false
takes_second Core = false

-- the mode searches, and so needs a chooser
abbrev pub searches : Mode → Bool
searches Exec = true
searches Commands = false
searches Lrat = false
searches Make = true
searches Replay = false
searches Eval = false
searches Least = true
searches Core = true
