-- That a renaming keeps what targets are satisfied by.
use Rattle.std.specs.Prelude.{◌↔◌}
use Rattle.core_meaning.specs.declared.target.Target.{Target}
use Rattle.core_meaning.specs.Sequence.{LassoValue}
use Rattle.core_meaning.specs.Satisfied.{SatisfiesTarget}
use Rattle.core_renaming.specs.Renamings.{Renaming, KeepsIntegers, ShowsRenamed}

-- A lasso satisfies a target exactly where the renamed one does.
abbrev pub TargetsKeepTruth : Type 0
TargetsKeepTruth =
    (target : Target) (r : Renaming) (one two : LassoValue) → KeepsIntegers target.scopes r → ShowsRenamed target.scopes r one two →
    SatisfiesTarget target one ↔ SatisfiesTarget target two
