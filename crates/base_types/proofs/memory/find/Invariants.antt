use Rattle.std.proofs.Common.{◌≡◌, drop}
use Rattle.base_types.specs.Memory.{texts_of}
use Rattle.base_types.specs.Texts.{text_in}
use Rattle.base_types.proofs.memory.find.Given as goal

abbrev pub invariant-loop-file : goal.invariant-loop-file
invariant-loop-file l = text_in (texts_of l.files) l.name ≡ text_in (texts_of (drop l.file-index l.files)) l.name
