use Rattle.resolve_places.proofs.texts.push_instance.Goals as goal

pub returns : goal.returns
returns c = rw (c.get-text.ensures, ← c.as_slice.ensures) c.push_declared.ensures
