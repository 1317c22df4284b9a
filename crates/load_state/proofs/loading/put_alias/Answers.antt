use Rattle.std.proofs.Common.{List, ℕ, Some, string_bytes, ◌∙◌, ap}
use Rattle.std.specs.HashMap.{get_by_text}
use Rattle.std.specs.Map.{update}
use Rattle.std.specs.Str.{bytes_eq}
use Rattle.std.proofs.lemmas.Map.Text.{hash_map_updates_text}
use Rattle.load_state.proofs.loading.put_alias.Goals as goal

pub returns : goal.returns
returns c = λ other.
    hash_map_updates_text (string_bytes c.in_ok-key.key) c.args.aliases.now c.insert.new.self (Some c.args.reach) c.in_ok-insert.ensures.updates other
    ∙ ap (λ (t : List ℕ). update bytes_eq (get_by_text c.args.aliases.now) t (Some c.args.reach) other) c.in_ok-key.ensures.ok
