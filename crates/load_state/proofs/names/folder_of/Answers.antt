use Rattle.std.proofs.Common.{rules, Bor, List, ℕ, ◌++◌, string_bytes, append-nil, sym, ap, ◌∙◌}
use Rattle.load_state.proofs.Folders.{folder_behind, no_folder, parts_behind, folder_step, utf8_behind}
use Rattle.load_state.proofs.names.folder_of.Goals as goal

pub split_once-requires-text-self : goal.split_once-requires-text-self
split_once-requires-text-self c κs = c.loop-front.invariant.1

pub loop-front-preserved : goal.loop-front-preserved
loop-front-preserved c =
    let text = c.loop-front.rest.now in
    let found : Bor (List ℕ) × Bor (List ℕ) = (c.in-Some.front, c.in-Some.back) in (
      folder_step c.args.name.now (string_bytes c.loop-front.folder) (string_bytes c.push_str.new.self) (string_bytes c.push.new.self) c.in-Some.front.now c.in-Some.back.now text
          c.loop-front.invariant.0 (folder_behind text c.split_once.result c.split_once.ensures.cases found (search rules)) (search rules) (search rules),
      utf8_behind text c.in-Some.front.now c.in-Some.back.now c.loop-front.invariant.1
          (parts_behind text c.split_once.result c.split_once.ensures.cases found (search rules)),
    )

pub returns : goal.returns
returns c =
    sym (c.loop-front.invariant.0
    ∙ (ap (λ (z : List ℕ). string_bytes c.loop-front.folder ++ z) (no_folder c.loop-front.rest.now c.split_once.result c.split_once.ensures.cases (search rules))
    ∙ append-nil (string_bytes c.loop-front.folder)))
