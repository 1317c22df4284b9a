use Rattle.load_state.proofs.Faults.{near_is_tried, far_is_tried}
use Rattle.load_modules.proofs.walk.text_of_path.Goals as goal

pub ask-requires : goal.ask-requires
ask-requires g c =
    near_is_tried c.args.root.now c.as_str.result.now c.args.path.now c.as_str-2.result.now (cc (c.as_str.ensures.value, c.in_ok-folder.ensures))
    (cc (c.as_str-2.ensures.value, c.in_ok-near.ensures))

pub ask-requires-2 : goal.ask-requires-2
ask-requires-2 g c = far_is_tried c.args.root.now c.args.path.now c.as_str-3.result.now (cc (c.as_str-3.ensures.value, c.in_ok-far.ensures))
