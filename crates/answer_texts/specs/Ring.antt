-- The model of a ring that mode make makes, and the lines that say what was found on it.
use Rattle.std.specs.Prelude.{ℕ, ◌+◌, ◌*◌, List, [], ◌∷◌, ◌++◌, codes, decimal}
use Rattle.answer_texts.specs.declared.ring.TheConstants.{MODEL}

-- its command asks for a trace of twice as many states as nodes and one
abbrev pub elect_line : ℕ → List ℕ
elect_line nodes =
    codes "run elect for exactly " ++ (decimal nodes ++ (codes " Id, exactly " ++ (decimal nodes ++ (codes " Node, " ++ (decimal (2 * nodes + 1) ++ (codes " steps" ++ 10 ∷ []))))))

-- the text of the model of a ring of so many nodes
abbrev pub ring_text : ℕ → List ℕ
ring_text nodes = MODEL.now ++ elect_line nodes

-- a trace was found, of so many states, whose loop begins at this one
abbrev pub made_trace : ℕ → ℕ → ℕ → List ℕ
made_trace nodes states loop =
    codes "make " ++ (decimal nodes ++ (codes " trace states " ++ (decimal states ++ (codes " loop " ++ (decimal loop ++ 10 ∷ [])))))

-- there is none of at most so many states
abbrev pub made_none : ℕ → ℕ → List ℕ
made_none nodes states = codes "make " ++ (decimal nodes ++ (codes " none states " ++ (decimal states ++ 10 ∷ [])))

-- a budget left it open
abbrev pub made_unknown : ℕ → List ℕ
made_unknown nodes = codes "make " ++ (decimal nodes ++ (codes " unknown" ++ 10 ∷ []))
