-- A death refuses: the law for each form of a text.
use Rattle.std.proofs.Common.{◌≡◌, ◌+◌, inl, ℕ, IfSome, take, [], ◌∷◌, ◌++◌, Option, Some, None, refl, subst, append-nil}
use Rattle.syntax_tree.specs.declared.operator.Multiplicity.{Multiplicity}
use Rattle.syntax_tree.specs.declared.operator.Multiplicity.TheVariants as multiplicity
use Rattle.syntax_tree.specs.Words.{Spelled, multiplicity_words}
use Rattle.syntax_tree.specs.Spelling.{spelling}
use Rattle.syntax_tree.specs.Levels.{shape, is_bound, is_right_block}
use Rattle.syntax_tree.specs.Depth.{depth_of}
use Rattle.syntax_machine.specs.declared.thread.Root.{Root}
use Rattle.syntax_machine.specs.declared.thread.Root.TheVariants as root
use Rattle.syntax_machine.specs.declared.thread.Piece.TheVariants as piece
use Rattle.syntax_machine.specs.declared.thread.Item.TheVariants.{Need, Part}
use Rattle.syntax_machine.specs.Machine.{Thread, when, bound, a_block, begin, is_mult}
use Rattle.syntax_machine.specs.Threads.{threads, IsFirstDeath}
use Rattle.syntax_machine.specs.Law.{is_within}
use Rattle.syntax_machine.specs.Deaths.{start_of, NoneBegins, DeathsRefuse}
use Rattle.syntax_machine.proofs.Lives.{Lives, in_back, threads_left, lives_along}
use Rattle.syntax_machine.proofs.Fits.{both_left, both_right, bound_fits}
use Rattle.syntax_machine.proofs.Law.{tree_follows, is_true, follow}
use Rattle.syntax_machine.proofs.Modules.{begins_part, follow_modules}

-- what lives along a whole text is left behind its first tokens
left_behind : (words tokens more : Spelled) (t : Thread) → words ≡ tokens ++ more → Lives words t → threads tokens (t ∷ []) ≡ [] → ⊥
left_behind words tokens more t is lives dead = threads_left tokens (t ∷ []) (inl (lives_along tokens more t (subst (λ v. Lives v t) is lives))) dead

bound_lives : (room : Option ℕ) (word : Option Multiplicity) (words : Spelled) → Lives words (Need (bound room) ∷ []) → Lives (multiplicity_words word ++ words) (Part (piece.Bound room) ∷ [])
bound_lives room None words p = begins_part (piece.Bound room) (bound room) [] (λ token tokens. in_back (λ t. Lives tokens (t ++ [])) (when (is_mult token) (Need (bound room) ∷ [])) (begin token (bound room))) words p
bound_lives room (Some multiplicity.Set) words p = inl p
bound_lives room (Some multiplicity.One) words p = inl p
bound_lives room (Some multiplicity.Lone) words p = inl p
bound_lives room (Some multiplicity.Some) words p = inl p

bound_refused : (room : Option ℕ) (tokens : Spelled) → threads tokens (start_of root.Bound room ∷ []) ≡ [] → NoneBegins root.Bound room tokens
bound_refused room tokens dead word tree more right within is =
    left_behind (multiplicity_words word ++ spelling tree) tokens more (start_of root.Bound room) is
    (bound_lives room word (spelling tree) (subst (λ v. Lives v (Need (bound room) ∷ [])) (append-nil (spelling tree))
    (tree_follows tree (bound room) [] [] (bound_fits room (shape tree) (depth_of tree) (is_true (is_bound tree) right) (is_true (is_within room (depth_of tree)) within)) (λ d le. tt)))) dead

block_refused : (room : Option ℕ) (tokens : Spelled) → threads tokens (start_of root.Block room ∷ []) ≡ [] → NoneBegins root.Block room tokens
block_refused room tokens dead tree more right within is =
    left_behind (spelling tree) tokens more (start_of root.Block room) is
    (subst (λ v. Lives v (Need (a_block room) ∷ [])) (append-nil (spelling tree)) (tree_follows tree (a_block room) [] []
    (record {
      right = both_left (shape tree).right (shape tree).is_block (is_true (is_right_block tree) right);
      tight = refl;
      forms = refl;
      bars = refl;
      words = refl;
      minus = refl;
      block = both_right (shape tree).right (shape tree).is_block (is_true (is_right_block tree) right);
      within = is_true (is_within room (depth_of tree)) within;
    })
    (λ d le. tt))) dead

pub deaths_refuse : DeathsRefuse
deaths_refuse root.Expr room tokens dead = λ tree more right within is. follow room tree tokens more right within is dead
deaths_refuse root.Bound room tokens dead = bound_refused room tokens dead
deaths_refuse root.Block room tokens dead = block_refused room tokens dead
deaths_refuse root.Module room tokens dead = λ depth m more covers right is. follow_modules room depth m tokens more covers right is dead

-- so does the first one of a text
pub first_refuses : (root : Root) (room : Option ℕ) (tokens : Spelled) (o : Option ℕ) → IsFirstDeath tokens (start_of root room) o → IfSome o (λ n. NoneBegins root room (take (n + 1) tokens))
first_refuses root room tokens None h = tt
first_refuses root room tokens (Some n) h =
    let both : (threads (take n tokens) (start_of root room ∷ []) ≡ [] → ⊥) × (threads (take (n + 1) tokens) (start_of root room ∷ []) ≡ []) = h in
    deaths_refuse root room (take (n + 1) tokens) both.1
