-- The folder of a file's name, slash by slash.
use Rattle.std.proofs.Common.{◌≡◌, ℕ, suc, ◌+◌, ◌<◌, List, [], ◌∷◌, ◌++◌, Bool, true, false, cond, not, ◌||◌, length, length-append, get_or, take, drop, IsUtf8, append_assoc, refl, ap, subst, sym, ◌∙◌, arith, ◌-◌, Option, Some, None, Bor, length-drop}
use Rattle.std.specs.Prelude.{◌==◌}
use Rattle.std.specs.List.{list_any, prefix_len, position_or_len, before_first, after_first}
use Rattle.std.proofs.lemmas.Bool.{eqb-true}
use Rattle.std.proofs.lemmas.Str.{IsUtf8-drop, IsCharBoundary-after_ascii}
use Rattle.std.proofs.lemmas.Str.Pattern.{IsSplitOnceResult, split_once_first, split_parts}
use Rattle.load_state.specs.Names.{folder_of}

abbrev is_slash : ℕ → Bool
is_slash b = b == 47

no_slash : (name : List ℕ) → position_or_len (λ b. b == 47) name ≡ length name → list_any (λ b. b == 47) name ≡ false
no_slash [] end = refl
no_slash (b ∷ bs) end =
    elim (b == 47) as (λ t. cond (not t) (1 + prefix_len (λ x. not (x == 47)) bs) 0 ≡ suc (length bs) → (t || list_any (λ x. x == 47) bs) ≡ false) [
      | true ↦ λ e. (cc)
      | false ↦ λ e. no_slash bs (omega arith)
    ] end

some_slash : (name : List ℕ) → position_or_len (λ b. b == 47) name < length name → list_any (λ b. b == 47) name ≡ true
some_slash [] end = absurd (omega (arith, end))
some_slash (b ∷ bs) end =
    elim (b == 47) as (λ t. cond (not t) (1 + prefix_len (λ x. not (x == 47)) bs) 0 < suc (length bs) → (t || list_any (λ x. x == 47) bs) ≡ true) [
      | true ↦ λ e. refl
      | false ↦ λ e. some_slash bs (omega arith)
    ] end

-- a name without a slash has no folder
pub folder_of_none : (name : List ℕ) → position_or_len (λ b. b == 47) name ≡ length name → folder_of name ≡ []
folder_of_none [] end = refl
folder_of_none (b ∷ bs) end = let none = no_slash (b ∷ bs) end in rw none refl

step_at : (b : ℕ) (bs : List ℕ) → b ≡ 47 → b ∷ folder_of bs ≡ take 0 (b ∷ bs) ++ 47 ∷ folder_of (drop (0 + 1) (b ∷ bs))
step_at b bs same = ap (λ x. x ∷ folder_of bs) same

step_past : (b : ℕ) (bs : List ℕ) (n : ℕ) → folder_of bs ≡ take n bs ++ 47 ∷ folder_of (drop (n + 1) bs) → b ∷ folder_of bs ≡ take (1 + n) (b ∷ bs) ++ 47 ∷ folder_of (drop (1 + n + 1) (b ∷ bs))
step_past b bs n rest =
    let one : 1 + n ≡ suc n = omega arith in
    let two : 1 + n + 1 ≡ suc (n + 1) = omega arith in
    ap (λ x. b ∷ x) rest
    ∙ (ap (λ k. take k (b ∷ bs) ++ 47 ∷ folder_of (drop (n + 1) bs)) (sym one)
    ∙ ap (λ k. take (1 + n) (b ∷ bs) ++ 47 ∷ folder_of (drop k (b ∷ bs))) (sym two))

-- the folder of a name goes on after its first slash
pub folder_of_some : (name : List ℕ) → position_or_len (λ b. b == 47) name < length name → folder_of name ≡ before_first (λ b. b == 47) name ++ 47 ∷ folder_of (after_first (λ b. b == 47) name)
folder_of_some [] end = absurd (omega arith)
folder_of_some (b ∷ bs) end =
    let some = some_slash (b ∷ bs) end in
    let n : ℕ = prefix_len (λ x. not (x == 47)) bs in
    rw some (elim (b == 47) as (λ t. (b == 47) ≡ t → cond (not t) (1 + n) 0 < suc (length bs) → b ∷ folder_of bs ≡ take (cond (not t) (1 + n) 0) (b ∷ bs) ++ 47 ∷ folder_of (drop (cond (not t) (1 + n) 0 + 1) (b ∷ bs))) [
      | true ↦ λ e l. step_at b bs (eqb-true b 47 e)
      | false ↦ λ e l. step_past b bs n (folder_of_some bs (omega arith))
    ] refl end)

-- what `split_once` says of the folder: it goes on behind the slash, or there is none
module _ (text : List ℕ) (r : Option (Bor (List ℕ) × Bor (List ℕ))) (split : IsSplitOnceResult 47 text r) where
  pub folder_behind : (x : Bor (List ℕ) × Bor (List ℕ)) → r ≡ Some x → folder_of text ≡ x.0.now ++ 47 ∷ folder_of x.1.now
  folder_behind x is =
      let (inside, front, back) = rw is at (split_once_first 47 text r split (omega arith)) in
      rw (front, back) (folder_of_some text inside)

  pub shorter_behind : (x : Bor (List ℕ) × Bor (List ℕ)) → r ≡ Some x → length x.1.now < length text
  shorter_behind x is =
      let (inside, front, back) = rw is at (split_once_first 47 text r split (omega arith)) in
      let short : length (after_first (λ b. b == 47) text) ≡ length text - (position_or_len (λ b. b == 47) text + 1) = length-drop (position_or_len (λ b. b == 47) text + 1) text in
      rw back (rw short (omega arith))

  pub no_folder : r ≡ None → folder_of text ≡ []
  no_folder is = folder_of_none text (rw is at (split_once_first 47 text r split (omega arith)))

  pub parts_behind : (x : Bor (List ℕ) × Bor (List ℕ)) → r ≡ Some x → text ≡ x.0.now ++ 47 ∷ x.1.now
  parts_behind x is = let parts = rw is at (split_parts 47 text r split (omega arith)) in parts.0

-- the folder so far grows by what stands before a slash, and the slash
pub folder_step : (name folder mid now front back rest : List ℕ) → folder_of name ≡ folder ++ folder_of rest → folder_of rest ≡ front ++ 47 ∷ folder_of back →
    mid ≡ folder ++ front → now ≡ mid ++ 47 ∷ [] → folder_of name ≡ now ++ folder_of back
folder_step name folder mid now front back rest was behind fronted slashed =
    was ∙ (ap (λ z. folder ++ z) behind ∙ (sym (append_assoc folder front (47 ∷ folder_of back))
    ∙ (ap (λ z. z ++ 47 ∷ folder_of back) (sym fronted) ∙ (sym (append_assoc mid (47 ∷ []) (folder_of back)) ∙ ap (λ z. z ++ folder_of back) (sym slashed)))))

at_seam : (front : List ℕ) (c : ℕ) (back : List ℕ) → get_or (front ++ c ∷ back) (length front) 0 ≡ c
at_seam [] c back = refl
at_seam (x ∷ front) c back = at_seam front c back

drop_seam : (front : List ℕ) (c : ℕ) (back : List ℕ) → drop (length front + 1) (front ++ c ∷ back) ≡ back
drop_seam [] c back = refl
drop_seam (x ∷ front) c back =
    let more : suc (length front) + 1 ≡ suc (length front + 1) = omega arith in
    ap (λ k. drop k (x ∷ (front ++ c ∷ back))) more ∙ drop_seam front c back

-- what stands behind a slash of a text is a text
pub utf8_behind : (text front back : List ℕ) → IsUtf8 text → text ≡ front ++ 47 ∷ back → IsUtf8 back
utf8_behind text front back utf8 parts =
    let P : List ℕ → Type 0 = λ bytes. IsUtf8 bytes in
    let whole : IsUtf8 (front ++ 47 ∷ back) = subst P parts utf8 in
    let inside : length front < length (front ++ 47 ∷ back) = omega (arith, length-append front (47 ∷ back)) in
    let ascii : get_or (front ++ 47 ∷ back) (length front) 0 < 128 = omega (arith, at_seam front 47 back) in
    subst P (drop_seam front 47 back)
    (IsUtf8-drop (front ++ 47 ∷ back) (length front + 1) whole (IsCharBoundary-after_ascii (front ++ 47 ∷ back) (length front) whole inside ascii))
