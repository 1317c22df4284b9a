-- A thread lives along tokens where some thread is left behind them.
use Rattle.std.proofs.Common.{◌≡◌, ◌⊎◌, inl, inr, ℕ, Bool, true, false, if◌then◌else◌, List, [], ◌∷◌, ◌++◌, Some, None, sym, subst, append_assoc}
use Rattle.syntax_tree.specs.declared.token.TokenKind.{TokenKind}
use Rattle.syntax_tree.specs.Words.{Spelled}
use Rattle.syntax_machine.specs.declared.thread.Goal.{Goal}
use Rattle.syntax_machine.specs.declared.thread.Mark.{Mark}
use Rattle.syntax_machine.specs.declared.thread.Frame.{Frame}
use Rattle.syntax_machine.specs.declared.thread.Item.TheVariants.{Need, Have, Then}
use Rattle.syntax_machine.specs.Machine.{Thread, when, each, begin, begin_block, begin_any, extend, shift, completed}
use Rattle.syntax_machine.specs.Threads.{from_thread, from_each, threads}

-- one of the threads has this
abbrev pub SomeOf : (Thread → Type 0) → List Thread → Type 0
SomeOf P [] = ⊥
SomeOf P (t ∷ ts) = P t ⊎ SomeOf P ts

-- some thread is left behind the tokens
abbrev pub Lives : Spelled → Thread → Type 0
Lives [] t = Unit {0}
Lives (token ∷ tokens) t = SomeOf (Lives tokens) (from_thread token None t)

module _ (P : Thread → Type 0) where
  pub in_front : (xs ys : List Thread) → SomeOf P xs → SomeOf P (xs ++ ys)
  in_front [] ys h = absurd h
  in_front (x ∷ xs) ys (inl p) = inl p
  in_front (x ∷ xs) ys (inr h) = inr (in_front xs ys h)

  pub in_back : (xs ys : List Thread) → SomeOf P ys → SomeOf P (xs ++ ys)
  in_back [] ys h = h
  in_back (x ∷ xs) ys h = inr (in_back xs ys h)

  pub by_guard : (guard : Bool) (t : Thread) → guard ≡ true → P t → SomeOf P (when guard t)
  by_guard guard t holds p = subst (λ b. SomeOf P (when b t)) (sym holds) (inl p)

  pub on_each : (k : Thread) (ts : List Thread) → SomeOf (λ t. P (t ++ k)) ts → SomeOf P (each ts k)
  on_each k [] h = h
  on_each k (t ∷ ts) (inl p) = inl p
  on_each k (t ∷ ts) (inr h) = inr (on_each k ts h)

  pub of_each : (k : Thread) (ts : List Thread) → SomeOf P (each ts k) → SomeOf (λ t. P (t ++ k)) ts
  of_each k [] h = h
  of_each k (t ∷ ts) (inl p) = inl p
  of_each k (t ∷ ts) (inr h) = inr (of_each k ts h)

-- what may stand on top of a thread may stand there with something between
pub on_between : (P : Thread → Type 0) (r k : Thread) (ts : List Thread) → SomeOf P (each ts (r ++ k)) → SomeOf (λ t. P (t ++ k)) (each ts r)
on_between P r k [] h = h
on_between P r k (t ∷ ts) (inl p) = inl (subst P (sym (append_assoc t r k)) p)
on_between P r k (t ∷ ts) (inr h) = inr (on_between P r k ts h)

-- an expression begins
pub begins : (token : TokenKind) (tokens : Spelled) (g : Goal) (k : Thread) → g.is_block ≡ false → SomeOf (λ t. Lives tokens (t ++ k)) (begin_any token g) → Lives (token ∷ tokens) (Need g ∷ k)
begins token tokens g k other h = on_each (Lives tokens) k (begin token g)
    (subst (λ (b : Bool). SomeOf (λ t. Lives tokens (t ++ k)) (if b then begin_block token g else begin_any token g)) (sym other) h)

-- an expression goes on
pub goes_on_with : (token : TokenKind) (tokens : Spelled) (g : Goal) (m : Mark) (d : ℕ) (k : Thread) → SomeOf (λ t. Lives tokens (t ++ k)) (extend token g m d) → Lives (token ∷ tokens) (Have g m d ∷ k)
goes_on_with token tokens g m d k h = in_front (Lives tokens) (each (extend token g m d) k) (from_thread token (Some (m, d)) k) (on_each (Lives tokens) k (extend token g m d) h)

-- a token of the frame follows an expression
pub shifts : (token : TokenKind) (tokens : Spelled) (g : Goal) (m : Mark) (d : ℕ) (f : Frame) (k : Thread) → SomeOf (λ t. Lives tokens (t ++ k)) (shift token f m d) → Lives (token ∷ tokens) (Have g m d ∷ Then f ∷ k)
shifts token tokens g m d f k h = in_back (Lives tokens) (each (extend token g m d) (Then f ∷ k)) (from_thread token (Some (m, d)) (Then f ∷ k))
    (in_front (Lives tokens) (each (shift token f m d) k) _ (on_each (Lives tokens) k (shift token f m d) h))

-- an expression that is the last part of another one
pub returns : (tokens : Spelled) (g h : Goal) (m n : Mark) (d e : ℕ) (f : Frame) (k : Thread) → completed f m d ≡ Some (h, n, e) → Lives tokens (Have h n e ∷ k) → Lives tokens (Have g m d ∷ Then f ∷ k)
returns [] g h m n d e f k is lives = tt
returns (token ∷ tokens) g h m n d e f k is lives = in_back (Lives tokens) (each (extend token g m d) (Then f ∷ k)) (from_thread token (Some (m, d)) (Then f ∷ k))
    (in_back (Lives tokens) (each (shift token f m d) k) _ (rw is lives))

-- a thread that lives is left
pub threads_left : (tokens : Spelled) (ts : List Thread) → SomeOf (Lives tokens) ts → threads tokens ts ≡ [] → ⊥
threads_left [] [] h is = absurd h
threads_left [] (t ∷ ts) h is = cc
threads_left (token ∷ tokens) ts h is = threads_left tokens (from_each token ts) (after ts h) is
  where
    after : (us : List Thread) → SomeOf (Lives (token ∷ tokens)) us → SomeOf (Lives tokens) (from_each token us)
    after [] h = absurd h
    after (u ∷ us) (inl p) = in_front (Lives tokens) (from_thread token None u) (from_each token us) p
    after (u ∷ us) (inr h) = in_back (Lives tokens) (from_thread token None u) (from_each token us) (after us h)

along : (P Q : Thread → Type 0) → ((t : Thread) → P t → Q t) → (ts : List Thread) → SomeOf P ts → SomeOf Q ts
along P Q f [] h = absurd h
along P Q f (t ∷ ts) (inl p) = inl (f t p)
along P Q f (t ∷ ts) (inr h) = inr (along P Q f ts h)

-- what lives along some tokens lives along the first of them
pub lives_along : (tokens more : Spelled) (t : Thread) → Lives (tokens ++ more) t → Lives tokens t
lives_along [] more t h = tt
lives_along (token ∷ tokens) more t h = along (Lives (tokens ++ more)) (Lives tokens) (λ u p. lives_along tokens more u p) (from_thread token None t) h
