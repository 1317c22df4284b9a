-- Where tokens lead: what a walk along the threads and the tokens adds up to.
use Rattle.std.proofs.Common.{◌≡◌, ◌↔◌, ◌<◌, ◌≤◌, ◌+◌, ℕ, Bool, true, false, IsTrue, List, [], ◌∷◌, ◌++◌, Option, Some, None, IfSome, length, take, get_or, slice_get, refl, sym, subst, ap, ◌∙◌, arith, append_assoc, append-nil, take_all}
use Rattle.std.proofs.lemmas.List.{map-append, take_more, take-map}
use Rattle.std.proofs.lemmas.Option.{slice_get_within, get_or_from_slice_get}
use Rattle.std.proofs.lemmas.List.Elements.{All-nil, All-get_or}
use Rattle.syntax_tree.specs.declared.token.TokenKind.{TokenKind}
use Rattle.syntax_tree.specs.declared.token.Token.{Token}
use Rattle.syntax_tree.specs.Words.{Spelled}
use Rattle.syntax_tree.specs.Spelling.{kinds}
use Rattle.syntax_machine.specs.declared.stacks.Rest.{Rest}
use Rattle.syntax_machine.specs.declared.thread.Goal.{Goal}
use Rattle.syntax_machine.specs.declared.thread.Mark.{Mark}
use Rattle.syntax_machine.specs.declared.thread.Frame.{Frame}
use Rattle.syntax_machine.specs.declared.thread.Expected.{Expected}
use Rattle.syntax_machine.specs.declared.thread.Item.{Item}
use Rattle.syntax_machine.specs.declared.thread.Item.TheVariants as variant
use Rattle.syntax_machine.specs.declared.thread.Item.TheVariants.{Then}
use Rattle.syntax_machine.specs.Machine.{Thread, when, matches, each, extend, shift, completed, longer}
use Rattle.syntax_machine.specs.Threads.{from_thread, from_each, threads, IsFirstDeath}
use Rattle.syntax_machine.specs.Stacks.{stack_at, threads_at, AreWithin, Keeps, Adds, AddsBefore, AddsWith, from_rest}
use Rattle.syntax_machine.proofs.Shared.{keeps_all, keeps_then, adds_none, adds_then}

from_each-append : (token : TokenKind) (xs ys : List Thread) → from_each token (xs ++ ys) ≡ from_each token xs ++ from_each token ys
from_each-append token [] ys = refl
from_each-append token (x ∷ xs) ys = ap (λ (ts : List Thread). from_thread token None x ++ ts) (from_each-append token xs ys)
    ∙ sym (append_assoc (from_thread token None x) (from_each token xs) (from_each token ys))

from_each-push : (token : TokenKind) (xs : List Thread) (x : Thread) → from_each token (xs ++ x ∷ []) ≡ from_each token xs ++ from_thread token None x
from_each-push token xs x = from_each-append token xs (x ∷ []) ∙ ap (λ (ts : List Thread). from_each token xs ++ ts) (append-nil (from_thread token None x))

threads_more : (stacks : List Thread) (tops : List ℕ) (k top : ℕ) → slice_get tops k ≡ Some top → threads_at stacks (take k tops) ++ stack_at stacks top ∷ [] ≡ threads_at stacks (take (k + 1) tops)
threads_more stacks tops k top got =
    sym (map-append (stack_at stacks) (take k tops) (top ∷ []))
    ∙ ap (λ (ns : List ℕ). threads_at stacks ns) (ap (λ (n : ℕ). take k tops ++ n ∷ []) (sym (get_or_from_slice_get tops k top 0 got)) ∙ sym (take_more tops k 0 (slice_get_within tops k top got)))

threads-append : (xs ys : Spelled) (ts : List Thread) → threads (xs ++ ys) ts ≡ threads ys (threads xs ts)
threads-append [] ys ts = refl
threads-append (x ∷ xs) ys ts = threads-append xs ys (from_each x ts)

-- one thread more
pub adds_more : (token : TokenKind) (old mid new : List Thread) (tops next after : List ℕ) (k top : ℕ) → slice_get tops k ≡ Some top → AreWithin old tops →
    Adds old [] mid next (from_each token (threads_at old (take k tops))) → Adds mid next new after (from_thread token None (stack_at mid top)) →
    Adds old [] new after (from_each token (threads_at old (take (k + 1) tops)))
adds_more token old mid new tops next after k top got within h one =
    let lt : k < length tops = slice_get_within tops k top got in
    let is : get_or tops k 0 ≡ top = get_or_from_slice_get tops k top 0 got in
    let low : top < length old = subst (λ (n : ℕ). n < length old) is (All-get_or (λ (n : ℕ). n < length old) tops k 0 lt within) in
    let there : from_each token (threads_at old (take k tops)) ++ from_thread token None (stack_at mid top) ≡ from_each token (threads_at old (take (k + 1) tops))
    = ap (λ (t : Thread). from_each token (threads_at old (take k tops)) ++ from_thread token None t) (h.keeps.same top low)
    ∙ (sym (from_each-push token (threads_at old (take k tops)) (stack_at old top))
    ∙ ap (λ (ts : List Thread). from_each token ts) (threads_more old tops k top got)) in
    subst (λ (ts : List Thread). Adds old [] new after ts) there
    (adds_then old mid new [] next after (from_each token (threads_at old (take k tops))) (from_thread token None (stack_at mid top)) h one)

pub top_within : (old mid : List Thread) (tops : List ℕ) (k top : ℕ) → slice_get tops k ≡ Some top → AreWithin old tops → Keeps old mid → top < length mid
top_within old mid tops k top got within keeps =
    let lt : k < length tops = slice_get_within tops k top got in
    let is : get_or tops k 0 ≡ top = get_or_from_slice_get tops k top 0 got in
    let low : top < length old = subst (λ (n : ℕ). n < length old) is (All-get_or (λ (n : ℕ). n < length old) tops k 0 lt within) in
    omega (arith, low, keeps.longer)

no_within : (stacks : List Thread) → AreWithin stacks []
no_within stacks = All-nil (λ (n : ℕ). n < length stacks)

-- The items of a thread.

-- behind these threads come those from what lies below
pub rest_added : (token : TokenKind) (old : List Thread) (before : List ℕ) (new : List Thread) (after : List ℕ) (first : List Thread) (read : Option (Mark × ℕ)) (below : ℕ) →
    below < length old → Adds old before new after first → AddsBefore token old before new after (first ++ from_thread token read (stack_at old below)) (record { read = read; at = below })
rest_added token old before new after first read below lt h = record {
  keeps = h.keeps;
  all = λ last tops done. adds_then old new last before after tops first (from_thread token read (stack_at old below)) h
      (subst (λ (under : Thread). Adds new after last tops (from_thread token read under)) (h.keeps.same below lt) done);
}

-- a frame with which nothing is complete
pub frame_over : (token : TokenKind) (old : List Thread) (before : List ℕ) (new : List Thread) (after : List ℕ) (f : Frame) (m : Mark) (d below : ℕ) →
    Adds old before new after (each (shift token f m d) (stack_at old below)) → completed f m d ≡ None → Adds old before new after (from_thread token (Some (m, d)) (Then f ∷ stack_at old below))
frame_over token old before new after f m d below h e =
    let k : Thread = stack_at old below in
    subst (λ (ts : List Thread). Adds old before new after ts)
    (sym (append-nil (each (shift token f m d) k)) ∙ ap (λ (o : Option (Goal × Mark × ℕ)). each (shift token f m d) k ++ longer token (λ n e. from_thread token (Some (n, e)) k) k o) (sym e)) h

-- a frame with which an expression is complete
pub frame_on : (token : TokenKind) (old : List Thread) (before : List ℕ) (mid : List Thread) (middle : List ℕ) (new : List Thread) (after : List ℕ) (f : Frame) (m n : Mark) (g : Goal) (d e below : ℕ) (rest : Rest) →
    below < length old → Adds old before mid middle (each (shift token f m d) (stack_at old below)) → completed f m d ≡ Some (g, n, e) →
    AddsBefore token mid middle new after (each (extend token g n e) (stack_at mid below) ++ from_thread token (Some (n, e)) (stack_at mid below)) rest →
    AddsBefore token old before new after (from_thread token (Some (m, d)) (Then f ∷ stack_at old below)) rest
frame_on token old before mid middle new after f m n g d e below rest lt h is next =
    let k : Thread = stack_at old below in
    let more : List Thread = each (extend token g n e) k ++ from_thread token (Some (n, e)) k in
    let whole : each (shift token f m d) k ++ more ≡ from_thread token (Some (m, d)) (Then f ∷ k)
    = ap (λ (o : Option (Goal × Mark × ℕ)). each (shift token f m d) k ++ longer token (λ n e. from_thread token (Some (n, e)) k) k o) (sym is) in
    record {
      keeps = keeps_then old mid new h.keeps next.keeps;
      all = λ last tops done. subst (λ (ts : List Thread). Adds old before last tops ts) whole (adds_then old mid last before middle tops (each (shift token f m d) k) more h
          (subst (λ (under : Thread). Adds mid middle last tops (each (extend token g n e) under ++ from_thread token (Some (n, e)) under)) (h.keeps.same below lt) (next.all last tops done)));
    }

-- the top item, and what was read before it
pub item_is : (token : TokenKind) (old : List Thread) (before : List ℕ) (new : List Thread) (after : List ℕ) (read again : Option (Mark × ℕ)) (item same : Item) (below : ℕ) (o : Option Rest) → read ≡ again → item ≡ same →
    AddsWith token old before new after (from_thread token again (same ∷ stack_at old below)) o → AddsWith token old before new after (from_thread token read (item ∷ stack_at old below)) o
item_is token old before new after read again item same below o was is h =
    subst (λ (r : Option (Mark × ℕ)). AddsWith token old before new after (from_thread token r (item ∷ stack_at old below)) o) (sym was)
    (subst (λ (i : Item). AddsWith token old before new after (from_thread token again (i ∷ stack_at old below)) o) (sym is) h)

-- a token that is expected
pub item_matched : (token : TokenKind) (old : List Thread) (before : List ℕ) (new : List Thread) (after : List ℕ) (read : Option (Mark × ℕ)) (item : Item) (kind : Expected) (may : Bool) (below : ℕ) → item ≡ variant.Token kind → may ≡ matches kind token →
    Adds old before new after (when may (stack_at old below)) → Adds old before new after (from_thread token read (item ∷ stack_at old below))
item_matched token old before new after read item kind may below is fits h =
    item_is token old before new after read read item (variant.Token kind) below None refl is (subst (λ (b : Bool). Adds old before new after (when b (stack_at old below))) fits h)

-- the empty thread
pub rest_none : (token : TokenKind) (stacks : List Thread) (tops : List ℕ) (rest : Rest) → stack_at stacks rest.at ≡ [] → Adds stacks tops stacks tops (from_rest token stacks rest)
rest_none token stacks tops rest e = subst (λ (t : Thread). Adds stacks tops stacks tops (from_thread token rest.read t)) (sym e) (adds_none stacks tops)

pub rest_some : (token : TokenKind) (old : List Thread) (before : List ℕ) (new : List Thread) (after : List ℕ) (rest : Rest) (item : Item) (below : ℕ) (o : Option Rest) →
    stack_at old rest.at ≡ item ∷ stack_at old below → AddsWith token old before new after (from_thread token rest.read (item ∷ stack_at old below)) o → AddsWith token old before new after (from_rest token old rest) o
rest_some token old before new after rest item below o e h = subst (λ (t : Thread). AddsWith token old before new after (from_thread token rest.read t) o) (sym e) h

pub rest_falls : (o : Option Rest) (below at : ℕ) → below < at → IfSome o (λ r. r.at ≡ below) → IfSome o (λ r. r.at < at)
rest_falls None below at lt h = tt
rest_falls (Some r) below at lt h = let is : r.at ≡ below = h in omega (arith, lt, is)

pub rest_within : (token : TokenKind) (old : List Thread) (before : List ℕ) (new : List Thread) (after : List ℕ) (added : List Thread) (o : Option Rest) (below at : ℕ) → at < length old → below < at →
    AddsWith token old before new after added o → IfSome o (λ r. r.at ≡ below) → IfSome o (λ r. r.at < length new)
rest_within token old before new after added None below at within lt h e = tt
rest_within token old before new after added (Some r) below at within lt h e =
    let is : r.at ≡ below = e in
    let all : AddsBefore token old before new after added r = h in
    omega (arith, within, lt, is, all.keeps.longer)

-- What a walk along the items of a thread has added so far: all of it, if what comes from the rest is added.
pub record IsWalking (token : TokenKind) (old : List Thread) (before : List ℕ) (new : List Thread) (after : List ℕ) (at : ℕ) (rest : Rest) : Type 0 where
  pub within : rest.at < length new
  pub adds : AddsBefore token old before new after (from_thread token None (stack_at old at)) rest

pub walk_starts : (token : TokenKind) (old : List Thread) (before : List ℕ) (at : ℕ) → at < length old → IsWalking token old before old before at (record { read = None; at = at })
walk_starts token old before at lt = record { within = lt; adds = record { keeps = keeps_all old; all = λ last tops done. done } }

pub walk_goes_on : (token : TokenKind) (old : List Thread) (before : List ℕ) (mid : List Thread) (middle : List ℕ) (new : List Thread) (after : List ℕ) (at : ℕ) (rest : Rest) (o : Option Rest) (next : Rest) → o ≡ Some next →
    IsWalking token old before mid middle at rest → AddsWith token mid middle new after (from_rest token mid rest) o → IfSome o (λ r. r.at < length new) → IsWalking token old before new after at next
walk_goes_on token old before mid middle new after at rest o next is h more within =
    let k : AddsBefore token mid middle new after (from_rest token mid rest) next = subst (λ (p : Option Rest). AddsWith token mid middle new after (from_rest token mid rest) p) is more in
    record {
      within = subst (λ (p : Option Rest). IfSome p (λ r. r.at < length new)) is within;
      adds = record {
        keeps = keeps_then old mid new h.adds.keeps k.keeps;
        all = λ last tops done. h.adds.all last tops (k.all last tops done);
      };
    }

pub walk_falls : (rest : Rest) (o : Option Rest) (next : Rest) → o ≡ Some next → IfSome o (λ r. r.at < rest.at) → next.at < rest.at
walk_falls rest o next is falls = subst (λ (p : Option Rest). IfSome p (λ r. r.at < rest.at)) is falls

pub walk_ends : (token : TokenKind) (old : List Thread) (before : List ℕ) (mid : List Thread) (middle : List ℕ) (new : List Thread) (after : List ℕ) (at : ℕ) (rest : Rest) (o : Option Rest) → o ≡ None →
    IsWalking token old before mid middle at rest → AddsWith token mid middle new after (from_rest token mid rest) o → Adds old before new after (from_thread token None (stack_at old at))
walk_ends token old before mid middle new after at rest o is h more =
    h.adds.all new after (subst (λ (p : Option Rest). AddsWith token mid middle new after (from_rest token mid rest) p) is more)

-- The tokens.

-- the threads that are left behind these tokens are those at these numbers, and there are some
pub record AreLeft (tokens : Spelled) (start : Thread) (stacks : List Thread) (tops : List ℕ) : Type 0 where
  pub within : AreWithin stacks tops
  pub same : threads_at stacks tops ≡ threads tokens (start ∷ [])
  pub some : tops ≡ [] → ⊥

none_at : (stacks : List Thread) (tops : List ℕ) → threads_at stacks tops ≡ [] → tops ≡ []
none_at stacks [] h = refl
none_at stacks (n ∷ ns) h = absurd cc

are_alive : (tokens : Spelled) (start : Thread) (stacks : List Thread) (tops : List ℕ) → AreLeft tokens start stacks tops → threads tokens (start ∷ []) ≡ [] → ⊥
are_alive tokens start stacks tops h dead = h.some (none_at stacks tops (h.same ∙ dead))

begins_there : (start : Thread) (new : List Thread) (after : List ℕ) → Adds ([] ∷ []) [] new after ((start ++ []) ∷ []) → AreLeft [] start new after
begins_there start new after h = record {
  within = h.within (no_within ([] ∷ []));
  same = h.adds (no_within ([] ∷ [])) ∙ ap (λ (t : Thread). t ∷ []) (append-nil start);
  some = λ none. some_there after none (h.adds (no_within ([] ∷ [])));
}
  where
    some_there : (tops : List ℕ) → tops ≡ [] → threads_at new tops ≡ (start ++ []) ∷ [] → ⊥
    some_there [] e is = cc
    some_there (n ∷ ns) e is = cc

pub begins : (start : Thread) (old new : List Thread) (before after : List ℕ) → old ≡ [] ∷ [] → before ≡ [] → Adds old before new after ((start ++ stack_at old 0) ∷ []) → AreLeft [] start new after
begins start old new before after one none h =
    begins_there start new after
    (subst (λ (s : List Thread). Adds s [] new after ((start ++ stack_at s 0) ∷ [])) one
    (subst (λ (ns : List ℕ). Adds old ns new after ((start ++ stack_at old 0) ∷ [])) none h))

pub first_within : (old new : List Thread) (before after : List ℕ) (added : List Thread) → before ≡ [] → Adds old before new after added → AreWithin new after
first_within old new before after added none h = h.within (subst (λ (ns : List ℕ). AreWithin old ns) (sym none) (no_within old))

-- what a test for no threads says
pub not_empty : (is_empty : Bool) (tops : List ℕ) → is_empty ≡ false → IsTrue is_empty ↔ (tops ≡ []) → tops ≡ [] → ⊥
not_empty is_empty tops off both none = let yes : is_empty ≡ true = both.1 none in cc

one_more : (tokens : List Token) (k : ℕ) (t : Token) (ts : List Thread) → k < length tokens → t ≡ get_or tokens k t → threads (kinds (take (k + 1) tokens)) ts ≡ from_each t.kind (threads (kinds (take k tokens)) ts)
one_more tokens k t ts lt is =
    ap (λ (front : List Token). threads (kinds front) ts) (take_more tokens k t lt ∙ ap (λ (u : Token). take k tokens ++ u ∷ []) (sym is))
    ∙ (ap (λ (front : Spelled). threads front ts) (map-append (λ (u : Token). u.kind) (take k tokens) (t ∷ []))
    ∙ threads-append (kinds (take k tokens)) (t.kind ∷ []) ts)

led : (tokens : List Token) (start : Thread) (old new : List Thread) (tops next : List ℕ) (k : ℕ) (t : Token) → k < length tokens → t ≡ get_or tokens k t → AreLeft (kinds (take k tokens)) start old tops →
    threads_at new next ≡ from_each t.kind (threads_at old tops) → threads_at new next ≡ threads (kinds (take (k + 1) tokens)) (start ∷ [])
led tokens start old new tops next k t lt is h e = e ∙ (ap (λ (ts : List Thread). from_each t.kind ts) h.same ∙ sym (one_more tokens k t (start ∷ []) lt is))

-- one token more
pub leads_on : (tokens : List Token) (start : Thread) (old new : List Thread) (tops next : List ℕ) (k : ℕ) (t : Token) → k < length tokens → t ≡ get_or tokens k t → AreLeft (kinds (take k tokens)) start old tops →
    AreWithin new next → threads_at new next ≡ from_each t.kind (threads_at old tops) → (next ≡ [] → ⊥) → AreLeft (kinds (take (k + 1) tokens)) start new next
leads_on tokens start old new tops next k t lt is h within e some = record { within = within; same = led tokens start old new tops next k t lt is h e; some = some }

-- a token behind which none is left
pub dies : (tokens : List Token) (start : Thread) (old new : List Thread) (tops next : List ℕ) (k : ℕ) (t : Token) → k < length tokens → t ≡ get_or tokens k t → AreLeft (kinds (take k tokens)) start old tops →
    threads_at new next ≡ from_each t.kind (threads_at old tops) → next ≡ [] → IsFirstDeath (kinds tokens) start (Some k)
dies tokens start old new tops next k t lt is h e none =
    let at : threads_at new next ≡ [] = ap (λ (ns : List ℕ). threads_at new ns) none in (
      λ dead. are_alive (kinds (take k tokens)) start old tops h (ap (λ (front : Spelled). threads front (start ∷ [])) (sym (take-map (λ (u : Token). u.kind) k tokens)) ∙ dead),
      ap (λ (front : Spelled). threads front (start ∷ [])) (take-map (λ (u : Token). u.kind) (k + 1) tokens) ∙ (sym (led tokens start old new tops next k t lt is h e) ∙ at),
    )

-- behind all tokens one is left
pub lives : (tokens : List Token) (start : Thread) (stacks : List Thread) (tops : List ℕ) (k : ℕ) → length tokens ≤ k → AreLeft (kinds (take k tokens)) start stacks tops → IsFirstDeath (kinds tokens) start None
lives tokens start stacks tops k le h dead = are_alive (kinds (take k tokens)) start stacks tops h (ap (λ (front : List Token). threads (kinds front) (start ∷ [])) (take_all k tokens le) ∙ dead)

-- Threads that are laid out anew.

pub item_more : (stacks : List Thread) (items new : Thread) (item : Item) (left below at : ℕ) → items ++ stack_at stacks left ≡ stack_at stacks at → stack_at stacks left ≡ item ∷ stack_at stacks below → new ≡ items ++ item ∷ [] →
    new ++ stack_at stacks below ≡ stack_at stacks at
item_more stacks items new item left below at h e is =
    ap (λ (t : Thread). t ++ stack_at stacks below) is ∙ (append_assoc items (item ∷ []) (stack_at stacks below) ∙ (ap (λ (t : Thread). items ++ t) (sym e) ∙ h))

pub item_last : (stacks : List Thread) (items : Thread) (left at : ℕ) → items ++ stack_at stacks left ≡ stack_at stacks at → stack_at stacks left ≡ [] → items ≡ stack_at stacks at
item_last stacks items left at h e = sym (append-nil items) ∙ (ap (λ (t : Thread). items ++ t) (sym e) ∙ h)

pub renew_more : (stacks first mid new : List Thread) (tops next after : List ℕ) (items : Thread) (k top : ℕ) → first ≡ [] ∷ [] → slice_get tops k ≡ Some top → items ≡ stack_at stacks top →
    Adds first [] mid next (threads_at stacks (take k tops)) → Adds mid next new after ((items ++ stack_at mid 0) ∷ []) → Adds first [] new after (threads_at stacks (take (k + 1) tops))
renew_more stacks first mid new tops next after items k top one got is h more =
    let zero_low : 0 < length first = subst (λ (s : List Thread). 0 < length s) (sym one) (omega arith) in
    let bottom : stack_at mid 0 ≡ [] = h.keeps.same 0 zero_low ∙ ap (λ (s : List Thread). stack_at s 0) one in
    let whole : (items ++ stack_at mid 0) ∷ [] ≡ stack_at stacks top ∷ [] = ap (λ (t : Thread). t ∷ []) (ap (λ (t : Thread). items ++ t) bottom ∙ (append-nil items ∙ is)) in
    subst (λ (ts : List Thread). Adds first [] new after ts) (ap (λ (ts : List Thread). threads_at stacks (take k tops) ++ ts) whole ∙ threads_more stacks tops k top got)
    (adds_then first mid new [] next after (threads_at stacks (take k tops)) ((items ++ stack_at mid 0) ∷ []) h more)

pub bottom_within : (stacks first mid : List Thread) (next : List ℕ) (added : List Thread) → first ≡ [] ∷ [] → Adds first [] mid next added → 0 < length mid
bottom_within stacks first mid next added one h = let long : length first ≡ 1 = ap length one in omega (arith, long, h.keeps.longer)

pub renewed_within : (first new : List Thread) (after : List ℕ) (added : List Thread) → Adds first [] new after added → AreWithin new after
renewed_within first new after added h = h.within (no_within first)

pub renewed_same : (stacks first new : List Thread) (tops after : List ℕ) (k : ℕ) → length tops ≤ k → Adds first [] new after (threads_at stacks (take k tops)) → threads_at new after ≡ threads_at stacks tops
renewed_same stacks first new tops after k le h = h.adds (no_within first) ∙ ap (λ (ns : List ℕ). threads_at stacks ns) (take_all k tops le)

-- all of the threads
pub all_within : (token : TokenKind) (old new : List Thread) (tops next : List ℕ) (k : ℕ) → Adds old [] new next (from_each token (threads_at old (take k tops))) → AreWithin new next
all_within token old new tops next k h = h.within (no_within old)

pub all_lead : (token : TokenKind) (old new : List Thread) (tops next : List ℕ) (k : ℕ) → length tops ≤ k → Adds old [] new next (from_each token (threads_at old (take k tops))) → threads_at new next ≡ from_each token (threads_at old tops)
all_lead token old new tops next k le h = h.adds (no_within old) ∙ ap (λ (ns : List ℕ). from_each token (threads_at old ns)) (take_all k tops le)
