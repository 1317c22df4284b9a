-- Threads that share what lies below: what grows keeps them, and what is added adds up.
use Rattle.std.proofs.Common.{◌≡◌, ◌<◌, ◌≤◌, ◌+◌, ◌-◌, ℕ, zero, suc, Bool, true, false, List, [], ◌∷◌, ◌++◌, Option, Some, None, IfNone, fold, length, take, drop, get_or, slice_get, refl, sym, subst, ap, ◌∙◌, arith, append_assoc, append-nil, length-append, le_trans, le_refl, take_all}
use Rattle.std.proofs.lemmas.List.{map-append}
use Rattle.std.proofs.lemmas.List.Sums.{fold-append}
use Rattle.std.proofs.lemmas.List.Elements.{All-push, All-weaker, All-head, All-tail}
use Rattle.syntax_machine.specs.declared.stacks.Node.{Node}
use Rattle.syntax_machine.specs.declared.thread.Item.{Item}
use Rattle.syntax_machine.specs.Machine.{Thread, when, each}
use Rattle.syntax_machine.specs.Stacks.{stack_at, grown, stacks_of, threads_at, AreWithin, Keeps, Stands, Adds}

-- The numbers of stacks.

pub stack_at-front : (xs ys : List Thread) (n : ℕ) → n < length xs → stack_at (xs ++ ys) n ≡ stack_at xs n
stack_at-front [] ys n lt = absurd (omega (arith, lt))
stack_at-front (x ∷ xs) ys zero lt = refl
stack_at-front (x ∷ xs) ys (suc n) lt = stack_at-front xs ys n (omega (arith, lt))

pub stack_at-next : (xs : List Thread) (t : Thread) (ys : List Thread) (n : ℕ) → n ≡ length xs → stack_at (xs ++ t ∷ ys) n ≡ t
stack_at-next [] t ys zero e = refl
stack_at-next [] t ys (suc n) e = absurd (omega (arith, e))
stack_at-next (x ∷ xs) t ys zero e = absurd (omega (arith, e))
stack_at-next (x ∷ xs) t ys (suc n) e = stack_at-next xs t ys n (omega (arith, e))

pub stack_at-past : (xs : List Thread) (n : ℕ) → length xs ≤ n → stack_at xs n ≡ []
stack_at-past [] n le = refl
stack_at-past (x ∷ xs) zero le = absurd (omega (arith, le))
stack_at-past (x ∷ xs) (suc n) le = stack_at-past xs n (omega (arith, le))

-- What nodes make.

pub record Grown (nodes : List Node) (stacks : List Thread) : Type 0 where
  pub more : List Thread
  pub is : fold grown stacks nodes ≡ stacks ++ more
  pub counts : length more ≡ length nodes

pub all_grown : (nodes : List Node) (stacks : List Thread) → Grown nodes stacks
all_grown [] stacks = record { more = []; is = sym (append-nil stacks); counts = refl }
all_grown (n ∷ ns) stacks =
    let rest = all_grown ns (grown stacks n) in
    record {
      more = (n.item ∷ stack_at stacks n.below) ∷ rest.more;
      is = rest.is ∙ append_assoc stacks ((n.item ∷ stack_at stacks n.below) ∷ []) rest.more;
      counts = ap suc rest.counts;
    }

-- the stack that a node makes, behind those that stood there
pub record Made (nodes : List Node) (stacks : List Thread) (k : ℕ) (node : Node) : Type 0 where
  pub front : List Thread
  pub more : List Thread
  pub counts : length front ≡ length stacks + k
  pub is : fold grown stacks nodes ≡ front ++ (node.item ∷ stack_at front node.below) ∷ more

pub made : (nodes : List Node) (stacks : List Thread) (k : ℕ) (node : Node) → slice_get nodes k ≡ Some node → Made nodes stacks k node
made [] stacks k node e = absurd cc
made (n ∷ ns) stacks zero node e =
    let rest = all_grown ns (grown stacks n) in
    let same : n ≡ node = cc in
    subst (λ (m : Node). Made (n ∷ ns) stacks 0 m) same (record {
      front = stacks;
      more = rest.more;
      counts = omega arith;
      is = rest.is ∙ append_assoc stacks ((n.item ∷ stack_at stacks n.below) ∷ []) rest.more;
    })
made (n ∷ ns) stacks (suc k) node e =
    let rest = made ns (grown stacks n) k node e in
    let one : length (grown stacks n) ≡ length stacks + 1 = length-append stacks ((n.item ∷ stack_at stacks n.below) ∷ []) in
    record {
      front = rest.front;
      more = rest.more;
      counts = omega (arith, rest.counts, one);
      is = rest.is;
    }

first_empty : (nodes : List Node) → stack_at (stacks_of nodes) 0 ≡ []
first_empty nodes = let all = all_grown nodes ([] ∷ []) in ap (λ (s : List Thread). stack_at s 0) all.is

pub is_first_empty : (nodes : List Node) (at : ℕ) → at ≡ 0 → stack_at (stacks_of nodes) at ≡ []
is_first_empty nodes at e = subst (λ (n : ℕ). stack_at (stacks_of nodes) n ≡ []) (sym e) (first_empty nodes)

pub how_many : (nodes : List Node) → length (stacks_of nodes) ≡ suc (length nodes)
how_many nodes =
    let all = all_grown nodes ([] ∷ []) in
    let long : length (([] ∷ []) ++ all.more) ≡ 1 + length all.more = length-append ([] ∷ []) all.more in
    ap length all.is ∙ omega (arith, long, all.counts)

pub one_more_than : (nodes : List Node) → length (stacks_of nodes) ≡ length nodes + 1
one_more_than nodes = omega (arith, how_many nodes)

-- a node whose link leads down
pub node_below : (nodes : List Node) (at : ℕ) (node : Node) → 0 < at → slice_get nodes (at - 1) ≡ Some node → node.below < at →
    stack_at (stacks_of nodes) at ≡ node.item ∷ stack_at (stacks_of nodes) node.below
node_below nodes at node some got lt =
    let it = made nodes ([] ∷ []) (at - 1) node got in
    let counts : at ≡ length it.front = omega (arith, it.counts, some) in
    let whole : stack_at (stacks_of nodes) at ≡ node.item ∷ stack_at it.front node.below
    = ap (λ (s : List Thread). stack_at s at) it.is ∙ stack_at-next it.front (node.item ∷ stack_at it.front node.below) it.more at counts in
    let below : stack_at (stacks_of nodes) node.below ≡ stack_at it.front node.below
    = ap (λ (s : List Thread). stack_at s node.below) it.is ∙ stack_at-front it.front ((node.item ∷ stack_at it.front node.below) ∷ it.more) node.below (omega (arith, counts, lt)) in
    whole ∙ ap (λ (t : Thread). node.item ∷ t) (sym below)

-- a node whose link leads nowhere
pub node_alone : (nodes : List Node) (at : ℕ) (node : Node) → 0 < at → slice_get nodes (at - 1) ≡ Some node → at ≤ node.below →
    stack_at (stacks_of nodes) at ≡ node.item ∷ stack_at (stacks_of nodes) 0
node_alone nodes at node some got le =
    let it = made nodes ([] ∷ []) (at - 1) node got in
    let counts : at ≡ length it.front = omega (arith, it.counts, some) in
    let whole : stack_at (stacks_of nodes) at ≡ node.item ∷ stack_at it.front node.below
    = ap (λ (s : List Thread). stack_at s at) it.is ∙ stack_at-next it.front (node.item ∷ stack_at it.front node.below) it.more at counts in
    whole ∙ ap (λ (t : Thread). node.item ∷ t) (stack_at-past it.front node.below (omega (arith, counts, le)) ∙ sym (first_empty nodes))

-- no node has this number
pub node_past : (nodes : List Node) (at : ℕ) → 0 < at → length nodes ≤ at - 1 → stack_at (stacks_of nodes) at ≡ []
node_past nodes at some le = stack_at-past (stacks_of nodes) at (omega (arith, how_many nodes, some, le))

pub if_none : {A : Type 0} (o : Option A) (P : Type 0) → P → IfNone o P
if_none None P p = p
if_none (Some x) P p = tt

-- the number of a new one
pub push_top : (nodes new : List Node) (node : Node) (n : ℕ) → new ≡ nodes ++ node ∷ [] → n ≡ length new → n ≡ length (stacks_of nodes)
push_top nodes new node n e is =
    let long : length new ≡ length nodes + 1 = ap length e ∙ length-append nodes (node ∷ []) in
    omega (arith, long, is, how_many nodes)

pub push_grows : (nodes new : List Node) (node : Node) → new ≡ nodes ++ node ∷ [] → stacks_of new ≡ stacks_of nodes ++ (node.item ∷ stack_at (stacks_of nodes) node.below) ∷ []
push_grows nodes new node e = ap stacks_of e ∙ fold-append grown ([] ∷ []) nodes (node ∷ [])

-- Keeping and adding.

pub keeps_all : (stacks : List Thread) → Keeps stacks stacks
keeps_all stacks = record { longer = le_refl (length stacks); same = λ n lt. refl }

pub keeps_then : (a b c : List Thread) → Keeps a b → Keeps b c → Keeps a c
keeps_then a b c first next = record {
  longer = le_trans first.longer next.longer;
  same = λ n lt. next.same n (omega (arith, lt, first.longer)) ∙ first.same n lt;
}

keeps_push : (a b : List Thread) (t : Thread) → b ≡ a ++ t ∷ [] → Keeps a b
keeps_push a b t e = subst (λ (s : List Thread). Keeps a s) (sym e) (record {
  longer = let long : length (a ++ t ∷ []) ≡ length a + 1 = length-append a (t ∷ []) in omega (arith, long);
  same = λ n lt. stack_at-front a (t ∷ []) n lt;
})

pub stands_still : (stacks : List Thread) (below : ℕ) → below < length stacks → Stands stacks stacks (stack_at stacks below) below
stands_still stacks below lt = record { keeps = keeps_all stacks; within = lt; is = refl }

pub stands_on : (old mid new : List Thread) (thread : Thread) (item : Item) (under top : ℕ) → Stands old mid thread under → new ≡ mid ++ (item ∷ stack_at mid under) ∷ [] → top ≡ length mid →
    Stands old new (item ∷ thread) top
stands_on old mid new thread item under top h e is_top =
    let long : length new ≡ length mid + 1 = ap length e ∙ length-append mid ((item ∷ stack_at mid under) ∷ []) in
    record {
      keeps = keeps_then old mid new h.keeps (keeps_push mid new (item ∷ stack_at mid under) e);
      within = omega (arith, long, is_top);
      is = ap (λ (s : List Thread). stack_at s top) e ∙ (stack_at-next mid (item ∷ stack_at mid under) [] top is_top ∙ ap (λ (t : Thread). item ∷ t) h.is);
    }

within_keeps : (old new : List Thread) (tops : List ℕ) → Keeps old new → AreWithin old tops → AreWithin new tops
within_keeps old new tops keeps h = All-weaker (λ (n : ℕ). n < length old) (λ (n : ℕ). n < length new) (λ n lt. omega (arith, lt, keeps.longer)) tops h

same_threads : (old new : List Thread) (tops : List ℕ) → Keeps old new → AreWithin old tops → threads_at new tops ≡ threads_at old tops
same_threads old new [] keeps h = refl
same_threads old new (n ∷ ns) keeps h =
    ap (λ (t : Thread). t ∷ threads_at new ns) (keeps.same n (All-head (λ (k : ℕ). k < length old) n ns h))
    ∙ ap (λ (ts : List Thread). stack_at old n ∷ ts) (same_threads old new ns keeps (All-tail (λ (k : ℕ). k < length old) n ns h))

pub adds_none : (stacks : List Thread) (tops : List ℕ) → Adds stacks tops stacks tops []
adds_none stacks tops = record { keeps = keeps_all stacks; within = λ h. h; adds = λ h. sym (append-nil (threads_at stacks tops)) }

pub adds_one : (old new : List Thread) (before after : List ℕ) (thread : Thread) (top : ℕ) → Stands old new thread top → after ≡ before ++ top ∷ [] → Adds old before new after (thread ∷ [])
adds_one old new before after thread top h e = subst (λ (tops : List ℕ). Adds old before new tops (thread ∷ [])) (sym e) (record {
  keeps = h.keeps;
  within = λ w. All-push (λ (n : ℕ). n < length new) before top (within_keeps old new before h.keeps w) h.within;
  adds = λ w. map-append (stack_at new) before (top ∷ []) ∙ (ap (λ (ts : List Thread). ts ++ stack_at new top ∷ []) (same_threads old new before h.keeps w) ∙ ap (λ (t : Thread). threads_at old before ++ t ∷ []) h.is);
})

pub adds_then : (a b c : List Thread) (x y z : List ℕ) (first next : List Thread) → Adds a x b y first → Adds b y c z next → Adds a x c z (first ++ next)
adds_then a b c x y z first next h k = record {
  keeps = keeps_then a b c h.keeps k.keeps;
  within = λ w. k.within (h.within w);
  adds = λ w. k.adds (h.within w) ∙ (ap (λ (ts : List Thread). ts ++ next) (h.adds w) ∙ append_assoc (threads_at a x) first next);
}

-- the thread of this number, where it may be
pub adds_may : (stacks : List Thread) (before after : List ℕ) (may : Bool) (at : ℕ) → may ≡ true → at < length stacks → after ≡ before ++ at ∷ [] → Adds stacks before stacks after (when may (stack_at stacks at))
adds_may stacks before after may at is lt e = subst (λ (b : Bool). Adds stacks before stacks after (when b (stack_at stacks at))) (sym is) (adds_one stacks stacks before after (stack_at stacks at) at (stands_still stacks at lt) e)

pub adds_not : (stacks : List Thread) (tops : List ℕ) (may : Bool) (at : ℕ) → may ≡ false → Adds stacks tops stacks tops (when may (stack_at stacks at))
adds_not stacks tops may at off = subst (λ (b : Bool). Adds stacks tops stacks tops (when b (stack_at stacks at))) (sym off) (adds_none stacks tops)

-- one on top of another, and then each of the others
pub adds_each : (a b c : List Thread) (x y z : List ℕ) (t : Thread) (ts : List Thread) (below : ℕ) → below < length a → Adds a x b y ((t ++ stack_at a below) ∷ []) →
    Adds b y c z (each ts (stack_at b below)) → Adds a x c z (each (t ∷ ts) (stack_at a below))
adds_each a b c x y z t ts below lt h k = adds_then a b c x y z ((t ++ stack_at a below) ∷ []) (each ts (stack_at a below)) h
    (subst (λ (under : Thread). Adds b y c z (each ts under)) (h.keeps.same below lt) k)

-- The first of a list and the rest of it, as they come in code.
whole_of : {A : Type 0} (xs : List A) (x : A) → 1 ≤ length xs → x ≡ get_or xs 0 x → x ∷ take (length xs - 1) (drop 1 xs) ≡ xs
whole_of [] x some is = absurd (omega (arith, some))
whole_of (y ∷ xs) x some is = ap (λ z. z ∷ take (suc (length xs) - 1) xs) is ∙ ap (λ zs. y ∷ zs) (take_all (suc (length xs) - 1) xs (omega arith))

pub put_more : (old mid new : List Thread) (items : Thread) (none : Item) (below under top : ℕ) → 1 ≤ length items →
    Stands old mid (take (length items - 1) (drop 1 items) ++ stack_at old below) under → new ≡ mid ++ (get_or items 0 none ∷ stack_at mid under) ∷ [] → top ≡ length mid → Stands old new (items ++ stack_at old below) top
put_more old mid new items none below under top some h e is_top =
    subst (λ (t : Thread). Stands old new (t ++ stack_at old below) top) (first_is items some)
    (stands_on old mid new (take (length items - 1) (drop 1 items) ++ stack_at old below) (get_or items 0 none) under top h e is_top)
  where
    first_is : (xs : Thread) → 1 ≤ length xs → get_or xs 0 none ∷ take (length xs - 1) (drop 1 xs) ≡ xs
    first_is [] some = absurd (omega (arith, some))
    first_is (x ∷ xs) some = ap (λ (rest : Thread). x ∷ rest) (take_all (suc (length xs) - 1) xs (omega arith))

pub each_more : (a b c : List Thread) (x y z : List ℕ) (threads : List Thread) (first items : Thread) (below : ℕ) → 1 ≤ length threads → first ≡ get_or threads 0 first → items ≡ first → below < length a →
    Adds a x b y ((items ++ stack_at a below) ∷ []) → Adds b y c z (each (take (length threads - 1) (drop 1 threads)) (stack_at b below)) → Adds a x c z (each threads (stack_at a below))
each_more a b c x y z threads first items below some is same lt h k =
    subst (λ (ts : List Thread). Adds a x c z (each ts (stack_at a below))) (ap (λ (t : Thread). t ∷ take (length threads - 1) (drop 1 threads)) same ∙ whole_of threads first some is)
    (adds_each a b c x y z items (take (length threads - 1) (drop 1 threads)) below lt h k)

-- each on top of an item
pub on_more : (threads whole tail : List Thread) (first head : Thread) (below : Item) → 1 ≤ length threads → first ≡ get_or threads 0 first → head ≡ first ++ below ∷ [] → tail ≡ each (take (length threads - 1) (drop 1 threads)) (below ∷ []) → whole ≡ head ∷ tail →
    whole ≡ each threads (below ∷ [])
on_more threads whole tail first head below some is top rest all =
    all ∙ (ap (λ (t : Thread). t ∷ tail) top ∙ (ap (λ (ts : List Thread). (first ++ below ∷ []) ∷ ts) rest ∙ ap (λ (ts : List Thread). each ts (below ∷ [])) (whole_of threads first some is)))

-- the same threads
pub each_same : (old : List Thread) (before : List ℕ) (new : List Thread) (after : List ℕ) (ts us : List Thread) (below : Thread) → ts ≡ us → Adds old before new after (each ts below) → Adds old before new after (each us below)
each_same old before new after ts us below e h = subst (λ (vs : List Thread). Adds old before new after (each vs below)) e h
