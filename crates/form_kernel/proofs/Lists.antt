-- Lists of variables and formulas, one item after another.
use Rattle.std.proofs.Common.{◌≡◌, ℕ, zero, suc, ◌+◌, ◌-◌, ◌<◌, ◌≤◌, Bool, true, false, nat_lt, ◌&&◌, if◌then◌else◌, List, [], ◌∷◌, ◌++◌, map, take, length, get_or, refl, sym, ◌∙◌, ap, subst, arith, Result, Ok, Err, IfOk, Vec, Box, Global}
use Rattle.std.proofs.Math.Seq.{take-suc}
use Rattle.std.proofs.lemmas.Bool.{cond_below, cond_above}
use Rattle.std.proofs.lemmas.List.{map-append}
use Rattle.core_tree.specs.declared.operators.Quantity.{Quantity}
use Rattle.core_tree.specs.declared.operators.Quantity.TheVariants.{One}
use Rattle.core_tree.specs.declared.operators.RelationOp.TheVariants.{Difference}
use Rattle.core_tree.specs.declared.tree.Variable.{Variable}
use Rattle.core_tree.specs.declared.tree.Formula.{Formula, Every, ForAll, Counted}
use Rattle.core_tree.specs.declared.tree.Expr.{Expr, Comprehension, Sum}
use Rattle.core_tree.specs.Trees.{Term, Claim, Binder, name, combine, test, negation, every, for_all, comprehension, sum_over, term_of, claim_of, variable_of, claim_list, variable_list, more_claims}
use Rattle.core_tree.proofs.RowLemmas.{every_is, for_all_is, counted_is, comprehension_is, sum_over_is}
use Rattle.form_kernel.specs.Operators.{both, truth}
use Rattle.form_kernel.specs.Single.{without, alone, is_rising, one_by_one, under, lone_values, lone_by_one, are_many_rising, lone_under, one_under, counting}
use Rattle.form_kernel.specs.Names.{names_onto, alone_at}
use Rattle.form_kernel.specs.Written.{kernel_term, kernel_variables, kernel_claim, kernel_claims, kernel_binder}

pub if_ok_to : {X E : Type 0} (P Q : X → Type 0) → ((x : X) → P x → Q x) → (r : Result X E) → IfOk r P → IfOk r Q
if_ok_to P Q f (Ok x) h = f x h
if_ok_to P Q f (Err e) h = tt

pub whole : {X : Type 0} (l : List X) (k : ℕ) → length l ≤ k → take k l ≡ l
whole [] zero low = refl
whole [] (suc k) low = refl
whole (x ∷ l) zero low = absurd (omega (arith, low))
whole (x ∷ l) (suc k) low = ap (λ r. x ∷ r) (whole l k (omega (arith, low)))

none_taken : {X : Type 0} (l : List X) → take 0 l ≡ []
none_taken [] = refl
none_taken (x ∷ l) = refl

-- an item more
pub pushed : {X Y : Type 0} (f : X → Y) (all new l : List X) (g : Y → Y) (x y : X) (k next : ℕ) → new ≡ all ++ x ∷ [] → next ≡ k + 1 → k < length l → y ≡ get_or l k y → map f all ≡ map g (map f (take k l)) → f x ≡ g (f y) → map f new ≡ map g (map f (take next l))
pushed f all new l g x y k next one two low is front last =
    let step : next ≡ suc k = omega (arith, two) in
    let taken : take next l ≡ take k l ++ y ∷ [] = ap (λ j. take j l) step ∙ take-suc l k y low ∙ ap (λ z. take k l ++ z ∷ []) (sym is) in
    let left : map f new ≡ map f all ++ f x ∷ [] = ap (map f) one ∙ map-append f all (x ∷ []) in
    let right : map g (map f (take next l)) ≡ map g (map f (take k l)) ++ g (f y) ∷ [] = ap (λ z. map g (map f z)) taken ∙ ap (map g) (map-append f (take k l) (y ∷ [])) ∙ map-append g (map f (take k l)) (f y ∷ []) in
    left ∙ ap (λ z. z ++ f x ∷ []) front ∙ ap (λ z. map g (map f (take k l)) ++ z ∷ []) last ∙ sym right

-- the kernel of lists
claims_listed : (fs : List Claim) → kernel_claims (claim_list fs) ≡ claim_list (map kernel_claim fs)
claims_listed [] = refl
claims_listed (f ∷ fs) = ap (more_claims (kernel_claim f)) (claims_listed fs)

variables_listed : (vs : List Binder) → kernel_variables (variable_list vs) ≡ map kernel_binder vs
variables_listed [] = refl
variables_listed (v ∷ vs) = ap (λ r. kernel_binder v ∷ r) (variables_listed vs)

pub every_kernel : (v old : Vec Formula Global) (l : List Formula) → l ≡ old.items → map claim_of v.items ≡ map kernel_claim (map claim_of l) → claim_of (Every v) ≡ kernel_claim (claim_of (Every old))
every_kernel v old l is e =
    every_is v ∙ ap (λ fs. every (claim_list fs)) (e ∙ ap (λ z. map kernel_claim (map claim_of z)) is) ∙ sym (ap every (claims_listed (map claim_of old.items))) ∙ sym (ap kernel_claim (every_is old))

pub for_all_kernel : (old : Vec Variable Global) (b : Box Formula Global) (vs : List Binder) (f r : Claim) (l : List Variable) → l ≡ old.items → vs ≡ map kernel_binder (map variable_of l) → f ≡ kernel_claim (claim_of b.value) → r ≡ under vs f → r ≡ kernel_claim (claim_of (ForAll old b))
for_all_kernel old b vs f r l is bounds inner e =
    let listed : vs ≡ kernel_variables (variable_list (map variable_of old.items)) = bounds ∙ ap (λ z. map kernel_binder (map variable_of z)) is ∙ sym (variables_listed (map variable_of old.items)) in
    e ∙ ap (λ z. under z f) listed ∙ ap (under (kernel_variables (variable_list (map variable_of old.items)))) inner ∙ sym (ap kernel_claim (for_all_is old b))

pub counted_kernel : (q : Quantity) (old : Vec Variable Global) (b : Box Formula Global) (vs : List Binder) (f r : Claim) (l : List Variable) → l ≡ old.items → vs ≡ map kernel_binder (map variable_of l) → f ≡ kernel_claim (claim_of b.value) → r ≡ counting q vs f → r ≡ kernel_claim (claim_of (Counted q old b))
counted_kernel q old b vs f r l is bounds inner e =
    let listed : vs ≡ kernel_variables (variable_list (map variable_of old.items)) = bounds ∙ ap (λ z. map kernel_binder (map variable_of z)) is ∙ sym (variables_listed (map variable_of old.items)) in
    e ∙ ap (λ z. counting q z f) listed ∙ ap (counting q (kernel_variables (variable_list (map variable_of old.items)))) inner ∙ sym (ap kernel_claim (counted_is q old b))

pub comprehension_kernel : (k : Bool) (v old : Vec Variable Global) (b c : Box Formula Global) (l : List Variable) → l ≡ old.items → map variable_of v.items ≡ map kernel_binder (map variable_of l) → claim_of c.value ≡ kernel_claim (claim_of b.value) → term_of (Comprehension v c) ≡ kernel_term k (term_of (Comprehension old b))
comprehension_kernel k v old b c l is bounds inner =
    let listed : map variable_of v.items ≡ kernel_variables (variable_list (map variable_of old.items)) = bounds ∙ ap (λ z. map kernel_binder (map variable_of z)) is ∙ sym (variables_listed (map variable_of old.items)) in
    comprehension_is v c ∙ ap (λ z. comprehension (variable_list z) (claim_of c.value)) listed ∙ ap (comprehension (variable_list (kernel_variables (variable_list (map variable_of old.items))))) inner ∙ sym (ap (kernel_term k) (comprehension_is old b))

pub sum_kernel : (k : Bool) (v old : Vec Variable Global) (b c : Box Expr Global) (l : List Variable) → l ≡ old.items → map variable_of v.items ≡ map kernel_binder (map variable_of l) → term_of c.value ≡ kernel_term false (term_of b.value) → term_of (Sum v c) ≡ kernel_term k (term_of (Sum old b))
sum_kernel k v old b c l is bounds inner =
    let listed : map variable_of v.items ≡ kernel_variables (variable_list (map variable_of old.items)) = bounds ∙ ap (λ z. map kernel_binder (map variable_of z)) is ∙ sym (variables_listed (map variable_of old.items)) in
    sum_over_is v c ∙ ap (λ z. sum_over (variable_list z) (term_of c.value)) listed ∙ ap (sum_over (variable_list (kernel_variables (variable_list (map variable_of old.items))))) inner ∙ sym (ap (kernel_term k) (sum_over_is old b))

-- conjunctions
pub every_none : (v : Vec Formula Global) → v.items ≡ [] → claim_of (Every v) ≡ truth
every_none v e = every_is v ∙ ap (λ fs. every (claim_list (map claim_of fs))) e

pub every_two : (v : Vec Formula Global) (f g : Formula) → v.items ≡ f ∷ g ∷ [] → claim_of (Every v) ≡ both (claim_of f) (claim_of g)
every_two v f g e = every_is v ∙ ap (λ fs. every (claim_list (map claim_of fs))) e

-- `all` with one variable
pub all_one : (v : Vec Variable Global) (x : Variable) (b : Box Formula Global) → v.items ≡ x ∷ [] → claim_of (ForAll v b) ≡ for_all (variable_list (variable_of x ∷ [])) (claim_of b.value)
all_one v x b e = for_all_is v b ∙ ap (λ vs. for_all (variable_list (map variable_of vs)) (claim_of b.value)) e

-- the last variable is the innermost
last_in : (vs : List Binder) (v : Binder) (f : Claim) → one_by_one vs (for_all (variable_list (v ∷ [])) f) ≡ one_by_one (vs ++ v ∷ []) f
last_in [] v f = refl
last_in (u ∷ vs) v f = ap (for_all (variable_list (u ∷ []))) (last_in vs v f)

pub one_by_one_step : {E : Type 0} (old new : List Variable) (v : Variable) (f g : Claim) (r : Result Formula E) → old ≡ new ++ v ∷ [] → g ≡ for_all (variable_list (variable_of v ∷ [])) f → IfOk r (λ h. claim_of h ≡ one_by_one (map variable_of new) g) → IfOk r (λ h. claim_of h ≡ one_by_one (map variable_of old) f)
one_by_one_step old new v f g r is inner = if_ok_to (λ h. claim_of h ≡ one_by_one (map variable_of new) g) (λ h. claim_of h ≡ one_by_one (map variable_of old) f)
    (λ h e. e ∙ ap (one_by_one (map variable_of new)) inner ∙ last_in (map variable_of new) (variable_of v) f ∙ sym (ap (λ z. one_by_one z f) (ap (map variable_of) is ∙ map-append variable_of new (v ∷ []))))
    r

pub one_by_one_end : (old : List Variable) (f : Claim) → length old ≡ 0 → f ≡ one_by_one (map variable_of old) f
one_by_one_end [] f none = refl
one_by_one_end (v ∷ vs) f none = absurd (omega (arith, none))

-- bounds without the atoms of variables before
names_last : (vs : List Binder) (v : Binder) (before : List ℕ) → names_onto (vs ++ v ∷ []) before ≡ v.name ∷ names_onto vs before
names_last [] v before = refl
names_last (u ∷ vs) v before = names_last vs v (u.name ∷ before)

pub apart_none : (list : List Variable) (place apart : ℕ) (e : Term) → apart ≡ 0 → e ≡ without e (take apart (names_onto (map variable_of (take place list)) []))
apart_none list place apart e none = sym (ap (λ k. without e (take k (names_onto (map variable_of (take place list)) []))) none ∙ ap (without e) (none_taken (names_onto (map variable_of (take place list)) [])))

take_none : (n : ℕ) → take n (names_onto [] []) ≡ []
take_none zero = refl
take_none (suc n) = refl

pub apart_first : (list : List Variable) (place apart : ℕ) (e : Term) → place ≡ 0 → e ≡ without e (take apart (names_onto (map variable_of (take place list)) []))
apart_first list place apart e none = sym (ap (λ k. without e (take apart (names_onto (map variable_of (take k list)) []))) none ∙ ap (λ l. without e (take apart (names_onto (map variable_of l) []))) (none_taken list) ∙ ap (without e) (take_none apart))

apart_taken : (list : List Variable) (place earlier apart fewer : ℕ) (v : Variable) → place ≡ suc earlier → apart ≡ suc fewer → earlier < length list → v ≡ get_or list earlier v → take apart (names_onto (map variable_of (take place list)) []) ≡ v.name ∷ take fewer (names_onto (map variable_of (take earlier list)) [])
apart_taken list place earlier apart fewer v one two low is =
    let taken : take place list ≡ take earlier list ++ v ∷ [] = ap (λ j. take j list) one ∙ take-suc list earlier v low ∙ ap (λ z. take earlier list ++ z ∷ []) (sym is) in
    let names : names_onto (map variable_of (take place list)) [] ≡ v.name ∷ names_onto (map variable_of (take earlier list)) []
    = ap (λ l. names_onto (map variable_of l) []) taken ∙ ap (λ l. names_onto l []) (map-append variable_of (take earlier list) (v ∷ [])) ∙ names_last (map variable_of (take earlier list)) (variable_of v) [] in
    ap (take apart) names ∙ ap (λ k. take k (v.name ∷ names_onto (map variable_of (take earlier list)) [])) two

pub apart_step : {E : Type 0} (list : List Variable) (place earlier apart fewer : ℕ) (v : Variable) (e d : Term) (r : Result Expr E) → place ≡ suc earlier → apart ≡ suc fewer → earlier < length list → v ≡ get_or list earlier v → d ≡ combine Difference e (name v.name) →
    IfOk r (λ c. term_of c ≡ without d (take fewer (names_onto (map variable_of (take earlier list)) []))) → IfOk r (λ c. term_of c ≡ without e (take apart (names_onto (map variable_of (take place list)) [])))
apart_step list place earlier apart fewer v e d r one two low is left = if_ok_to (λ c. term_of c ≡ without d (take fewer (names_onto (map variable_of (take earlier list)) []))) (λ c. term_of c ≡ without e (take apart (names_onto (map variable_of (take place list)) [])))
    (λ c h. h ∙ ap (λ z. without z (take fewer (names_onto (map variable_of (take earlier list)) []))) left ∙ sym (ap (without e) (apart_taken list place earlier apart fewer v one two low is)))
    r

-- the variable at a place by itself
alone_here : (before : List ℕ) (l : List Variable) (k : ℕ) (v : Variable) → k < length l → v ≡ get_or l k v → record { name = v.name; apart = 0; bound = without (term_of v.bound) (take v.apart (names_onto (map variable_of (take k l)) before)) } ≡ alone_at before (map variable_of l) k
alone_here before [] k v low is = absurd (omega (arith, low))
alone_here before (u ∷ l) zero v low is = ap (λ (x : Variable). alone_at before (variable_of x ∷ map variable_of l) 0) is
alone_here before (u ∷ l) (suc k) v low is = alone_here (u.name ∷ before) l k v (omega (arith, low)) is

binder_is : (b : Binder) (n : ℕ) (c : Term) → b.name ≡ n → b.apart ≡ 0 → b.bound ≡ c → b ≡ record { name = n; apart = 0; bound = c }
binder_is b n c one two three = ap (λ z. record { name = z; apart = b.apart; bound = b.bound }) one ∙ ap (λ z. record { name = n; apart = z; bound = b.bound }) two ∙ ap (λ z. record { name = n; apart = 0; bound = z }) three

pub single_is : (l : List Variable) (k : ℕ) (v new : Variable) (e : Term) → k < length l → v ≡ get_or l k v → new.name ≡ v.name → new.apart ≡ 0 → e ≡ term_of v.bound → term_of new.bound ≡ without e (take v.apart (names_onto (map variable_of (take k l)) [])) → variable_of new ≡ alone_at [] (map variable_of l) k
single_is l k v new e low is one two copy bound =
    let whole_bound : term_of new.bound ≡ without (term_of v.bound) (take v.apart (names_onto (map variable_of (take k l)) [])) = bound ∙ ap (λ z. without z (take v.apart (names_onto (map variable_of (take k l)) []))) copy in
    binder_is (variable_of new) v.name (without (term_of v.bound) (take v.apart (names_onto (map variable_of (take k l)) []))) one two whole_bound ∙ alone_here [] l k v low is

alone_length : (before : List ℕ) (vs : List Binder) → length (alone before vs) ≡ length vs
alone_length before [] = refl
alone_length before (v ∷ vs) = ap suc (alone_length (v.name ∷ before) vs)

map_length : {X Y : Type 0} (f : X → Y) (l : List X) → length (map f l) ≡ length l
map_length f [] = refl
map_length f (x ∷ l) = ap suc (map_length f l)

alone_next : (before : List ℕ) (vs : List Binder) (k : ℕ) → k < length vs → take (suc k) (alone before vs) ≡ take k (alone before vs) ++ alone_at before vs k ∷ []
alone_next before [] k low = absurd (omega (arith, low))
alone_next before (v ∷ vs) zero low = ap (λ r. record { name = v.name; apart = 0; bound = without v.bound (take v.apart before) } ∷ r) (none_taken (alone (v.name ∷ before) vs))
alone_next before (v ∷ vs) (suc k) low = ap (λ r. record { name = v.name; apart = 0; bound = without v.bound (take v.apart before) } ∷ r) (alone_next (v.name ∷ before) vs k (omega (arith, low)))

pub alone_more : (all new l : List Variable) (v : Variable) (k next : ℕ) → new ≡ all ++ v ∷ [] → next ≡ k + 1 → k < length l → map variable_of all ≡ take k (alone [] (map variable_of l)) → variable_of v ≡ alone_at [] (map variable_of l) k → map variable_of new ≡ take next (alone [] (map variable_of l))
alone_more all new l v k next one two low front last =
    let step : next ≡ suc k = omega (arith, two) in
    let count : k < length (map variable_of l) = subst (λ n. k < n) (sym (map_length variable_of l)) low in
    ap (map variable_of) one ∙ map-append variable_of all (v ∷ []) ∙ ap (λ z. z ++ variable_of v ∷ []) front ∙ ap (λ z. take k (alone [] (map variable_of l)) ++ z ∷ []) last ∙ sym (alone_next [] (map variable_of l) k count) ∙ sym (ap (λ j. take j (alone [] (map variable_of l))) step)

pub alone_all : (l : List Variable) (k : ℕ) → length l ≤ k → take k (alone [] (map variable_of l)) ≡ alone [] (map variable_of l)
alone_all l k low = whole (alone [] (map variable_of l)) k (subst (λ n. n ≤ k) (sym (alone_length [] (map variable_of l) ∙ map_length variable_of l)) low)

-- names that rise
pub rises_none : (l : List Variable) (least : ℕ) → length l ≡ 0 → true ≡ is_rising least (map variable_of l)
rises_none [] least none = refl
rises_none (v ∷ l) least none = absurd (omega (arith, none))

pub rises_low : (l rest : List Variable) (v : Variable) (least : ℕ) → l ≡ v ∷ rest → v.name < least → false ≡ is_rising least (map variable_of l)
rises_low l rest v least is low = cond_below v.name least false (is_rising (suc v.name) (map variable_of rest)) low ∙ sym (ap (λ z. is_rising least (map variable_of z)) is)

pub rises_on : (l rest : List Variable) (v : Variable) (least next : ℕ) (r : Bool) → l ≡ v ∷ rest → least ≤ v.name → next ≡ v.name + 1 → r ≡ is_rising next (map variable_of rest) → r ≡ is_rising least (map variable_of l)
rises_on l rest v least next r is high one e =
    let step : next ≡ suc v.name = omega (arith, one) in
    cond_above v.name least false (is_rising (suc v.name) (map variable_of rest)) r high (e ∙ ap (λ n. is_rising n (map variable_of rest)) step) ∙ sym (ap (λ z. is_rising least (map variable_of z)) is)

cond_same : (c : Bool) → (if c then true else false) ≡ c
cond_same true = refl
cond_same false = refl

not_below : (a n : ℕ) → n ≤ a → false ≡ nat_lt a n
not_below a n low = cond_above a n true false false low refl ∙ cond_same (nat_lt a n)

is_below : (a n : ℕ) → a < n → true ≡ nat_lt a n
is_below a n low = cond_below a n true false low ∙ cond_same (nat_lt a n)

few_not : (n : ℕ) (b : Bool) → n ≤ 9 → false ≡ nat_lt 9 n && b
few_not n b low = ap (λ c. c && b) (not_below 9 n low)

pub many_few : (l : List Variable) → length l ≤ 9 → false ≡ are_many_rising (map variable_of l)
many_few l low = few_not (length (map variable_of l)) (is_rising 0 (map variable_of l)) (subst (λ n. n ≤ 9) (sym (map_length variable_of l)) low)

pub many_more : (l : List Variable) (r : Bool) → 9 < length l → r ≡ is_rising 0 (map variable_of l) → r ≡ are_many_rising (map variable_of l)
many_more l r low e = e ∙ ap (λ c. c && is_rising 0 (map variable_of l)) (is_below 9 (length (map variable_of l)) (subst (λ n. 9 < n) (sym (map_length variable_of l)) low))

-- at most one choice
few_values : (vs : List Binder) (f : Claim) → length vs ≤ 9 → lone_values vs f ≡ lone_by_one vs f
few_values [] f low = refl
few_values (v ∷ vs) f low = cond_above 9 (length (v ∷ vs)) (both (lone_values (v ∷ []) (negation (one_by_one vs (negation f)))) (for_all (variable_list (v ∷ [])) (lone_by_one vs f))) (lone_values (v ∷ vs) f) (lone_values (v ∷ vs) f) low refl

pub lone_few : {E : Type 0} (l : List Variable) (vs : List Binder) (f : Claim) (r : Result Formula E) → length l ≤ 9 → vs ≡ map variable_of l → IfOk r (λ g. claim_of g ≡ lone_values vs f) → IfOk r (λ g. claim_of g ≡ lone_by_one (map variable_of l) f)
lone_few l vs f r low is = if_ok_to (λ g. claim_of g ≡ lone_values vs f) (λ g. claim_of g ≡ lone_by_one (map variable_of l) f)
    (λ g e. e ∙ ap (λ z. lone_values z f) is ∙ few_values (map variable_of l) f (subst (λ n. n ≤ 9) (sym (map_length variable_of l)) low))
    r

many_values : (v : Binder) (vs : List Binder) (f : Claim) → 9 < length (v ∷ vs) → both (lone_values (v ∷ []) (negation (one_by_one vs (negation f)))) (for_all (variable_list (v ∷ [])) (lone_by_one vs f)) ≡ lone_by_one (v ∷ vs) f
many_values v vs f low = cond_below 9 (length (v ∷ vs)) (both (lone_values (v ∷ []) (negation (one_by_one vs (negation f)))) (for_all (variable_list (v ∷ [])) (lone_by_one vs f))) (lone_values (v ∷ vs) f) low

pub lone_step : {E : Type 0} (l rest : List Variable) (v : Variable) (f single each : Claim) (r : Result Formula E) → 9 < length l → l ≡ v ∷ rest → single ≡ lone_values (variable_of v ∷ []) (negation (one_by_one (map variable_of rest) (negation f))) → each ≡ for_all (variable_list (variable_of v ∷ [])) (lone_by_one (map variable_of rest) f) →
    IfOk r (λ g. claim_of g ≡ both single each) → IfOk r (λ g. claim_of g ≡ lone_by_one (map variable_of l) f)
lone_step l rest v f single each r low is one two = if_ok_to (λ g. claim_of g ≡ both single each) (λ g. claim_of g ≡ lone_by_one (map variable_of l) f)
    (λ g e. e ∙ ap (λ z. both z each) one ∙ ap (both (lone_values (variable_of v ∷ []) (negation (one_by_one (map variable_of rest) (negation f))))) two
    ∙ many_values (variable_of v) (map variable_of rest) f (subst (λ n. 9 < n) (sym (map_length variable_of (v ∷ rest))) (subst (λ z. 9 < length z) is low))
    ∙ sym (ap (λ z. lone_by_one (map variable_of z) f) is))
    r

-- choices by whether names rise
pub under_rising : {E : Type 0} (vs : List Binder) (f : Claim) (r : Result Formula E) → true ≡ is_rising 0 vs → IfOk r (λ g. claim_of g ≡ one_by_one (alone [] vs) f) → IfOk r (λ g. claim_of g ≡ under vs f)
under_rising vs f r is = if_ok_to (λ g. claim_of g ≡ one_by_one (alone [] vs) f) (λ g. claim_of g ≡ under vs f) (λ g e. e ∙ ap (λ b. if b then one_by_one (alone [] vs) f else for_all (variable_list vs) f) is) r

pub under_falling : (vs : List Binder) (f g : Claim) → false ≡ is_rising 0 vs → g ≡ for_all (variable_list vs) f → g ≡ under vs f
under_falling vs f g is e = e ∙ ap (λ b. if b then one_by_one (alone [] vs) f else for_all (variable_list vs) f) is

pub lone_many : {E : Type 0} (vs : List Binder) (f : Claim) (r : Result Formula E) → true ≡ are_many_rising vs → IfOk r (λ g. claim_of g ≡ lone_by_one (alone [] vs) f) → IfOk r (λ g. claim_of g ≡ lone_under vs f)
lone_many vs f r is = if_ok_to (λ g. claim_of g ≡ lone_by_one (alone [] vs) f) (λ g. claim_of g ≡ lone_under vs f) (λ g e. e ∙ ap (λ b. if b then lone_by_one (alone [] vs) f else lone_values vs f) is) r

pub lone_others : {E : Type 0} (vs : List Binder) (f : Claim) (r : Result Formula E) → false ≡ are_many_rising vs → IfOk r (λ g. claim_of g ≡ lone_values vs f) → IfOk r (λ g. claim_of g ≡ lone_under vs f)
lone_others vs f r is = if_ok_to (λ g. claim_of g ≡ lone_values vs f) (λ g. claim_of g ≡ lone_under vs f) (λ g e. e ∙ ap (λ b. if b then lone_by_one (alone [] vs) f else lone_values vs f) is) r

abbrev One_of_many : List Binder → Claim → Claim
One_of_many vs f = both (negation (under vs (negation f))) (lone_by_one (alone [] vs) f)

abbrev One_of_few : List Binder → Claim → Claim
One_of_few vs f = negation (negation (test One (comprehension (variable_list vs) f)))

pub one_many : {E : Type 0} (vs : List Binder) (f : Claim) (r : Result Formula E) → true ≡ are_many_rising vs → IfOk r (λ g. claim_of g ≡ both (negation (under vs (negation f))) (lone_by_one (alone [] vs) f)) → IfOk r (λ g. claim_of g ≡ one_under vs f)
one_many vs f r is = if_ok_to (λ g. claim_of g ≡ One_of_many vs f) (λ g. claim_of g ≡ one_under vs f) (λ g e. e ∙ ap (λ b. if b then One_of_many vs f else One_of_few vs f) is) r

pub one_others : {E : Type 0} (vs : List Binder) (f c : Claim) (r : Result Formula E) → false ≡ are_many_rising vs → c ≡ negation (test One (comprehension (variable_list vs) f)) → IfOk r (λ g. claim_of g ≡ negation c) → IfOk r (λ g. claim_of g ≡ one_under vs f)
one_others vs f c r is one = if_ok_to (λ g. claim_of g ≡ negation c) (λ g. claim_of g ≡ one_under vs f) (λ g e. e ∙ ap negation one ∙ ap (λ b. if b then One_of_many vs f else One_of_few vs f) is) r

pub under_many : (v : Vec Variable Global) (b : Box Formula Global) → false ≡ is_rising 0 (map variable_of v.items) → claim_of (ForAll v b) ≡ under (map variable_of v.items) (claim_of b.value)
under_many v b is = under_falling (map variable_of v.items) (claim_of b.value) (claim_of (ForAll v b)) is (for_all_is v b)

pub all_only : (v : Vec Variable Global) (x : Binder) (b : Box Formula Global) → map variable_of v.items ≡ x ∷ [] → claim_of (ForAll v b) ≡ for_all (variable_list (x ∷ [])) (claim_of b.value)
all_only v x b e = for_all_is v b ∙ ap (λ vs. for_all (variable_list vs) (claim_of b.value)) e

-- the last steps of the kernel
pub for_all_tail : {E : Type 0} (old : Vec Variable Global) (b : Box Formula Global) (vs : List Binder) (f : Claim) (r : Result Formula E) (l : List Variable) → l ≡ old.items → vs ≡ map kernel_binder (map variable_of l) → f ≡ kernel_claim (claim_of b.value) → IfOk r (λ g. claim_of g ≡ under vs f) → IfOk r (λ g. claim_of g ≡ kernel_claim (claim_of (ForAll old b)))
for_all_tail old b vs f r l is bounds inner = if_ok_to (λ g. claim_of g ≡ under vs f) (λ g. claim_of g ≡ kernel_claim (claim_of (ForAll old b))) (λ g e. for_all_kernel old b vs f (claim_of g) l is bounds inner e) r

pub counted_tail : {E : Type 0} (q : Quantity) (old : Vec Variable Global) (b : Box Formula Global) (vs : List Binder) (f : Claim) (r : Result Formula E) (l : List Variable) → l ≡ old.items → vs ≡ map kernel_binder (map variable_of l) → f ≡ kernel_claim (claim_of b.value) → IfOk r (λ g. claim_of g ≡ counting q vs f) → IfOk r (λ g. claim_of g ≡ kernel_claim (claim_of (Counted q old b)))
counted_tail q old b vs f r l is bounds inner = if_ok_to (λ g. claim_of g ≡ counting q vs f) (λ g. claim_of g ≡ kernel_claim (claim_of (Counted q old b))) (λ g e. counted_kernel q old b vs f (claim_of g) l is bounds inner e) r

-- a derived operator over what is written out
pub from_one : {X E A T : Type 0} (data_of : X → T) (op : A → T) (a b : A) (t : T) (r : Result X E) → a ≡ b → op b ≡ t → IfOk r (λ g. data_of g ≡ op a) → IfOk r (λ g. data_of g ≡ t)
from_one data_of op a b t r one is = if_ok_to (λ g. data_of g ≡ op a) (λ g. data_of g ≡ t) (λ g e. e ∙ ap op one ∙ is) r

pub from_two : {X E A B T : Type 0} (data_of : X → T) (op : A → B → T) (a b : A) (c d : B) (t : T) (r : Result X E) → a ≡ b → c ≡ d → op b d ≡ t → IfOk r (λ g. data_of g ≡ op a c) → IfOk r (λ g. data_of g ≡ t)
from_two data_of op a b c d t r one two is = if_ok_to (λ g. data_of g ≡ op a c) (λ g. data_of g ≡ t) (λ g e. e ∙ ap (λ z. op z c) one ∙ ap (op b) two ∙ is) r
