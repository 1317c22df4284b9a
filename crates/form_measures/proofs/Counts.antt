-- Counts up to the greatest number, and the greater of two.
use Rattle.std.proofs.Common.{◌≡◌, ℕ, ◌+◌, ◌-◌, ◌^◌, ◌≤◌, ◌<◌, min, max, nat_lt, Bool, true, false, sym, ap, ap₂, ◌∙◌, subst, arith}
use Rattle.std.proofs.lemmas.Bool.{ltb-true, ltb-false, lt-ltb, le-ltb}
use Rattle.form_measures.specs.Measured.{up_to, raised}

-- the greater of two, and a limit
pub max_end : (a b c : ℕ) → max a (max b c) ≡ max (max a b) c
max_end a b c = omega arith

pub max_swap : (a b c : ℕ) → max a (max b c) ≡ max b (max a c)
max_swap a b c = omega arith

pub max_none : (a : ℕ) → max a 0 ≡ a
max_none a = omega arith

none_max : (a : ℕ) → max 0 a ≡ a
none_max a = omega arith

add_max : (by a b : ℕ) → by + max a b ≡ max (by + a) (by + b)
add_max by a b = omega arith

max_add : (a b x : ℕ) → max a b + x ≡ max (a + x) (b + x)
max_add a b x = omega arith

cap_max : (a b most : ℕ) → min (max a b) most ≡ max (min a most) (min b most)
cap_max a b most = omega arith

cap_cap : (a most : ℕ) → min (min a most) most ≡ min a most
cap_cap a most = omega arith

pub cap_add : (by a most : ℕ) → min (by + min a most) most ≡ min (by + a) most
cap_add by a most = omega arith

add_cap : (a x most : ℕ) → min (min a most + x) most ≡ min (a + x) most
add_cap a x most = omega arith

cap_more : (a b most : ℕ) → a ≤ b → min a most ≤ min b most
cap_more a b most le = omega (arith, le)

pub cap_far : (a most : ℕ) → most ≤ a → min (1 + a) most ≡ min a most
cap_far a most far = omega (arith, far)

add_none : (a : ℕ) → 0 + a ≡ a
add_none a = omega arith

add_end : (a b c : ℕ) → a + b + c ≡ a + (b + c)
add_end a b c = omega arith

over_cap : (n most limit : ℕ) → limit < min n most → limit < n
over_cap n most limit lt = omega (arith, lt)

under_cap : (n most limit : ℕ) → limit < most → min n most ≤ limit → n ≤ limit
under_cap n most limit few far = omega (arith, few, far)

pub up_to_max : (a b : ℕ) → up_to (max a b) ≡ max (up_to a) (up_to b)
up_to_max a b = cap_max a b (2 ^ 32 - 1)

pub up_to_again : (a : ℕ) → up_to (up_to a) ≡ up_to a
up_to_again a = cap_cap a (2 ^ 32 - 1)

pub raised_max : (by a b : ℕ) → raised by (max a b) ≡ max (raised by a) (raised by b)
raised_max by a b = ap up_to (add_max by a b) ∙ up_to_max (by + a) (by + b)

raised_either : (a b x : ℕ) → raised (max a b) x ≡ max (raised a x) (raised b x)
raised_either a b x = ap up_to (max_add a b x) ∙ up_to_max (a + x) (b + x)

pub raised_up_to : (by a : ℕ) → raised by (up_to a) ≡ up_to (by + a)
raised_up_to by a = cap_add by a (2 ^ 32 - 1)

pub raised_raised : (by u x : ℕ) → raised (raised by u) x ≡ raised by (raised u x)
raised_raised by u x = add_cap (by + u) x (2 ^ 32 - 1) ∙ ap up_to (add_end by u x) ∙ sym (raised_up_to by (u + x))

pub raised_none : (a : ℕ) → raised 0 a ≡ up_to a
raised_none a = ap up_to (add_none a)

pub raised_more : (by a b : ℕ) → a ≤ b → raised by a ≤ raised by b
raised_more by a b le = cap_more (by + a) (by + b) (2 ^ 32 - 1) (omega (arith, le))

-- one more use among uses that are taken over
pub uses_turn : (none old start taken new here : ℕ) → max none old ≡ max start taken → new ≡ max old here → max none new ≡ max start (max taken here)
uses_turn none old start taken new here was is = ap (max none) is ∙ max_end none old here ∙ ap (λ (n : ℕ). max n here) was ∙ sym (max_end start taken here)

up_to_raised : (by a : ℕ) → up_to (raised by a) ≡ raised by a
up_to_raised by a = up_to_again (by + a)

raised_cap : (by a : ℕ) → raised by (up_to a) ≡ raised by a
raised_cap by a = raised_up_to by a

absorbed : (a b : ℕ) → b ≤ a → max a b ≡ a
absorbed a b le = omega (arith, le)

pub max_flip : (a b : ℕ) → max a b ≡ max b a
max_flip a b = omega arith

pub max_last : (a b c : ℕ) → max (max a b) c ≡ max (max a c) b
max_last a b c = sym (max_end a b c) ∙ ap (max a) (max_flip b c) ∙ max_end a c b

-- two numbers of their own, with uses
taken_over : (mine more none first taken new : ℕ) → none ≤ more → max none new ≡ max first taken → max (max mine more) new ≡ max (max mine first) (max more taken)
taken_over mine more none first taken new le is =
    ap (λ (n : ℕ). max (max mine n) new) (sym (absorbed more none le))
    ∙ sym (max_end mine (max more none) new) ∙ ap (max mine) (sym (max_end more none new) ∙ ap (max more) is ∙ max_swap more first taken) ∙ max_end mine first (max more taken)

pub joined_uses : (by own more none first taken second new : ℕ) → more ≡ raised by own → none ≡ raised by 0 → taken ≡ raised by second → max none new ≡ max first taken → (mine : ℕ) → up_to (max (max mine more) new) ≡ max (up_to (max mine first)) (raised by (up_to (max own second)))
joined_uses by own more none first taken second new e f g is mine =
    let below : raised by 0 ≤ raised by own = raised_more by 0 own (omega arith) in
    let le : none ≤ more = subst (λ (n : ℕ). none ≤ n) (sym e) (subst (λ (n : ℕ). n ≤ raised by own) (sym f) below) in
    ap up_to (taken_over mine more none first taken new le is) ∙ up_to_max (max mine first) (max more taken)
    ∙ ap (max (up_to (max mine first)))
    (up_to_max more taken ∙ ap₂ (λ (m n : ℕ). max (up_to m) (up_to n)) e g ∙ ap₂ max (up_to_raised by own) (up_to_raised by second) ∙ sym (raised_max by own second) ∙ sym (raised_cap by (max own second)))

pub called_uses : (own taken here : ℕ) (by there : ℕ) → here ≡ raised by there → max (up_to (max own taken)) here ≡ up_to (max own (max taken here))
called_uses own taken here by there e =
    ap (max (up_to (max own taken))) (e ∙ sym (up_to_raised by there) ∙ ap up_to (sym e)) ∙ sym (up_to_max (max own taken) here) ∙ ap up_to (sym (max_end own taken here))

pub is_up_to : (a : ℕ) → up_to (max 0 (max (raised 0 a) 0)) ≡ raised 0 a
is_up_to a = ap up_to (none_max (max (raised 0 a) 0) ∙ max_none (raised 0 a)) ∙ up_to_raised 0 a

pub up_to_kept : (a : ℕ) → max 0 (raised 0 (up_to a)) ≡ up_to a
up_to_kept a = none_max (raised 0 (up_to a)) ∙ raised_none (up_to a) ∙ up_to_again a

pub both_kept : (a b : ℕ) → max a (raised 0 (up_to b)) ≡ max a (up_to b)
both_kept a b = ap (max a) (raised_none (up_to b) ∙ up_to_again b)

pub more_kept : (a : ℕ) → max 0 (raised 1 a) ≡ raised 1 a
more_kept a = none_max (raised 1 a)

pub none_argument : (own uses by : ℕ) → up_to (max (max own (raised by 0)) uses) ≡ max (up_to (max own uses)) (raised by 0)
none_argument own uses by = ap up_to (max_last own (raised by 0) uses) ∙ up_to_max (max own uses) (raised by 0) ∙ ap (max (up_to (max own uses))) (up_to_raised by 0)

pub raised_deepest : (known depth x rest : ℕ) → max (raised (max known depth) x) rest ≡ max (max (raised known x) rest) (raised depth x)
raised_deepest known depth x rest = ap (λ (n : ℕ). max n rest) (raised_either known depth x) ∙ max_last (raised known x) (raised depth x) rest

pub is_over : (n limit : ℕ) (b : Bool) → limit + 1 < 2 ^ 32 → nat_lt limit (up_to n) ≡ b → b ≡ nat_lt limit n
is_over n limit true few e = sym (lt-ltb limit n (over_cap n (2 ^ 32 - 1) limit (ltb-true limit (up_to n) e)))
is_over n limit false few e = sym (le-ltb limit n (under_cap n (2 ^ 32 - 1) limit (omega (arith, few)) (ltb-false limit (up_to n) e)))

pub own_none : (own : ℕ) → own ≡ max own 0
own_none own = sym (max_none own)

pub own_turn : (own most here : ℕ) → max (max own most) (raised here 0) ≡ max own (max most (raised here 0))
own_turn own most here = sym (max_end own most (raised here 0))

pub own_end : (most : ℕ) → raised 0 most ≡ up_to most
own_end most = raised_none most
