-- Rows that are made of others.
use Rattle.std.proofs.Common.{◌≡◌, ◌<◌, ◌+◌, ◌-◌, ℕ, Bool, ◌&&◌, not, List, length, refl, ap, ◌∙◌, arith}
use Rattle.gate_trait.specs.declared.node.Node.{Node}
use Rattle.gate_temporal.specs.Rows.{row_value}
use Rattle.bmc_stack.specs.Rows.{IsPart, IsNegated, AreBoth}
use Rattle.bmc_stack.specs.Logic.{IsImplied}
use Rattle.bmc_places.specs.Rows.{IsIff, IsElse, IsHeld, IsBoth}

and_both : {a b c d : Bool} → a ≡ b → c ≡ d → a && c ≡ b && d
and_both e f = cc

-- a row has the same values in both circuits
abbrev pub IsKeptRow : ((ℕ → Bool) → Node → Bool) → ((ℕ → Bool) → Node → Bool) → List Node → Type 0
IsKeptRow old new f = (x : ℕ → Bool) (i : ℕ) → row_value (new x) f i ≡ row_value (old x) f i

pub implied_row : (old new : (ℕ → Bool) → Node → Bool) (f g n m l : List Node) → IsNegated old g n → AreBoth old new f n m → IsNegated new m l → IsImplied old new f g (length f) l
implied_row old new f g n m l hn hm hl = record {
  long = hl.long ∙ hm.long;
  values = λ x i lt.
      let e1 = hn.long in let e2 = hm.second in let e3 = hm.long in
      let at_g : i < length g = omega (arith, lt, e1, e2) in
      let at_m : i < length m = omega (arith, lt, e3) in
      hl.values x i at_m ∙ ap not (hm.values x i lt ∙ and_both refl (hn.values x i at_g));
}

pub iff_row : (old mid last new : (ℕ → Bool) → Node → Bool) (f g a b r : List Node) → IsKeptRow old mid f → IsKeptRow old mid g → IsKeptRow mid last a → IsImplied old mid f g (length f) a → IsImplied mid last g f (length g) b → AreBoth last new a b r → IsIff old new f g r
iff_row old mid last new f g a b r keep_f keep_g keep_a ha hb hr = record {
  long = hr.long ∙ ha.long;
  values = λ x i lt.
      let e1 = ha.long in let e2 = hb.long in let e3 = hr.second in
      let at_a : i < length a = omega (arith, lt, e1) in
      let at_g : i < length g = omega (arith, lt, e1, e2, e3) in
      hr.values x i at_a ∙ and_both
      (keep_a x i ∙ ha.values x i lt)
      (hb.values x i at_g ∙ ap not (and_both (keep_g x i) (ap not (keep_f x i))));
}

pub else_row : (old mid last new : (ℕ → Bool) → Node → Bool) (f g h a n b r : List Node) → IsKeptRow old mid f → IsKeptRow old mid h → IsKeptRow mid last a → IsImplied old mid f g (length f) a → IsNegated mid f n → IsImplied mid last n h (length n) b → AreBoth last new a b r → IsElse old new f g h r
else_row old mid last new f g h a n b r keep_f keep_h keep_a ha hn hb hr = record {
  long = hr.long ∙ ha.long;
  values = λ x i lt.
      let e1 = ha.long in let e2 = hn.long in
      let at_a : i < length a = omega (arith, lt, e1) in
      let at_n : i < length n = omega (arith, lt, e2) in
      hr.values x i at_a ∙ and_both
      (keep_a x i ∙ ha.values x i lt)
      (hb.values x i at_n ∙ ap not (and_both (hn.values x i lt ∙ ap not (keep_f x i)) (ap not (keep_h x i))));
}

pub held_row : (old mid new : (ℕ → Bool) → Node → Bool) (f g h n p m l r : List Node) (from count : ℕ) → IsKeptRow old mid f → IsNegated old g n → IsPart old h from count p → AreBoth old mid n p m → IsNegated mid m l → AreBoth mid new f l r → IsHeld old new f g h from r
held_row old mid new f g h n p m l r from count keep_f hn hp hm hl hr = record {
  long = hr.long;
  values = λ x i lt.
      let e1 = hn.long in let e2 = hp.long in let e3 = hm.long in let e4 = hm.second in let e5 = hl.long in let e6 = hr.second in
      let at_m : i < length m = omega (arith, lt, e5, e6) in
      let at_n : i < length n = omega (arith, at_m, e3) in
      let at_g : i < length g = omega (arith, at_n, e1) in
      let at_p : i < count = omega (arith, at_n, e2, e4) in
      hr.values x i lt ∙ and_both (keep_f x i) (hl.values x i at_m ∙ ap not (hm.values x i at_n ∙ and_both (hn.values x i at_g) (hp.values x i at_p)));
}

pub both_row : (old new : (ℕ → Bool) → Node → Bool) (f h p r : List Node) (from count : ℕ) → IsPart old h from count p → AreBoth old new f p r → IsBoth old new f h from r
both_row old new f h p r from count hp hr = record {
  long = hr.long;
  values = λ x i lt.
      let e1 = hp.long in let e2 = hr.second in
      let at_p : i < count = omega (arith, lt, e1, e2) in
      hr.values x i lt ∙ and_both refl (hp.values x i at_p);
}

pub count_is : (from count : ℕ) → from + count - from ≡ count
count_is from count = omega arith
