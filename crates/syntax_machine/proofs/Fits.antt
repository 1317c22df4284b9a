-- What a tree shows that may stand for a goal, and what its parts then show.
use Rattle.std.proofs.Common.{◌≡◌, ℕ, ◌+◌, ◌<◌, ◌≤◌, max, Bool, true, false, not, ◌&&◌, ◌||◌, ◌==◌, nat_le, nat_lt, Option, Some, None, refl, sym, subst, arith}
use Rattle.std.proofs.lemmas.Bool.Decides.{nat_tests}
use Rattle.syntax_tree.specs.declared.shape.Shape.{Shape}
use Rattle.syntax_tree.specs.Levels.{may_lead, may_end, may_bound}
use Rattle.syntax_machine.specs.declared.thread.Goal.{Goal}
use Rattle.syntax_machine.specs.declared.thread.Mark.{Mark}
use Rattle.syntax_machine.specs.Machine.{inner, has_room, deeper, operand, whole, bound, leads}
use Rattle.syntax_machine.specs.Law.{is_within}

abbrev pub mark : Shape → Mark
mark s = record { level = s.level; is_open = s.is_open; is_bare = s.is_bare }

-- what shows this and is so deep may stand for the goal
pub record Fits (g : Goal) (s : Shape) (depth : ℕ) : Type 0 where
  pub right : s.right ≡ true
  pub tight : (g.is_block || (nat_le g.least s.level || s.level == 0)) ≡ true
  pub forms : (g.has_forms || not s.has_zero) ≡ true
  pub bars : (g.has_bars || not s.is_open) ≡ true
  pub words : (g.has_words || (not s.is_worded || nat_lt 0 s.level)) ≡ true
  pub minus : (g.has_minus || not s.has_minus) ≡ true
  pub block : (not g.is_block || s.is_block) ≡ true
  pub within : is_within g.room depth ≡ true

pub both_left : (a b : Bool) → (a && b) ≡ true → a ≡ true
both_left true b h = refl
both_left false b h = h

pub both_right : (a b : Bool) → (a && b) ≡ true → b ≡ true
both_right true b h = h
both_right false b h = cc

pub both : (a b : Bool) → a ≡ true → b ≡ true → (a && b) ≡ true
both true b p q = q
both false b p q = p

pub true_or : (a b : Bool) → b ≡ true → (a || b) ≡ true
true_or true b h = refl
true_or false b h = h

pub or_true : (a b : Bool) → a ≡ true → (a || b) ≡ true
or_true true b h = refl
or_true false b h = cc

-- what isn't a block stands where none is asked for
pub no_block : (b : Bool) → (not b || false) ≡ true → b ≡ false
no_block true h = sym h
no_block false h = refl

pub of_not : (b : Bool) → not b ≡ true → b ≡ false
of_not true h = sym h
of_not false h = refl

pub not_of : (b : Bool) → b ≡ false → not b ≡ true
not_of true h = sym h
not_of false h = refl

-- where a part has it the whole has it
pub weaker : (f a b : Bool) → (not a || b) ≡ true → (f || not b) ≡ true → (f || not a) ≡ true
weaker true a b h k = refl
weaker false true true h k = k
weaker false true false h k = h
weaker false false b h k = refl

pub has_first : (a b : Bool) → (not a || (a || b)) ≡ true
has_first true b = refl
has_first false b = refl

pub has_second : (a b : Bool) → (not b || (a || b)) ≡ true
has_second true true = refl
has_second true false = refl
has_second false true = refl
has_second false false = refl

pub least_of_all : (n : ℕ) → (nat_le 0 n || (n == 0)) ≡ true
least_of_all n = or_true (nat_le 0 n) (n == 0) (grind (arith, nat_tests))

-- the room of a part that is less deep than the whole
pub has_room_for : (room : Option ℕ) (d e : ℕ) → d + 1 ≤ e → is_within room e ≡ true → has_room room d ≡ true
has_room_for None d e le h = refl
has_room_for (Some room) d e le h = grind (arith, nat_tests)

pub within_inner : (room : Option ℕ) (d e : ℕ) → d + 1 ≤ e → is_within room e ≡ true → is_within (inner room) d ≡ true
within_inner None d e le h = refl
within_inner (Some room) d e le h = grind (arith, nat_tests)

pub within_less : (room : Option ℕ) (d e : ℕ) → d ≤ e → is_within room e ≡ true → is_within room d ≡ true
within_less None d e le h = refl
within_less (Some room) d e le h = grind (arith, nat_tests)

pub deeper_within : (d e : ℕ) → d ≤ e → deeper d ≤ e + 1
deeper_within d e le = omega arith

pub deeper_below : (d e f : ℕ) → d ≤ e → e + 1 ≤ f → deeper d ≤ f
deeper_below d e f p q = omega arith

pub max_within : (a b e : ℕ) → a ≤ e → b ≤ e → max a b ≤ e
max_within a b e p q = omega arith

-- an operator of a level that the goal allows
pub allowed : (least level : ℕ) → (nat_le least level || (level == 0)) ≡ true → 0 < level → nat_le least level ≡ true
allowed least level h some = grind (arith, nat_tests)

higher : (least level more : ℕ) → (nat_le least level || (level == 0)) ≡ true → 0 < level → level ≤ more → nat_le least more ≡ true
higher least level more h some le = grind (arith, nat_tests)

pub at_most : (a b : ℕ) → nat_le a b ≡ true → a ≤ b
at_most a b h = grind (arith, nat_tests)

some_level : (a b : ℕ) → 0 < a → a ≤ b → nat_lt 0 b ≡ true
some_level a b p q = grind (arith, nat_tests)

-- what isn't a block has a level that the goal allows, or is a level 0 form
pub level_of : {g : Goal} {s : Shape} {depth : ℕ} → Fits g s depth → s.is_block ≡ false → (nat_le g.least s.level || s.level == 0) ≡ true
level_of {g} {s} {depth} fits other = subst (λ b. (b || (nat_le g.least s.level || s.level == 0)) ≡ true)
    (no_block g.is_block (subst (λ b. (not g.is_block || b) ≡ true) other fits.block)) fits.tight

-- between brackets
pub whole_fits : (room : Option ℕ) (s : Shape) (d e : ℕ) → s.right ≡ true → d + 1 ≤ e → is_within room e ≡ true → Fits (whole (inner room)) s d
whole_fits room s d e right le within = record {
  right = right;
  tight = least_of_all s.level;
  forms = refl;
  bars = refl;
  words = refl;
  minus = refl;
  block = refl;
  within = within_inner room d e le within;
}

-- the first operand of an expression
pub first_fits : (g : Goal) (s first : Shape) (d e : ℕ) → Fits g s e → first.right ≡ true → first.is_open ≡ false → 0 < s.level → s.level ≤ first.level → (not first.has_zero || s.has_zero) ≡ true →
    s.has_minus ≡ first.has_minus → s.is_block ≡ false → d ≤ e → Fits g first d
first_fits g s first d e fits right closed_ some tight zero_in same other le = record {
  right = right;
  tight = true_or g.is_block (nat_le g.least first.level || first.level == 0) (or_true (nat_le g.least first.level) (first.level == 0) (higher g.least s.level first.level (level_of fits other) some tight));
  forms = weaker g.has_forms first.has_zero s.has_zero zero_in fits.forms;
  bars = true_or g.has_bars (not first.is_open) (not_of first.is_open closed_);
  words = true_or g.has_words (not first.is_worded || nat_lt 0 first.level) (true_or (not first.is_worded) (nat_lt 0 first.level) (some_level s.level first.level some tight));
  minus = subst (λ b. (g.has_minus || not b) ≡ true) same fits.minus;
  block = or_true (not g.is_block) first.is_block (not_of g.is_block (no_block g.is_block (subst (λ b. (not g.is_block || b) ≡ true) other fits.block)));
  within = within_less g.room d e le fits.within;
}

-- an operand that is the last one or that is not open
pub operand_fits : (g : Goal) (s x : Shape) (least d e : ℕ) → Fits g s e → may_end least x ≡ true → (g.has_bars || not x.is_open) ≡ true → (not x.has_zero || s.has_zero) ≡ true → d + 1 ≤ e →
    Fits (operand g least) x d
operand_fits g s x least d e fits ends bars zero_in le = record {
  right = both_left x.right (nat_le least x.level || x.level == 0) ends;
  tight = both_right x.right (nat_le least x.level || x.level == 0) ends;
  forms = weaker g.has_forms x.has_zero s.has_zero zero_in fits.forms;
  bars = bars;
  words = refl;
  minus = refl;
  block = refl;
  within = within_inner g.room d e le fits.within;
}

pub bound_fits : (room : Option ℕ) (s : Shape) (d : ℕ) → may_bound s ≡ true → is_within room d ≡ true → Fits (bound room) s d
bound_fits room s d h within = record {
  right = both_left s.right (nat_le 10 s.level) (both_left (s.right && nat_le 10 s.level) (not s.has_zero) h);
  tight = or_true (nat_le 10 s.level) (s.level == 0) (both_right s.right (nat_le 10 s.level) (both_left (s.right && nat_le 10 s.level) (not s.has_zero) h));
  forms = both_right (s.right && nat_le 10 s.level) (not s.has_zero) h;
  bars = refl;
  words = refl;
  minus = refl;
  block = refl;
  within = within;
}

-- an operand that may lead
pub lead_right : (least : ℕ) (x : Shape) → may_lead least x ≡ true → x.right ≡ true
lead_right least x h = both_left x.right (nat_le least x.level) (both_left (x.right && nat_le least x.level) (not x.is_open) h)

pub lead_tight : (least : ℕ) (x : Shape) → may_lead least x ≡ true → nat_le least x.level ≡ true
lead_tight least x h = both_right x.right (nat_le least x.level) (both_left (x.right && nat_le least x.level) (not x.is_open) h)

pub lead_shut : (least : ℕ) (x : Shape) → may_lead least x ≡ true → x.is_open ≡ false
lead_shut least x h = of_not x.is_open (both_right (x.right && nat_le least x.level) (not x.is_open) h)

-- the operator of a new node, whose left operand is right
pub leads_on : (g : Goal) (level left : ℕ) (x : Shape) (d e : ℕ) → (nat_le g.least level || (level == 0)) ≡ true → 0 < level → nat_le left x.level ≡ true → x.is_open ≡ false → d + 1 ≤ e → is_within g.room e ≡ true →
    leads level left g (mark x) d ≡ true
leads_on g level left x d e allows some tight closed_ le within =
    both (nat_le g.least level) (nat_le left x.level && (not x.is_open && has_room g.room d)) (allowed g.least level allows some)
    (both (nat_le left x.level) (not x.is_open && has_room g.room d) tight
    (both (not x.is_open) (has_room g.room d) (not_of x.is_open closed_) (has_room_for g.room d e le within)))
