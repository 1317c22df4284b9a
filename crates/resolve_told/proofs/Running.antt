-- What a command asks, put together from what the code finds of it.
use Rattle.std.proofs.Common.{◌≡◌, ◌∙◌, ℕ, ◌<◌, Bool, true, false, nat_eq, List, [], ◌∷◌, Some, length, map, get_or, refl, sym, ap, subst, arith}
use Rattle.std.proofs.lemmas.Bool.{eqb-true}
use Rattle.std.specs.Prelude.{slice_get, Contains, Option, None, IfSome}
use Rattle.syntax_tree.specs.declared.module.Pred.{Pred}
use Rattle.syntax_tree.specs.declared.module.Paragraph.TheVariants as paragraph
use Rattle.core_tree.specs.Trees.{Claim}
use Rattle.resolve_said.specs.Said.{Standing}
use Rattle.resolve_told.specs.Bodies as told
use Rattle.resolve_told.specs.Bodies.{Declared}
use Rattle.resolve_told.specs.Commands.{IsOwnCall, RunsSome, RunsWith}
use Rattle.resolve_told.specs.Views.{declaration}
use Rattle.resolve_told.specs.declared.texts.Declaration.{Declaration}
use Rattle.resolve_told.proofs.Walk.{got_seen}

pub none_there : {A B : Type 0} (f : A → B) (xs : List A) → nat_eq (length xs) 0 ≡ true → map f xs ≡ []
none_there f [] e = refl
none_there f (x ∷ xs) e = absurd (omega (arith, eqb-true (length (x ∷ xs)) 0 e))

pub some_there : {A B : Type 0} (f : A → B) (xs : List A) → nat_eq (length xs) 0 ≡ false → map f xs ≡ [] → ⊥
some_there f [] e none = absurd cc
some_there f (x ∷ xs) e none = absurd cc

pub runs_none : (at : Standing) (b : ℕ) (ds : List Declared) (c : Claim) → ds ≡ [] → IsOwnCall b ds c → RunsWith at b ds c
runs_none at b [] c e own = own
runs_none at b (d ∷ ds) c e own = absurd cc

pub runs_more : (at : Standing) (b : ℕ) (ds : List Declared) (c : Claim) → (ds ≡ [] → ⊥) → RunsSome at b ds c → RunsWith at b ds c
runs_more at b [] c never some = absurd (never refl)
runs_more at b (d ∷ ds) c never some = some

pub contained : {A : Type 0} (xs : List A) (i : ℕ) (x y : A) → i < length xs → x ≡ get_or xs i x → x ≡ y → Contains xs y
contained xs i x y inside at same = (i, inside, subst (λ z. get_or xs i z ≡ z) same (sym at))

-- body i is declared by this predicate
pub body_at : (bodies : List Declaration) (all : List told.Declaration) (i : ℕ) (x : Declaration) (p : Pred) → map declaration bodies ≡ all → i < length bodies → x ≡ get_or bodies i x →
    x.paragraph.now ≡ paragraph.Pred p → slice_get all i ≡ Some (x.instance, paragraph.Pred p)
body_at bodies all i x p has inside at is =
    subst (λ zs. slice_get zs i ≡ Some (x.instance, paragraph.Pred p)) has (got_seen declaration bodies i x inside at ∙ ap (λ q. Some (x.instance, q)) is)

pub if_some_of : {A : Type 0} (P : A → Type 0) (o : Option A) (x : A) → o ≡ Some x → IfSome o P → P x
if_some_of P o x is there = subst (λ z. IfSome z P) is there

pub not_both : (b : Bool) → b ≡ true → b ≡ false → ⊥
not_both true is never = absurd cc
not_both false is never = absurd cc

pub if_some_to : {A : Type 0} (P Q : A → Type 0) → ((x : A) → P x → Q x) → (o : Option A) → IfSome o P → IfSome o Q
if_some_to P Q f None there = there
if_some_to P Q f (Some x) there = f x there

pub one_part : (xs : List (List ℕ)) (x y : List ℕ) → length xs ≡ 1 → x ≡ get_or xs 0 x → x ≡ y → xs ≡ y ∷ []
one_part [] x y one at same = absurd (omega (arith, one))
one_part (z ∷ []) x y one at same = ap (λ w. w ∷ []) (sym at ∙ same)
one_part (z ∷ w ∷ ws) x y one at same = absurd (omega (arith, one))

pub first_part : (xs : List (List ℕ)) (x y : List ℕ) → xs ≡ y ∷ [] → x ≡ get_or xs 0 x → x ≡ y
first_part xs x y is at = at ∙ ap (λ zs. get_or zs 0 x) is
