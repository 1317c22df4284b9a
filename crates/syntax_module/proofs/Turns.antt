-- A list of right parts when one more right part was read.
use Rattle.std.proofs.Common.{◌≡◌, ◌<◌, Bool, true, false, List, [], ◌∷◌, ◌++◌, length, map, sym, ap}
use Rattle.std.specs.Bool.{OnTrue, OnFalse}
use Rattle.syntax_tree.specs.declared.token.Token.{Token}
use Rattle.syntax_tree.specs.declared.token.TokenKind.{TokenKind}
use Rattle.std.specs.Prelude.{IsTrue}
use Rattle.syntax_tree.specs.declared.token.Symbol.{Symbol}
use Rattle.syntax_tree.specs.Words.{Spelled, symbol}
use Rattle.syntax_tree.specs.Spelling.{separated, kinds, optional}
use Rattle.syntax_tree.specs.Levels.{every}
use Rattle.syntax_tree.proofs.Lists.{read_first, read_more}
use Rattle.syntax_module.proofs.Rules.{one_every, push_every}

module _ {A : Type 0} (test : A → Bool) (mark : Symbol) (f : A → Spelled) (x : A) (ys : List A) (whole after : Spelled) where
  pub first_right : ys ≡ x ∷ [] → whole ≡ f x ++ after → IsTrue (test x) →
      ((0 < length ys) × (whole ≡ separated mark (map f ys) ++ after)) × IsTrue (every test ys)
  first_right same e t = (read_first mark f x ys whole after same e, one_every test x ys same t)

  pub more_right : (xs : List A) (old mid : Spelled) → ys ≡ xs ++ x ∷ [] → 0 < length xs → whole ≡ separated mark (map f xs) ++ old →
      old ≡ symbol mark ∷ mid → mid ≡ f x ++ after → IsTrue (every test xs) → IsTrue (test x) →
      ((0 < length ys) × (whole ≡ separated mark (map f ys) ++ after)) × IsTrue (every test ys)
  more_right xs old mid same some e m r so_far t =
      (read_more mark f x ys whole after xs old mid same some e m r, push_every test x xs ys same so_far t)

-- a token that may come next, whether it did
pub optional_read : (found : Bool) (token : TokenKind) (old new : List Token) → OnTrue found (kinds old ≡ token ∷ kinds new) → OnFalse found (new ≡ old) →
    kinds old ≡ optional found token ++ kinds new
optional_read true token old new f k = f
optional_read false token old new f k = ap kinds (sym k)
