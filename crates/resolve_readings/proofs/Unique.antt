-- A root has at most one reading.
use Rattle.std.proofs.Common.{◌≡◌, Bool, true, false, not, ◌&&◌, refl, sym, inl, inr}
use Rattle.resolve_readings.specs.declared.part.Typing.{Typing}
use Rattle.resolve_readings.specs.Readings.{Choice, IsRight, IsRelevant, IsPlain, IsReading}
use Rattle.resolve_readings.specs.declared.part.Part.{Part}

second_true : (a b : Bool) → (a && b) ≡ true → b ≡ true
second_true true b e = e
second_true false b e = absurd cc

module _ (typing : Typing) (root : Part) where
  relevant_right : (c : Choice) → IsRelevant typing root c → IsRight typing root c
  relevant_right c h = (h.0, h.1, refl)

  plain_right : (c : Choice) → IsPlain typing root c → IsRight typing root c
  plain_right c (inl h) = (h.0, h.1, refl)
  plain_right c (inr h) = (h.1.0, h.1.1, refl)

  -- where something is relevant, what is plain is relevant
  plain_relevant : (c d : Choice) → IsRelevant typing root c → IsPlain typing root d → IsRelevant typing root d
  plain_relevant c d r (inl h) = (h.0, h.1, second_true (not h.0.integer) h.0.relevant h.2)
  plain_relevant c d r (inr h) = absurd (h.0 c r)

  pub one_reading : (c d : Choice) → IsReading typing root c → IsReading typing root d → c ≡ d
  one_reading c d (inl a) (inl b) = b.1 c a.0
  one_reading c d (inl a) (inr (inl b)) = sym (a.1 d (relevant_right d b.0))
  one_reading c d (inl a) (inr (inr b)) = sym (a.1 d (plain_right d b.0))
  one_reading c d (inr (inl a)) (inl b) = b.1 c (relevant_right c a.0)
  one_reading c d (inr (inl a)) (inr (inl b)) = b.1 c a.0
  one_reading c d (inr (inl a)) (inr (inr b)) = sym (a.1 d (plain_relevant c d a.0 b.0))
  one_reading c d (inr (inr a)) (inl b) = b.1 c (plain_right c a.0)
  one_reading c d (inr (inr a)) (inr (inl b)) = b.1 c (plain_relevant d c b.0 a.0)
  one_reading c d (inr (inr a)) (inr (inr b)) = b.1 c a.0
