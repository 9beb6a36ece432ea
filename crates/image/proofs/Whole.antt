-- An image as a completed turn leaves it before clearing: sound but for the slots that
-- clearing zeroes and for the clock.
use Rattle.std.specs.Prelude.{ℕ, ◌≤◌, ◌≡◌, List, length}
use Rattle.program.specs.Bytes.{main_of}
use Rattle.image.specs.Memory.{main_at, word, used, reactor, next}
use Rattle.image.specs.Sound.{Tiles, Deployed, Grown}

pub record Whole (p m : List ℕ) : Type 0 where
  pub fits : used m ≤ length m
  pub tiles : Tiles p m (used m) main_at
  pub main : Deployed p m main_at
  pub first : reactor m main_at ≡ main_of p
  pub last : next m main_at ≡ 0
  pub rest : (i : ℕ) → used m ≤ i → word m i ≡ 0
  pub grown : Grown p m
