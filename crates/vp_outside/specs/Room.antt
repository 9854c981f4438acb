-- Bytes with room for more, and a sink over them.
use Rattle.std.specs.Prelude.{ℕ, List}

-- the bytes so far, and how many they may become without memory
pub record Room : Type 0 where
  pub items : List ℕ
  pub capacity : ℕ

-- a sink in memory: the bytes written, its plan, and its counts
pub record SinkState : Type 0 where
  pub bytes : List ℕ
  pub room : ℕ
  pub takes : ℕ
  pub fails : List ℕ
  pub calls : ℕ
  pub faults : ℕ
