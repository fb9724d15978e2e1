-- The limits of the order checker: words in a frame, trees pending.
use Rattle.std.specs.Prelude.{ℕ}

-- 01, Words: "16 is the most".
abbrev pub most_frame_words : ℕ
most_frame_words = 16

-- 01, Pass two: "The pending trees are a list of at most 16 numbers".
abbrev pub most_pending : ℕ
most_pending = 16
