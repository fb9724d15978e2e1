-- What a call that fills a lent buffer answers, and what the buffer then holds.
use Rattle.std.specs.Prelude.{ℕ, List, ◌≡◌, length}
use Rattle.std.specs.Prelude.{Result as Answer}
use Rattle.formats.specs.Results.{Result, on_value}
use Rattle.formats.specs.Blocks.{buffer_after}
use Rattle.refusal.specs.Inner.Answered.{answered}
use Rattle.refusal.specs.declared.Refused.{Refused}

-- The bytes written, or the refusal's number and its position.
abbrev pub filled_result : Answer ℕ Refused → Result ℕ
filled_result r = answered (λ bytes. bytes) r

-- `due` is what is to go into the buffer: bytes, or a refusal. It decides the answer, and every
-- byte of the buffer.
pub record FilledBuffer (due : Result (List ℕ)) (before after : List ℕ) (r : Answer ℕ Refused) : Type 0 where
  pub answer : filled_result r ≡ on_value length due
  pub buffer : after ≡ buffer_after before due
