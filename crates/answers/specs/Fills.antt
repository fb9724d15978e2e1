-- What a call from C or Rust that fills a lent buffer answers, and what the buffer then holds.
use Rattle.std.specs.Prelude.{ℕ, true, false, List, ◌≡◌, ltb, length}
use Rattle.formats.specs.Results.{Result, on_value}
use Rattle.formats.specs.Blocks.{buffer_after}
use Rattle.answers.specs.Answer.{answer_slots, Answers}

-- A call that also fills a lent buffer, which is `buffer` at entry and `filled` at exit. Where the
-- answer array has too few slots, this buffer is untouched too.
pub record Fills (due : Result (List ℕ)) (buffer filled before after : List ℕ) (r : ℕ) : Type 0 where
  pub answers : Answers (on_value length due) before after r
  pub buffer_is : filled ≡ elim (ltb (length before) answer_slots) [ true ↦ buffer | false ↦ buffer_after buffer due ]
