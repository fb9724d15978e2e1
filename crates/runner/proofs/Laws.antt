-- A law for each way out of the runner. It is enough that a call gives what the definition gives:
-- demand 3 about the call follows (`translation/proofs/Calls`).
use Prim.Native.Nat.{ℕ, ◌+◌, ◌≤◌}
use mathlib.Core.List.{List}
use mathlib.Core.Path.{◌≡◌, refl, sym, ap, ap₂, ◌∙◌}
use native.Mathlib.Omega.{arith}
use lib.ListN.{length, take, replicate, length-replicate}
use Rattle.formats.specs.Numbers.{Bytes}
use Rattle.formats.specs.Results.{done, refusal}
use Rattle.formats.specs.Blocks.{buffer_after}
use Rattle.formats.proofs.Results.{value_inv, value_refused}
use Rattle.formats.proofs.Written.{front_written, wrote}
use Rattle.refusal.specs.Inner.Numbers.{number}
use Rattle.refusal.specs.Inner.FilledBuffer.{FilledBuffer, filled_result as filled_with}
use Rattle.std.specs.Prelude.{Result as Filled, Ok, Err}
use Rattle.refusal.specs.declared.Refused.{Refused}
use Rattle.meaning.specs.Running.{value_words, return_words, of_code, stream_run}
use Rattle.meaning.specs.WorkWords.{WorkWords, before_stream}
use Rattle.meaning.proofs.WorkWords.{untouched}
use Rattle.machine_state.specs.Inner.Answers.{run_answer, nothing_done, Performed}
use Rattle.machine_state.specs.declared.Answer.{Answer}
use Rattle.translation.specs.TranslateAndRun.{FileRan, prepared, refused_before, run_file}
use Rattle.translation.proofs.Calls.{prepared_inv, called_refused, called_runs, program_run}
use Rattle.translation.proofs.PreparedCode.{own_program, never_cannot}
use Rattle.operations.specs.Inner.Checked.{Safe, NeverCannot}
use Rattle.runner.specs.Inner.RunnerCall.{RunnerCall}

-- ---- what was prepared

module _ (file code : List ℕ) (values returns : ℕ) (emitted : Filled ℕ Refused) (code' : List ℕ) (put : FilledBuffer (prepared (length code) values returns file) code code' emitted) where
  -- the code stands at the start of the buffer
  pub record Emitted (bytes : ℕ) : Type 0 where
    pub own : List ℕ
    pub is : prepared (length code) values returns file ≡ done own
    pub there : take bytes code' ≡ own
    pub buffer : code' ≡ buffer_after code (done own)
    pub inside : bytes ≤ length code'

  pub emitted_there : (bytes : ℕ) → emitted ≡ Ok bytes → Emitted bytes
  unfolding buffer_after
  emitted_there bytes is =
      let v = value_inv length (prepared (length code) values returns file) bytes (sym put.answer ∙ ap filled_with is) in
      let p = prepared_inv (length code) values returns file v.value v.first in
      let room : 0 + length v.value ≤ length code = omega (arith, p.short_enough) in
      let there : code' ≡ buffer_after code (done v.value) = put.buffer ∙ ap (buffer_after code) v.first in
      let front : take (0 + length v.value) code' ≡ v.value = ap (take (0 + length v.value)) there ∙ front_written code 0 v.value room in
      let many : 0 + length v.value ≡ bytes = omega (arith, v.second) in
      record {
        own = v.value;
        is = v.first;
        there = ap (λ n. take n code') (sym many) ∙ front;
        buffer = there;
        inside = omega (arith, ap length there, (wrote code 0 v.value).same_length);
      }

  pub run_inside : (bytes : ℕ) → emitted ≡ Ok bytes → bytes ≤ length code'
  run_inside bytes is = (emitted_there bytes is).inside

  -- and the words are lent
  pub values_lent : (bytes : ℕ) → emitted ≡ Ok bytes → value_words ≤ values
  values_lent bytes is = let l = emitted_there bytes is in (own_program file code values returns l.own l.is).ready.words_lent

  pub returns_lent : (bytes : ℕ) → emitted ≡ Ok bytes → return_words ≤ returns
  returns_lent bytes is = let l = emitted_there bytes is in (own_program file code values returns l.own l.is).ready.returns_lent

  -- what the definition gives, where it is refused ..
  pub record NotRun (input output : List ℕ) (fuel n position : ℕ) : Type 0 where
    pub gives : run_file file input output code fuel values returns ≡ record { answer = refused_before n position; output = output; code = code }
    pub still : code' ≡ code

  pub not_run : (input output : List ℕ) (fuel : ℕ) (r : Refused) → emitted ≡ Err r → NotRun input output fuel (number r.why) r.position
  unfolding buffer_after
  not_run input output fuel r is =
      let stop : prepared (length code) values returns file ≡ refusal (number r.why) r.position = value_refused length _ (number r.why) r.position (sym put.answer ∙ ap filled_with is) in
      record { gives = called_refused file input output code fuel values returns (number r.why) r.position stop; still = put.buffer ∙ ap (buffer_after code) stop }

  -- .. and where it is run
  pub is_run : (input output : List ℕ) (fuel bytes : ℕ) → emitted ≡ Ok bytes
      → run_file file input output code fuel values returns
      ≡ record {
        answer = (stream_run (take bytes code') input output fuel values returns).answer;
        output = (stream_run (take bytes code') input output fuel values returns).output;
        code = code';
      }
  is_run input output fuel bytes is =
      let l = emitted_there bytes is in
      called_runs file input output code fuel values returns l.own l.is
      ∙ ap₂
      (λ (s b : List ℕ). record { answer = (stream_run s input output fuel values returns).answer; output = (stream_run s input output fuel values returns).output; code = b })
      (sym l.there)
      (sym l.buffer)

-- ---- `run`

module _ (file input output code values returns : List ℕ) (fuel : ℕ) (file_bytes : Bytes file) (input_bytes : Bytes input) where
  -- a call that gives what the definition gives, answer and both buffers, carries demand 3
  runs_as : (output' code' values' returns' : List ℕ) (r : Answer) (due : FileRan)
      → run_file file input output code fuel (length values) (length returns) ≡ due
      → run_answer r ≡ due.answer
      → output' ≡ due.output
      → code' ≡ due.code
      → WorkWords before_stream due.answer.outcome values values' returns returns'
      → RunnerCall file input output output' code code' values values' returns returns' fuel r
  runs_as output' code' values' returns' r due is answer out emitted words =
      let answer' = answer ∙ ap (λ (q : FileRan). q.answer) (sym is) in
      let out' = out ∙ ap (λ (q : FileRan). q.output) (sym is) in
      record {
        answer = answer';
        output_is = out';
        code_is = emitted ∙ ap (λ (q : FileRan). q.code) (sym is);
        words = rw (ap (λ (q : FileRan). q.answer.outcome) is) words;
        program_run = program_run file code (length values) (length returns) file_bytes input output fuel (run_answer r) output' input_bytes answer' out';
      }

  module _ (emitted : Filled ℕ Refused) (code' : List ℕ) (put : FilledBuffer (prepared (length code) (length values) (length returns) file) code code' emitted) where
    pub run_refused : (r : Answer) (why : Refused) → emitted ≡ Err why → run_answer r ≡ nothing_done why
        → RunnerCall file input output output code code' values values returns returns fuel r
    run_refused r why is answer =
        let n = not_run file code (length values) (length returns) emitted code' put input output fuel why is in
        runs_as output code' values returns r _ n.gives answer refl n.still (untouched before_stream _ values returns)

    -- the code is a checked program's own, so it is never refused with 19
    pub run_safe : (bytes : ℕ) → emitted ≡ Ok bytes → NeverCannot (take bytes code')
    run_safe bytes is =
        let l = emitted_there file code (length values) (length returns) emitted code' put bytes is in
        let own : prepared (length code) (length values) (length returns) file ≡ done (take bytes code') = l.is ∙ ap done (sym l.there) in
        record {
          safe = λ other space other_bytes.
              let zeros : List ℕ = replicate space 0 in
              let long : length zeros ≡ space = length-replicate space 0 in
              let safe : Safe (of_code (take bytes code') other (length zeros)) = record {
                safe = λ past t led.
                    never_cannot file code (length values) (length returns) file_bytes (take bytes code') own other zeros other_bytes past t led;
              } in
              rw long at safe;
        }

    pub run_made : (r : Answer) (bytes : ℕ) (output' values' returns' : List ℕ) → emitted ≡ Ok bytes
        → Performed (stream_run (take bytes code') input output fuel (length values) (length returns)) output' values values' returns returns' r
        → RunnerCall file input output output' code code' values values' returns returns' fuel r
    run_made r bytes output' values' returns' is p =
        runs_as output' code' values' returns' r _ (is_run file code (length values) (length returns) emitted code' put input output fuel bytes is)
        p.answer p.output refl p.words

pub ruleset run_ways = (run_inside, run_refused, run_made)
