-- The listing's whole text, or the refusal's.
use Prim.Native.Nat.{ℕ, ◌+◌, ◌*◌, ◌≤◌}
use mathlib.Core.List.{List, ◌++◌}
use mathlib.Core.Path.{◌≡◌, sym, ap, ◌∙◌}
use native.Mathlib.Omega.{arith}
use lib.ListN.{length, take, drop, length-append}
use lib.Seq.{take_at}
use mir.Syntax.{w64}
use mir.Val.{Fits}
use mir.Facts.{Fits-lt-pow}
use Rattle.std.specs.Prelude.{Result as Answer, Ok, Err}
use Rattle.formats.specs.Results.{done, refusal}
use Rattle.formats.specs.Blocks.{buffer_after}
use Rattle.formats.proofs.Results.{value_inv, value_refused}
use Rattle.formats.proofs.Written.{written_fits}
use Rattle.refusal.specs.Inner.Numbers.{number}
use Rattle.refusal.specs.Inner.FilledBuffer.{filled_result, FilledBuffer}
use Rattle.refusal.specs.declared.Refused.{Refused}
use Rattle.translation.specs.TranslateAndRun.{translate_file}
use Rattle.translation.specs.Listing.{refused_listing, lines_from, instructions_in, listing_of, listing}
use Rattle.translation.proofs.Calls.{has-room}
use Rattle.formats.specs.Characters.{newline, space, ascii}
use Rattle.translation.specs.ListingText.{field, lines_text, code_word, refused_word, text}
use Rattle.listing.specs.PrintedText.{longest_line, most_text, Puts}
use Rattle.listing.specs.Inner.Shown.{most_code}
use Rattle.listing.proofs.Fields.{put_both, put_length}
use Rattle.listing.proofs.Lines.{field_length}

-- ---- `put_refusal`

module _ (s : List ℕ) (p n offset : ℕ) (big : p + most_text ≤ length s) where
  pub refused_room : p + length refused_word ≤ length s
  unfolding refused_word ascii
  refused_room = omega arith

  module _ (t : List ℕ) (q : ℕ) (word : Puts s t p refused_word q) where
    refused_end : q ≡ p + 8
    unfolding refused_word ascii
    refused_end = word.end

    pub number_room : Fits w64 n → q + length (field n space) ≤ length t
    number_room fits = omega (arith, refused_end, put_length s t p _ q word, field_length 19 n space (omega (arith, Fits-lt-pow fits)))

    module _ (u : List ℕ) (k : ℕ) (put : Puts t u q (field n space) k) where
      pub offset_room : Fits w64 n → Fits w64 offset → k + length (field offset newline) ≤ length u
      offset_room fits fits' =
          omega (
            arith,
            refused_end,
            put_length s t p _ q word,
            put.end,
            put_length t u q _ k put,
            field_length 19 n space (omega (arith, Fits-lt-pow fits)),
            field_length 19 offset newline (omega (arith, Fits-lt-pow fits')),
          )

      pub refusal_put : (v : List ℕ) (r : ℕ) → Puts u v k (field offset newline) r → Puts s v p (text (refused_listing n offset)) r
      unfolding text
      refusal_put v r last = put_both s t v p q r _ _ word (put_both t u v q k r _ _ put last)

pub ruleset refusal_ways = (refused_room, number_room, offset_room, refusal_put)

-- ---- `put_code`

module _ (s code : List ℕ) (p : ℕ) (big : p + most_text ≤ length s) (short : length code ≤ most_code) where
  pub heading_room : p + length code_word ≤ length s
  unfolding code_word ascii
  heading_room = omega arith

  count_length : length (field (instructions_in code) newline) ≤ 5
  unfolding instructions_in
  count_length = field_length 3 (instructions_in code) newline (omega arith)

  module _ (t : List ℕ) (q : ℕ) (word : Puts s t p code_word q) where
    code_end : q ≡ p + 5
    unfolding code_word ascii
    code_end = word.end

    pub count_room : q + length (field (instructions_in code) newline) ≤ length t
    count_room = omega (arith, code_end, put_length s t p _ q word, count_length)

    module _ (u : List ℕ) (k : ℕ) (put : Puts t u q (field (instructions_in code) newline) k) where
      pub lines_room : k + longest_line * instructions_in code ≤ length u
      unfolding instructions_in
      lines_room = omega (arith, code_end, put_length s t p _ q word, count_length, put.end, put_length t u q _ k put)

      pub code_put : (v : List ℕ) (r : ℕ) → Puts u v k (lines_text (lines_from code (instructions_in code) 0)) r → Puts s v p (text (listing_of (done code))) r
      unfolding text listing_of
      code_put v r lines = put_both s t v p q r _ _ word (put_both t u v q k r _ _ put lines)

pub ruleset code_ways = (heading_room, count_room, lines_room, code_put)

-- ---- `put_listing`

module _ (file code after : List ℕ) (size : length code ≡ most_code) (filled : Answer ℕ Refused) (put : FilledBuffer (translate_file (length code) file) code after filled) where
  pub listing_refused : (s t : List ℕ) (p r n : ℕ) (e : Refused) → filled ≡ Err e → n ≡ number e.why
      → Puts s t p (text (refused_listing n e.position)) r → Puts s t p (text (listing file)) r
  unfolding listing listing_of
  listing_refused s t p r n e is reported put_it =
      let stop : translate_file (length code) file ≡ refusal (number e.why) e.position = value_refused length _ (number e.why) e.position (sym put.answer ∙ ap filled_result is) in
      let due : listing file ≡ refused_listing n e.position =
      ap (λ room. listing_of (translate_file room file)) (sym size) ∙ ap listing_of stop ∙ ap (λ m. refused_listing m e.position) (sym reported) in
      rw due put_it

  -- the code, which stands at the start of its buffer
  record Emitted (bytes : ℕ) : Type 0 where
    is : translate_file (length code) file ≡ done (take bytes after)
    inside : bytes ≤ length after
    short : length (take bytes after) ≤ most_code

  emitted : (bytes : ℕ) → filled ≡ Ok bytes → Emitted bytes
  unfolding buffer_after
  emitted bytes e =
      let v = value_inv length (translate_file (length code) file) bytes (sym put.answer ∙ ap filled_result e) in
      let fits : 0 + length v.value ≤ length code = omega (arith, has-room (length code) file v.value v.first) in
      let stands : after ≡ v.value ++ drop (0 + length v.value) code = put.buffer ∙ ap (buffer_after code) v.first ∙ written_fits code 0 v.value fits in
      let there : take bytes after ≡ v.value = ap (take bytes) stands ∙ take_at v.value _ bytes v.second in
      record {
        is = v.first ∙ ap done (sym there);
        inside = omega (arith, ap length stands, length-append v.value (drop (0 + length v.value) code), v.second);
        short = omega (arith, ap length there, size);
      }

  pub code_inside : (bytes : ℕ) → filled ≡ Ok bytes → bytes ≤ length after
  code_inside bytes e = (emitted bytes e).inside

  pub code_short : (bytes : ℕ) → filled ≡ Ok bytes → length (take bytes after) ≤ most_code
  code_short bytes e = (emitted bytes e).short

  pub listing_put : (s t : List ℕ) (p r bytes : ℕ) → filled ≡ Ok bytes → Puts s t p (text (listing_of (done (take bytes after)))) r → Puts s t p (text (listing file)) r
  unfolding listing
  listing_put s t p r bytes e put_it =
      let due : listing file ≡ listing_of (done (take bytes after)) =
      ap (λ room. listing_of (translate_file room file)) (sym size) ∙ ap listing_of (emitted bytes e).is in
      rw due put_it

pub ruleset listing_ways = (listing_refused, code_inside, code_short, listing_put)
