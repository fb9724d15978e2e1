-- The source run's checks before the evaluation: the program file, pass one, the work space, the
-- tree reader. The first refusal is the answer.
--
-- The tree reader takes the first tree whatever stands after it. It is the only check that looks at
-- the input, so the checks together give the same.
use Prim.Native.Nat.{ℕ, ◌≤◌, ◌<◌}
use mathlib.Core.Bool.{◌&&◌, and-false}
use mathlib.Core.List.{List, ◌++◌, append_assoc}
use mathlib.Core.Logic.{◌⊎◌, inl, inr}
use mathlib.Core.Path.{◌≡◌, sym, ap, ap₂, ◌∙◌}
use borrow.Author.Tests.{leb-true, le-leb, lt-leb}
use lib.Dec.{leb}
use lib.ListN.{length, drop, take-append-drop}
use Rattle.formats.specs.Numbers.{Bytes}
use Rattle.formats.specs.Refusals.{space_too_short}
use Rattle.formats.specs.Results.{Result, done, refusal, and_then, value_if}
use Rattle.formats.specs.Tokens.{Tree, tokens, first_tree}
use Rattle.formats.specs.Programs.{Program}
use Rattle.formats.specs.Rows.{read_program}
use Rattle.formats.specs.Blocks.{flat_in, program_in}
use Rattle.formats.proofs.Results.{done_injective, then_done, then_refused, then_inv, check_inv, both_held}
use Rattle.formats.proofs.Files.{flat_in_bytes}
use Rattle.formats.proofs.ProgramFiles.{program_files}
use Rattle.formats.proofs.Reader.{tree_reader}
use Rattle.rules.specs.PassOne.{pass_one}
use Rattle.meaning.specs.Running.{value_words, return_words}
use Rattle.meaning.specs.SourceRun.{SourceInput, check_source}
use Rattle.meaning.specs.Meaning.{PassesOne, Passed}

-- ---- the work space

module _ (values returns : ℕ) where
  -- Its test.
  abbrev space_test : Result (Unit {0})
  space_test = value_if (leb value_words values && leb return_words returns) space_too_short 0 tt

  -- it passes where both are enough
  enough_space : value_words ≤ values → return_words ≤ returns → space_test ≡ done tt
  enough_space v r = ap₂ (λ a b. value_if (a && b) space_too_short 0 tt) (le-leb value_words values v) (le-leb return_words returns r)

  -- it refuses where one is too short
  short_space : (values < value_words) ⊎ (returns < return_words) → space_test ≡ refusal space_too_short 0
  short_space (inl v) = ap (λ a. value_if (a && leb return_words returns) space_too_short 0 tt) (lt-leb value_words values v)
  short_space (inr r) =
      ap (λ b. value_if b space_too_short 0 tt)
      (ap (λ b. leb value_words values && b) (lt-leb return_words returns r) ∙ and-false (leb value_words values))

-- ---- all checks

module _ (file input : List ℕ) (values returns : ℕ) where
  -- All of them, in order.
  abbrev pub checked : Result SourceInput
  checked = check_source file input values returns

  -- the file is refused
  pub file_stops : (number position : ℕ) → program_in file ≡ refusal number position → checked ≡ refusal number position
  unfolding check_source
  file_stops number position e = then_refused _ e

  module _ (program : Program) (holds : program_in file ≡ done program) where
    -- pass one refuses
    pub pass_one_stops : (number position : ℕ) → pass_one program ≡ refusal number position → checked ≡ refusal number position
    unfolding check_source
    pass_one_stops number position e = then_done _ holds ∙ then_refused _ e

    -- the work space is too short
    pub space_stops : pass_one program ≡ done tt → (values < value_words) ⊎ (returns < return_words) → checked ≡ refusal space_too_short 0
    unfolding check_source
    space_stops passes short = then_done _ holds ∙ then_done _ passes ∙ then_refused _ (short_space values returns short)

    -- only the tree is left to be read
    pub tree_left :
        pass_one program ≡ done tt
        → value_words ≤ values
        → return_words ≤ returns
        → checked ≡ and_then (first_tree input) (λ t. done (record { program = program; tree = t }))
    unfolding check_source
    tree_left passes v r = then_done _ holds ∙ then_done _ passes ∙ then_done _ (enough_space values returns v r)

  -- all pass
  pub passed_done :
      (program : Program) (t : Tree)
      → Passed file input values returns program t
      → checked ≡ done (record { program = program; tree = t })
  passed_done program t p = tree_left program p.holds p.passes p.value_space p.return_space ∙ then_done _ p.reads

  -- what they give has passed all
  pub done_passed : (c : SourceInput) → checked ≡ done c → Passed file input values returns c.program c.tree
  unfolding check_source
  done_passed c e =
      let in_file = then_inv (program_in file) _ c e in
      let one = then_inv (pass_one in_file.value) _ c in_file.second in
      let space = then_inv (space_test values returns) _ c one.second in
      let read = then_inv (first_tree input) _ c space.second in
      let both = both_held (leb value_words values) (leb return_words returns) (check_inv _ space_too_short 0 tt tt space.first).held in
      rw (← done_injective read.second) (record {
        holds = in_file.first;
        passes = one.first;
        value_space = leb-true value_words values both.0;
        return_space = leb-true return_words returns both.1;
        reads = read.first;
      })

  -- a program that has passed all is within the limits, and passes pass one
  pub passed_passes : (program : Program) (t : Tree) → Bytes file → Passed file input values returns program t → PassesOne program
  unfolding program_in
  passed_passes program t bs p =
      let flat = then_inv (flat_in file) read_program program p.holds in
      let bytes = flat_in_bytes file flat.value bs flat.first in
      record { lawful = (program_files.flattens flat.value program bytes flat.second).lawful; passes = p.passes }

-- ---- after the tree

-- the tree is the same, whatever stands after it
tree_after : (input rest : List ℕ) (t : Tree) → Bytes input → first_tree input ≡ done t → first_tree (input ++ rest) ≡ done t
tree_after input rest t bs e =
    let read = tree_reader.gives input t bs e in
    let after : List ℕ = drop (length (tokens t)) input in
    let parts : input ≡ tokens t ++ after = sym (take-append-drop (length (tokens t)) input) ∙ ap (λ s. s ++ after) read.own-bytes in
    ap (λ s. first_tree (s ++ rest)) parts
    ∙ ap first_tree (append_assoc (tokens t) after rest)
    ∙ tree_reader.takes t (after ++ rest) read.labelled read.shallow

-- so what the checks give is the same
pub checks_after :
    (file input rest : List ℕ) (values returns : ℕ) (t : Tree)
    → Bytes input
    → first_tree input ≡ done t
    → check_source file (input ++ rest) values returns ≡ check_source file input values returns
unfolding check_source
checks_after file input rest values returns t bs e = rw (check_source, tree_after input rest t bs e, e)
