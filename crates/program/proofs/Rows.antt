-- One row after the other: where a row passes, the rows after it decide, and the first refusal is
-- that of the whole reading.
use Prim.Native.Nat.{ℕ}
use mathlib.Core.List.{List}
use mathlib.Core.Path.{◌≡◌, refl, sym, ap, ◌∙◌}
use Rattle.formats.specs.Results.{Result, done, refusal, and_then, verdict}
use Rattle.formats.specs.Records.{Kind}
use Rattle.formats.specs.Programs.{Header, Signature, Function, Program}
use Rattle.formats.specs.Rows.{header_row, function_row, node_row, prefix_row, read_program}
use Rattle.formats.specs.Inner.Fields.{header_in}
use Rattle.formats.proofs.Rows.{header_own}
use Rattle.formats.proofs.Results.{then_done, then_refused, Value, passed_is, refused_is}
use Rattle.refusal.specs.Inner.Numbers.{number}
use Rattle.refusal.specs.Inner.Verdicts.{verdict_result}
use Rattle.refusal.specs.declared.Refused.{Refused}
use Rattle.std.specs.Prelude.{Result as Answer, Ok, Err}
use Rattle.program.specs.Inner.Prefix.{PrefixSays}

-- what follows the header, the functions and the nodes
abbrev with_nodes : Header → List Signature → List Kind → Result Program
with_nodes h gs ks = and_then (prefix_row h gs ks) (λ fs. done (record { edition = h.edition; functions = fs }))

abbrev with_functions : Header → List ℕ → List Signature → Result Program
with_functions h s gs = and_then (node_row h s) (with_nodes h gs)

abbrev with_header : List ℕ → Header → Result Program
with_header s h = and_then (function_row h s) (with_functions h s)

-- the verdict on the functions is that on the program
functions_said : (h : Header) (fs : Result (List Function))
    → verdict {A = Program} (and_then fs (λ l. done (record { edition = h.edition; functions = l }))) ≡ verdict fs
functions_said h (done l) = refl
functions_said h (refusal number position) = refl

module _ (s : List ℕ) (header : Answer (Unit {0}) Refused) (eh : verdict_result header ≡ verdict (header_row s)) where
  pub stops_header : (r : Refused) → header ≡ Err r → refusal (number r.why) r.position ≡ verdict (read_program s)
  unfolding read_program
  stops_header r case = sym (ap verdict (then_refused (with_header s) (refused_is (header_row s) (number r.why) r.position (sym eh ∙ ap verdict_result case))))

  module _ (header_passed : header ≡ Ok tt) (functions : Answer (Unit {0}) Refused) (ef : verdict_result functions ≡ verdict (function_row (header_in s) s)) where
    after_header : read_program s ≡ with_header s (header_in s)
    unfolding read_program
    after_header =
        let v = passed_is (header_row s) (sym eh ∙ ap verdict_result header_passed) in
        then_done (with_header s) v.is ∙ ap (with_header s) (sym (header_own s v.value v.is))

    pub stops_functions : (r : Refused) → functions ≡ Err r → refusal (number r.why) r.position ≡ verdict (read_program s)
    stops_functions r case =
        sym (ap verdict (after_header ∙ then_refused _ (refused_is (function_row (header_in s) s) (number r.why) r.position (sym ef ∙ ap verdict_result case))))

    module _ (functions_passed : functions ≡ Ok tt) (nodes : Answer (Unit {0}) Refused) (en : verdict_result nodes ≡ verdict (node_row (header_in s) s)) where
      read : Value (function_row (header_in s) s)
      read = passed_is (function_row (header_in s) s) (sym ef ∙ ap verdict_result functions_passed)

      after_functions : read_program s ≡ with_functions (header_in s) s read.value
      after_functions = after_header ∙ then_done _ read.is

      pub stops_nodes : (r : Refused) → nodes ≡ Err r → refusal (number r.why) r.position ≡ verdict (read_program s)
      stops_nodes r case =
          sym (ap verdict (after_functions ∙ then_refused _ (refused_is (node_row (header_in s) s) (number r.why) r.position (sym en ∙ ap verdict_result case))))

      pub prefix_decides : (form : Answer (Unit {0}) Refused) → nodes ≡ Ok tt → PrefixSays s (verdict_result form) → verdict_result form ≡ verdict (read_program s)
      prefix_decides form nodes_passed reported =
          let ks = passed_is (node_row (header_in s) s) (sym en ∙ ap verdict_result nodes_passed) in
          reported.is read.value ks.value read.is ks.is
          ∙ sym (ap verdict (after_functions ∙ then_done _ ks.is) ∙ functions_said (header_in s) (prefix_row (header_in s) read.value ks.value))

pub ruleset rows_said = (stops_header, stops_functions, stops_nodes, prefix_decides)
