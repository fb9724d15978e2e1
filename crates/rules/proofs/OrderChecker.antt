-- The order checker passes precisely what the typing rules of 000, Figure 6 admit, within the
-- limits: the proof of specs/OrderChecker.antt.
use Prim.Native.Nat.{ℕ, suc, ◌+◌}
use mathlib.Core.List.{List, [], ◌∷◌, append-nil}
use mathlib.Core.Path.{◌≡◌, refl, ap, ◌∙◌}
use lib.Dec.{lit<}
use Rattle.formats.specs.Numbers.{Bytes}
use Rattle.formats.specs.Results.{done}
use Rattle.formats.specs.Programs.{size, Signature, Function, Program, signatures, LawfulFunction, LawfulFunctions, Lawful}
use Rattle.formats.specs.Rows.{read_program}
use Rattle.formats.specs.Blocks.{flat_in, program_in}
use Rattle.formats.proofs.Results.{done_not, then_done, then_inv}
use Rattle.formats.proofs.Files.{flat_in_bytes}
use Rattle.formats.proofs.ProgramFiles.{program_files}
use Rattle.rules.specs.Types.{result_type}
use Rattle.rules.specs.Typing.{TypedFunction}
use Rattle.rules.specs.Scopes.{start_of, entered, entered_all}
use Rattle.rules.specs.PassOne.{pass_over, pass_one}
use Rattle.rules.specs.PassTwo.{walk, none_left, walk_all, pass_two, both_passes, check_records, check_file}
use Rattle.rules.specs.OrderChecker.{first_node, AdmittedFunction, AdmittedFrom, Admitted, AdmittedRecords, AdmittedFile, Split, OrderChecker}
use Rattle.rules.proofs.Splits.{splits, checks_types, no_longer, one_listing}
use Rattle.rules.proofs.Entries.{in_prefix_order, one_by_one, part_types, part_scopes}
use Rattle.rules.proofs.PassOne.{Passes, pass-one, pass_nothing, pass_left, pass_right, pass_both}
use Rattle.rules.proofs.Words.{few_parameters, few_words}
use Rattle.rules.proofs.Typed.{passes_one}
use Rattle.rules.proofs.PassTwo.{walks, second, no_typing, only_full}
use Rattle.rules.proofs.FirstFault.{pass-two, only_one}
use Rattle.rules.proofs.Positions.{untyped_there}
use Rattle.rules.proofs.Untyped.{pass_one_no_typing, pass_one_untyped_there, only_words}
use Rattle.rules.proofs.Overfull.{pass_one_overfull_there}
use Rattle.rules.proofs.Printed.{printed, fixed}

-- ---- one function

-- a walk that ends with no tree pending
none-left : (r : ℕ) (Δ : List ℕ) → none_left r Δ ≡ done tt → Δ ≡ []
unfolding none_left
none-left r [] e = refl
none-left r (x ∷ xs) e = done_not e refl

module _ (gs : List Signature) (r : ℕ) (f : Function) where
  unused_all : Split gs f.parameters 1 (0 ∷ []) f.body (result_type f.sort) [] → TypedFunction gs f
  unused_all split = rw (split.joins ∙ append-nil split.used) split.types

  admits :
      (j : ℕ) → LawfulFunction gs j f → Passes gs (start_of f) r f.body → walk 1 r (0 ∷ []) f.body ≡ done [] → AdmittedFunction gs r f
  unfolding start_of
  admits j l one two =
      let o = second gs f.parameters 1 f.parameters r (0 ∷ []) (result_type f.sort) f.body [] l.applied one two in
      record {
        typed = unused_all (checks_types o.derivation);
        few_words = few_words gs f.parameters 1 f.parameters r (result_type f.sort) f.body l.applied (few_parameters gs j f l) one;
        derivation = o.derivation;
        few_pending = λ d. rw (one_listing gs f.parameters 1 r (0 ∷ []) f.body (result_type f.sort) [] [] d o.derivation).1 o.few;
      }

  passes_first : AdmittedFunction gs r f → Passes gs (start_of f) r f.body
  unfolding start_of
  passes_first a =
      passes_one gs f.parameters 1 f.parameters r (0 ∷ []) (result_type f.sort) f.body a.typed (lit< tt, tt) a.few_words

  walks_finished : AdmittedFunction gs r f → walk 1 r (0 ∷ []) f.body ≡ done []
  walks_finished a = walks (record { derivation = a.derivation; few = a.few_pending a.derivation })

-- ---- all functions

admits_all :
    (gs : List Signature) (j r : ℕ) (fs : List Function)
    → LawfulFunctions gs j fs
    → pass_over gs (entered_all r fs) ≡ done tt
    → walk_all r fs ≡ done tt
    → AdmittedFrom gs r fs
unfolding entered_all walk_all
admits_all gs j r [] l one two = tt
admits_all gs j r (f ∷ fs) l one two =
    let body = then_inv (walk 1 r (0 ∷ []) f.body) _ tt two in
    let finished = then_inv (none_left r body.value) _ tt body.second in
    let none : walk 1 r (0 ∷ []) f.body ≡ done [] = body.first ∙ ap done (none-left r body.value finished.first) in
    let here = entered (start_of f) r f.body in
    let there = entered_all (r + size f.body) fs in (
      admits gs r f j l.0 (pass_left gs here there one) none,
      admits_all gs (suc j) (r + size f.body) fs l.1 (pass_right gs here there one) finished.second,
    )

passes_all : (gs : List Signature) (r : ℕ) (fs : List Function) → AdmittedFrom gs r fs → pass_over gs (entered_all r fs) ≡ done tt
unfolding entered_all
passes_all gs r [] a = pass_nothing gs
passes_all gs r (f ∷ fs) a = pass_both gs _ _ (passes_first gs r f a.0) (passes_all gs (r + size f.body) fs a.1)

walks_all : (gs : List Signature) (r : ℕ) (fs : List Function) → AdmittedFrom gs r fs → walk_all r fs ≡ done tt
unfolding walk_all none_left
walks_all gs r [] a = refl
walks_all gs r (f ∷ fs) a = then_done _ (walks_finished gs r f a.0) ∙ walks_all gs (r + size f.body) fs a.1

-- ---- programs

admitted : (program : Program) → Lawful program → both_passes program ≡ done tt → Admitted program
unfolding both_passes pass_one pass_two
admitted program l e =
    let both = then_inv (pass_one program) _ tt e in
    admits_all (signatures program) 0 (first_node program) program.functions l.functions both.first both.second

passed : (program : Program) → Admitted program → both_passes program ≡ done tt
unfolding both_passes pass_one pass_two
passed program a =
    then_done (λ u. pass_two program) (passes_all (signatures program) (first_node program) program.functions a)
    ∙ walks_all (signatures program) (first_node program) program.functions a

-- ---- records and files

records_admitted : (r : List ℕ) → Bytes r → check_records r ≡ done tt → AdmittedRecords r
unfolding check_records
records_admitted r bs e =
    let t = then_inv (read_program r) both_passes tt e in
    record { program = t.value; read = t.first; admitted = admitted t.value (program_files.flattens r t.value bs t.first).lawful t.second }

records_passed : (r : List ℕ) → AdmittedRecords r → check_records r ≡ done tt
unfolding check_records
records_passed r a = then_done both_passes a.read ∙ passed a.program a.admitted

file_admitted : (s : List ℕ) → Bytes s → check_file s ≡ done tt → AdmittedFile s
unfolding check_file program_in
file_admitted s bs e =
    let t = then_inv (flat_in s) check_records tt e in
    let a = records_admitted t.value (flat_in_bytes s t.value bs t.first) t.second in
    record { program = a.program; holds = then_done read_program t.first ∙ a.read; admitted = a.admitted }

file_passed : (s : List ℕ) → AdmittedFile s → check_file s ≡ done tt
unfolding check_file program_in
file_passed s a =
    let t = then_inv (flat_in s) read_program a.program a.holds in
    then_done check_records t.first ∙ records_passed t.value (record { program = a.program; read = t.second; admitted = a.admitted })

pub order_checker : OrderChecker
order_checker = record {
  splits = splits;
  passes = λ program l. (admitted program l, passed program);
  records = λ r bs. (records_admitted r bs, records_passed r);
  files = λ s bs. (file_admitted s bs, file_passed s);
  no_longer = no_longer;
  one_listing = one_listing;
  part_types = part_types;
  part_scopes = part_scopes;
  in_prefix_order = in_prefix_order;
  one_by_one = one_by_one;
  pass-one = pass-one;
  pass_one_no_typing = pass_one_no_typing;
  pass_one_untyped_there = pass_one_untyped_there;
  pass_one_overfull_there = pass_one_overfull_there;
  only_words = only_words;
  pass-two = pass-two;
  only_one = only_one;
  no_typing = no_typing;
  untyped_there = untyped_there;
  only_full = only_full;
  printed = printed;
  fixed = fixed;
}
