-- What holds of the order checker: the statements. They are proved in proofs/OrderChecker.antt.
--
-- Demand 2: "within the limits, the order checker passes precisely what document 000's typing rules
-- admit, with document 01's for Let and IfZero".
use Rattle.std.specs.Prelude.{ℕ, suc, ◌+◌, ◌≤◌, ◌<◌, List, [], ◌∷◌, ◌++◌, map, ◌↔◌, ◌⊎◌, ◌≡◌, length}
use Rattle.formats.specs.Numbers.{Bytes}
use Rattle.formats.specs.Refusals.{not_bound, wrong_type, too_many_words, out_of_order, too_many_pending}
use Rattle.formats.specs.Results.{done, refusal}
use Rattle.formats.specs.Records.{Kind, parts_of, nth_part, part_count}
use Rattle.formats.specs.Programs.{Expr, size, Every, Signature, signature_of, Function, Program, signatures, nodes, Lawful}
use Rattle.formats.specs.Rows.{read_program}
use Rattle.formats.specs.Blocks.{program_in}
use Rattle.rules.specs.Types.{Ty, result_type, function_type}
use Rattle.rules.specs.Typing.{Types, TypedFunction}
use Rattle.rules.specs.Leftover.{Checks, lines, FewAtCase, NoLonger}
use Rattle.rules.specs.Limits.{most_pending, most_frame_words}
use Rattle.rules.specs.Scopes.{Scope, inside, part_scope, expected_in, PartTyped, Entry, entry, entered_all}
use Rattle.rules.specs.PassOne.{words_of, pass_one, FirstFails}
use Rattle.rules.specs.PassTwo.{pass_two, both_passes, check_records, check_file}
use Rattle.rules.specs.FirstFault.{FirstFault}
use Rattle.rules.specs.Printed.{function_name, fix, Judges, function_term, JudgedFunction}

-- The first node: the record after the header and the function records.
abbrev pub first_node : Program → ℕ
first_node program = suc (length program.functions)

-- ---- what the rules admit

-- A function's body passes by Figure 19, its first node at record r, and leaves no tree.
abbrev pub CheckedFunction : List Signature → ℕ → Function → Type 0
CheckedFunction gs r f = Checks gs f.parameters 1 r (0 ∷ []) f.body (result_type f.sort) []

-- A function that has a derivation by Figure 6 and is within the limits. The limit of 16 pending is
-- about the whole list, so it is stated about derivations by Figure 19, which have that list: there
-- is one, and in each one fewer than 16 are pending at each Case.
pub record AdmittedFunction (gs : List Signature) (r : ℕ) (f : Function) : Type 0 where
  pub typed : TypedFunction gs f
  pub few_words : words_of gs f.parameters f.body ≤ most_frame_words
  pub derivation : CheckedFunction gs r f
  pub few_pending : (d : CheckedFunction gs r f) → Every FewAtCase (lines d)

-- All these functions are admitted. The first node of the first one is record r.
abbrev pub AdmittedFrom : List Signature → ℕ → List Function → Type 0
AdmittedFrom gs r [] = Unit {0}
AdmittedFrom gs r (f ∷ fs) = AdmittedFunction gs r f × AdmittedFrom gs (r + size f.body) fs

abbrev pub Admitted : Program → Type 0
Admitted program = AdmittedFrom (signatures program) (first_node program) program.functions

-- Flat records, and a file, that hold an admitted program.
pub record AdmittedRecords (r : List ℕ) : Type 0 where
  pub program : Program
  pub read : read_program r ≡ done program
  pub admitted : Admitted program

pub record AdmittedFile (s : List ℕ) : Type 0 where
  pub program : Program
  pub holds : program_in s ≡ done program
  pub admitted : Admitted program

-- An environment Δ splits as Δ₁, Δ', and e is typed on Δ₁ by Figure 6.
pub record Split (gs : List Signature) (g n : ℕ) (Δ : List ℕ) (e : Expr) (τ : Ty) (Δ' : List ℕ) : Type 0 where
  pub used : List ℕ
  pub joins : Δ ≡ used ++ Δ'
  pub types : Types gs g n used e τ

-- The entries are at records one after the other, the first at record r.
abbrev pub Numbered : ℕ → List Entry → Type 0
Numbered r [] = Unit {0}
Numbered r (entry sc k kind ∷ xs) = (k ≡ r) × Numbered (suc r) xs

unfoldable pub kind_in : Entry → Kind
kind_in (entry sc r kind) = kind

-- Record r belongs to one of these functions, and P holds of that function. The first node of the
-- first one is record k.
pub data InFunction (P : Function → Type 0) (r : ℕ) : ℕ → List Function → Type 0 where
  this_one : {k : ℕ} {f : Function} {fs : List Function} → k ≤ r → r < k + size f.body → P f → InFunction P r k (f ∷ fs)
  after_it : {k : ℕ} {f : Function} {fs : List Function} → InFunction P r (k + size f.body) fs → InFunction P r k (f ∷ fs)

-- The function with record r has no derivation by Figure 6.
abbrev pub Untyped : List Signature → ℕ → ℕ → List Function → Type 0
Untyped gs r k fs = InFunction (λ f. TypedFunction gs f → ⊥) r k fs

-- In the function with record r, more than 16 words stand at some point of its body.
abbrev pub Overfull : List Signature → ℕ → ℕ → List Function → Type 0
Overfull gs r k fs = InFunction (λ f. most_frame_words < words_of gs f.parameters f.body) r k fs

-- ---- the theorems

pub record OrderChecker : Type 0 where
  -- Figure 19's judgement holds with Δ' left over exactly where the environment splits as Δ₁, Δ'
  -- with Figure 6's judgement on Δ₁. (000, section 3.4: "The relation means that Γ | Δ₁ ⊢ M : τ
  -- holds for Δ₁ such that Δ = Δ₁, Δ'.")
  pub splits : (gs : List Signature) (g n r : ℕ) (Δ : List ℕ) (e : Expr) (τ : Ty) (Δ' : List ℕ) → Checks gs g n r Δ e τ Δ' ↔ Split gs g n Δ e τ Δ'
  -- A program passes both passes exactly when every function body has a derivation by Figure 6 and
  -- stays within the limits.
  pub passes : (program : Program) → Lawful program → (both_passes program ≡ done tt) ↔ Admitted program
  -- The same for flat records and for files: they pass exactly where they hold a program that the
  -- rules admit. (Such a program is always within the limits of 01, Lawful programs.)
  pub records : (r : List ℕ) → Bytes r → (check_records r ≡ done tt) ↔ AdmittedRecords r
  pub files : (s : List ℕ) → Bytes s → (check_file s ≡ done tt) ↔ AdmittedFile s
  -- The limit of 16 pending, in another form: no list of the derivation is longer than 16.
  pub no_longer :
      (gs : List Signature) (g n r : ℕ) (Δ : List ℕ) (e : Expr) (τ : Ty) (Δ' : List ℕ) (d : Checks gs g n r Δ e τ Δ')
      → length Δ ≤ most_pending
      → Every FewAtCase (lines d) ↔ Every NoLonger (lines d)
  -- A derivation's lines are determined by what is checked and the list before it.
  pub one_listing :
      (gs : List Signature) (g n r : ℕ) (Δ : List ℕ) (e : Expr) (τ : Ty) (Δ₁ Δ₂ : List ℕ) (d : Checks gs g n r Δ e τ Δ₁) (d' : Checks gs g n r Δ e τ Δ₂)
      → (Δ₁ ≡ Δ₂) × (lines d ≡ lines d')
  -- The types that pass one expects of a record's parts are those that the one match over the kinds
  -- gives them.
  pub part_types : (kind : Kind) (i : ℕ) (sc : Scope) → PartTyped (parts_of kind) i (expected_in sc) (expected_in (inside kind i sc))
  -- All that is known on entering part i is also what that match says of it, wherever the kind has
  -- a part i.
  pub part_scopes :
      (arity : ℕ → ℕ) (kind : Kind) (i : ℕ) (sc : Scope)
      → i < part_count arity (parts_of kind)
      → inside kind i sc ≡ part_scope (nth_part (parts_of kind) i) i sc
  -- Pass one goes through the nodes in prefix order ..
  pub in_prefix_order : (program : Program) → map kind_in (entered_all (first_node program) program.functions) ≡ nodes program.functions
  pub one_by_one : (program : Program) → Numbered (first_node program) (entered_all (first_node program) program.functions)
  -- .. and refuses 9, 8 or 10 at a record exactly where that condition first fails.
  pub pass-one :
      (program : Program) (number r : ℕ)
      → (pass_one program ≡ refusal number r) ↔ FirstFails (signatures program) (entered_all (first_node program) program.functions) number r
  -- Where pass one refuses with 9 or 8, some function body has no derivation. (The program need not
  -- be within any limit.)
  pub pass_one_no_typing :
      (program : Program) (number r : ℕ)
      → pass_one program ≡ refusal number r
      → (number ≡ not_bound) ⊎ (number ≡ wrong_type)
      → Every (TypedFunction (signatures program)) program.functions
      → ⊥
  -- That function is the one with the record of the refusal.
  pub pass_one_untyped_there :
      (program : Program) (number r : ℕ)
      → pass_one program ≡ refusal number r
      → (number ≡ not_bound) ⊎ (number ≡ wrong_type)
      → Untyped (signatures program) r (first_node program) program.functions
  -- Where pass one refuses with 10, the function with the record of the refusal needs more than 16
  -- words. (Nothing is required of the program.)
  pub pass_one_overfull_there :
      (program : Program) (r : ℕ)
      → pass_one program ≡ refusal too_many_words r
      → Overfull (signatures program) r (first_node program) program.functions
  -- Where every body has a derivation, pass one refuses nothing but 10: the limit of 16 words is
  -- all that it requires besides.
  pub only_words :
      (program : Program) (number r : ℕ)
      → Every (TypedFunction (signatures program)) program.functions
      → pass_one program ≡ refusal number r
      → number ≡ too_many_words
  -- Pass two refuses exactly the first fault, with its number and at its position ..
  pub pass-two :
      (program : Program) (number r : ℕ)
      → Lawful program
      → pass_one program ≡ done tt
      → (pass_two program ≡ refusal number r) ↔ FirstFault (signatures program) (first_node program) program.functions number r
  -- .. and there is only one first fault.
  pub only_one :
      (program : Program) (number r number' r' : ℕ)
      → Lawful program
      → pass_one program ≡ done tt
      → FirstFault (signatures program) (first_node program) program.functions number r
      → FirstFault (signatures program) (first_node program) program.functions number' r'
      → (number ≡ number') × (r ≡ r')
  -- Where pass two refuses with 11, some function body has no derivation.
  pub no_typing :
      (program : Program) (r : ℕ)
      → pass_two program ≡ refusal out_of_order r
      → Every (TypedFunction (signatures program)) program.functions
      → ⊥
  -- That function is the one with the record of the refusal.
  pub untyped_there :
      (program : Program) (r : ℕ)
      → pass_two program ≡ refusal out_of_order r
      → Untyped (signatures program) r (first_node program) program.functions
  -- Where every body has a derivation, pass two refuses nothing but 12: the limit of 16 pending is
  -- all that it requires besides.
  pub only_full :
      (program : Program) (number r : ℕ)
      → Every (TypedFunction (signatures program)) program.functions
      → pass_two program ≡ refusal number r
      → number ≡ too_many_pending
  -- The rules in Typing admit the same functions as Figure 6 in printed form.
  pub printed : (gs : List Signature) (f : Function) → TypedFunction gs f ↔ JudgedFunction gs (signature_of f) f
  -- For a program of one function this is T-Fix itself: the fixed point has the function's type,
  -- with no names bound.
  pub fixed :
      (f : Function)
      → TypedFunction (signature_of f ∷ []) f ↔ Judges [] [] (fix (function_name 0) (function_term f)) (function_type (signature_of f))
