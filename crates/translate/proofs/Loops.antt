-- The loop over a program's functions: where they begin is found, and they are emitted where there
-- is room.
use Prim.Native.Nat.{ℕ, ◌+◌, ◌-◌, ◌*◌, ◌≤◌, ◌<◌, min}
use mathlib.Core.List.{List, [], ◌∷◌, ◌++◌, append-nil, map}
use mathlib.Core.Path.{◌≡◌, refl, sym, ap, ◌∙◌}
use native.Mathlib.Decide.{dec_le}
use native.Mathlib.Nat.{zero-add}
use native.Mathlib.Omega.{arith}
use borrow.Author.Rules.{rules}
use mir.Syntax.{w16, w64}
use mir.Val.{Fits}
use lib.ListN.{length, get_or, set, take, drop, length-drop, length-set, drop_of_length-le}
use lib.Seq.{get_or-set_same, get_or-set_other, take_all, drop-drop}
use Rattle.std.specs.Prelude.{Option, Some, IsSome}
use Rattle.formats.specs.Numbers.{Bytes}
use Rattle.formats.specs.Results.{done, verdict}
use Rattle.formats.specs.Records.{record_bytes, record_at, flat}
use Rattle.formats.specs.Programs.{size, Function, Program, most_functions}
use Rattle.formats.specs.Inner.Limits.{most_records}
use Rattle.formats.specs.Inner.Fields.{header_in}
use Rattle.formats.proofs.Results.{passed_is}
use Rattle.formats.proofs.Rows.{flattens}
use Rattle.formats.proofs.Written.{written_fits}
use Rattle.walks.specs.Inner.Limits.{record_instructions, most_emitted}
use Rattle.walks.specs.Inner.Walks.{Inside}
use Rattle.walks.proofs.Walks.{program_held}
use Rattle.meaning.specs.Instructions.{Operation, instruction_of}
use Rattle.translation.specs.TranslateAndRun.{checked_records}
use Rattle.translation.proofs.Operands.{ends, length_function}
use Rattle.translation.specs.Templates.{function_code, function_end, functions_code, entry_of, operations_of, code_of}
use Rattle.template.specs.Inner.Items.{entries_in}
use Rattle.translate.specs.declared.Emitted.{Emitted}
use Rattle.translate.specs.Inner.Emitting.{emitted_at}
use Rattle.translate.specs.declared.Table.{Table}
use Rattle.translate.specs.Inner.Walk.{Small, EmittedFunction, EmitsFunction, HasEntries, EmitsAll}
use Rattle.translate.proofs.Written.{length_bytes, length_emitted, emitted_none, emitted_beyond}
use Rattle.translate.proofs.All.{was_checked, beyond_all, beyond_more, code_more, length_all, FunctionsLeft, Next, next_function, all_left, none-left, entry_here, same_function}

-- ---- what the loop knows

-- Counts of a program that was checked.
pub record Counts (s : List ℕ) (functions end : ℕ) : Type 0 where
  few : functions ≤ most_functions
  short : end ≤ most_records
  functions_are : (program : Program) → checked_records s ≡ done program → length program.functions ≡ functions

counted : (s : List ℕ) (functions nodes end : ℕ) → Bytes s → verdict (checked_records s) ≡ done tt → functions ≡ (header_in s).functions → nodes ≡ (header_in s).nodes
    → end ≡ 1 + functions + nodes
    → Counts s functions end
unfolding header_in record_at
counted s functions nodes end bytes checked ef en el =
    let v = passed_is (checked_records s) checked in
    let w = was_checked s v.value v.is in
    let h = program_held s v.value bytes w.is_read in
    let lawful = (flattens s v.value bytes w.is_read).lawful in
    record {
      few = omega (arith, h.functions, lawful.few_functions);
      short = omega (arith, h.functions, lawful.few_functions, h.few_nodes);
      functions_are = λ program e. let p = was_checked s program e in omega (arith, (program_held s program bytes p.is_read).functions);
    }

-- The functions from j on, at record k; those before it have their code up to address `entry`.
pub record Standing (s : List ℕ) (end : ℕ) (program : Program) (k j entry : ℕ) : Type 0 where
  before : List Function
  left : FunctionsLeft s end program before k j
  entry_is : entry ≡ beyond_all before 0

-- the next one is emitted
record Following (s : List ℕ) (end : ℕ) (program : Program) (k j entry : ℕ) (before : List Function) (r : Emitted) : Type 0 where
  next : Next s end program before k j
  left : FunctionsLeft s end program (before ++ (next.here ∷ [])) r.next (j + 1)
  entry_is : entry + r.at ≡ beyond_all (before ++ (next.here ∷ [])) 0
  begins : entry_of program j ≡ entry

following : (s entries code' after : List ℕ) (end : ℕ) (program : Program) (k j entry : ℕ) (st : Standing s end program k j entry) (r : Emitted)
    → j < length program.functions
    → EmittedFunction s entries code' after entry j k end r
    → Following s end program k j entry st.before r
following s entries code' after end program k j entry st r more l =
    let n = next_function s end program st.before k j st.left more in
    let position : r.next ≡ k + size n.here.body = l.next n.here n.entering in
    record {
      next = n;
      left = rw position n.left;
      entry_is = l.address n.here n.entering ∙ ap (function_end n.here) st.entry_is ∙ sym (beyond_more st.before n.here 0);
      begins = entry_here s end program st.before k j st.left ∙ sym st.entry_is;
    }

-- ---- code written into parts of the buffer

-- functions end at the address at which they begin, or after it
beyond_up : (fs : List Function) (a : ℕ) → a ≤ beyond_all fs a
unfolding beyond_all function_end
beyond_up [] a = omega arith
beyond_up (f ∷ fs) a = omega (arith, ends f.body a, beyond_up fs (function_end f a))

beyond_front : (fs gs : List Function) (a : ℕ) → beyond_all fs a ≤ beyond_all (fs ++ gs) a
unfolding beyond_all
beyond_front [] gs a = beyond_up gs a
beyond_front (f ∷ fs) gs a = beyond_front fs gs (function_end f a)

-- instructions emitted at the start of a part of the buffer
emitted_part : (s : List ℕ) (a : ℕ) (ops : List Operation) → record_bytes * (a + length ops) ≤ length s
    → take (record_bytes * a) s ++ emitted_at (drop (record_bytes * a) s) 0 ops ≡ emitted_at s a ops
unfolding emitted_at
emitted_part s a ops fits =
    let p = record_bytes * a in
    let vs = flat (map instruction_of ops) in
    let long = length_bytes ops in
    let inside : 0 + length vs ≤ length (drop p s) = omega (arith, length-drop p s) in
    ap (λ (l : List ℕ). take p s ++ l)
    (written_fits (drop p s) 0 vs inside ∙ ap (λ n. vs ++ drop n (drop p s)) (zero-add (length vs)) ∙ ap (λ (l : List ℕ). vs ++ l) (drop-drop (length vs) p s))
    ∙ sym (written_fits s p vs (omega arith))

-- ---- `emit_all`

-- The functions before j have their entries in the table, and are emitted where there is room.
pub record EmittingAll (s entries : List ℕ) (functions end : ℕ) (code₀ code : List ℕ) (t : Table) (k j : ℕ) : Type 0 where
  pub checked : verdict (checked_records s) ≡ done tt
  pub counts : Counts s functions end
  pub table : length t.entries ≡ most_functions
  pub inside : Inside k end
  pub small : t.instructions + record_instructions * (end - k) + (functions - j) ≤ most_emitted
  pub standing : (program : Program) → checked_records s ≡ done program → Standing s end program k j t.instructions
  pub entered : (program : Program) → checked_records s ≡ done program → (b : ℕ) → b < j → entries_in t.entries b ≡ entry_of program b
  pub emitted : (program : Program) (e : checked_records s ≡ done program) → HasEntries entries program → record_bytes * length (operations_of program) ≤ length code₀
      → code ≡ emitted_at code₀ 0 (functions_code (entry_of program) 0 (standing program e).before)

pub all_first : (s entries : List ℕ) (functions end first : ℕ) (code : List ℕ) (t : Table) → Bytes s → verdict (checked_records s) ≡ done tt → functions ≡ (header_in s).functions
    → first ≡ 1 + (header_in s).functions → end ≡ 1 + (header_in s).functions + (header_in s).nodes → length t.entries ≡ most_functions → t.instructions ≡ 0
    → EmittingAll s entries functions end code code t first 0
unfolding functions_code beyond_all
all_first s entries functions end first code t bytes checked ef ek el long none =
    let c = counted s functions _ end bytes checked ef refl (rw ef el) in
    record {
      checked = checked;
      counts = c;
      table = long;
      inside = record { before_end = omega arith; few = c.short };
      small = omega (arith, c.few, c.short);
      standing = λ program e. record {
        before = [];
        left = rw (ek ∙ ap (λ n. 1 + n) (sym ef)) (all_left s end program functions _ bytes (was_checked s program e) ef refl (rw ef el));
        entry_is = none;
      };
      entered = λ program e b below. absurd (omega arith);
      emitted = λ program e has room. sym (emitted_none code 0);
    }

module _ (s entries : List ℕ) (functions end : ℕ) (code₀ code : List ℕ) (t : Table) (k j : ℕ) (l : EmittingAll s entries functions end code₀ code t k j) where
  -- the end
  pub all_emitted : functions ≤ j → EmitsAll s entries code₀ code t
  unfolding code_of operations_of emitted_at
  all_emitted over = record {
    entries_found = λ program e b below. l.entered program e b (omega (arith, l.counts.functions_are program e));
    counted = λ program e.
        (l.standing program e).entry_is ∙ ap (λ fs. beyond_all fs 0) (all program e) ∙ sym (length_all (entry_of program) 0 program.functions)
        ∙ zero-add (length (functions_code (entry_of program) 0 program.functions));
    small = omega (arith, l.small);
    is = λ program e has room. l.emitted program e has room ∙ ap (λ fs. emitted_at code₀ 0 (functions_code (entry_of program) 0 fs)) (all program e);
  }
    where
      all : (program : Program) (e : checked_records s ≡ done program) → (l.standing program e).before ≡ program.functions
      all program e = none-left s end program _ k j (l.standing program e).left (omega (arith, l.counts.functions_are program e))

  -- with the program's entries, and where its code has room
  module _ (program : Program) (e : checked_records s ≡ done program) (has : HasEntries entries program) (fits : record_bytes * length (operations_of program) ≤ length code₀) where
    -- the buffer keeps its length
    pub all_length : length code ≡ length code₀
    all_length = ap length (l.emitted program e has fits) ∙ length_emitted code₀ 0 _

    -- the code before function j has room, and so has what follows
    pub all_room : (entry : ℕ) → entry ≡ entries_in entries j → j < functions → record_bytes * entry ≤ length code
    unfolding operations_of
    all_room entry is more =
        let st = l.standing program e in
        let begins : entry ≡ beyond_all st.before 0 =
        is ∙ has j (omega (arith, l.counts.functions_are program e)) ∙ entry_here s end program _ k j st.left in
        omega (
          arith,
          fits,
          length_all (entry_of program) 0 program.functions,
          ap (λ gs. beyond_all gs 0) st.left.split,
          beyond_front st.before st.left.others 0,
          begins,
          all_length,
        )

  module _ (more : j < functions) where
    pub all_index : (place : ℕ) → place ≡ j → place < most_functions
    all_index place is = omega (arith, l.counts.few)

    pub all_cast : Fits w16 t.instructions
    all_cast = record { fits = omega (arith, l.small) }

    pub all_bytes : Fits w64 (8 * t.instructions)
    all_bytes = record { fits = omega (arith, l.small) }

    pub all_asked : Small k end t.instructions 0 1
    all_asked = record { inside = l.inside; base_small = omega (arith, l.small); small = omega (arith, l.counts.few, l.counts.short) }

    -- there is a next function
    pub all_answered : (code' after : List ℕ) (found : Option Emitted) → EmitsFunction s entries code' after t.instructions j k end found → IsSome found
    all_answered code' after found f =
        let v = passed_is (checked_records s) l.checked in
        let n = next_function s end v.value _ k j (l.standing v.value v.is).left (omega (arith, l.counts.functions_are v.value v.is)) in
        f.answered n.here n.entering

    pub all_sum : (code' after : List ℕ) (found : Option Emitted) (r : Emitted) → found ≡ Some r → EmitsFunction s entries code' after t.instructions j k end found → Fits w64 (t.instructions + r.at)
    all_sum code' after found r is f = record { fits = omega (arith, l.small, (f.is r is).went_on.small) }

    -- the next function is emitted
    module _ (r : Emitted) (start : ℕ) (after : List ℕ) (at_start : start ≡ min (record_bytes * t.instructions) (length code))
        (f : EmittedFunction s entries (drop start code) after t.instructions j k end r) where
      abbrev entry : ℕ
      entry = t.instructions

      follow : (program : Program) (e : checked_records s ≡ done program) → Following s end program k j entry (l.standing program e).before r
      follow program e = following s entries _ after end program k j entry (l.standing program e) r (omega (arith, l.counts.functions_are program e)) f

      code_on : (program : Program) (e : checked_records s ≡ done program) → HasEntries entries program → record_bytes * length (operations_of program) ≤ length code₀
          → take start code ++ after ≡ emitted_at code₀ 0 (functions_code (entry_of program) 0 ((l.standing program e).before ++ ((follow program e).next.here ∷ [])))
      unfolding operations_of
      code_on program e has fits =
          let st = l.standing program e in
          let o = follow program e in
          let here = o.next.here in
          let own = function_code (entry_of program) entry here in
          let done_code = functions_code (entry_of program) 0 st.before in
          let long_own = length_function (entry_of program) entry here in
          let address = f.address here o.next.entering in
          let is = l.emitted program e has fits in
          let long_done : entry ≡ 0 + length done_code = st.entry_is ∙ sym (length_all (entry_of program) 0 st.before) in
          let long : length code ≡ length code₀ = ap length is ∙ length_emitted code₀ 0 done_code in
          let room : record_bytes * (entry + r.at) ≤ length code₀ = omega (
            arith,
            length_all (entry_of program) 0 program.functions,
            ap (λ gs. beyond_all gs 0) o.left.split,
            beyond_front (st.before ++ (here ∷ [])) o.left.others 0,
            o.entry_is,
          ) in
          let begins : start ≡ record_bytes * entry = omega arith in
          let part : after ≡ emitted_at (drop start code) 0 own =
          f.emits here o.next.entering (omega (arith, length-drop start code))
          ∙ ap (emitted_at (drop start code) 0) (same_function (entries_in entries) (entry_of program) (length program.functions) has entry here o.next.in_range) in
          ap (λ (x : List ℕ). take start code ++ x) part
          ∙ ap (λ n. take n code ++ emitted_at (drop n code) 0 own) begins
          ∙ emitted_part code entry own (omega arith)
          ∙ ap (λ (x : List ℕ). emitted_at x entry own) is
          ∙ emitted_beyond code₀ 0 done_code own entry long_done (omega arith)
          ∙ ap (λ n. emitted_at code₀ 0 (done_code ++ function_code (entry_of program) n here)) st.entry_is
          ∙ ap (emitted_at code₀ 0) (sym (code_more (entry_of program) 0 st.before here))

      emitted_on : EmittingAll s entries functions end code₀ (take start code ++ after) (record { entries = set t.entries j entry; instructions = entry + r.at }) r.next (j + 1)
      emitted_on = record {
        checked = l.checked;
        counts = l.counts;
        table = length-set t.entries j entry ∙ l.table;
        inside = record { before_end = f.went_on.went.inside; few = l.inside.few };
        small = omega (arith, l.small, f.went_on.small);
        standing = λ program e. record { before = _; left = (follow program e).left; entry_is = (follow program e).entry_is };
        entered = λ program e b below. elim (dec_le j b) [
          | yes over ↦
              let here : b ≡ j = omega arith in
              ap (λ n. get_or (set t.entries j entry) n 0) here ∙ get_or-set_same t.entries j entry 0 (rw l.table (all_index j refl)) ∙ sym (follow program e).begins ∙ ap (entry_of program) (sym here)
          | no under ↦ get_or-set_other t.entries j b entry 0 (λ same. omega arith) ∙ l.entered program e b (omega arith)
        ];
        emitted = code_on;
      }

    -- the part lent is the rest of the buffer
    pub all_more : (found : Option Emitted) (r : Emitted) (place start : ℕ) (after : List ℕ) → place ≡ j → start ≡ min (record_bytes * t.instructions) (length code) → found ≡ Some r
        → EmitsFunction s entries (take (length code - start) (drop start code)) after t.instructions j k end found
        → EmittingAll s entries functions end code₀
        (take start code ++ (after ++ drop (length code - start) (drop start code)))
        (record { entries = set t.entries place t.instructions; instructions = t.instructions + r.at })
        r.next
        (j + 1)
    all_more found r place start after at_place at_start is f =
        let n = length code - start in
        let long = length-drop start code in
        let part : take n (drop start code) ≡ drop start code = take_all n (drop start code) (omega arith) in
        let rest : drop n (drop start code) ≡ [] = drop_of_length-le (drop start code) {i = n} (omega arith) in
        rw (at_place, rest, append-nil) (emitted_on r start after at_start (rw part at (f.is r is)))

pub ruleset emitting_all = (all_first, all_index, all_cast, all_bytes, all_asked, all_answered, all_sum, all_more, all_emitted, rules)
