-- The functions of a program, one after the other: what is still to be done at function j, whose
-- body is at record k.
use Prim.Native.Nat.{ℕ, zero, suc, ◌+◌, ◌*◌, ◌≤◌, ◌<◌}
use mathlib.Core.List.{List, [], ◌∷◌, ◌++◌, map}
use mathlib.Core.Path.{◌≡◌, refl, sym, ap, ap₂, subst, ◌∙◌}
use native.Mathlib.Numerals.{add-one}
use native.Mathlib.Omega.{arith}
use borrow.Author.Rules.{rules}
use lib.ListN.{length, take, length-append}
use Rattle.std.proofs.lemmas.Option.{same_Some}
use Rattle.std.specs.Prelude.{Option, Some, IsSome}
use Rattle.formats.specs.Numbers.{Bytes}
use Rattle.formats.specs.Results.{done}
use Rattle.formats.specs.Records.{record_at}
use Rattle.formats.specs.Programs.{size, Signature, arity_of, sum_of_counts, Function, signature_of, Program, signatures}
use Rattle.formats.specs.Inner.Limits.{most_records}
use Rattle.formats.specs.Rows.{read_program}
use Rattle.formats.specs.Inner.Fields.{header_in, function_in}
use Rattle.formats.specs.Written.{written}
use Rattle.formats.proofs.Results.{Value, passed_is, each_front}
use Rattle.formats.proofs.Rows.{flattens}
use Rattle.formats.proofs.Written.{written_append, written_none, wrote}
use Rattle.functions.proofs.Functions.{total_is}
use Rattle.meaning.specs.OpenCalls.{first_record}
use Rattle.walks.specs.Inner.Standing.{Known, Holds, Bodies, no_more, one_more}
use Rattle.walks.specs.Inner.Limits.{parameters_of_any}
use Rattle.walks.specs.Inner.Walks.{Inside, Went}
use Rattle.walks.proofs.Walks.{program_held, signature-of}
use Rattle.stepwise.specs.Inner.Rows.{row_words, body_location, rows_of, rows_of_all, tabled}
use Rattle.stepwise.proofs.Rows.{length_rows, length_rows_all}
use Rattle.part_locations.specs.declared.Location.{Location}
use Rattle.part_locations.specs.Inner.Locations.{location_with}
use Rattle.record_rows.specs.Inner.Halves.{first_in}
use Rattle.decode.specs.Inner.Decoding.{table_words}
use Rattle.decode.specs.Inner.Walk.{Agrees, Small, Entering, Filled, FillsRows, start_location, Starts, TableReady, FillsAll}

-- ---- the first records and the arities of a program's functions

-- the first functions have no more nodes than all of them
total_front : (b : ℕ) (gs : List Signature) → sum_of_counts (take b gs) ≤ sum_of_counts gs
unfolding sum_of_counts
total_front zero gs = omega arith
total_front (suc b) [] = omega arith
total_front (suc b) (g ∷ gs) = omega (arith, total_front b gs)

-- the first records and arities are as the function records say
pub agreeing : (s : List ℕ) (program : Program) → Bytes s → read_program s ≡ done program → Agrees s (first_record program) (arity_of (signatures program))
unfolding first_record first_in arity_of
agreeing s program bytes e =
    let h = program_held s program bytes e in
    let gs = signatures program in
    let few = (flattens s program bytes e).lawful.few_functions in
    record {
      entries = λ b there.
          let front = total_is s b 0 (take b gs) (each_front (function_in s) (header_in s).functions b 0 gs h.known (omega arith)) in
          omega (arith, h.functions, front);
      arities = λ b there.
          let g = signature-of s gs b h.known there in
          rw (g.there, arity_of) g.its_fields.arity;
      low = λ b there. omega (arith, total_front b gs, h.nodes, h.few_nodes, few);
    }

-- ---- the loop

-- The rows of the functions from j on are still to be written.
pub record Left (s : List ℕ) (functions end : ℕ) (table₀ table : List ℕ) (k j : ℕ) (program : Program) : Type 0 where
  pub others : List Function
  pub known : Known s (signatures program)
  pub agrees : Agrees s (first_record program) (arity_of (signatures program))
  pub held : Bodies s (signatures program) j k others
  pub many : j + length others ≡ functions
  pub ends : k + sum_of_counts (map signature_of others) ≡ end
  pub due : tabled table₀ program ≡ written table (row_words * k) (rows_of_all (first_record program) (arity_of (signatures program)) k others)

-- The same for every program that the records stand for, with the lengths of the table and of the
-- stack.
pub record Filling (s : List ℕ) (functions end : ℕ) (table₀ table cases : List ℕ) (k j : ℕ) : Type 0 where
  pub some_program : Value (read_program s)
  pub inside : Inside k end
  pub table_long : length table ≡ length table₀
  pub room : table_words ≤ length table₀
  pub stack : length cases ≡ most_records
  pub left : (program : Program) → read_program s ≡ done program → Left s functions end table₀ table k j program

-- at the start all functions are still to be done
pub fill_first : (s table cases : List ℕ) (functions k end : ℕ) → Bytes s → TableReady s table → length cases ≡ most_records → functions ≡ (header_in s).functions → k ≡ 1 + (header_in s).functions → end ≡ 1 + (header_in s).functions + (header_in s).nodes
    → Filling s functions end table table cases k 0
unfolding header_in record_at tabled
fill_first s table cases functions k end bytes ready long ef ek el =
    let v = passed_is (read_program s) ready.is_read in
    let own = program_held s v.value bytes v.is in
    let few = (flattens s v.value bytes v.is).lawful.few_functions in
    record {
      some_program = v;
      inside = record { before_end = omega arith; few = omega (arith, own.functions, own.few_nodes, few) };
      table_long = refl;
      room = ready.room;
      stack = long;
      left = λ program e.
          let h = program_held s program bytes e in
          let location : suc (length program.functions) ≡ k = omega (arith, h.functions) in
          record {
            others = program.functions;
            known = h.known;
            agrees = agreeing s program bytes e;
            held = rw location at h.held;
            many = omega (arith, h.functions);
            ends = omega (arith, h.nodes);
            due = ap (λ k. written table (row_words * k) (rows_of_all (first_record program) (arity_of (signatures program)) k program.functions)) location;
          };
    }

module _ (s : List ℕ) (functions end : ℕ) (table₀ table cases : List ℕ) (k j : ℕ) (l : Filling s functions end table₀ table cases k j) where
  -- at the end none is
  pub fill_all : functions ≤ j → FillsAll s table₀ table
  unfolding rows_of_all
  fill_all over = record { is = λ program e. let f = l.left program e in by program f.others f.many f.due }
    where
      by : (program : Program) (fs : List Function) → j + length fs ≡ functions
          → tabled table₀ program ≡ written table (row_words * k) (rows_of_all (first_record program) (arity_of (signatures program)) k fs)
          → table ≡ tabled table₀ program
      by program [] many due = sym (due ∙ written_none table (row_words * k))
      by program (f ∷ fs) many due = absurd (omega arith)

  module _ (p : Location) (starts : Starts s j p) (more : j < functions) where
    -- function j, and those after it
    record Turn (program : Program) : Type 0 where
      here : Function
      others : List Function
      signed : function_in s j ≡ done (signature_of here)
      few : here.parameters ≤ parameters_of_any
      holds : Holds s (signatures program) k here.body
      after : Bodies s (signatures program) (suc j) (k + size here.body) others
      many : suc j + length others ≡ functions
      ends : k + size here.body + sum_of_counts (map signature_of others) ≡ end
      due : tabled table₀ program ≡ written table (row_words * k) (rows_of_all (first_record program) (arity_of (signatures program)) k (here ∷ others))

    -- there is a function j
    turn : (program : Program) → read_program s ≡ done program → Turn program
    unfolding sum_of_counts signature_of
    turn program e = let f = l.left program e in by f.others f.held f.many f.ends f.due
      where
        by : (fs : List Function) → Bodies s (signatures program) j k fs → j + length fs ≡ functions → k + sum_of_counts (map signature_of fs) ≡ end
            → tabled table₀ program ≡ written table (row_words * k) (rows_of_all (first_record program) (arity_of (signatures program)) k fs)
            → Turn program
        by [] no_more many ends due = absurd (omega arith)
        by (f ∷ fs) (one_more signed few holds after) many ends due = record {
          here = f;
          others = fs;
          signed = signed;
          few = few;
          holds = holds;
          after = after;
          many = omega arith;
          ends = omega arith;
          due = due;
        }

    -- the location of its body
    starts_at : (program : Program) (e : read_program s ≡ done program) → p ≡ start_location (turn program e).here
    starts_at program e = let t = turn program e in starts.is t.here t.signed t.few

    -- its counts are small
    pub fill_asked : Small k end p
    fill_asked =
        let v = l.some_program in
        let t = turn v.value v.is in
        rw (starts_at v.value v.is)
        (record {
          inside = l.inside;
          parent = omega arith;
          slot = omega arith;
          names = omega (arith, t.few, l.inside.few);
          keeps = omega (arith, l.inside.few);
          depth = omega (arith, l.inside.few);
        })

    -- its body is entered
    body_entered : (program : Program) (e : read_program s ≡ done program)
        → Entering s table cases (first_record program) (arity_of (signatures program)) k end p (turn program e).here.body
    body_entered program e =
        let t = turn program e in
        let flat_depth : p.depth ≡ 0 = ap (λ (q : Location). q.depth) (starts_at program e) in
        record {
          here = record { signed = signatures program; known = (l.left program e).known; holds = t.holds; fits = omega (arith, t.ends) };
          agrees = (l.left program e).agrees;
          room = omega (arith, l.inside.few, l.room, l.table_long);
          stacked = record { room = omega (arith, l.inside.few, l.stack); low = λ n below. absurd (omega arith) };
        }

    -- its location is the one wanted
    body-location : (program : Program) (e : read_program s ≡ done program)
        → location_with p cases ≡ body_location (first_record program) (arity_of (signatures program)) (turn program e).here
    body-location program e = ap (λ q. location_with q cases) (starts_at program e)

    module _ (table' cases' : List ℕ) (found : Option ℕ) (fills : FillsRows s table table' cases cases' k end p found) where
      -- its rows are filled
      filled : (program : Program) (e : read_program s ≡ done program)
          → Filled table table' cases cases' (first_record program) (arity_of (signatures program)) k p (turn program e).here.body found
      filled program e = fills.is (first_record program) (arity_of (signatures program)) (turn program e).here.body (body_entered program e)

      -- the table keeps its length
      same_table : length table' ≡ length table
      same_table =
          let v = l.some_program in
          ap length (filled v.value v.is).rows ∙ (wrote table (row_words * k) _).same_length

      -- a record is given
      pub fill_found : IsSome found
      fill_found = let v = l.some_program in rw (filled v.value v.is).after refl

      module _ (next : ℕ) (is : found ≡ Some next) where
        went : Went (suc k) end next
        went = rw is at fills.went

        -- it is the one after the body
        after : (program : Program) (e : read_program s ≡ done program) → next ≡ k + size (turn program e).here.body
        after program e = same_Some next _ (sym is ∙ (filled program e).after)

        -- the functions after it are still to be done
        rest_left : (program : Program) → read_program s ≡ done program → Left s functions end table₀ table' next (j + 1) program
        unfolding rows_of_all
        rest_left program e =
            let t = turn program e in
            let g = filled program e in
            let entry = first_record program in
            let arity = arity_of (signatures program) in
            let body = t.here.body in
            let own = rows_of entry arity (body_location entry arity t.here) k body in
            let others = rows_of_all entry arity (k + size body) t.others in
            let location = row_words * k in
            let long_own : length own ≡ row_words * size body = length_rows entry arity (body_location entry arity t.here) k body in
            let own_written : table' ≡ written table location own =
            g.rows ∙ ap (λ q. written table location (rows_of entry arity q k body)) (body-location program e) in
            let after_own : location + length own ≡ row_words * next = omega (arith, after program e) in
            let room : location + length (own ++ others) ≤ length table =
            omega (arith, length-append own others, length_rows_all entry arity (k + size body) t.others, t.ends, l.inside.few, l.room, l.table_long) in
            record {
              others = t.others;
              known = (l.left program e).known;
              agrees = (l.left program e).agrees;
              held = subst (λ n. Bodies s (signatures program) (j + 1) n t.others) (sym (after program e)) (rw add-one t.after);
              many = omega (arith, t.many);
              ends = omega (arith, t.ends, after program e);
              due =
                  t.due
                  ∙ sym (written_append table location own others room)
                  ∙ ap₂ (λ (x : List ℕ) n. written x n others) (sym own_written) after_own
                  ∙ ap (λ n. written table' (row_words * next) (rows_of_all entry arity n t.others)) (sym (after program e));
            }

        pub fill_more : Filling s functions end table₀ table' cases' next (j + 1)
        fill_more = record {
          some_program = l.some_program;
          inside = record { before_end = went.inside; few = l.inside.few };
          table_long = same_table ∙ l.table_long;
          room = l.room;
          stack = let v = l.some_program in (filled v.value v.is).stack.long ∙ l.stack;
          left = rest_left;
        }

pub ruleset filling = (fill_first, fill_asked, fill_found, fill_more, fill_all, rules)
