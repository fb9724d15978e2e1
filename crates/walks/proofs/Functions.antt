-- Laws for code that goes through a program's functions one after the other: what is left of the
-- row at function j, whose body begins at record k. `whole` is what the row says of a program,
-- `row` what it says of functions from a record on.
use Prim.Native.Nat.{ℕ, suc, ◌+◌, ◌≤◌, ◌<◌}
use mathlib.Core.List.{List, [], ◌∷◌, map}
use mathlib.Core.Path.{◌≡◌, ap, ◌∙◌}
use native.Mathlib.Numerals.{add-one}
use native.Mathlib.Omega.{arith}
use lib.ListN.{length}
use Rattle.formats.specs.Numbers.{Bytes}
use Rattle.formats.specs.Results.{Result, done}
use Rattle.formats.specs.Records.{record_at}
use Rattle.formats.specs.Programs.{size, sum_of_counts, Function, signature_of, Program, signatures}
use Rattle.formats.specs.Rows.{read_program}
use Rattle.formats.specs.Inner.Fields.{header_in, function_in}
use Rattle.rules.specs.OrderChecker.{first_node}
use Rattle.walks.specs.Inner.Limits.{parameters_of_any}
use Rattle.walks.specs.Inner.Standing.{Known, Holds, Bodies, no_more, one_more}
use Rattle.walks.proofs.Walks.{program_held}

module _ (s : List ℕ) (functions last : ℕ) (whole : Program → Result (Unit {0})) (row : Program → ℕ → List Function → Result (Unit {0})) where
  -- the functions from j on say what the whole row does
  pub record Left (program : Program) (k j : ℕ) : Type 0 where
    pub others : List Function
    pub known : Known s (signatures program)
    pub held : Bodies s (signatures program) j k others
    pub many : j + length others ≡ functions
    pub ends : k + sum_of_counts (map signature_of others) ≡ last
    pub left : whole program ≡ row program k others

  -- at first all of them
  pub all_left : (nodes : ℕ) → Bytes s → functions ≡ (header_in s).functions → nodes ≡ (header_in s).nodes → last ≡ 1 + functions + nodes
      → ((program : Program) → whole program ≡ row program (first_node program) program.functions)
      → (program : Program) → read_program s ≡ done program → Left program (1 + functions) 0
  unfolding header_in record_at
  all_left nodes bytes ef en el whole_row program e =
      let h = program_held s program bytes e in
      let position : suc (length program.functions) ≡ 1 + functions = omega (arith, h.functions) in
      record {
        others = program.functions;
        known = h.known;
        held = rw position at h.held;
        many = omega (arith, h.functions);
        ends = omega (arith, h.nodes);
        left = whole_row program ∙ ap (λ k. row program k program.functions) position;
      }

  -- function j, its body at record k, and those after it
  pub record Turn (program : Program) (k j : ℕ) : Type 0 where
    pub here : Function
    pub others : List Function
    pub known : Known s (signatures program)
    pub signed : function_in s j ≡ done (signature_of here)
    pub few : here.parameters ≤ parameters_of_any
    pub holds : Holds s (signatures program) k here.body
    pub fits : k + size here.body ≤ last
    pub left : whole program ≡ row program k (here ∷ others)
    pub later : whole program ≡ row program (k + size here.body) others → Left program (k + size here.body) (j + 1)

  pub turn : (program : Program) (k j : ℕ) → j < functions → Left program k j → Turn program k j
  unfolding sum_of_counts signature_of
  turn program k j more l = by l.others l.held l.many l.ends l.left
    where
      by : (fs : List Function) → Bodies s (signatures program) j k fs → j + length fs ≡ functions → k + sum_of_counts (map signature_of fs) ≡ last
          → whole program ≡ row program k fs → Turn program k j
      by [] no_more many ends left = absurd (omega arith)
      by (f ∷ fs) (one_more signed few holds after) many ends left = record {
        here = f;
        others = fs;
        known = l.known;
        signed = signed;
        few = few;
        holds = holds;
        fits = omega arith;
        left = left;
        later = λ e. record { others = fs; known = l.known; held = rw add-one after; many = omega arith; ends = omega arith; left = e };
      }

  -- at last none
  pub none-left : (program : Program) (k j : ℕ) → functions ≤ j → Left program k j → whole program ≡ row program k []
  none-left program k j over l = by l.others l.many l.left
    where
      by : (fs : List Function) → j + length fs ≡ functions → whole program ≡ row program k fs → whole program ≡ row program k []
      by [] many left = left
      by (f ∷ fs) many left = absurd (omega arith)
