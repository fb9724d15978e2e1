-- A function emitted: what is known on entering its body, its body, and its return.
use Prim.Native.Nat.{ℕ, zero, suc, ◌+◌, ◌*◌, ◌≤◌, min}
use mathlib.Core.Bool.{Bool, true, false}
use mathlib.Core.List.{List, [], ◌∷◌}
use mathlib.Core.Path.{◌≡◌, refl, sym, ap, ap₂, subst, ◌∙◌}
use native.Mathlib.Nat.{add-zero}
use native.Mathlib.Omega.{arith}
use mir.Syntax.{w64}
use mir.Val.{Fits}
use lib.Dec.{eqb}
use lib.ListN.{length}
use Rattle.std.specs.Prelude.{Option, Some, None}
use Rattle.std.proofs.lemmas.Option.{none-some, same_Some}
use Rattle.formats.specs.Inner.Buffers.{from_last}
use Rattle.formats.specs.Records.{record_bytes, bytes_of_record, fields}
use Rattle.formats.specs.Programs.{Sort, number_valued, tree_valued, sort_number, Function, signature_of}
use Rattle.formats.specs.Inner.Fields.{arity_in, sort_in}
use Rattle.formats.specs.Written.{written}
use Rattle.formats.proofs.Rows.{FieldsRead, function_read}
use Rattle.meaning.specs.Instructions.{Return, instruction_of}
use Rattle.rules.specs.Types.{result_type}
use Rattle.rules.specs.Scopes.{scope, entered}
use Rattle.rules.specs.PassOne.{pass_over}
use Rattle.walks.specs.Inner.Limits.{parameters_of_any}
use Rattle.translation.specs.Templates.{code_end, code, first_words, words_kept, function_code, function_end}
use Rattle.translation.proofs.Addresses.{length_code}
use Rattle.code_scope.specs.Inner.Around.{Around, around, sort_of, words_in, most_names}
use Rattle.template.specs.Inner.Items.{entries_in}
use Rattle.code_scope.specs.declared.Scope.{Scope}
use Rattle.instruction.specs.declared.Instruction.{Instruction}
use Rattle.instruction.specs.declared.Opcode.TheVariants as o
use Rattle.instruction.specs.Inner.Opcodes.{number_of}
use Rattle.translate.specs.declared.Emitted.{Emitted}
use Rattle.translate.specs.Inner.Emitting.{emitted_at}
use Rattle.translate.specs.Inner.Walk.{Small, Entering, EmittedHere, Emits, start_around, Starts, EnteringFunction, EmittedFunction, EmitsFunction}
use Rattle.translate.proofs.Written.{emitted_beyond, emitted_one}
use Rattle.translate.proofs.Walk.{not_none}

-- ---- `start`

-- the words 0 to 15
abbrev pub rising : List ℕ
rising = 0 ∷ 1 ∷ 2 ∷ 3 ∷ 4 ∷ 5 ∷ 6 ∷ 7 ∷ 8 ∷ 9 ∷ 10 ∷ 11 ∷ 12 ∷ 13 ∷ 14 ∷ 15 ∷ []

-- the first of them, as many as a function may have parameters
first-words : (n : ℕ) → n ≤ parameters_of_any → from_last rising n ≡ first_words n
unfolding from_last first_words
first-words zero h = refl
first-words (suc zero) h = refl
first-words (suc (suc zero)) h = refl
first-words (suc (suc (suc zero))) h = refl
first-words (suc (suc (suc (suc zero)))) h = refl
first-words (suc (suc (suc (suc (suc n))))) h = absurd (omega arith)

-- the sort by its number
sorted : (n : ℕ) (sort : Sort) → n ≡ sort_number sort → sort_of (eqb n 1) ≡ sort
unfolding sort_number
sorted n number_valued e = ap (λ k. sort_of (eqb k 1)) e
sorted n tree_valued e = ap (λ k. sort_of (eqb k 1)) e

pub started : (s : List ℕ) (j m : ℕ) (tree : Bool) → m ≡ arity_in s j → tree ≡ eqb (sort_in s j) 1
    → Starts s j (record { words = rising; names = m; standing = m; tree = tree })
unfolding words_in signature_of
started s j m tree em et = record {
  begins = record { is = λ f known few. begun f (function_read s j (signature_of f) known) few };
  table = refl;
  named = record { few = omega arith };
}
  where
    begun : (f : Function) → FieldsRead s j (signature_of f) → f.parameters ≤ parameters_of_any
        → around (sort_of tree) (from_last rising (min m most_names)) m ≡ start_around f
    begun f g few =
        let same : m ≡ f.parameters = em ∙ sym g.arity in
        let least : min m most_names ≡ f.parameters = omega arith in
        let words : from_last rising (min m most_names) ≡ first_words f.parameters = ap (from_last rising) least ∙ first-words f.parameters few in
        ap₂ (λ x y. around x y m) (ap sort_of et ∙ sorted (sort_in s j) f.sort (sym g.sort)) words ∙ ap (around f.sort (first_words f.parameters)) same

-- ---- `words_kept`

pub kept_tree : (tree : Bool) → tree ≡ true → 0 ≡ words_kept (sort_of tree)
unfolding words_kept
kept_tree _ e = rw (e, words_kept)

pub kept_number : (tree : Bool) → tree ≡ false → 1 ≡ words_kept (sort_of tree)
unfolding words_kept
kept_number _ e = rw (e, words_kept)

pub ruleset kept = (kept_tree, kept_number)

-- ---- `emit_function`

module _ (s entries code' : List ℕ) (entry j k end : ℕ) (c : Scope) (starts : Starts s j c) (between : List ℕ)
    (small : Small k end entry 0 1) (found : Option Emitted) (p : Emits s entries code' between entry 0 k end c found) where
  -- the body is entered
  body_entered : (f : Function) → EnteringFunction s j k end f → Entering s k end c f.body
  body_entered f h =
      let is = starts.begins.is f h.signature h.few_parameters in
      let words : c.standing ≡ f.parameters = ap (λ (x : Around). x.standing) is in
      let sort : sort_of c.tree ≡ f.sort = ap (λ (x : Around). x.sort) is in
      record {
        here = h.here;
        numbers = f.parameters;
        trees = 1;
        passes = ap₂ (λ n t. pass_over h.here.signed (entered (scope f.parameters 1 n (result_type t)) k f.body)) words sort ∙ h.passes;
        table = starts.table;
        named = starts.named;
        words = omega (arith, small.inside.few, h.few_parameters);
      }

  -- where a function's body stands, it is emitted
  pub function_stuck : found ≡ None → EmitsFunction s entries code' between entry j k end None
  function_stuck missing = record {
    answered = λ f h. not_none (p.answered f.body (body_entered f h)) missing;
    is = λ x same. absurd (none-some x same);
  }

  pub function_sum : (body : Emitted) → found ≡ Some body → Fits w64 (body.at + 1)
  function_sum body is = record { fits = omega (arith, small.small, (p.is body is).went_on.small) }

  pub function_emitted : (body : Emitted) (n : ℕ) (x : Instruction) (after : List ℕ) → found ≡ Some body → n ≡ words_kept (sort_of c.tree)
      → x ≡ record { opcode = o.Return; byte1 = 0; operand = 0; number = 0 }
      → after ≡ written between (record_bytes * body.at) (bytes_of_record (fields (number_of x.opcode) n x.operand x.number))
      → EmitsFunction s entries code' after entry j k end (Some (record { next = body.next; at = body.at + 1; last = body.last }))
  unfolding function_code function_end instruction_of
  function_emitted body n x after is keeps plain wrote = record {
    answered = λ f h. refl;
    is = λ r same. subst (EmittedFunction s entries code' after entry j k end) (same_Some _ r same) emitted;
  }
    where
      l : EmittedHere s entries code' between entry 0 k end c body
      l = p.is body is

      address : (f : Function) → EnteringFunction s j k end f → entry + body.at ≡ code_end f.body entry
      address f h = (l.came f.body (body_entered f h)).address ∙ ap (code_end f.body) (add-zero entry)

      emitted : EmittedFunction s entries code' after entry j k end (record { next = body.next; at = body.at + 1; last = body.last })
      emitted = record {
        went_on = record {
          went = l.went_on.went;
          up = omega arith;
          small = omega (arith, l.went_on.small);
          last_small = l.went_on.last_small;
        };
        next = λ f h. (l.came f.body (body_entered f h)).next;
        address = λ f h. omega (arith, address f h);
        emits = λ f h room.
            let is = starts.begins.is f h.signature h.few_parameters in
            let sort : sort_of c.tree ≡ f.sort = ap (λ (x : Around). x.sort) is in
            let own = code (entries_in entries) f.sort (first_words f.parameters) f.parameters entry f.body in
            let first : between ≡ emitted_at code' 0 own =
            l.emits f.body (body_entered f h) (omega arith)
            ∙ ap₂ (λ (x : Around) a. emitted_at code' 0 (code (entries_in entries) x.sort x.words x.standing a f.body)) is (add-zero entry) in
            let long : body.at ≡ 0 + length own = omega (arith, address f h, length_code (entries_in entries) f.sort (first_words f.parameters) f.parameters entry f.body) in
            wrote
            ∙ ap (λ (y : Instruction). written between (record_bytes * body.at) (bytes_of_record (fields (number_of y.opcode) n y.operand y.number))) plain
            ∙ ap (λ m. written between (record_bytes * body.at) (bytes_of_record (fields 13 m 0 0))) (keeps ∙ ap words_kept sort)
            ∙ emitted_one between body.at (Return (words_kept f.sort))
            ∙ ap (λ (b : List ℕ). emitted_at b body.at (Return (words_kept f.sort) ∷ [])) first
            ∙ emitted_beyond code' 0 own (Return (words_kept f.sort) ∷ []) body.at long (omega arith);
      }

pub ruleset function_ways = (function_stuck, function_sum, function_emitted)

-- what its body asks
pub body_asked : (k end entry : ℕ) → Small k end entry 0 1 → Small k end entry 0 0
body_asked k end entry small = record { inside = small.inside; base_small = small.base_small; small = omega (arith, small.small) }
