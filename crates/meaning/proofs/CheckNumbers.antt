-- The source run's checks before the evaluation never refuse with 21: their numbers are 1 to 10,
-- 13, 15, 16 and 20. So a call that is refused with 21 is one whose evaluation broke.
use Prim.Native.Nat.{ℕ, zero, suc, ◌+◌, ◌*◌, ◌/◌, ◌%◌, ◌<◌}
use mathlib.Core.Bool.{Bool, true, false, ◌&&◌}
use mathlib.Core.List.{List, [], ◌∷◌}
use mathlib.Core.Option.{Option, none, some}
use mathlib.Core.Path.{◌≡◌, subst}
use lib.Dec.{lit<, eqb, leb}
use lib.ListN.{length, take, drop}
use Rattle.formats.specs.Refusals.{wrong_type, not_bound, input_ended, not_a_tag, space_too_short, out_of_range}
use Rattle.formats.specs.Results.{Result, done, refusal, and_then, on_value, value_if, each}
use Rattle.formats.specs.Tokens.{Tree, label_bytes, Tag, no_byte, a_leaf, a_node, other, tag_at, label_at, branches_at, tree_by_tag, tree_at, first_tree, tokens}
use Rattle.formats.specs.Records.{Record, fields, record_bytes, nth, Kind, fields_of, kind_of, same_fields, function_below, node_record}
use Rattle.formats.specs.Programs.{Expr, Signature, sum_of_counts, Function, Header, first_edition, most_functions, most_nodes, most_parameters}
use Rattle.formats.specs.Rows.{header_from, header_row, sorts, function_from, function_at, function_row, node_at, node_row, exprs_of, exactly_one, bodies, prefix_row, read_program}
use Rattle.formats.specs.Blocks.{block_bytes, most_blocks, word_sum, word_limit, check_target, fields_fit, length_row, used_of, block_at, block_row, concatenated, flat_in, program_in}
use Rattle.rules.specs.Scopes.{Entry, entry}
use Rattle.rules.specs.PassOne.{name_bound, type_fits, has_room, holds_at, at_entry, pass_over, pass_one}
use Rattle.meaning.specs.Running.{value_words, return_words}
use Rattle.meaning.specs.SourceRun.{SourceInput, check_source}

-- A value, or a refusal with a number below 21.
data Early {A : Type 0} : Result A → Type 0 where
  a_value : {x : A} → Early (done x)
  a_refusal : {number position : ℕ} → number < out_of_range → Early (refusal number position)

-- ---- readings put together

-- one after the other
early_then : {A B : Type 0} (r : Result A) (next : A → Result B) → Early r → ((x : A) → Early (next x)) → Early (and_then r next)
early_then r next (a_value {x = x}) second = second x
early_then r next (a_refusal h) second = a_refusal h

-- with its value changed
early_on : {A B : Type 0} (f : A → B) (r : Result A) → Early r → Early (on_value f r)
early_on f r a_value = a_value
early_on f r (a_refusal h) = a_refusal h

-- by a test
early_if : {A : Type 0} (test : Bool) (number position : ℕ) (x : A) → number < out_of_range → Early (value_if test number position x)
early_if true number position x h = a_value
early_if false number position x h = a_refusal h

early_test : {A : Type 0} (test : Bool) (r r' : Result A) → Early r → Early r' → Early {A = A} (elim test [ true ↦ r | false ↦ r' ])
early_test true r r' h h' = h
early_test false r r' h h' = h'

-- by what was found
early_found : {A B : Type 0} (o : Option A) (r : Result B) (f : A → Result B) → Early r → ((x : A) → Early (f x)) → Early {A = B} (elim o [ none ↦ r | some x ↦ f x ])
early_found none r f h hs = h
early_found (some x) r f h hs = hs x

-- several
early_each : {A : Type 0} (f : ℕ → Result A) → ((k : ℕ) → Early (f k)) → (n k : ℕ) → Early (each f n k)
unfolding each
early_each f h zero k = a_value
early_each f h (suc n) k = early_then (f k) _ (h k) (λ x. early_then (each f n (suc k)) _ (early_each f h n (suc k)) (λ xs. a_value))

-- ---- the rows of a file

length_early : (s : List ℕ) → Early (length_row s)
unfolding length_row
length_early s =
    let n : ℕ = length s / block_bytes in
    early_if (eqb (length s) (block_bytes * n) && (leb 1 n && leb n most_blocks)) _ _ _ (lit< tt)

block_early : (blocks j : ℕ) (block : List ℕ) → Early (used_of blocks j block)
unfolding used_of
block_early blocks j block =
    early_test (eqb (word_sum block % word_limit) check_target) _ _ (early_if (fields_fit blocks j block) _ _ _ (lit< tt)) (a_refusal (lit< tt))

flat_early : (s : List ℕ) → Early (flat_in s)
unfolding flat_in block_row block_at
flat_early s =
    early_then (length_row s) _ (length_early s) (λ n.
    early_on concatenated (each (block_at n s) n 0) (early_each (block_at n s) (λ j. block_early n j _) n 0))

header_early : (bytes : ℕ) (r : Record) → Early (header_from bytes r)
unfolding header_from
header_early bytes (fields edition f n i) =
    early_if
    (eqb edition first_edition && ((leb 1 f && leb f most_functions) && ((leb 1 n && leb n most_nodes) && (eqb i 0 && eqb bytes (record_bytes * suc (f + n))))))
    _ _ _ (lit< tt)

function_early : (edition j : ℕ) (r : Record) → Early (function_from edition j r)
unfolding function_from
function_early edition j (fields x a n i) =
    early_found (nth (sorts edition) x) _ _ (a_refusal (lit< tt)) (λ sort. early_if (leb a (most_parameters j) && (leb 1 n && eqb i 0)) _ _ _ (lit< tt))

functions_early : (h : Header) (s : List ℕ) → Early (function_row h s)
unfolding function_row function_at
functions_early h s =
    let at_one : ℕ → Result Signature = function_at h.edition s in
    early_then (each at_one h.functions 0) _
    (early_each at_one (λ j. function_early h.edition j _) h.functions 0)
    (λ gs. early_if (eqb (sum_of_counts gs) h.nodes) _ _ _ (lit< tt))

node_early : (edition functions k : ℕ) (r : Record) → Early (node_record edition functions k r)
unfolding node_record
node_early edition functions k r =
    early_found (kind_of edition r) _ _ (a_refusal (lit< tt)) (λ kind. early_if (same_fields (fields_of kind) r && function_below functions kind) _ _ _ (lit< tt))

nodes_early : (h : Header) (s : List ℕ) → Early (node_row h s)
unfolding node_row node_at
nodes_early h s = early_each (node_at h s) (λ k. node_early h.edition h.functions k _) h.nodes (suc h.functions)

one_early : (r : ℕ) (es : Option (List Expr)) → Early (exactly_one r es)
unfolding exactly_one
one_early r none = a_refusal (lit< tt)
one_early r (some []) = a_refusal (lit< tt)
one_early r (some (e ∷ [])) = a_value
one_early r (some (e ∷ (d ∷ es))) = a_refusal (lit< tt)

bodies_early : (arity : ℕ → ℕ) (gs : List Signature) (ks : List Kind) (r : ℕ) → Early (bodies arity gs ks r)
unfolding bodies
bodies_early arity [] ks r = a_value
bodies_early arity (g ∷ gs) ks r =
    let rest : Result (List Function) = bodies arity gs (drop g.count ks) (r + g.count) in
    early_then (exactly_one r (exprs_of arity (take g.count ks))) _ (one_early r _) (λ e.
    early_then rest _ (bodies_early arity gs _ _) (λ fs. a_value))

read_early : (s : List ℕ) → Early (read_program s)
unfolding read_program header_row prefix_row
read_early s =
    early_then (header_row s) _ (header_early _ _) (λ h.
    early_then (function_row h s) _ (functions_early h s) (λ gs.
    early_then (node_row h s) _ (nodes_early h s) (λ ks.
    early_then (prefix_row h gs ks) _ (bodies_early _ gs ks _) (λ fs. a_value))))

-- ---- pass one

entry_early : (gs : List Signature) (x : Entry) → Early (at_entry gs x)
unfolding at_entry
entry_early gs (entry sc r kind) =
    early_then (holds_at (name_bound sc kind) not_bound r) _ (early_if (name_bound sc kind) _ _ _ (lit< tt)) (λ u.
    early_then (holds_at (type_fits gs sc kind) wrong_type r) _ (early_if (type_fits gs sc kind) _ _ _ (lit< tt)) (λ v.
    early_if (has_room gs sc kind) _ _ _ (lit< tt)))

entries_early : (gs : List Signature) (xs : List Entry) → Early (pass_over gs xs)
unfolding pass_over
entries_early gs [] = a_value
entries_early gs (x ∷ xs) = early_then (at_entry gs x) _ (entry_early gs x) (λ u. entries_early gs xs)

-- ---- the tree reader

label_early : (s : List ℕ) (p : ℕ) → Early (label_at s p)
unfolding label_at
label_early s p = early_test (leb (p + label_bytes) (length s)) _ _ a_value (a_refusal (lit< tt))

tag_early : (s : List ℕ) (p : ℕ) (below : ℕ → Result Tree) → ((q : ℕ) → Early (below q)) → Early (tree_by_tag s p below)
unfolding tree_by_tag
tag_early s p below h = by_tag (tag_at s p)
  where
    by_tag : (g : Tag) → Early {A = Tree} (elim g [ no_byte ↦ refusal input_ended p | a_leaf ↦ label_at s (suc p) | a_node ↦ below p | other ↦ refusal not_a_tag p ])
    by_tag no_byte = a_refusal (lit< tt)
    by_tag a_leaf = label_early s (suc p)
    by_tag a_node = h p
    by_tag other = a_refusal (lit< tt)

tree_early : (room : ℕ) (s : List ℕ) (p : ℕ) → Early (tree_at room s p)
unfolding tree_at branches_at
tree_early zero s p = tag_early s p _ (λ q. a_refusal (lit< tt))
tree_early (suc room) s p =
    tag_early s p _ (λ q.
    early_then (tree_at room s (suc q)) _ (tree_early room s _) (λ left.
    early_then (tree_at room s (suc q + length (tokens left))) _ (tree_early room s _) (λ right. a_value)))

-- ---- all checks

module _ (file input : List ℕ) (values returns : ℕ) where
  checks_early : Early (check_source file input values returns)
  unfolding check_source program_in pass_one first_tree
  checks_early =
      early_then (program_in file) _ (early_then (flat_in file) _ (flat_early file) read_early) (λ program.
      early_then (pass_one program) _ (entries_early _ _) (λ u.
      early_then (value_if (leb value_words values && leb return_words returns) space_too_short 0 (tt {0})) _
      (early_if (leb value_words values && leb return_words returns) _ _ _ (lit< tt)) (λ w.
      early_then (first_tree input) _ (tree_early _ input 0) (λ t. a_value))))

  -- so what they refuse has a number below 21
  pub checks_below : (number position : ℕ) → check_source file input values returns ≡ refusal number position → number < out_of_range
  checks_below number position e = below (subst Early e checks_early)
    where
      below : {n p : ℕ} → Early {A = SourceInput} (refusal n p) → n < out_of_range
      below (a_refusal h) = h
