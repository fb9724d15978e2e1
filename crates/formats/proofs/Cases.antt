-- Worked cases of tokens (01, Tokens), proved by computation. Each row of a table is a buffer and
-- what the tree reader finds in it.
use Prim.Native.Nat.{ℕ, zero, suc}
use mathlib.Core.List.{List, [], ◌∷◌, ◌++◌, map}
use mathlib.Core.Option.{none, some}
use mathlib.Core.Path.{◌≡◌, refl}
use lib.IntN.{pos, negsuc}
use lib.ListN.{take, replicate}
use Rattle.formats.specs.Numbers.{bytes_of, number_of, number_at, signed32}
use Rattle.formats.specs.Arithmetic.{plus, unbounded, word_for, result_of}
use Rattle.formats.specs.Written.{written}
use Rattle.formats.specs.Measures.{Measures, measures_of, first_measures, measures_or0}
use Rattle.formats.specs.Inner.Trees.{label_end, end_by_tag, end_at, measures_by}
use Rattle.formats.specs.Tokens.{Tree, leaf, node, tips, depth, node_tag, tokens, tag_of, tag_at, label_at, branches_at, tree_by_tag, tree_at, first_tree, own_bytes, end_from, first_end}
use Rattle.formats.specs.Results.{done, refusal}

-- tree T (01, Worked programs), and its bytes 02 01 05 00 00 00 01 07 00 00 00
t : Tree
t = node (leaf 5) (leaf 7)

t_bytes : List ℕ
t_bytes = 2 ∷ 1 ∷ 5 ∷ 0 ∷ 0 ∷ 0 ∷ 1 ∷ 7 ∷ 0 ∷ 0 ∷ 0 ∷ []

-- labels low byte first; −1 and the smallest label; a label whose bytes look like tags
tokens_of : map tokens (t ∷ leaf 258 ∷ leaf 4294967295 ∷ leaf 2147483648 ∷ leaf 33686018 ∷ node (leaf 1) t ∷ [])
    ≡ t_bytes ∷ (1 ∷ 2 ∷ 1 ∷ 0 ∷ 0 ∷ []) ∷ (1 ∷ 255 ∷ 255 ∷ 255 ∷ 255 ∷ []) ∷ (1 ∷ 0 ∷ 0 ∷ 0 ∷ 128 ∷ []) ∷ (1 ∷ 2 ∷ 2 ∷ 2 ∷ 2 ∷ [])
    ∷ (2 ∷ 1 ∷ 1 ∷ 0 ∷ 0 ∷ 0 ∷ t_bytes) ∷ []
unfolding tokens bytes_of t t_bytes
tokens_of = refl

signed_of : map signed32 (0 ∷ 5 ∷ 2147483647 ∷ 2147483648 ∷ 4294967295 ∷ []) ≡ pos 0 ∷ pos 5 ∷ pos 2147483647 ∷ negsuc 2147483647 ∷ negsuc 0 ∷ []
unfolding signed32
signed_of = refl

-- the exact sum, in range or not
exact_sums :
    unbounded plus (pos 2147483647) (pos 1) ∷ unbounded plus (negsuc 2147483647) (negsuc 0) ∷ unbounded plus (negsuc 0) (pos 1) ∷ unbounded plus (pos 5) (negsuc 6) ∷ []
    ≡ pos 2147483648 ∷ negsuc 2147483648 ∷ pos 0 ∷ negsuc 1 ∷ []
unfolding unbounded
exact_sums = refl

-- the word that stands for a number, at both ends of the range
words_for :
    map word_for (pos 0 ∷ pos 2147483647 ∷ pos 2147483648 ∷ negsuc 0 ∷ negsuc 2147483647 ∷ negsuc 2147483648 ∷ [])
    ≡ some 0 ∷ some 2147483647 ∷ none ∷ some 4294967295 ∷ some 2147483648 ∷ none ∷ []
unfolding word_for
words_for = refl

-- 2147483647 + 0 fits, + 1 does not; −2147483648 + 0 fits, + −1 does not; −1 + 1 and −1 + 5;
-- 2147483647 + −2147483648; −2147483648 twice; 1073741824 twice
results :
    result_of plus 2147483647 0
    ∷ result_of plus 2147483647 1
    ∷ result_of plus 2147483648 0
    ∷ result_of plus 2147483648 4294967295
    ∷ result_of plus 4294967295 1
    ∷ result_of plus 4294967295 5
    ∷ result_of plus 2147483647 2147483648
    ∷ result_of plus 2147483648 2147483648
    ∷ result_of plus 1073741824 1073741824
    ∷ []
    ≡ some 2147483647 ∷ none ∷ some 2147483648 ∷ none ∷ some 0 ∷ some 4 ∷ some 4294967295 ∷ none ∷ none ∷ []
unfolding result_of word_for unbounded signed32
results = refl

-- the number at an offset, 0 where a byte is missing
numbers : map (number_at 2 (1 ∷ 2 ∷ 3 ∷ [])) (0 ∷ 1 ∷ 2 ∷ 3 ∷ []) ≡ 513 ∷ 770 ∷ 0 ∷ 0 ∷ []
unfolding number_at number_of
numbers = refl

-- two bytes written at an offset, and nothing where one would not fit
writes : map (λ (p : ℕ). written (9 ∷ 9 ∷ 9 ∷ []) p (bytes_of 2 258)) (0 ∷ 1 ∷ 2 ∷ []) ≡ (2 ∷ 1 ∷ 9 ∷ []) ∷ (9 ∷ 2 ∷ 1 ∷ []) ∷ (9 ∷ 9 ∷ 9 ∷ []) ∷ []
unfolding written bytes_of
writes = refl

-- leaves, and nodes above the deepest of them
shapes : map tips (leaf 0 ∷ t ∷ node t (leaf 0) ∷ []) ++ map depth (leaf 0 ∷ t ∷ node (leaf 0) t ∷ node t t ∷ []) ≡ 1 ∷ 2 ∷ 3 ∷ 0 ∷ 1 ∷ 2 ∷ 2 ∷ []
unfolding tips depth t
shapes = refl

-- every cut of T, T itself and T with anything after it
cuts : ℕ → List (List ℕ)
cuts zero = []
cuts (suc n) = take n t_bytes ∷ cuts n

cut_ends : map first_end ((t_bytes ++ (9 ∷ [])) ∷ cuts 12)
    ≡ done 11 ∷ done 11 ∷ refusal 15 7 ∷ refusal 15 7 ∷ refusal 15 7 ∷ refusal 15 7 ∷ refusal 15 6 ∷ refusal 15 2 ∷ refusal 15 2 ∷ refusal 15 2 ∷ refusal 15 2 ∷ refusal 15 1 ∷ refusal 15 0 ∷ []
unfolding first_end end_from first_tree tree_at tree_by_tag branches_at tag_at tag_of label_at number_at number_of tokens bytes_of cuts t_bytes
cut_ends = refl

-- a byte that is no tag, first and later; a label byte 2 that is no node; and 1,025 node tags in a
-- row, of which the last is refused before the byte after it is looked at
deep : List ℕ
deep = replicate 1025 node_tag ++ (7 ∷ [])

other_ends : map first_end ((3 ∷ []) ∷ (0 ∷ t_bytes) ∷ (2 ∷ 1 ∷ 2 ∷ 2 ∷ 2 ∷ 2 ∷ 3 ∷ []) ∷ (1 ∷ 2 ∷ 2 ∷ 2 ∷ 2 ∷ []) ∷ deep ∷ [])
    ≡ refusal 16 0 ∷ refusal 16 0 ∷ refusal 16 6 ∷ done 5 ∷ refusal 20 1024 ∷ []
unfolding first_end end_from first_tree tree_at tree_by_tag branches_at tag_at tag_of label_at number_at number_of tokens bytes_of deep t_bytes
other_ends = refl

-- bytes, tips and depth
of : (bytes tips depth : ℕ) → Measures
of bytes tips depth = record { bytes = bytes; tips = tips; depth = depth }

-- N5: "nodes above the deepest leaf, 0 for a lone leaf": a leaf alone; a node; the deepest leaves
-- last, first, in between (twice); four leaves equally deep; and six tips
measured_trees : List Tree
measured_trees =
    leaf 7
    ∷ node (leaf 1) (leaf 2)
    ∷ node (leaf 1) (node (leaf 2) (leaf 3))
    ∷ node (node (leaf 1) (leaf 2)) (leaf 3)
    ∷ node (node (leaf 1) (node (leaf 2) (leaf 3))) (leaf 4)
    ∷ node (leaf 1) (node (node (leaf 2) (leaf 3)) (leaf 4))
    ∷ node (node (leaf 1) (leaf 2)) (node (leaf 3) (leaf 4))
    ∷ node (node (node (leaf 1) (leaf 2)) (leaf 3)) (node (node (leaf 4) (leaf 5)) (leaf 6))
    ∷ []

-- with a whole tree after each, which does not count
measures-of : map (λ (u : Tree). first_measures (tokens u ++ t_bytes)) measured_trees
    ≡ done (of 5 1 0)
    ∷ done (of 11 2 1)
    ∷ done (of 17 3 2)
    ∷ done (of 17 3 2)
    ∷ done (of 23 4 3)
    ∷ done (of 23 4 3)
    ∷ done (of 23 4 2)
    ∷ done (of 35 6 3)
    ∷ []
unfolding first_measures measures_of tips depth first_tree tree_at tree_by_tag branches_at tag_at tag_of label_at number_at number_of tokens bytes_of of measured_trees t_bytes
measures-of = refl

-- N5: "A refusal of the reader .. gives 0 for both": input that ends, no tag after a whole leaf, a
-- node too deep
measures_refused : map (λ (s : List ℕ). measures_or0 (first_measures s)) (take 10 t_bytes ∷ (2 ∷ 1 ∷ 2 ∷ 2 ∷ 2 ∷ 2 ∷ 3 ∷ []) ∷ deep ∷ t_bytes ∷ [])
    ≡ of 0 0 0 ∷ of 0 0 0 ∷ of 0 0 0 ∷ of 11 2 1 ∷ []
unfolding measures_or0 first_measures measures_of tips depth first_tree tree_at tree_by_tag branches_at tag_at tag_of label_at number_at number_of tokens bytes_of of deep t_bytes
measures_refused = refl

-- tags alone, with labels of no bytes: a leaf; a node; the deepest leaf last; the deepest leaf in
-- between, and bytes after the tree; a tag that is not there; no tag; a node too deep
tag_measures : map (measures_by 0) ((1 ∷ []) ∷ (2 ∷ 1 ∷ 1 ∷ []) ∷ (2 ∷ 1 ∷ 2 ∷ 1 ∷ 1 ∷ []) ∷ (2 ∷ 2 ∷ 1 ∷ 2 ∷ 1 ∷ 1 ∷ 1 ∷ 9 ∷ 9 ∷ []) ∷ (2 ∷ 1 ∷ []) ∷ (2 ∷ 3 ∷ []) ∷ deep ∷ [])
    ≡ done (of 1 1 0) ∷ done (of 3 2 1) ∷ done (of 5 3 2) ∷ done (of 7 4 3) ∷ refusal 15 2 ∷ refusal 16 1 ∷ refusal 20 1024 ∷ []
unfolding measures_by end_at end_by_tag label_end tag_at tag_of of deep
tag_measures = refl

-- labels of two bytes; and one that would be longer than any buffer
other_widths : measures_by 2 (2 ∷ 1 ∷ 0 ∷ 0 ∷ 2 ∷ 2 ∷ 1 ∷ 0 ∷ 0 ∷ 1 ∷ 0 ∷ 0 ∷ 1 ∷ 0 ∷ 0 ∷ []) ∷ measures_by 18446744073709551615 (1 ∷ []) ∷ []
    ≡ done (of 15 4 3) ∷ refusal 15 1 ∷ []
unfolding measures_by end_at end_by_tag label_end tag_at tag_of of
other_widths = refl

-- left before right; the tree's own bytes alone, and none on a refusal
read_trees : map first_tree (t_bytes ∷ (t_bytes ++ t_bytes) ∷ (1 ∷ 2 ∷ 1 ∷ 0 ∷ 0 ∷ []) ∷ [])
    ≡ done t ∷ done t ∷ done (leaf 258) ∷ []
unfolding first_tree tree_at tree_by_tag branches_at tag_at tag_of label_at number_at number_of tokens bytes_of t t_bytes
read_trees = refl

own-bytes : map (λ (s : List ℕ). own_bytes (first_tree s)) ((t_bytes ++ (9 ∷ [])) ∷ take 10 t_bytes ∷ []) ≡ t_bytes ∷ [] ∷ []
unfolding first_tree tree_at tree_by_tag branches_at tag_at tag_of label_at number_at number_of own_bytes tokens bytes_of t_bytes
own-bytes = refl
