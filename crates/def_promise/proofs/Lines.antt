-- Each node of a sound program has the listed line, and no other. Assumes nothing.
use Rattle.std.proofs.Common.{◌≡◌, sym, ap, ap₂, ◌∙◌, subst, ⊎_elim, List, [], ◌∷◌, ◌++◌, ℕ, ◌<◌, arith, mod-eq_of_lt, length}
use mathlib.Core.List.{Memᴰ}
use mathlib.Core.List.Memᴰ
use Rattle.def_meaning.specs.Programs.{Item, Prog, Branches}
use Rattle.def_meaning.specs.Words.{field_size, shape_by}
use Rattle.def_meaning.proofs.MadeLaws.{made_shape}
use Rattle.base.specs.Text.{ascii}
use Rattle.lines.specs.Lines.{byte_line, mask_line, shape_line, node_line}
use Rattle.def_meaning.specs.NodeWords as words
use Rattle.def_meaning.specs.NodeWords.{word, Flat, Flats, Branched, Nodes}
use Rattle.def_promise.specs.Lines.{NodeLine}
use Rattle.def_promise.specs.Lines as lines

made : (k a b : ℕ) → k < 256 → a < field_size → b < field_size → node_line (word k a b) ≡ shape_line (shape_by k a b)
unfolding node_line
made k a b h f g = ap shape_line (made_shape k a b h f g)

-- a listed line is the computed one
pub line_one : {w : ℕ} {l : List ℕ} → NodeLine w l → l ≡ node_line w
unfolding shape_by
line_one (lines.kind_0 {v = v} h) = ap (byte_line (ascii "byte ")) (sym (mod-eq_of_lt h)) ∙ sym (made 0 v 0 (omega arith) (omega arith) (omega arith))
line_one (lines.kind_1 {v = v} {m = m} h g) = ap₂ (mask_line (ascii "mask ")) (sym (mod-eq_of_lt h)) (sym (mod-eq_of_lt g)) ∙ sym (made 1 v m (omega arith) (omega arith) (omega arith))
line_one (lines.kind_2 {v = v} {m = m} h g) = ap₂ (mask_line (ascii "not ")) (sym (mod-eq_of_lt h)) (sym (mod-eq_of_lt g)) ∙ sym (made 2 v m (omega arith) (omega arith) (omega arith))
line_one (lines.kind_3 {n = n} h) = sym (made 3 n 0 (omega arith) h (omega arith))
line_one (lines.kind_4 {a = a} {b = b} h g) = sym (made 4 a b (omega arith) h g)
line_one lines.kind_5 = sym (made 5 0 0 (omega arith) (omega arith) (omega arith))
line_one (lines.kind_6 {n = n} h) = sym (made 6 n 0 (omega arith) h (omega arith))
line_one (lines.kind_7 {n = n} h) = sym (made 7 n 0 (omega arith) (omega arith) (omega arith))

of_line : (w : ℕ) (l : List ℕ) → NodeLine w l → NodeLine w (node_line w)
of_line w l h = subst (NodeLine w) (line_one h) h

-- and each word of a sound program has one
flat_line : {w : ℕ} {i : Item} → Flat w i → NodeLine w (node_line w)
flat_line (words.kind_0 {v = v} h) = of_line _ _ (lines.kind_0 h)
flat_line (words.kind_1 {v = v} {m = m} h g u) = of_line _ _ (lines.kind_1 h g)
flat_line (words.kind_2 {v = v} {m = m} h g u) = of_line _ _ (lines.kind_2 h g)
flat_line (words.kind_3 {n = n} s h) = of_line _ _ (lines.kind_3 h)
flat_line words.kind_5 = of_line _ _ lines.kind_5

-- every word of a list has a line
abbrev Lined : List ℕ → Type 0
Lined ws = (w : ℕ) → Memᴰ w ws → NodeLine w (node_line w)

none_lined : Lined []
none_lined w m = absurd (Memᴰ.not-nil m)

next_lined : (v : ℕ) (ws : List ℕ) → NodeLine v (node_line v) → Lined ws → Lined (v ∷ ws)
next_lined v ws h g w m = ⊎_elim (λ e. subst (λ (x : ℕ). NodeLine x (node_line x)) (sym e) h) (λ q. g w q) (Memᴰ.cases_cons m)

both_lined : (a b : List ℕ) → Lined a → Lined b → Lined (a ++ b)
both_lined a b h g w m = ⊎_elim (λ q. h w q) (λ q. g w q) (Memᴰ.append_cases a m)

flats_lined : {ns : List ℕ} {p : Prog} → Flats ns p → Lined ns
flats_lined words.no_node = none_lined
flats_lined (words.a_node {w = v} {ws = ws} f q) = next_lined v ws (flat_line f) (flats_lined q)

branched_lined : {bs : List ℕ} {b : Branches} → Branched bs b → Lined bs
branched_lined (words.last {ns = ns} s l q) = next_lined (word 7 (length ns) 0) ns (of_line _ _ (lines.kind_7 l)) (flats_lined q)
branched_lined (words.more {ns = ns} {bs = bs} s l q r) = next_lined (word 7 (length ns) 0) (ns ++ bs) (of_line _ _ (lines.kind_7 l)) (both_lined ns bs (flats_lined q) (branched_lined r))

pub sound_lines : {ws : List ℕ} {p : Prog} → Nodes ws p → (w : ℕ) → Memᴰ w ws → NodeLine w (node_line w)
sound_lines words.nothing = none_lined
sound_lines (words.flat {w = v} {ws = ws} f q) = next_lined v ws (flat_line f) (sound_lines q)
sound_lines (words.kind_4 {a = a} {b = b} {ws = ws} h g q) = let l : a < field_size = omega arith in next_lined (word 4 a b) ws (of_line _ _ (lines.kind_4 l g)) (sound_lines q)
sound_lines (words.kind_6 {bs = bs} {ws = ws} h u q) = next_lined (word 6 (length bs) 0) (bs ++ ws) (of_line _ _ (lines.kind_6 h)) (both_lined bs ws (branched_lined u) (sound_lines q))
