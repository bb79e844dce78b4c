-- Laws of a whole listing: how long it can be, and the literals out of the picker's buffers. Assumes nothing.
use Rattle.std.proofs.Common.{Result, Ok, Err, ◌≡◌, refl, ap, ◌∙◌, Bool, true, false, List, [], ◌∷◌, ◌++◌, map, append_assoc, ℕ, suc, ◌+◌, ◌*◌, ◌^◌, ◌≤◌, ◌<◌, arith, leb, leb-true, length, take, drop, length-append}
use mathlib.Core.List.{flatten, flat_map}
use Rattle.std.proofs.Math.Seq.{take-append_seam, drop-append_seam}
use Rattle.lines.specs.declared.NoRoom.{NoRoom}
use Rattle.lines.specs.Listed.{line_limit, listed_of}
use Rattle.base.specs.Text.{ascii}
use Rattle.lines.specs.Lines.{number_line, node_line, numbers_line, program_lines, literal_line, literal_lines, literals_lines, cut, LiteralsGot, got, not_got, got_lines, literals_refused_line, refused_line, programs_lines, compiled, refused, listing}
use Rattle.lines.proofs.LineLaws.{length_number, length_numbers, length_node, length_literal}

-- cut by their lengths they are the literals again, whatever the buffers hold beyond
pub cut_flatten : (ls : List (List ℕ)) (rest : List ℕ) → cut (map length ls) (flatten ls ++ rest) ≡ ls
unfolding cut flatten
cut_flatten [] rest = refl
cut_flatten (l ∷ ls) rest =
    let e : (l ++ flatten ls) ++ rest ≡ l ++ (flatten ls ++ rest) = append_assoc l (flatten ls) rest in
    ap (λ (x : List ℕ). take (length l) x ∷ cut (map length ls) (drop (length l) x)) e
    ∙ ap (λ (x : List ℕ). x ∷ cut (map length ls) (drop (length l) (l ++ (flatten ls ++ rest)))) (take-append_seam l (flatten ls ++ rest))
    ∙ ap (λ (x : List ℕ). l ∷ cut (map length ls) x) (drop-append_seam l (flatten ls ++ rest))
    ∙ ap (λ (x : List (List ℕ)). l ∷ x) (cut_flatten ls rest)

pub length_nodes : (ws : List ℕ) → length (flat_map node_line ws) ≤ line_limit * length ws
unfolding flat_map
length_nodes [] = omega arith
length_nodes (w ∷ ws) =
    let a : length (node_line w) ≤ line_limit = length_node w in
    let b : length (flat_map node_line ws) ≤ line_limit * length ws = length_nodes ws in
    rw (length-append (node_line w) (flat_map node_line ws)) (omega arith)

pub length_program : (name ws : List ℕ) (k : ℕ) → length ws < 10 ^ suc k → length (program_lines name ws) ≤ length name + suc k + 1 + line_limit * length ws
unfolding program_lines
length_program name ws k h =
    let a : length (number_line name (length ws)) ≤ length name + suc k + 1 = length_number name k (length ws) h in
    let b : length (flat_map node_line ws) ≤ line_limit * length ws = length_nodes ws in
    rw (length-append (number_line name (length ws)) (flat_map node_line ws)) (omega arith)

length_lines : (ls : List (List ℕ)) → length (literal_lines ls) ≡ 2 * length (flatten ls) + length ls
unfolding literal_lines flatten
length_lines [] = refl
length_lines (l ∷ ls) = length-append (literal_line l) (literal_lines ls) ∙ rw (length_literal l, length_lines ls, length-append l (flatten ls)) (omega arith)

-- what the picker gives with 32,768 bytes and 256 lengths lent
abbrev pub Small : LiteralsGot → Type 0
Small (got rank ls) = (rank < 10 ^ 10) × (length ls ≤ 256) × (length (flatten ls) ≤ 32768)
Small (not_got n) = n < 10 ^ 10

length_got : (p : LiteralsGot) → Small p → length (got_lines p) ≤ 29 + 256 + 65536
unfolding got_lines literals_lines literals_refused_line
length_got (got rank ls) (a, b, c) =
    let h : length (numbers_line (ascii "literals ") (length ls) (ascii " rank ") rank) ≤ 9 + 3 + 6 + 10 + 1 = length_numbers (ascii "literals ") (ascii " rank ") 2 9 (length ls) rank (omega arith) a in
    let l : length (literal_lines ls) ≡ 2 * length (flatten ls) + length ls = length_lines ls in
    rw (length-append (numbers_line (ascii "literals ") (length ls) (ascii " rank ") rank) (literal_lines ls)) (omega arith)
length_got (not_got n) h =
    let l : length (number_line (ascii "literals refused ") n) ≤ 17 + 10 + 1 = length_number (ascii "literals refused ") 9 n h in
    omega arith

pub programs_fit : (f r : List ℕ) → length f ≤ 512 → length r ≤ 512 → length (programs_lines f r) ≤ 18456
unfolding programs_lines
programs_fit f r a b =
    let x : length (program_lines (ascii "forward ") f) ≤ 8 + 3 + 1 + line_limit * length f = length_program (ascii "forward ") f 2 (omega arith) in
    let y : length (program_lines (ascii "reverse ") r) ≤ 8 + 3 + 1 + line_limit * length r = length_program (ascii "reverse ") r 2 (omega arith) in
    rw (length-append (program_lines (ascii "forward ") f) (program_lines (ascii "reverse ") r)) (omega arith)

-- so 86,016 bytes have room for every listing
pub listing_fits : (f r : List ℕ) (p : LiteralsGot) → length f ≤ 512 → length r ≤ 512 → Small p → length (listing (compiled f r p)) ≤ 86016
unfolding listing
listing_fits f r p a b s =
    let x : length (programs_lines f r) ≤ 18456 = programs_fit f r a b in
    let z : length (got_lines p) ≤ 29 + 256 + 65536 = length_got p s in
    rw (length-append (programs_lines f r) (got_lines p)) (omega arith)

pub refused_fits : (n place : ℕ) → n < 10 ^ 10 → place < 10 ^ 20 → length (listing (refused n place)) ≤ 86016
unfolding listing refused_line
refused_fits n place h k =
    let l : length (numbers_line (ascii "refused ") n (ascii " at ") place) ≤ 8 + 10 + 4 + 20 + 1 = length_numbers (ascii "refused ") (ascii " at ") 9 19 n place h k in
    omega arith

-- what was written fits
pub wrote_fits : (m room n : ℕ) (r : Result ℕ NoRoom) → r ≡ listed_of m room → r ≡ Ok n → n ≤ room
wrote_fits m room n r e h = go (leb m room) refl
  where
    go : (t : Bool) → leb m room ≡ t → n ≤ room
    go true g = let k : m ≤ room = leb-true m room g in let x : r ≡ Ok m = rw g at e in let z : m ≡ n = cc in omega arith
    go false g = let x : r ≡ Err (record { length = m }) = rw g at e in let z : ◌≡◌ {A = ℕ} 0 1 = cc in absurd (omega arith)
