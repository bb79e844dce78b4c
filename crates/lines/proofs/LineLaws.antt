-- Laws of the lines: how long a node's line can be, and the literals taken one by one. Assumes nothing.
use Rattle.std.proofs.Common.{◌≡◌, refl, sym, ap, ◌∙◌, Bool, true, false, cond, List, [], ◌∷◌, ◌++◌, ℕ, suc, ◌+◌, ◌*◌, ◌^◌, ◌≤◌, ◌<◌, min, arith, add-one, eqb, leb, leb-true, leb-false, length, take, drop, get_or, length-append, drop_of_length-le, drop-cons, take_all, Option}
use mathlib.Core.List.{flat_map}
use Rattle.def_meaning.specs.Words.{field_size, kind_of, first_of, second_of, Shape, shape_by, shape}
use Rattle.base.specs.Text.{ascii}
use Rattle.nodes.specs.declared.Node.{Node}
use Rattle.nodes.specs.Nodes.{shape_said}
use Rattle.printing.specs.Numbers.{hex_of, decimal_of}
use Rattle.lines.specs.Listed.{line_limit}
use Rattle.lines.specs.Lines.{blank, line_end, number_line, numbers_line, byte_line, mask_line, shape_line, node_line, literal_line, literal_lines, cut}
use Rattle.printing.proofs.NumberLaws.{decimal_length, length_hexes}

pub length_number : (name : List ℕ) (k n : ℕ) → n < 10 ^ suc k → length (number_line name n) ≤ length name + suc k + 1
unfolding number_line
length_number name k n h =
    let l : length (decimal_of n) ≤ suc k = decimal_length k n h in
    rw (length-append name (decimal_of n ++ line_end), length-append (decimal_of n) line_end) (omega arith)

pub length_numbers : (name between : List ℕ) (k j n m : ℕ) → n < 10 ^ suc k → m < 10 ^ suc j → length (numbers_line name n between m) ≤ length name + suc k + length between + suc j + 1
unfolding numbers_line
length_numbers name between k j n m h g =
    let l : length (decimal_of n) ≤ suc k = decimal_length k n h in
    let r : length (number_line between m) ≤ length between + suc j + 1 = length_number between j m g in
    rw (length-append name (decimal_of n ++ number_line between m), length-append (decimal_of n) (number_line between m)) (omega arith)

pick : (P : Shape → Type 0) (b : Bool) (x y : Shape) → P x → P y → P (cond b x y)
pick P true x y p q = p
pick P false x y p q = q

-- a line of a node is within the limit
shape_length : (k a b : ℕ) → a < field_size → b < field_size → length (shape_line (shape_by k a b)) ≤ line_limit
unfolding shape_by byte_line mask_line hex_of
shape_length k a b ha hb =
    pick P (eqb k 0) _ _ (omega arith)
    (pick P (eqb k 1) _ _ (omega arith)
    (pick P (eqb k 2) _ _ (omega arith)
    (pick P (eqb k 3) _ _ (let l : length (number_line (ascii "jump ") a) ≤ 5 + 5 + 1 = length_number (ascii "jump ") 4 a (omega arith) in omega arith)
    (pick P (eqb k 4) _ _ (let l : length (numbers_line (ascii "range ") a blank b) ≤ 6 + 5 + 1 + 5 + 1 = length_numbers (ascii "range ") blank 4 4 a b (omega arith) (omega arith) in omega arith)
    (pick P (eqb k 5) _ _ (omega arith)
    (pick P (eqb k 6) _ _ (let l : length (number_line (ascii "alt ") a) ≤ 4 + 5 + 1 = length_number (ascii "alt ") 4 a (omega arith) in omega arith)
    (pick P (eqb k 7) _ _ (let l : length (number_line (ascii "branch ") a) ≤ 7 + 5 + 1 = length_number (ascii "branch ") 4 a (omega arith) in omega arith) (omega arith))))))))
  where
    P : Shape → Type 0
    P s = length (shape_line s) ≤ line_limit

pub length_node : (w : ℕ) → length (node_line w) ≤ line_limit
unfolding node_line shape
length_node w = shape_length (kind_of w) (first_of w) (second_of w) (omega arith) (omega arith)

-- the line of the node that was read from a word, or of a word that says none
pub node_line_lem : (w : ℕ) (n m : Option Node) → shape_said n ≡ shape w → n ≡ m → shape_line (shape_said m) ≡ node_line w
unfolding node_line
node_line_lem w n m e g = ap (λ (x : Option Node). shape_line (shape_said x)) (sym g) ∙ ap shape_line e

pub length_literal : (s : List ℕ) → length (literal_line s) ≡ 2 * length s + 1
unfolding literal_line
length_literal s = length-append (flat_map hex_of s) line_end ∙ rw (length_hexes s) refl

-- no more is taken than there is
take_least : (n : ℕ) (l : List ℕ) → take (min n (length l)) l ≡ take n l
take_least n l = go (leb n (length l)) refl
  where
    go : (t : Bool) → leb n (length l) ≡ t → take (min n (length l)) l ≡ take n l
    go true e = let h : n ≤ length l = leb-true n (length l) e in let m : min n (length l) ≡ n = omega arith in ap (λ (k : ℕ). take k l) m
    go false e =
        let h : length l < n = leb-false n (length l) e in
        take_all (min n (length l)) l (omega arith) ∙ sym (take_all n l (omega arith))

drop_least : (n : ℕ) (l : List ℕ) → drop (min n (length l)) l ≡ drop n l
drop_least n l = go (leb n (length l)) refl
  where
    go : (t : Bool) → leb n (length l) ≡ t → drop (min n (length l)) l ≡ drop n l
    go true e = let h : n ≤ length l = leb-true n (length l) e in let m : min n (length l) ≡ n = omega arith in ap (λ (k : ℕ). drop k l) m
    go false e =
        let h : length l < n = leb-false n (length l) e in
        drop_of_length-le l {i = min n (length l)} (omega arith) ∙ sym (drop_of_length-le l {i = n} (omega arith))

pub length_cut : (lens bs : List ℕ) → length (cut lens bs) ≡ length lens
unfolding cut
length_cut [] bs = refl
length_cut (n ∷ ns) bs = ap suc (length_cut ns (drop n bs))

pub literals_none : (lens bs : List ℕ) (i : ℕ) → length lens ≤ i → literal_lines (cut (drop i lens) bs) ≡ []
unfolding literal_lines cut
literals_none lens bs i h = rw (drop_of_length-le lens h)

-- the next literal of those that are left
pub literals_step : (lens bs : List ℕ) (i n : ℕ) → i < length lens → n ≡ min (get_or lens i 0) (length bs) → literal_line (take n bs) ++ literal_lines (cut (drop (i + 1) lens) (drop n bs)) ≡ literal_lines (cut (drop i lens) bs)
unfolding literal_lines cut
literals_step lens bs i n h e =
    let k : ℕ = get_or lens i 0 in
    let x : take n bs ≡ take k bs = ap (λ (j : ℕ). take j bs) e ∙ take_least k bs in
    let y : drop n bs ≡ drop k bs = ap (λ (j : ℕ). drop j bs) e ∙ drop_least k bs in
    let z : drop i lens ≡ k ∷ drop (i + 1) lens = drop-cons lens i 0 h ∙ ap (λ (j : ℕ). k ∷ drop j lens) (sym (add-one i)) in
    ap (λ (s : List ℕ). literal_line s ++ literal_lines (cut (drop (i + 1) lens) (drop n bs))) x
    ∙ ap (λ (s : List ℕ). literal_line (take k bs) ++ literal_lines (cut (drop (i + 1) lens) s)) y
    ∙ sym (ap (λ (s : List ℕ). literal_lines (cut s bs)) z)
