-- A literal that is written piece by piece. Assumes nothing.
use Rattle.std.proofs.Common.{◌≡◌, refl, sym, ap, ap₂, ◌∙◌, subst, List, [], ◌∷◌, ◌++◌, append_assoc, ℕ, suc, ◌+◌, ◌-◌, ◌≤◌, ◌<◌, arith, length, take, drop, set, take-append-drop, length-drop, length-append, length-take-le, take_all, take_at, drop_at, drop-cons}
use lib.Seq.{set_at}
use borrow.Rule.Slice.PartMut.{put_mid}
use Rattle.base.proofs.LentLaws.{lent_rest}
use Rattle.spelling.specs.Writing.{Written}

-- the first i bytes of a literal are written over the first of what was there, and `left` is to come
pub record Halfway (literal left : List ℕ) (i : ℕ) (was is : List ℕ) : Type 0 where
  pub inside : i ≤ length literal
  pub to_come : drop i literal ≡ left
  pub so_far : is ≡ take i literal ++ drop i was

pub nothing_written : (literal was : List ℕ) → Halfway literal literal 0 was was
nothing_written literal was = record { inside = (omega arith); to_come = refl; so_far = refl }

pub all_written : (literal was is : List ℕ) (i : ℕ) → Halfway literal [] i was is → Written i literal was is
all_written literal was is i h =
    let e : length literal - i ≡ 0 = sym (length-drop i literal) ∙ ap length h.to_come in
    let n : i ≡ length literal = (let l = h.inside in omega arith) in
    record {
      long = n;
      content = h.so_far ∙ ap₂ (λ (a b : List ℕ). a ++ b) (take_all i literal (omega arith)) (ap (λ (x : ℕ). drop x was) n);
    }

module _ (literal piece left : List ℕ) (i : ℕ) (was is : List ℕ) (h : Halfway literal (piece ++ left) i was is) where
  whole : literal ≡ (take i literal ++ piece) ++ left
  whole = sym (take-append-drop i literal) ∙ ap (λ (l : List ℕ). take i literal ++ l) h.to_come ∙ sym (append_assoc (take i literal) piece left)

  front : length (take i literal ++ piece) ≡ i + length piece
  front = length-append (take i literal) piece ∙ ap (λ (x : ℕ). x + length piece) (length-take-le i literal h.inside)

  pub piece_fits : i + length piece ≤ length literal
  piece_fits = let e = ap length whole in let f = length-append (take i literal ++ piece) left in let g = front in omega arith

  pub moved : (now : List ℕ) → now ≡ (take i literal ++ piece) ++ drop (i + length piece) was → Halfway literal left (i + length piece) was now
  moved now e =
      record {
        inside = piece_fits;
        to_come = ap (drop (i + length piece)) whole ∙ drop_at (take i literal ++ piece) left (i + length piece) front;
        so_far =
            e
            ∙ ap (λ (l : List ℕ). l ++ drop (i + length piece) was)
            (sym (ap (take (i + length piece)) whole ∙ take_at (take i literal ++ piece) left (i + length piece) front));
      }

-- what is there has its length still
pub half_length : (literal left : List ℕ) (i : ℕ) (was is : List ℕ) → Halfway literal left i was is → length literal ≤ length was → length is ≡ length was
half_length literal left i was is h l =
    let e = ap length h.so_far in
    let f = length-append (take i literal) (drop i was) in
    let g = length-take-le i literal h.inside in
    let d = length-drop i was in
    let n = h.inside in
    omega arith

-- one byte
pub one_more : (literal left : List ℕ) (b i : ℕ) (was is : List ℕ) → Halfway literal (b ∷ left) i was is → length literal ≤ length was → Halfway literal left (i + 1) was (set is i b)
one_more literal left b i was is h l =
    let g : i + 1 ≤ length literal = piece_fits literal (b ∷ []) left i was is h in
    let k : i < length was = omega arith in
    let t : length (take i literal) ≡ i = length-take-le i literal h.inside in
    let e : i + 1 ≡ suc i = omega arith in
    moved literal (b ∷ []) left i was is h (set is i b)
    (ap (λ (x : List ℕ). set x i b) (h.so_far ∙ ap (λ (x : List ℕ). take i literal ++ x) (drop-cons was i 0 k))
    ∙ set_at (take i literal) _ (drop (suc i) was) b i t
    ∙ ap (λ (x : ℕ). take i literal ++ (b ∷ drop x was)) (sym e) ∙ sym (append_assoc (take i literal) (b ∷ []) (drop (i + 1) was)))

-- a piece, into the rest
pub piece_more : (literal piece left : List ℕ) (r i : ℕ) (was is ys : List ℕ) → Halfway literal (piece ++ left) i was is
    → Written r piece (take (length is - i) (drop i is)) ys → Halfway literal left (i + r) was (put_mid i (length is - i) is ys)
piece_more literal piece left r i was is ys h w =
    subst (λ (x : ℕ). Halfway literal left (i + x) was (put_mid i (length is - i) is ys)) (sym w.long)
    (moved literal piece left i was is h (put_mid i (length is - i) is ys)
    (lent_rest (take i literal) was piece is ys i (length-take-le i literal h.inside) h.so_far w.content))

-- there is room for a next byte
pub room_one : (literal left : List ℕ) (b i : ℕ) (was is : List ℕ) → Halfway literal (b ∷ left) i was is → length literal ≤ length was → i < length is
room_one literal left b i was is h l =
    let g : i + 1 ≤ length literal = piece_fits literal (b ∷ []) left i was is h in
    let e = half_length literal (b ∷ left) i was is h l in
    omega arith

-- and for a next piece
pub room_piece : (literal piece left : List ℕ) (i : ℕ) (was is : List ℕ) → Halfway literal (piece ++ left) i was is → length literal ≤ length was
    → (i ≤ length is) × (length piece ≤ length (take (length is - i) (drop i is)))
room_piece literal piece left i was is h l =
    let g = piece_fits literal piece left i was is h in
    let e = half_length literal (piece ++ left) i was is h l in
    let a : length (take (length is - i) (drop i is)) ≡ length is - i = ap length (take_all (length is - i) (drop i is) (rw length-drop (omega arith))) ∙ length-drop i is in
    (omega arith, omega arith)

pub none_written : (literal was is : List ℕ) → literal ≡ [] → is ≡ was → Written 0 literal was is
none_written literal was is e f = record { long = ap length (sym e); content = f ∙ ap (λ (l : List ℕ). l ++ drop (length l) was) (sym e) }

pub one_written : (b : ℕ) (was : List ℕ) → 0 < length was → Written 1 (b ∷ []) was (set was 0 b)
one_written b [] h = absurd (omega arith)
one_written b (x ∷ was) h = record { long = refl; content = refl }
